-- What is shown of a position and a joint move.
use Rattle.std.proofs.Common.{◌≡◌, ℕ, ◌+◌, ◌-◌, ◌<◌, Bool, true, false, cond, not, ◌&&◌, ◌||◌, eqb, ltb, List, [], ◌∷◌, map, length, get_or, sym, refl, ap, ◌∙◌, subst, ap₂, inl, inr, arith}
use Rattle.std.proofs.lemmas.List.{get_or-map}
use Rattle.std.proofs.lemmas.Bool.{cases_eq, eq-eqb, ne_eqb}
use Rattle.truth.specs.Forms.{only_no, Meaning}
use Rattle.truth.specs.Kleene.{flip, meet, join}
use Rattle.truth.specs.Three.{Only, here, means}
use Rattle.truth.specs.declared.three.Three.{Three}
use Rattle.truth.specs.declared.three.Three.TheVariants.{Yes, No, Open}
use Rattle.rules.specs.declared.opened.Rules.{Rules}
use Rattle.rules.specs.First.{within}
use Rattle.rules.specs.Opens.{atoms_of, moves_of}
use Rattle.evaluate.specs.Claims.{just}
use Rattle.evaluate.specs.Evaluate.{bool_ops, look}
use Rattle.evaluate.specs.Levels.{level_of}
use Rattle.evaluate.specs.Meanings.{kleene_each}
use Rattle.evaluate.specs.Positions.{fluents, choices, does_at, Position, holds_in, Joint, done, pick, does, ModelOf}
use Rattle.truth.specs.Three.{answer}
use Rattle.evaluate.specs.Showing.{numbers, moves_fit, chosen}
use Rattle.evaluate.proofs.Fitting.{enough}
use Rattle.evaluate.proofs.Givens.{level_alike}
use Rattle.evaluate.proofs.Related.{Keeps}
use Rattle.evaluate.proofs.Standing.{level_model}

-- moves, role by role
pub fit_lengths : (ns ms : List ℕ) → (length ns ≡ length ms → ⊥) → moves_fit ns ms ≡ false
fit_lengths [] [] ne = absurd (ne refl)
fit_lengths [] (m ∷ ms) ne = refl
fit_lengths (n ∷ ns) [] ne = refl
fit_lengths (n ∷ ns) (m ∷ ms) ne = ap (λ b. within 1 n m && b) (fit_lengths ns ms (λ e. ne (omega arith))) ∙ and_false (within 1 n m)
  where
    and_false : (b : Bool) → (b && false) ≡ false
    and_false true = refl
    and_false false = refl

pub fit_length : (ns ms : List ℕ) → moves_fit ns ms ≡ true → length ns ≡ length ms
fit_length ns ms e = elim (cases_eq (length ns) (length ms)) [ inl p ↦ p | inr p ↦ absurd (let z : false ≡ true = sym (fit_lengths ns ms p) ∙ e in let y : ◌≡◌ {A = ℕ} 0 1 = cc in omega arith) ]

same_number : (k m : ℕ) → eqb (k + 1) (m + 1) ≡ eqb k m
same_number k m = elim (cases_eq k m) [ inl e ↦ eq-eqb (k + 1) (m + 1) (ap (λ i. i + 1) e) ∙ sym (eq-eqb k m e) | inr e ↦ ne_eqb (k + 1) (m + 1) (λ p. e (omega arith)) ∙ sym (ne_eqb k m e) ]

pub chosen_does : {ns : List ℕ} (A : Joint ns) (k : ℕ) → chosen ns (numbers A) k ≡ does A k
chosen_does done k = refl
chosen_does (pick {n = n} {ns = ns} m h j) k = ap₂ (λ x y. cond (ltb k n) x y) (same_number k m) (chosen_does j (k - n))

-- Kleene's operations on settled values are those on answers
just_not : (b : Bool) → flip (just b) ≡ just (not b)
just_not true = refl
just_not false = refl

just_and : (b c : Bool) → meet (just b) (just c) ≡ just (b && c)
just_and true c = refl
just_and false c = refl

just_or : (b c : Bool) → join (just b) (just c) ≡ just (b || c)
just_or true c = refl
just_or false c = refl

just_kept : {World : Type 0} (w : World) → Keeps (kleene_each World) bool_ops (λ v b. v w ≡ just b)
just_kept w = record {
  yes_kept = refl;
  no_kept = refl;
  and_kept = λ a b c d r t. ap₂ meet r t ∙ just_and c d;
  or_kept = λ a b c d r t. ap₂ join r t ∙ just_or c d;
}

means_answer : (v : Three) (b : Bool) → v ≡ answer b → means v here ≡ just b
means_answer v true e = ap (λ u. means u here) e
means_answer v false e = ap (λ u. means u here) e

answer_of : (v : Three) (b : Bool) → means v here ≡ just b → v ≡ answer b
answer_of Yes true e = refl
answer_of Yes false e = cc
answer_of No true e = cc
answer_of No false e = refl
answer_of Open true e = cc
answer_of Open false e = cc

-- from the inputs in a row to the answers in it
pub row_shows : (R : Rules) (S : Position) (A : Joint (moves_of R)) (M : ℕ → Bool) → ModelOf R S A M → (rs vs : List Three) → length rs ≡ length (atoms_of R) → length vs ≡ length (atoms_of R)
    → ((k : ℕ) → k < fluents R → get_or rs k No ≡ answer (holds_in S k)) → ((k : ℕ) → k < choices R → get_or rs (does_at R k) No ≡ answer (does A k))
    → map means vs ≡ level_of (kleene_each Only) R (look (kleene_each Only) (map means rs)) (λ k. look (kleene_each Only) (map means rs) (does_at R k))
    → (a : ℕ) → a < length (atoms_of R) → get_or vs a No ≡ answer (M a)
row_shows R S A M m rs vs lr lv f d e a h =
    answer_of (get_or vs a No) (M a)
    (ap (λ (v : Meaning Only). v here) (sym (get_or-map means vs a No (λ _. only_no) (omega arith)))
    ∙ ap (λ l. look (kleene_each Only) l a here) e
    ∙ level_alike (kleene_each Only) bool_ops (λ v b. v here ≡ just b) (just_kept here) (λ v b r. ap flip r ∙ just_not b) R _ _ (holds_in S) (does A)
    (λ k l. at k (omega (arith, enough R)) ∙ means_answer _ _ (f k l)) (λ k l. at (does_at R k) (omega (arith, enough R)) ∙ means_answer _ _ (d k l)) a
    ∙ ap just (level_model R (holds_in S) (does A) M m a h))
  where
    at : (k : ℕ) → k < length (atoms_of R) → look (kleene_each Only) (map means rs) k here ≡ means (get_or rs k No) here
    at k l = ap (λ (v : Meaning Only). v here) (get_or-map means rs k No (λ _. only_no) (subst (λ (n : ℕ). k < n) (sym lr) l))
