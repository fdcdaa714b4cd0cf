-- The game that the evaluation makes reads the standard model; still atoms do not depend on moves.
use Rattle.std.proofs.Common.{◌≡◌, ℕ, ◌+◌, ◌-◌, ◌*◌, ◌<◌, ◌≤◌, Bool, true, false, ◌&&◌, ltb, leb, List, length, sym, refl, ap, ◌∙◌, ap₂, inl, inr, arith}
use Rattle.std.proofs.lemmas.List.FromFn.{get_or-map-range_with_len, length-map-range_with_len}
use Rattle.std.proofs.lemmas.List.{get_or_past}
use Rattle.std.proofs.lemmas.Bool.{cases_lt, both_ways, cond-false, le-ltb, lt-leb, and_left, and_right}
use Rattle.rules.specs.declared.opened.Rules.{Rules}
use Rattle.rules.specs.Opens.{atoms_of, moves_of}
use Rattle.rules.specs.Tables.{total}
use Rattle.evaluate.specs.Claims.{PositionsHaveModels, GameReads, StillAtomsStay}
use Rattle.evaluate.specs.Evaluate.{Ops, bool_ops, look}
use Rattle.evaluate.specs.Levels.{given, level_of, model, seen, game}
use Rattle.evaluate.specs.Positions.{fluents, choices, next_at, does_at, legal_at, terminal_at, still, Position, holds_in, Joint, done, pick, does, legal_for, input, ModelOf, ReadOff}
use Rattle.evaluate.specs.Program.{program_of, atom_at, is_initial}
use Rattle.evaluate.proofs.Fitting.{rules_are_proper, rules_still, enough}
use Rattle.evaluate.proofs.Givens.{look_given, given_length, input_fluent}
use Rattle.evaluate.proofs.Related.{evaluated_alike}
use Rattle.evaluate.proofs.Standing.{level_standard, level_model}

pub positions_have_models : PositionsHaveModels
unfolding model
positions_have_models R S A = level_standard R (holds_in S) (does A)

-- does atoms are the only inputs that moves change, and none is still
module _ {V : Type 0} (o : Ops V) (R : Rules) (fluent doing other : ℕ → V) where
  input_still : (a : ℕ) → still R a ≡ true → input o R fluent doing a ≡ input o R fluent other a
  input_still a s =
      elim (cases_lt a (fluents R)) [
        | inl l ↦ input_fluent o R fluent doing a l ∙ sym (input_fluent o R fluent other a l)
        | inr l ↦ elim (cases_lt a (2 * fluents R + choices R)) [
          | inl u ↦ elim (cases_lt a (2 * fluents R)) [
            | inl m ↦ before doing l m ∙ sym (before other l m)
            | inr m ↦
                let k : a - 2 * fluents R < choices R = omega arith in
                let e : does_at R (a - 2 * fluents R) ≡ a = omega arith in
                absurd (both_ways (still R a) (ap (still R) (sym e) ∙ ((rules_are_proper R).does_given (a - 2 * fluents R) k).2) s)
          ]
          | inr u ↦ behind doing l u ∙ sym (behind other l u)
        ]
      ]
    where
      before : (d : ℕ → V) → fluents R ≤ a → a < 2 * fluents R → input o R fluent d a ≡ o.no'
      before d l m = cond-false _ _ _ (le-ltb a (fluents R) l) ∙ cond-false _ _ _ (and_left (leb (2 * fluents R) a) (ltb a (2 * fluents R + choices R)) (lt-leb (2 * fluents R) a m))

      behind : (d : ℕ → V) → fluents R ≤ a → 2 * fluents R + choices R ≤ a → input o R fluent d a ≡ o.no'
      behind d l u = cond-false _ _ _ (le-ltb a (fluents R) l) ∙ cond-false _ _ _ (and_right (leb (2 * fluents R) a) (ltb a (2 * fluents R + choices R)) (le-ltb a (2 * fluents R + choices R) u))

  given_still : (a : ℕ) → still R a ≡ true → look o (given o R fluent doing) a ≡ look o (given o R fluent other) a
  given_still a s =
      elim (cases_lt a (length (atoms_of R))) [
        | inl h ↦ look_given o R fluent doing a h ∙ input_still a s ∙ sym (look_given o R fluent other a h)
        | inr h ↦
            let e : length (given o R fluent doing) ≤ a = omega (arith, given_length o R fluent doing) in
            let e' : length (given o R fluent other) ≤ a = omega (arith, given_length o R fluent other) in
            get_or_past (given o R fluent doing) a o.no' e ∙ sym (get_or_past (given o R fluent other) a o.no' e')
      ]

  pub level_still : (a : ℕ) → still R a ≡ true → look o (level_of o R fluent doing) a ≡ look o (level_of o R fluent other) a
  unfolding level_of
  level_still a s =
      evaluated_alike o o (λ u v. u ≡ v) (record { yes_kept = refl; no_kept = refl; and_kept = λ a b c d r t. cc; or_kept = λ a b c d r t. cc })
      (λ u v e. ap o.not' e) (program_of R) (λ b. still R b ≡ true) (rules_still R) (given o R fluent doing) (given o R fluent other) given_still a s

pub still_atoms_stay : {V : Type 0} (o : Ops V) → StillAtomsStay o
still_atoms_stay o R fluent doing other a h s = level_still o R fluent doing other a s

pub legal_same : {ns : List ℕ} (A : Joint ns) (L N : ℕ → Bool) → ((k : ℕ) → k < total ns → L k ≡ N k) → legal_for A L ≡ legal_for A N
legal_same done L N e = refl
legal_same (pick {n = n} {ns = ns} m h j) L N e = ap₂ ◌&&◌ (e m (omega arith)) (legal_same j (λ k. L (n + k)) (λ k. N (n + k)) (λ k l. e (n + k) (omega arith)))

module _ (R : Rules) (S : Position) (A : Joint (moves_of R)) (M : ℕ → Bool) (m : ModelOf R S A M) where
  model_is : (a : ℕ) → a < length (atoms_of R) → look bool_ops (model R S A) a ≡ M a
  unfolding model
  model_is a h = level_model R (holds_in S) (does A) M m a h

  seen_is : (a : ℕ) → a < length (atoms_of R) → still R a ≡ true → look bool_ops (seen R S) a ≡ M a
  unfolding seen
  seen_is a h s = level_still bool_ops R (holds_in S) (λ _. false) (does A) a s ∙ level_model R (holds_in S) (does A) M m a h

  game_reads_off : ReadOff R (game R) S A M
  game_reads_off = record {
    size = length-map-range_with_len (λ f. look bool_ops (model R S A) (next_at R f)) 0 (fluents R);
    next_is = λ f h. get_or-map-range_with_len (λ g. look bool_ops (model R S A) (next_at R g)) 0 (fluents R) f f false h (omega arith) ∙ model_is (next_at R f) (omega (arith, enough R));
    terminal_is = seen_is (terminal_at R) (omega (arith, enough R)) (rules_are_proper R).terminal_still;
    legal_is = legal_same A (λ k. look bool_ops (seen R S) (legal_at R k)) (λ k. M (legal_at R k)) (λ k h.
        let l : k < choices R = omega (arith, R.shaped.1) in
        seen_is (legal_at R k) (omega (arith, enough R)) ((rules_are_proper R).legal_still k l));
    holds_is = seen_is;
  }

pub game_reads : GameReads
game_reads R = record {
  size = length-map-range_with_len (λ f. is_initial (atom_at R f).mark) 0 (fluents R);
  starts = λ f h. get_or-map-range_with_len (λ g. is_initial (atom_at R g).mark) 0 (fluents R) f f false h (omega arith);
  reads = λ S A M m. game_reads_off R S A M m;
}
