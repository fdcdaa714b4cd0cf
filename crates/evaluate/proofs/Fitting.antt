-- What the invariant of a rule file gives of its program.
use Rattle.std.proofs.Common.{◌≡◌, ℕ, zero, suc, ◌+◌, ◌-◌, ◌*◌, ◌<◌, ◌≤◌, Bool, true, false, cond, not, ◌||◌, eqb, ltb, leb, ◌⊎◌, List, [], ◌∷◌, map, length, sym, refl, ap, ◌∙◌, subst, inl, inr, arith}
use Rattle.std.proofs.lemmas.Bool.{and_parts, leb-true, ltb-true, eqb-true, le-leb, lt-leb, eq-eqb, cond-true, cond-false, cases_lt, both_ways}
use Rattle.rules.specs.declared.kinds.Kind.{Kind}
use Rattle.rules.specs.declared.kinds.Kind.TheVariants.{Fluent, Next, Does, Legal, Terminal, Further}
use Rattle.rules.specs.declared.opened.Rules.{Rules}
use Rattle.rules.specs.declared.records.Mark.{Mark}
use Rattle.rules.specs.declared.records.Mark.TheVariants.{Still, Dependent, Initial}
use Rattle.rules.specs.declared.records.Sign.{Sign}
use Rattle.rules.specs.declared.records.Sign.TheVariants.{Plain, Negated}
use Rattle.rules.specs.Chains.{chain, On, here, further}
use Rattle.rules.specs.First.{within, stratum_fits, mark_fits, first_rule_fits, dependent, literal_fits}
use Rattle.rules.specs.Kinds.{kind_of}
use Rattle.rules.specs.Opens.{atoms_of, tables_of}
use Rattle.rules.specs.Taken.{AtomWords}
use Rattle.rules.specs.Typed.{mark_word, sign_word}
use Rattle.rules.proofs.Invariant.{rules_fit, rules_linked}
use Rattle.rules.proofs.Passed.{on_within}
use Rattle.evaluate.specs.Claims.{Proper, RulesAreProper}
use Rattle.evaluate.specs.Lists.{Each}
use Rattle.evaluate.specs.Positions.{fluents, choices, does_at, legal_at, terminal_at, still}
use Rattle.evaluate.specs.Program.{Part, program_of, atom_at, literal_at, rule_at, part_of, body_from, bodies_from, is_plain, is_still, Lower, PartFits, Stratified, ShutOff}
use Rattle.evaluate.proofs.Chains.{atoms_are, bodies_end}

-- what holds of each record on a chain
pub on_each : {A : Type 0} (Q : A → Type 0) (f : ℕ → A) (next : ℕ → ℕ) (n k : ℕ) → ((m : ℕ) → On next k m → Q (f m)) → Each Q (map f (chain next n k))
unfolding chain
on_each Q f next zero k h = tt
on_each Q f next (suc n) zero h = tt
on_each Q f next (suc n) (suc k) h = (h (suc k) here, on_each Q f next n (next (suc k)) (λ m o. h m (further o)))

lower_of : (g : Sign) (t s : ℕ) → cond (eqb (sign_word g) 0) (leb t s) (ltb t s) ≡ true → Lower (is_plain g) t s
lower_of Plain t s e = leb-true t s e
lower_of Negated t s e = ltb-true t s e

still_of : (m m' : Mark) → (dependent (mark_word m) || not (dependent (mark_word m'))) ≡ true → is_still m ≡ true → is_still m' ≡ true
still_of Dependent m' e s = absurd (both_ways false refl s)
still_of Still Still e s = refl
still_of Still Dependent e s = absurd (both_ways false refl e)
still_of Still Initial e s = refl
still_of Initial Still e s = refl
still_of Initial Dependent e s = absurd (both_ways false refl e)
still_of Initial Initial e s = refl

mark_still : (m : Mark) → mark_fits Fluent (mark_word m) ≡ true → is_still m ≡ true
mark_still Still e = refl
mark_still Dependent e = absurd (both_ways false refl e)
mark_still Initial e = refl

mark_moving : (m : Mark) → mark_fits Does (mark_word m) ≡ true → is_still m ≡ false
mark_moving Still e = absurd (both_ways false refl e)
mark_moving Dependent e = refl
mark_moving Initial e = absurd (both_ways false refl e)

mark_plain : (m : Mark) → eqb (mark_word m) 0 ≡ true → is_still m ≡ true
mark_plain Still e = refl
mark_plain Dependent e = absurd (both_ways false refl e)
mark_plain Initial e = refl

stratum_small : (k : Kind) (n : ℕ) → stratum_fits k n ≡ true → n ≤ 31
stratum_small Fluent n e = omega (arith, eqb-true n 0 e)
stratum_small Does n e = omega (arith, eqb-true n 0 e)
stratum_small Next n e = leb-true n 31 (and_parts (leb 1 n) (leb n 31) e).1
stratum_small Legal n e = leb-true n 31 (and_parts (leb 1 n) (leb n 31) e).1
stratum_small Terminal n e = leb-true n 31 (and_parts (leb 1 n) (leb n 31) e).1
stratum_small Further n e = leb-true n 31 (and_parts (leb 1 n) (leb n 31) e).1

module _ (R : Rules) where
  -- the words of the atom with place a
  words : (a : ℕ) → a < length (atoms_of R) → AtomWords R.layout (tables_of R) (a + 1)
  words a h = let l : a + 1 ≤ R.layout.atoms = omega (arith, atoms_are R) in (rules_fit R).atoms (a + 1) (omega arith) l

  abbrev kind_at : ℕ → Kind
  kind_at a = kind_of (fluents R) (choices R) (a + 1)

  back : (a : ℕ) → a + 1 - 1 ≡ a
  back a = omega arith

  stratum_ok : (a : ℕ) → a < length (atoms_of R) → stratum_fits (kind_at a) (atom_at R a).stratum ≡ true
  stratum_ok a h = subst (λ (k : ℕ). stratum_fits (kind_at a) (atom_at R k).stratum ≡ true) (back a) (words a h).stratum

  mark_ok : (a : ℕ) → a < length (atoms_of R) → mark_fits (kind_at a) (mark_word (atom_at R a).mark) ≡ true
  mark_ok a h = subst (λ (k : ℕ). mark_fits (kind_at a) (mark_word (atom_at R k).mark) ≡ true) (back a) (words a h).mark

  first_ok : (a : ℕ) → a < length (atoms_of R) → first_rule_fits (kind_at a) R.layout.rules (atom_at R a).first ≡ true
  first_ok a h = subst (λ (k : ℕ). first_rule_fits (kind_at a) R.layout.rules (atom_at R k).first ≡ true) (back a) (words a h).first_rule

  -- each literal of each body under the head a
  module _ (Q : ℕ → Part → Type 0) (each : (a l : ℕ) → a < length (atoms_of R) → 0 < l → l ≤ R.layout.literals → literal_fits (tables_of R) (a + 1) l ≡ true → Q a (part_of (literal_at R l))) where
    under : (a k : ℕ) → k ≡ a → a < length (atoms_of R) → ((r l : ℕ) → On (tables_of R).next_rule (atom_at R k).first r → On (tables_of R).next_literal (rule_at R r).first l → literal_fits (tables_of R) (a + 1) l ≡ true)
        → ((atom_at R k).first ≤ R.layout.rules) → Each (Each (Q a)) (bodies_from R (atom_at R k).first)
    unfolding bodies_from body_from
    under a k e h fit low =
        on_each (Each (Q a)) (λ r. body_from R (rule_at R r).first) (tables_of R).next_rule R.layout.rules (atom_at R k).first (λ r onr.
        let ir = on_within (tables_of R).next_rule R.layout.rules (rules_linked R).next_rules low onr in
        let low' = (rules_linked R).first_literals r ir.0 ir.1 in
        on_each (Q a) (λ l. part_of (literal_at R l)) (tables_of R).next_literal R.layout.literals (rule_at R r).first (λ l onl.
        let il = on_within (tables_of R).next_literal R.layout.literals (rules_linked R).next_literals low' onl in
        each a l h il.0 il.1 (fit r l onr onl)))

    each_part : (a : ℕ) → a < length (atoms_of R) → Each (Each (Q a)) ((program_of R).bodies a)
    each_part a h =
        let l : a + 1 ≤ R.layout.atoms = omega (arith, atoms_are R) in
        subst (λ (k : ℕ). Each (Each (Q a)) (bodies_from R (atom_at R k).first)) (back a)
        (under a (a + 1 - 1) (back a) h (λ r m onr onl. (rules_fit R).conditions (a + 1) r m (omega arith) l onr onl) ((rules_linked R).first_rules (a + 1) (omega arith) l))

  fits : (a l : ℕ) → a < length (atoms_of R) → 0 < l → l ≤ R.layout.literals → literal_fits (tables_of R) (a + 1) l ≡ true → PartFits (program_of R) ((program_of R).stratum a) (part_of (literal_at R l))
  fits a l h p i e =
      let n = (rules_linked R).named l p i in
      let c = (and_parts (dependent ((tables_of R).mark (a + 1)) || not (dependent ((tables_of R).mark ((tables_of R).names l)))) _ e).1 in
      record {
        known = omega (arith, n.0, n.1, atoms_are R);
        lower = subst (λ (k : ℕ). Lower (is_plain (literal_at R l).sign) ((program_of R).stratum ((literal_at R l).atom - 1)) (atom_at R k).stratum) (back a) (lower_of (literal_at R l).sign ((tables_of R).stratum ((tables_of R).names l)) ((tables_of R).stratum (a + 1)) c);
      }

  stills : (a l : ℕ) → a < length (atoms_of R) → 0 < l → l ≤ R.layout.literals → literal_fits (tables_of R) (a + 1) l ≡ true → still R a ≡ true → still R (part_of (literal_at R l)).atom ≡ true
  stills a l h p i e =
      let c = (and_parts (dependent ((tables_of R).mark (a + 1)) || not (dependent ((tables_of R).mark ((tables_of R).names l)))) _ e).0 in
      subst (λ (k : ℕ). still R k ≡ true → still R ((literal_at R l).atom - 1) ≡ true) (back a) (still_of (atom_at R (a + 1 - 1)).mark (atom_at R ((literal_at R l).atom - 1)).mark c)

  pub rules_stratified : Stratified (program_of R)
  rules_stratified = record {
    within = λ a h. stratum_small (kind_at a) (atom_at R a).stratum (stratum_ok a h);
    ordered = each_part (λ a. PartFits (program_of R) ((program_of R).stratum a)) fits;
  }

  each_given : {A : Type 0} (P Q : A → Type 0) (c : Type 0) (xs : List A) → c → Each (λ x. c → Q x) xs → Each Q xs
  each_given P Q c [] y h = tt
  each_given P Q c (x ∷ xs) y h = (h.0 y, each_given P Q c xs y h.1)

  eaches_given : {A : Type 0} (Q : A → Type 0) (c : Type 0) (xs : List (List A)) → c → Each (Each (λ x. c → Q x)) xs → Each (Each Q) xs
  eaches_given Q c [] y h = tt
  eaches_given Q c (x ∷ xs) y h = (each_given Q Q c x y h.0, eaches_given Q c xs y h.1)

  pub rules_still : ShutOff (program_of R) (still R)
  rules_still a h s = eaches_given (λ (l : Part). still R l.atom ≡ true) (still R a ≡ true) ((program_of R).bodies a) s (each_part (λ b (l : Part). still R b ≡ true → still R l.atom ≡ true) stills a h)

  -- where kinds stand
  fluent_kind : (f : ℕ) → f < fluents R → kind_at f ≡ Fluent
  fluent_kind f h = cond-true _ _ _ (le-leb (f + 1) (fluents R) (omega arith))

  does_kind : (k : ℕ) → k < choices R → kind_at (does_at R k) ≡ Does
  does_kind k h =
      cond-false _ _ _ (lt-leb (does_at R k + 1) (fluents R) (omega arith))
      ∙ cond-false _ _ _ (lt-leb (does_at R k + 1) (2 * fluents R) (omega arith))
      ∙ cond-true _ _ _ (le-leb (does_at R k + 1) (2 * fluents R + choices R) (omega arith))

  legal_kind : (k : ℕ) → k < choices R → kind_at (legal_at R k) ≡ Legal
  legal_kind k h =
      cond-false _ _ _ (lt-leb (legal_at R k + 1) (fluents R) (omega arith))
      ∙ cond-false _ _ _ (lt-leb (legal_at R k + 1) (2 * fluents R) (omega arith))
      ∙ cond-false _ _ _ (lt-leb (legal_at R k + 1) (2 * fluents R + choices R) (omega arith))
      ∙ cond-true _ _ _ (le-leb (legal_at R k + 1) (2 * fluents R + 2 * choices R) (omega arith))

  terminal_kind : kind_at (terminal_at R) ≡ Terminal
  terminal_kind =
      cond-false _ _ _ (lt-leb (terminal_at R + 1) (fluents R) (omega arith))
      ∙ cond-false _ _ _ (lt-leb (terminal_at R + 1) (2 * fluents R) (omega arith))
      ∙ cond-false _ _ _ (lt-leb (terminal_at R + 1) (2 * fluents R + choices R) (omega arith))
      ∙ cond-false _ _ _ (lt-leb (terminal_at R + 1) (2 * fluents R + 2 * choices R) (omega arith))
      ∙ cond-true _ _ _ (eq-eqb (terminal_at R + 1) (2 * fluents R + 2 * choices R + 1) refl)

  pub enough : 2 * fluents R + 2 * choices R + 1 ≤ length (atoms_of R)
  enough = omega (arith, R.enough, atoms_are R)

  rules_proper : Proper R
  rules_proper = record {
    stratified = rules_stratified;
    fluents_given = λ f h.
        let n : f < length (atoms_of R) = omega (arith, enough) in
        let k = fluent_kind f h in (
          eqb-true _ 0 (subst (λ (z : Kind). stratum_fits z (atom_at R f).stratum ≡ true) k (stratum_ok f n)),
          ap (bodies_from R) (eqb-true _ 0 (subst (λ (z : Kind). first_rule_fits z R.layout.rules (atom_at R f).first ≡ true) k (first_ok f n))) ∙ bodies_end R,
          mark_still (atom_at R f).mark (subst (λ (z : Kind). mark_fits z (mark_word (atom_at R f).mark) ≡ true) k (mark_ok f n)),
        );
    does_given = λ j h.
        let a = does_at R j in
        let n : a < length (atoms_of R) = omega (arith, enough) in
        let k = does_kind j h in (
          eqb-true _ 0 (subst (λ (z : Kind). stratum_fits z (atom_at R a).stratum ≡ true) k (stratum_ok a n)),
          ap (bodies_from R) (eqb-true _ 0 (subst (λ (z : Kind). first_rule_fits z R.layout.rules (atom_at R a).first ≡ true) k (first_ok a n))) ∙ bodies_end R,
          mark_moving (atom_at R a).mark (subst (λ (z : Kind). mark_fits z (mark_word (atom_at R a).mark) ≡ true) k (mark_ok a n)),
        );
    legal_still = λ k h. mark_plain (atom_at R (legal_at R k)).mark (subst (λ (z : Kind). mark_fits z (mark_word (atom_at R (legal_at R k)).mark) ≡ true) (legal_kind k h) (mark_ok (legal_at R k) (omega (arith, enough))));
    terminal_still = mark_plain (atom_at R (terminal_at R)).mark (subst (λ (z : Kind). mark_fits z (mark_word (atom_at R (terminal_at R)).mark) ≡ true) terminal_kind (mark_ok (terminal_at R) (omega (arith, enough))));
    stills = rules_still;
  }

  -- only fluents and does atoms have stratum 0
  pub given_kinds : (a : ℕ) → a < length (atoms_of R) → (atom_at R a).stratum ≡ 0 → (a < fluents R) ⊎ ((2 * fluents R ≤ a) × (a < 2 * fluents R + choices R))
  given_kinds a h z =
      let ok = stratum_ok a h in
      elim (cases_lt a (fluents R)) [
        | inl l ↦ inl l
        | inr l ↦ elim (cases_lt a (2 * fluents R)) [
          | inl m ↦ absurd (none Next _ refl
              (cond-false _ _ _ (lt-leb (a + 1) (fluents R) (omega arith)) ∙ cond-true _ _ _ (le-leb (a + 1) (2 * fluents R) (omega arith))) ok z)
          | inr m ↦ elim (cases_lt a (2 * fluents R + choices R)) [
            | inl i ↦ inr (m, i)
            | inr i ↦ absurd (none_after (leb (a + 1) (2 * fluents R + 2 * choices R)) (eqb (a + 1) (2 * fluents R + 2 * choices R + 1)) (kind_at a)
                (cond-false _ _ _ (lt-leb (a + 1) (fluents R) (omega arith)) ∙ cond-false _ _ _ (lt-leb (a + 1) (2 * fluents R) (omega arith)) ∙ cond-false _ _ _ (lt-leb (a + 1) (2 * fluents R + choices R) (omega arith))) ok z)
          ]
        ]
      ]
    where
      low : (n : ℕ) → within 1 31 n ≡ true → n ≡ 0 → ⊥
      low n e q = omega (arith, leb-true 1 n (and_parts (leb 1 n) (leb n 31) e).0)

      none : (k k' : Kind) → k ≡ Next → k' ≡ k → stratum_fits k' (atom_at R a).stratum ≡ true → (atom_at R a).stratum ≡ 0 → ⊥
      none k k' e f ok q = low (atom_at R a).stratum (subst (λ (j : Kind). stratum_fits j (atom_at R a).stratum ≡ true) (f ∙ e) ok) q

      later : (b c : Bool) (n : ℕ) → stratum_fits (cond b Legal (cond c Terminal Further)) n ≡ within 1 31 n
      later true c n = refl
      later false true n = refl
      later false false n = refl

      none_after : (b c : Bool) (k : Kind) → k ≡ cond b Legal (cond c Terminal Further) → stratum_fits k (atom_at R a).stratum ≡ true → (atom_at R a).stratum ≡ 0 → ⊥
      none_after b c k e ok q = low (atom_at R a).stratum (sym (later b c (atom_at R a).stratum) ∙ subst (λ (j : Kind). stratum_fits j (atom_at R a).stratum ≡ true) e ok) q

pub rules_are_proper : RulesAreProper
rules_are_proper R = rules_proper R
