-- What the laws of a form give of levels: soundness, settledness, exactness; and atoms that support only themselves.
use Rattle.std.proofs.Common.{◌≡◌, ℕ, zero, suc, ◌-◌, ◌*◌, ◌<◌, ◌≤◌, Bool, true, false, ◌&&◌, eqb, List, [], ◌∷◌, length, sym, refl, ap, ◌∙◌, subst, inl, inr, arith}
use Rattle.std.proofs.lemmas.Bool.{eq-eqb, cases_eq}
use Rattle.truth.specs.Forms.{Answers, only_yes, only_no, both, Meaning, Allows, Settled, SettledEverywhere, Laws}
use Rattle.rules.specs.declared.opened.Rules.{Rules}
use Rattle.rules.specs.Opens.{atoms_of}
use Rattle.evaluate.specs.Lists.{tally}
use Rattle.evaluate.specs.Program.{Program, program_of}
use Rattle.evaluate.specs.Model.{StandardModel}
use Rattle.evaluate.specs.Evaluate.{Ops, bool_ops, look, any_of, head, cleared, rounds, stratum_done, up_to, evaluated}
use Rattle.evaluate.specs.Levels.{given, level_of}
use Rattle.evaluate.specs.Meanings.{meanings}
use Rattle.evaluate.specs.Positions.{fluents, choices, does_at, input}
use Rattle.evaluate.specs.Claims.{just, Sound, Settling, Exact, UnsupportedIsNo}
use Rattle.evaluate.proofs.Fitting.{rules_stratified, rules_are_proper, given_kinds}
use Rattle.evaluate.proofs.Givens.{look_given, level_alike}
use Rattle.evaluate.proofs.Leasts.{stays}
use Rattle.evaluate.proofs.Related.{Keeps, look_put_in}
use Rattle.evaluate.proofs.Standard.{rounds_are_standard, standard_is_one}

-- the evaluation over yes and no is the standard model of what is given
pub level_standard : (R : Rules) (f d : ℕ → Bool) → StandardModel (program_of R) (input bool_ops R f d) (look bool_ops (level_of bool_ops R f d))
unfolding level_of
level_standard R f d =
    let m = rounds_are_standard (program_of R) (rules_stratified R) (given bool_ops R f d) in
    record { bottom = λ a h e. m.bottom a h e ∙ look_given bool_ops R f d a h; strata = m.strata }

pub level_model : (R : Rules) (f d M : ℕ → Bool) → StandardModel (program_of R) (input bool_ops R f d) M → (a : ℕ) → a < length (atoms_of R) → look bool_ops (level_of bool_ops R f d) a ≡ M a
level_model R f d M m a h =
    standard_is_one (program_of R) (rules_stratified R) (input bool_ops R f d) (look bool_ops (level_of bool_ops R f d)) M (level_standard R f d) m a h

pub is_just : (v : Answers) (b : Bool) → Allows v b → Settled v → v ≡ just b
is_just only_yes true a s = refl
is_just only_yes false a s = absurd a
is_just only_no true a s = absurd a
is_just only_no false a s = refl
is_just both b a s = absurd s

pub just_allows : (v : Answers) (b : Bool) → v ≡ just b → Allows v b
just_allows v true e = subst (λ (u : Answers). Allows u true) (sym e) tt
just_allows v false e = subst (λ (u : Answers). Allows u false) (sym e) tt

pub just_settled : (v : Answers) (b : Bool) → v ≡ just b → Settled v
just_settled v true e = subst Settled (sym e) tt
just_settled v false e = subst Settled (sym e) tt

module _ {World : Type 0} {neg : Meaning World → Meaning World} {conj disj : Meaning World → Meaning World → Meaning World} (laws : Laws neg conj disj) where
  abbrev o : Ops (Meaning World)
  o = meanings neg conj disj

  pub allows_kept : (w : World) → Keeps o bool_ops (λ v b. Allows (v w) b)
  allows_kept w = record {
    yes_kept = tt;
    no_kept = tt;
    and_kept = λ a b x y. laws.conj_sound a b w x y;
    or_kept = λ a b x y. laws.disj_sound a b w x y;
  }

  pub settled_kept : Keeps o o (λ v _. SettledEverywhere v)
  settled_kept = record {
    yes_kept = λ w. tt;
    no_kept = λ w. tt;
    and_kept = λ a b _ _. laws.conj_settled a b;
    or_kept = λ a b _ _. laws.disj_settled a b;
  }

  pub sound : Sound o
  sound R w fluent doing f d M g m a h =
      subst (λ (b : Bool). Allows (look o (level_of o R fluent doing) a w) b) (level_model R f d M m a h)
      (level_alike o bool_ops (λ v b. Allows (v w) b) (allows_kept w) (λ v b. laws.neg_sound v w b) R fluent doing f d g.0 g.1 a)

  pub settling : Settling o
  settling R fluent doing g a =
      level_alike o o (λ v _. SettledEverywhere v) settled_kept (λ v _. laws.neg_settled v) R fluent doing fluent doing g.0 g.1 a

  pub exact : Exact o
  exact R fluent doing s w f d M g m a h = is_just _ (M a) (sound R w fluent doing f d M g m a h) (settling R fluent doing s a w)

  -- just the answer b, in every world
  abbrev pub Exactly : Meaning World → Bool → Type 0
  Exactly v b = (w : World) → v w ≡ just b

  pub exactly_kept : Keeps o bool_ops Exactly
  exactly_kept = record {
    yes_kept = λ w. refl;
    no_kept = λ w. refl;
    and_kept = λ u v x y d e w. is_just _ _ (laws.conj_sound u v w x y (just_allows _ x (d w)) (just_allows _ y (e w))) (laws.conj_settled u v (λ z. just_settled _ x (d z)) (λ z. just_settled _ y (e z)) w);
    or_kept = λ u v x y d e w. is_just _ _ (laws.disj_sound u v w x y (just_allows _ x (d w)) (just_allows _ y (e w))) (laws.disj_settled u v (λ z. just_settled _ x (d z)) (λ z. just_settled _ y (e z)) w);
  }

  -- an atom whose only body is itself
  module _ (P : Program) (a s : ℕ) (h : a < P.atoms) (at : P.stratum a ≡ s) (self : P.bodies a ≡ (record { atom = a; plain = true } ∷ []) ∷ []) where
    stays_no : (i : ℕ) (vs : List (Meaning World)) → Exactly (look o (rounds o P s i (cleared o P s vs)) a) false
    unfolding rounds
    stays_no zero vs w = ap (λ (v : Meaning World). v w) (look_put_in o P s (λ _. o.no') vs a h (eq-eqb (P.stratum a) s at))
    stays_no (suc i) vs w =
        let us = rounds o P s i (cleared o P s vs) in
        ap (λ (v : Meaning World). v w) (look_put_in o P s (head o P us) us a h (eq-eqb (P.stratum a) s at) ∙ ap (any_of o (look o us) o.no') self)
        ∙ exactly_kept.or_kept o.no' (o.and' o.yes' (look o us a)) false (true && false) (λ z. refl)
        (exactly_kept.and_kept o.yes' (look o us a) true false (λ z. refl) (stays_no i vs)) w

  unsupported_in : (P : Program) (vs : List (Meaning World)) (a s : ℕ) → a < P.atoms → P.stratum a ≡ s → 0 < s → s ≤ P.strata → P.bodies a ≡ (record { atom = a; plain = true } ∷ []) ∷ [] → (w : World) → look o (evaluated o P vs) a w ≡ only_no
  unfolding evaluated up_to stratum_done
  unsupported_in P vs a zero h e pos low self w = absurd (omega arith)
  unsupported_in P vs a (suc s) h e pos low self w =
      ap (λ (v : Meaning World). v w) (stays o P vs P.strata (suc s) a low h (omega arith))
      ∙ stays_no P a (suc s) h e self (tally P.atoms (λ b. eqb (P.stratum b) (suc s))) (up_to o P s vs) w

  -- an atom that is given has no rules, so the atom's stratum is not 0
  pub unsupported : UnsupportedIsNo o
  unfolding level_of
  unsupported R fluent doing a h self w =
      unsupported_in (program_of R) (given o R fluent doing) a ((program_of R).stratum a) h refl above ((rules_stratified R).within a h) self w
    where
      empty : (program_of R).bodies a ≡ [] → ⊥
      empty e = omega (arith, ap length self, ap length e)

      above : 0 < (program_of R).stratum a
      above =
          elim (cases_eq ((program_of R).stratum a) 0) [
            | inl z ↦ elim (given_kinds R a h z) [
              | inl l ↦ absurd (empty ((rules_are_proper R).fluents_given a l).1)
              | inr l ↦
                  let k : a - 2 * fluents R < choices R = omega (arith, l.0, l.1) in
                  let e : does_at R (a - 2 * fluents R) ≡ a = omega (arith, l.0) in
                  absurd (empty (ap (λ b. (program_of R).bodies b) (sym e) ∙ ((rules_are_proper R).does_given (a - 2 * fluents R) k).1))
            ]
            | inr ne ↦ omega arith
          ]
