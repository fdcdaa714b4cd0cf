-- Rounds and strata, one more on.
use Rattle.std.proofs.Common.{◌≡◌, ℕ, ◌+◌, List, sym, refl, ap, ◌∙◌, ap₂, add-one}
use Rattle.evaluate.specs.Lists.{tally}
use Rattle.evaluate.specs.Program.{Program}
use Rattle.evaluate.specs.Evaluate.{Ops, in_stratum, round, cleared, rounds, stratum_done, up_to, evaluated}

module _ {V : Type 0} (o : Ops V) (P : Program) where
  pub rounds_none : (s : ℕ) (vs : List V) → vs ≡ rounds o P s 0 vs
  unfolding rounds
  rounds_none s vs = refl

  pub rounds_next : (s n : ℕ) (vs : List V) → round o P s (rounds o P s n vs) ≡ rounds o P s (n + 1) vs
  unfolding rounds
  rounds_next s n vs = rw add-one refl

  pub stratum_is : (s n : ℕ) (vs ws : List V) → n ≡ tally P.atoms (in_stratum o P s) → ws ≡ cleared o P s vs → rounds o P s n ws ≡ stratum_done o P s vs
  unfolding stratum_done
  stratum_is s n vs ws e f = ap₂ (rounds o P s) e f

  pub up_to_none : (vs : List V) → vs ≡ up_to o P 0 vs
  unfolding up_to
  up_to_none vs = refl

  up_to_suc : (s : ℕ) (vs : List V) → stratum_done o P (s + 1) (up_to o P s vs) ≡ up_to o P (s + 1) vs
  unfolding up_to
  up_to_suc s vs = rw add-one refl

  pub up_to_next : (k s n : ℕ) (vs : List V) → s ≡ k + 1 → n ≡ s → stratum_done o P s (up_to o P k vs) ≡ up_to o P n vs
  up_to_next k s n vs e f = ap (λ i. stratum_done o P i (up_to o P k vs)) e ∙ up_to_suc k vs ∙ ap (λ i. up_to o P i vs) (sym (f ∙ e))

  pub evaluated_is : (n : ℕ) (vs : List V) → n ≡ P.strata → up_to o P n vs ≡ evaluated o P vs
  unfolding evaluated
  evaluated_is n vs e = ap (λ m. up_to o P m vs) e
