-- Entries and branch counts of the inputs.
use Rattle.std.proofs.Common.{ℕ, ◌+◌, ◌-◌, ◌*◌, ◌<◌, ◌≤◌, ltb, length, sym, subst, ⊎_elim, arith}
use Rattle.std.proofs.lemmas.Nat.{mul-add-lt, mod_below}
use Rattle.std.proofs.lemmas.Bool.{cases_Bool, cond-true, cond-false}
use Rattle.splits.specs.Inputs.{Inputs, Proper, entries, first_of, first_input, branch_count, IsChoice, choice_entry}
use Rattle.play.specs.declared.part.Part.{Part}
use Rattle.play.specs.declared.part.Part.TheVariants.{Base, Step}

pub choice_low : (s : Inputs) (role level : ℕ) → IsChoice s role level → choice_entry s role level < entries s
choice_low s role level (a, b, c) = let m = mul-add-lt level (length s.moves) (role - 1) s.horizon c (omega arith) in omega (arith, m)

module _ (s : Inputs) (p : Proper s) where
  pub branch_some : (k : ℕ) → 0 < branch_count s k
  branch_some k =
      ⊎_elim
      (λ e. subst (λ n. 0 < n) (sym (cond-true _ _ _ e)) (omega arith))
      (λ e. subst (λ n. 0 < n) (sym (cond-false _ _ _ e)) (p.some _ (mod_below (k - s.fluents) (length s.moves) p.roles)))
      (cases_Bool (ltb k s.fluents))

  pub branch_few : (k : ℕ) → branch_count s k ≤ 32
  branch_few k =
      ⊎_elim
      (λ e. subst (λ n. n ≤ 32) (sym (cond-true _ _ _ e)) (omega arith))
      (λ e. subst (λ n. n ≤ 32) (sym (cond-false _ _ _ e)) (p.few _))
      (cases_Bool (ltb k s.fluents))

first_by : (p : Part) (f n : ℕ) → first_of p f ≤ f + n
first_by Base f n = omega arith
first_by Step f n = omega arith

pub first_low : (s : Inputs) → first_input s ≤ entries s
first_low s = first_by s.part s.fluents (length s.moves * s.horizon)
