use Rattle.std.proofs.Common.{ℕ, ◌^◌, ◌<◌, ap, ◌∙◌, rules}
use Rattle.std.proofs.lemmas.Bool.{eqb-true, eq-eqb}
use Rattle.truth.specs.Bit.{bit}
use Rattle.truth.proofs.Bitwise.{no_bits, bit_zero}
use Rattle.truth.proofs.Wides.{only_no_from, only_no_then}
use Rattle.truth.proofs.wide_form.WideTruthForm.shut.Goals as goal

pub returns : goal.returns
returns c =
    let a = c.args.self in
    let fits : a.yes < 2 ^ 64 = search rules in
    record {
      sound = λ e w. only_no_from (bit a.yes w.at) (bit a.no w.at) (a.answered w.at w.below) (ap (λ (n : ℕ). bit n w.at) (eqb-true a.yes 0 e) ∙ bit_zero w.at);
      complete = λ all. eq-eqb a.yes 0 (no_bits 64 a.yes fits (λ k h. only_no_then (bit a.yes k) (bit a.no k) (all (record { at = k; below = h }))));
    }
