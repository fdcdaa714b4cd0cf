use Rattle.truth.specs.Wide.{Place}
use Rattle.truth.proofs.Wides.{answered_and, allows_and}
use Rattle.truth.proofs.wide_form.WideTruthForm.and.Goals as goal

pub invariant_of-result : goal.invariant_of-result
invariant_of-result c =
    let a = c.args.self in
    let b = c.args.other in
    record { answered = answered_and a.yes a.no b.yes b.no a.answered b.answered }

pub returns : goal.returns
returns c =
    let a = c.args.self in
    let b = c.args.other in
    let at : (w : Place) → _ = λ w. allows_and a.yes a.no b.yes b.no w.at w.below a.answered b.answered in
    record { lawful = λ i w. at w i; exact = at }
