use Rattle.std.proofs.Common.{◌^◌, ◌<◌, refl, rules}
use Rattle.truth.proofs.Wides.{answered_not, allows_not}
use Rattle.truth.proofs.wide.Wide.settled.Goals as goal

pub invariant_of-result : goal.invariant_of-result
invariant_of-result c =
    let fits : c.args.mask < 2 ^ 64 = search rules in
    record { answered = answered_not c.args.mask fits }

pub returns : goal.returns
returns c =
    let fits : c.args.mask < 2 ^ 64 = search rules in
    record { exact = λ i w. allows_not c.args.mask w.at fits w.below i; field = refl }
