use Rattle.truth.specs.Wide.{means}
use Rattle.docket.specs.Inputs.{starting}
use Rattle.docket.proofs.Inputs.{Put}
use Rattle.docket.proofs.plays.Inputs.put_start.Given as goal

abbrev pub invariant-loop-f : goal.invariant-loop-f
invariant-loop-f l = Put means (starting l.self.plays.bytes.now l.self.plays.count) (λ f. f) l.initial.value-items l.f l.value-items
