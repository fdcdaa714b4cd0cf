use Rattle.truth.specs.Wide.{means}
use Rattle.docket.specs.Inputs.{doing}
use Rattle.docket.proofs.Inputs.{Put}
use Rattle.docket.proofs.plays.Inputs.put_level.Given as goal

abbrev pub invariant-loop-c : goal.invariant-loop-c
invariant-loop-c l = Put means (doing l.self.rules.now l.self.plays.bytes.now l.self.plays.count l.level) (λ c. c) l.initial.value-items l.c l.value-items
