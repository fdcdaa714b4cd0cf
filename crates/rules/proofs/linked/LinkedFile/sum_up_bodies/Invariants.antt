use Rattle.rules.specs.Files.{held}
use Rattle.rules.specs.Summaries.{empty}
use Rattle.rules.proofs.Downs.{FilledDown}
use Rattle.rules.proofs.Sums.{body_from}
use Rattle.rules.proofs.linked.LinkedFile.sum_up_bodies.Given as goal

abbrev pub invariant-loop-literal : goal.invariant-loop-literal
invariant-loop-literal l = let f = l.self.file in FilledDown empty (body_from f.layout (held f)) f.layout.literals 8001 l.literal l.bodies
