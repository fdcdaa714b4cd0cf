use Rattle.rules.specs.Files.{held}
use Rattle.rules.specs.Summaries.{empty}
use Rattle.rules.proofs.Downs.{FilledDown}
use Rattle.rules.proofs.Sums.{head_from}
use Rattle.rules.proofs.linked.LinkedFile.sum_up_rules.Given as goal

abbrev pub invariant-loop-number : goal.invariant-loop-number
invariant-loop-number l = let f = l.self.file in FilledDown empty (head_from f.layout (held f)) f.layout.rules 2049 l.number l.heads
