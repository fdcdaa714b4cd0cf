use Rattle.rules.specs.Chains.{chain}
use Rattle.rules.specs.Files.{held}
use Rattle.rules.specs.First.{first, body_fault}
use Rattle.rules.proofs.Walks.{Left}
use Rattle.rules.proofs.heads.Head.check_rules.Given as goal

abbrev pub invariant-loop-rule : goal.invariant-loop-rule
invariant-loop-rule l =
    let y = l.self.links.file.layout in
    let T = held l.self.links.file in
    let f = body_fault y T l.self.number in
    let it = l.rule-iterator in
    Left y.rules f (first f (chain T.next_rule y.rules l.from)) (chain (held it.links.file).next_rule it.links.file.layout.rules it.at)
