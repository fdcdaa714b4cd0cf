use Rattle.rules.specs.Chains.{chain}
use Rattle.rules.specs.Files.{held}
use Rattle.rules.specs.First.{first, literal_fault_under}
use Rattle.rules.proofs.Walks.{Left}
use Rattle.rules.proofs.heads.Head.check_body.Given as goal

abbrev pub invariant-loop-literal : goal.invariant-loop-literal
invariant-loop-literal l =
    let y = l.self.links.file.layout in
    let T = held l.self.links.file in
    let f = literal_fault_under y T l.self.number in
    let it = l.literal-iterator in
    Left y.literals f (first f (chain T.next_literal y.literals l.from)) (chain (held it.links.file).next_literal it.links.file.layout.literals it.at)
