use Rattle.rules.specs.Files.{held}
use Rattle.rules.specs.First.{literal_fault_under}
use Rattle.rules.proofs.Walks.{walk_starts}
use Rattle.rules.proofs.heads.Head.check_body.Goals as goal

pub loop-literal-init : goal.loop-literal-init
loop-literal-init c =
    let head = c.args.self in
    let f = head.links.file in
    rw (c.into_iter-literal-iterator.ensures.into_iter_gives, c.chain-literal-items.ensures.links, c.chain-literal-items.ensures.from)
    (walk_starts (literal_fault_under f.layout (held f) head.number) f.layout.literals (held f).next_literal head.links.linked.next_literals c.args.from c.requires)
