use Rattle.rules.specs.Files.{held}
use Rattle.rules.specs.First.{body_fault}
use Rattle.rules.proofs.Walks.{walk_starts}
use Rattle.rules.proofs.heads.Head.check_rules.Goals as goal

pub loop-rule-init : goal.loop-rule-init
loop-rule-init c =
    let head = c.args.self in
    let f = head.links.file in
    rw (c.into_iter-rule-iterator.ensures.into_iter_gives, c.chain-rule-items.ensures.links, c.chain-rule-items.ensures.from)
    (walk_starts (body_fault f.layout (held f) head.number) f.layout.rules (held f).next_rule head.links.linked.next_rules c.args.from c.requires)
