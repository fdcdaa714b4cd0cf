use Rattle.std.proofs.Common.{arith, ◌∙◌}
use Rattle.rules.specs.Files.{held}
use Rattle.rules.specs.Summaries.{empty}
use Rattle.rules.proofs.Downs.{down_read, down_step}
use Rattle.rules.proofs.Sums.{head_from, head_from_none, head_entry}
use Rattle.rules.proofs.linked.LinkedFile.sum_up_rules.Goals as goal

pub loop-number-preserved : goal.loop-number-preserved
loop-number-preserved c =
    let f = c.args.self.file in
    let i = c.loop-number.number in
    let ss = c.loop-number.heads in
    let joins = rw (c.from.ensures, c.from-in-loop-number.ensures, c.word-body.ensures, c.next-next.ensures, c.row-rule.ensures.file, c.row-rule.ensures.number) at c.join.ensures in
    down_step empty (head_from f.layout (held f)) f.layout.rules 2049 ss i c.from-in-loop-number-2.result c.join.result c.loop-number.invariant (omega arith) (omega arith) (omega arith) (omega arith)
    (joins ∙ head_entry f.layout (held f) c.args.self.linked 2049 ss i (omega arith) c.args.bodies.now c.requires.summed c.loop-number.invariant (omega arith))

pub returns : goal.returns
returns c =
    let f = c.args.self.file in
    λ r h. down_read empty (head_from f.layout (held f)) f.layout.rules 2049 c.loop-number.heads c.loop-number.number c.loop-number.invariant (head_from_none f.layout (held f)) r (λ z. omega arith) h
