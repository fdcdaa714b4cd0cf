use Rattle.std.proofs.Common.{arith, ◌∙◌}
use Rattle.rules.specs.Files.{held}
use Rattle.rules.specs.Summaries.{empty}
use Rattle.rules.proofs.Downs.{down_read, down_step}
use Rattle.rules.proofs.Sums.{body_from, body_from_none, body_entry}
use Rattle.rules.proofs.linked.LinkedFile.sum_up_bodies.Goals as goal

pub loop-literal-preserved : goal.loop-literal-preserved
loop-literal-preserved c =
    let f = c.args.self.file in
    let i = c.loop-literal.literal in
    let ss = c.loop-literal.bodies in
    let joins = rw (c.literal_summary.ensures, c.from.ensures, c.next-next.ensures, c.row.ensures.file, c.row.ensures.number) at c.join.ensures in
    down_step empty (body_from f.layout (held f)) f.layout.literals 8001 ss i c.from-in-loop-literal.result c.join.result c.loop-literal.invariant (omega arith) (omega arith) (omega arith) (omega arith)
    (joins ∙ body_entry f.layout (held f) c.args.self.linked 8001 ss i (omega arith) c.loop-literal.invariant (omega arith))

pub returns : goal.returns
returns c =
    let f = c.args.self.file in
    λ l h. down_read empty (body_from f.layout (held f)) f.layout.literals 8001 c.loop-literal.bodies c.loop-literal.literal c.loop-literal.invariant (body_from_none f.layout (held f)) l (λ z. omega arith) h
