use Rattle.std.proofs.Common.{◌≡◌, ◌+◌, ◌-◌, ap, ◌∙◌, map, vec_items, arith}
use Rattle.std.specs.List.{range_with_len}
use Rattle.rules.specs.Files.{held}
use Rattle.rules.proofs.Built.{built_more}
use Rattle.rules.proofs.file.File.records.Goals as goal
use Rattle.rules.proofs.file.File.records.Goals.{else-loop-number-test, then-loop-number-test+in_ok-push+else-number-number-end}

pub loop-number-preserved : goal.loop-number-preserved
loop-number-preserved g c =
    let i = c.loop-number.number in (
      omega arith,
      built_more (g.R.Record.record_in (held c.args.self)) 1 (i - 1) i (i + 1 - 1) _ _ _ c.loop-number.invariant.1 c.in_ok-push.ensures.items
          (rw (c.row.ensures.file, c.row.ensures.number) at c.read.ensures) (omega arith) (omega arith),
    )

pub returns : goal.returns
returns g c =
    let f = g.R.Record.record_in (held c.args.self) in
    let i = c.loop-number.number in
    let n = g.R.Placed.count c.args.self.layout in
    elim c.loop-number-test.branch [
      | else-loop-number-test w ↦
          (let e : i - 1 ≡ n = omega arith in
          ap vec_items w.records-is ∙ c.loop-number.invariant.1 ∙ ap (λ k. map f (range_with_len 1 k)) e)
      | then-loop-number-test+in_ok-push+else-number-number-end w ↦
          ap vec_items w.records-is
          ∙ built_more f 1 (i - 1) i n _ _ _ c.loop-number.invariant.1 w.in_ok-push.ensures.items
          (rw (w.row.ensures.file, w.row.ensures.number) at w.read.ensures) (omega arith) (omega arith)
    ]
