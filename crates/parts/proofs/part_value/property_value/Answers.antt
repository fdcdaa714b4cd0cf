use Rattle.std.proofs.Common.{◌≡◌, ◌-◌, ◌≤◌, length, sym, ap, ◌∙◌, subst, ap₂, arith}
use Rattle.evaluate.specs.Meanings.{meanings}
use Rattle.property.specs.Reads.{records_of}
use Rattle.property.specs.Trees.{property_of}
use Rattle.parts.specs.Tables.{LevelsIn}
use Rattle.parts.specs.Values.{value}
use Rattle.parts.proofs.part_value.property_value.Goals as goal

pub returns : goal.returns
returns g c L levels =
    let t = g.T.TruthForm in
    let o = meanings t.neg t.conj t.disj in
    let p = c.args.property.now in
    let H = c.args.horizon in
    let e = c.of.ensures in
    let z : H - 0 ≡ H = omega arith in
    let some : 1 ≤ length c.of.result.records.now = omega (arith, p.some, ap length e.records) in
    let here = subst (λ r. LevelsIn t.means r.rules.now r.grid.now.values.now L H) (sym e.run) levels in
    c.entry.ensures ∙ c.fill.ensures L here 0 (omega arith) (omega arith) 1 (omega arith) some
    ∙ ap₂ (λ rs n. value o c.of.result.run.now.rules.now L (property_of rs) 0 n) e.records z
    ∙ ap (λ r. value o r.rules.now L (property_of (records_of p)) 0 H) e.run
