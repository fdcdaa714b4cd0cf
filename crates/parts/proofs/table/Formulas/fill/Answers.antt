use Rattle.std.proofs.Common.{arith}
use Rattle.evaluate.specs.Meanings.{meanings}
use Rattle.parts.proofs.Entries.{filled_down}
use Rattle.parts.proofs.table.Formulas.fill.Goals as goal

pub loop-level-preserved : goal.loop-level-preserved
loop-level-preserved g c =
    let t = g.T.TruthForm in
    let o = meanings t.neg t.conj t.disj in
    let self = c.args.self.now in
    let e = c.fill_level.ensures in
    let inv = c.loop-level.invariant in
    let k = c.loop-level.level in
    record {
      whole = e.whole;
      filled = λ L levels j l u.
          filled_down o t.means self.run.now.rules.now self.records.now L self.few c.loop-level.table c.fill_level.new.table inv.whole e.whole
          k c.args.horizon c.requires (omega arith) e.kept (e.values L (levels k (omega arith))) (inv.filled L levels) j (omega arith) u;
    }

pub returns-2 : goal.returns-2
returns-2 g c L levels j l u =
    let t = g.T.TruthForm in
    let o = meanings t.neg t.conj t.disj in
    let self = c.args.self.now in
    let e = c.fill_level.ensures in
    let inv = c.loop-level.invariant in
    let k = c.loop-level.level in
    filled_down o t.means self.run.now.rules.now self.records.now L self.few c.loop-level.table c.fill_level.new.table inv.whole e.whole
    k c.args.horizon c.requires (omega arith) e.kept (e.values L (levels k (omega arith))) (inv.filled L levels) j (omega arith) u
