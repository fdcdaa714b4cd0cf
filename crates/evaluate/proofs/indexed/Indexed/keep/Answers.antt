use Rattle.std.proofs.Common.{◌<◌, map, length, sym, ◌∙◌, arith}
use Rattle.evaluate.specs.Evaluate.{look}
use Rattle.evaluate.specs.Meanings.{meanings}
use Rattle.evaluate.proofs.Filling.{filled_more}
use Rattle.evaluate.proofs.Looks.{look_at}
use Rattle.evaluate.proofs.Members.{stratum_filled}
use Rattle.evaluate.proofs.indexed.Indexed.keep.Goals as goal

pub loop-atom-preserved : goal.loop-atom-preserved
loop-atom-preserved g c =
    let t = g.T.TruthForm in
    let o = meanings t.neg t.conj t.disj in
    let h : c.from.result < length c.args.row.now = omega (arith, c.members-atom-items.ensures.within c.loop-atom.atom-index (omega arith), c.from.ensures, c.requires.row) in
    filled_more t.means (look o (map t.means c.args.row.now)) c.members-atom-items.result.now c.args.last.now c.loop-atom.last c.loop-atom.atom-index c.from-in-loop-atom.result c.index-row-from.result c.loop-atom.invariant (omega arith) c.from-in-loop-atom.ensures
    (look_at o t.means c.args.row.now c.from-in-loop-atom.result c.from.result c.index-row-from.result h c.index-row-from.is (c.from.ensures ∙ sym c.from-in-loop-atom.ensures))

pub returns : goal.returns
returns g c =
    let t = g.T.TruthForm in
    let o = meanings t.neg t.conj t.disj in
    stratum_filled c.args.self c.args.s c.members-atom-items.result.now c.members-atom-items.ensures.exact t.means o (look o (map t.means c.args.row.now)) c.args.last.now c.loop-atom.last c.loop-atom.atom-index c.loop-atom.invariant (omega arith) c.requires.last
