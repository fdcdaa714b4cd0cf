use Rattle.std.proofs.Common.{map, sym, ap, ◌∙◌, arith}
use Rattle.evaluate.specs.Evaluate.{head}
use Rattle.evaluate.specs.Indexing.{indexed_rules}
use Rattle.evaluate.specs.Program.{program_of}
use Rattle.evaluate.specs.Meanings.{meanings}
use Rattle.evaluate.proofs.Filling.{filled_more}
use Rattle.evaluate.proofs.Members.{stratum_filled}
use Rattle.evaluate.proofs.indexed.Indexed.renew.Goals as goal

pub loop-atom-preserved : goal.loop-atom-preserved
loop-atom-preserved g c =
    let t = g.T.TruthForm in
    let o = meanings t.neg t.conj t.disj in
    filled_more t.means (head o (program_of (indexed_rules c.args.self)) (map t.means c.args.last.now)) c.members-atom-items.result.now c.args.row.now c.loop-atom.row c.loop-atom.atom-index c.from.result c.head.result c.loop-atom.invariant (omega arith) c.from.ensures (c.head.ensures ∙ ap (head o (program_of (indexed_rules c.args.self)) (map t.means c.args.last.now)) (sym c.from.ensures))

pub returns : goal.returns
returns g c =
    let t = g.T.TruthForm in
    let o = meanings t.neg t.conj t.disj in
    stratum_filled c.args.self c.args.s c.members-atom-items.result.now c.members-atom-items.ensures.exact t.means o (head o (program_of (indexed_rules c.args.self)) (map t.means c.args.last.now)) c.args.row.now c.loop-atom.row c.loop-atom.atom-index c.loop-atom.invariant (omega arith) c.requires.row
