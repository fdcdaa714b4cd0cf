use Rattle.std.proofs.Common.{arith}
use mathlib.Core.Path.{fun_ext}
use Rattle.truth.specs.Forms.{only_no}
use Rattle.evaluate.specs.Meanings.{meanings}
use Rattle.evaluate.proofs.Filling.{filled_more}
use Rattle.evaluate.proofs.Members.{stratum_filled}
use Rattle.evaluate.proofs.indexed.Indexed.clear.Goals as goal

pub loop-atom-preserved : goal.loop-atom-preserved
loop-atom-preserved g c =
    let t = g.T.TruthForm in
    let o = meanings t.neg t.conj t.disj in
    filled_more t.means (λ _ _. only_no) c.members-atom-items.result.now c.args.row.now c.loop-atom.row c.loop-atom.atom-index c.from.result c.no.result c.loop-atom.invariant (omega arith) c.from.ensures (fun_ext c.no.ensures)

pub returns : goal.returns
returns g c =
    let t = g.T.TruthForm in
    let o = meanings t.neg t.conj t.disj in
    stratum_filled c.args.self c.args.s c.members-atom-items.result.now c.members-atom-items.ensures.exact t.means o (λ _ _. only_no) c.args.row.now c.loop-atom.row c.loop-atom.atom-index c.loop-atom.invariant (omega arith) c.requires.row
