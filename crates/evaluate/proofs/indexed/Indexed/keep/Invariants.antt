use Rattle.std.proofs.Common.{map}
use Rattle.evaluate.specs.Evaluate.{look}
use Rattle.evaluate.specs.Meanings.{meanings}
use Rattle.evaluate.proofs.Filling.{Filled}
use Rattle.evaluate.proofs.indexed.Indexed.keep.Given as goal

abbrev pub invariant-loop-atom : goal.invariant-loop-atom
invariant-loop-atom g l =
    let t = g.T.TruthForm in
    Filled t.means (look (meanings t.neg t.conj t.disj) (map t.means l.row)) l.atom-items l.initial.last l.last l.atom-index
