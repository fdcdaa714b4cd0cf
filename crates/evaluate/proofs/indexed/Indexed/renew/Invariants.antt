use Rattle.std.proofs.Common.{map}
use Rattle.evaluate.specs.Evaluate.{head}
use Rattle.evaluate.specs.Indexing.{indexed_rules}
use Rattle.evaluate.specs.Meanings.{meanings}
use Rattle.evaluate.specs.Program.{program_of}
use Rattle.evaluate.proofs.Filling.{Filled}
use Rattle.evaluate.proofs.indexed.Indexed.renew.Given as goal

abbrev pub invariant-loop-atom : goal.invariant-loop-atom
invariant-loop-atom g l =
    let t = g.T.TruthForm in
    Filled t.means (head (meanings t.neg t.conj t.disj) (program_of (indexed_rules l.self)) (map t.means l.last)) l.atom-items l.initial.row l.row l.atom-index
