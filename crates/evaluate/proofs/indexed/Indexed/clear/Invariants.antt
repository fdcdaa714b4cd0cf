use Rattle.truth.specs.Forms.{only_no}
use Rattle.evaluate.proofs.Filling.{Filled}
use Rattle.evaluate.proofs.indexed.Indexed.clear.Given as goal

abbrev pub invariant-loop-atom : goal.invariant-loop-atom
invariant-loop-atom g l =
    let t = g.T.TruthForm in
    Filled t.means (λ _ _. only_no) l.atom-items l.initial.row l.row l.atom-index
