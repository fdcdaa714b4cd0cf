use Rattle.evaluate.specs.Evaluate.{bool_ops}
use Rattle.evaluate.specs.Meanings.{meanings}
use Rattle.evaluate.proofs.Games.{still_atoms_stay}
use Rattle.evaluate.proofs.claims.still_atoms_stay.Goals as goal

pub returns : goal.returns
returns g c =
    let t = g.T.TruthForm in
    record { meanings = still_atoms_stay (meanings t.neg t.conj t.disj); answers = still_atoms_stay bool_ops }
