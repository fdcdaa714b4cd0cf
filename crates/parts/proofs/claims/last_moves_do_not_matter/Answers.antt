use Rattle.evaluate.specs.Evaluate.{bool_ops}
use Rattle.evaluate.specs.Meanings.{meanings}
use Rattle.parts.proofs.Lawful.{last_moves_do_not_matter}
use Rattle.parts.proofs.claims.last_moves_do_not_matter.Goals as goal

pub returns : goal.returns
returns g c =
    let t = g.T.TruthForm in
    record { meanings = last_moves_do_not_matter (meanings t.neg t.conj t.disj); answers = last_moves_do_not_matter bool_ops }
