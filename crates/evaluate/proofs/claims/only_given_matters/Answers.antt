use Rattle.evaluate.specs.Meanings.{meanings}
use Rattle.evaluate.proofs.Givens.{only_given_matters}
use Rattle.evaluate.proofs.claims.only_given_matters.Goals as goal

pub returns : goal.returns
returns g c =
    let t = g.T.TruthForm in
    only_given_matters (meanings t.neg t.conj t.disj)
