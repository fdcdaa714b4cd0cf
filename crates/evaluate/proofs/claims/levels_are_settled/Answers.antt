use Rattle.evaluate.proofs.Standing.{settling}
use Rattle.evaluate.proofs.claims.levels_are_settled.Goals as goal

pub returns : goal.returns
returns g c = settling c.laws_stand.ensures
