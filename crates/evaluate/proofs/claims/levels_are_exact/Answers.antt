use Rattle.evaluate.proofs.Standing.{exact}
use Rattle.evaluate.proofs.claims.levels_are_exact.Goals as goal

pub returns : goal.returns
returns g c = exact c.laws_stand.ensures
