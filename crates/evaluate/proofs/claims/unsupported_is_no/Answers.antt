use Rattle.evaluate.proofs.Standing.{unsupported}
use Rattle.evaluate.proofs.claims.unsupported_is_no.Goals as goal

pub returns : goal.returns
returns g c = unsupported c.laws_stand.ensures
