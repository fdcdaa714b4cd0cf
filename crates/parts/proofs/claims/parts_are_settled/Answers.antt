use Rattle.parts.proofs.Lawful.{settled}
use Rattle.parts.proofs.claims.parts_are_settled.Goals as goal

pub returns : goal.returns
returns g c = settled c.laws_stand.ensures
