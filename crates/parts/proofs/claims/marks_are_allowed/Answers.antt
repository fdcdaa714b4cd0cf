use Rattle.parts.proofs.Lawful.{allowed}
use Rattle.parts.proofs.claims.marks_are_allowed.Goals as goal

pub returns : goal.returns
returns g c = allowed c.laws_stand.ensures
