use Rattle.parts.proofs.Lawful.{exact}
use Rattle.parts.proofs.claims.marks_are_exact.Goals as goal

pub returns : goal.returns
returns g c = exact c.laws_stand.ensures
