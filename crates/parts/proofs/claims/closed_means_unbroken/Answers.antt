use Rattle.parts.proofs.Lawful.{unbroken}
use Rattle.parts.proofs.claims.closed_means_unbroken.Goals as goal

pub returns : goal.returns
returns g c = unbroken c.laws_stand.ensures
