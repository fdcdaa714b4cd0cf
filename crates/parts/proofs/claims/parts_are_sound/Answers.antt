use Rattle.parts.proofs.Lawful.{sound}
use Rattle.parts.proofs.claims.parts_are_sound.Goals as goal

pub returns : goal.returns
returns g c = sound c.laws_stand.ensures
