use Rattle.evaluate.proofs.Standing.{sound}
use Rattle.evaluate.proofs.claims.levels_are_sound.Goals as goal

pub returns : goal.returns
returns g c = sound c.laws_stand.ensures
