use Rattle.play.proofs.Induction.{induction}
use Rattle.play.proofs.theorems.induction.Goals as goal

pub returns : goal.returns
returns g c G = induction G
