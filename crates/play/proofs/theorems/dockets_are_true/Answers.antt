use Rattle.play.proofs.Induction.{dockets_are_true}
use Rattle.play.proofs.theorems.dockets_are_true.Goals as goal

pub returns : goal.returns
returns g c G = dockets_are_true G
