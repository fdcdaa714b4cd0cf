use Rattle.play.proofs.Parts.{step_says}
use Rattle.play.proofs.theorems.step_says.Goals as goal

pub returns : goal.returns
returns g c G = step_says G
