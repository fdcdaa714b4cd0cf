use Rattle.play.proofs.Parts.{base_says}
use Rattle.play.proofs.theorems.base_says.Goals as goal

pub returns : goal.returns
returns g c G = base_says G
