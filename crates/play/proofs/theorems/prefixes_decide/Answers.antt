use Rattle.play.proofs.Prefixes.{prefixes_decide}
use Rattle.play.proofs.theorems.prefixes_decide.Goals as goal

pub returns : goal.returns
returns g c G = prefixes_decide G
