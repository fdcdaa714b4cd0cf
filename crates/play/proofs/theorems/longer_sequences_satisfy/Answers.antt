use Rattle.play.proofs.Prefixes.{longer_sequences_satisfy}
use Rattle.play.proofs.theorems.longer_sequences_satisfy.Goals as goal

pub returns : goal.returns
returns g c G = longer_sequences_satisfy G
