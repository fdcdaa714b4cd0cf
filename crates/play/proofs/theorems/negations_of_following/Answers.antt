use Rattle.play.proofs.Ends.{negations_of_following}
use Rattle.play.proofs.theorems.negations_of_following.Goals as goal

pub returns : goal.returns
returns g c G = negations_of_following G
