use Rattle.play.proofs.Ends.{stuck_positions_count}
use Rattle.play.proofs.theorems.stuck_positions_count.Goals as goal

pub returns : goal.returns
returns g c G = stuck_positions_count G
