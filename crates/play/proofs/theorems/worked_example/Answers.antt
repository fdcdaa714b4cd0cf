use Rattle.play.proofs.Example.{worked}
use Rattle.play.proofs.theorems.worked_example.Goals as goal

pub returns : goal.returns
returns c = worked
