use Rattle.play.proofs.Marks.{marks_are_right}
use Rattle.play.proofs.theorems.marks_are_right.Goals as goal

pub returns : goal.returns
returns g c G = marks_are_right G
