use Rattle.play.proofs.Stranded.{unsound_when_stuck, unsound_when_cut}
use Rattle.play.proofs.theorems.deeper_assumptions_are_unsound.Goals as goal

pub returns : goal.returns
returns c = record { stuck = unsound_when_stuck; cut = unsound_when_cut }
