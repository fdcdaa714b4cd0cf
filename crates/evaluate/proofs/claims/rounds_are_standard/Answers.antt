use Rattle.evaluate.proofs.Standard.{rounds_are_standard}
use Rattle.evaluate.proofs.claims.rounds_are_standard.Goals as goal

pub returns : goal.returns
returns c = rounds_are_standard
