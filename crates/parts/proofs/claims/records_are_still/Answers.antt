use Rattle.parts.proofs.Stills.{records_are_still}
use Rattle.parts.proofs.claims.records_are_still.Goals as goal

pub returns : goal.returns
returns c = records_are_still
