use Rattle.parts.proofs.Reading.{values_show_breaks}
use Rattle.parts.proofs.claims.values_show_breaks.Goals as goal

pub returns : goal.returns
returns c = values_show_breaks
