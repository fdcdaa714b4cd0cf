use Rattle.parts.proofs.Reading.{values_are_marks}
use Rattle.parts.proofs.claims.values_are_marks.Goals as goal

pub returns : goal.returns
returns c = values_are_marks
