use Rattle.std.proofs.Common.{refl}
use Rattle.splits.proofs.theorems.worked_example.Goals as goal

pub returns : goal.returns
returns c = record { taken = refl; not_closed = refl; not_closed_report = refl; wrong_next = refl; wrong_next_report = refl; whole = refl }
