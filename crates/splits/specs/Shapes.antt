-- The inputs that a shape tells.
use Rattle.splits.specs.Inputs.{Inputs}
use Rattle.splits.specs.declared.shape.Shape.{Shape}

abbrev pub inputs : Shape → Inputs
inputs s = record { fluents = s.fluents; moves = s.moves.now; horizon = s.horizon; part = s.part }
