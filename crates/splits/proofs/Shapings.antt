-- What a shape holds.
use Rattle.splits.specs.Inputs.{Proper}
use Rattle.splits.specs.Shapes.{inputs}
use Rattle.splits.specs.declared.shape.Shape.{Shape}

pub proper : (s : Shape) → Proper (inputs s)
proper s = record { roles = s.roles; some = s.some; few = s.few; fits = s.fits }
