use Rattle.std.proofs.Common.{◌≡◌, length, drop}
use Rattle.evaluate.specs.Showing.{moves_fit}
use Rattle.evaluate.proofs.models.moves_fit.Given as goal

abbrev pub invariant-loop-count : goal.invariant-loop-count
invariant-loop-count l = moves_fit (drop (length l.yielded) l.moves) (drop (length l.yielded) l.joint) ≡ moves_fit l.moves l.joint
