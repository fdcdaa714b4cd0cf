use Rattle.std.proofs.Common.{◌≡◌, length, drop}
use Rattle.evaluate.specs.Showing.{chosen}
use Rattle.evaluate.proofs.models.chosen.Given as goal

abbrev pub invariant-loop-count : goal.invariant-loop-count
invariant-loop-count l =
    chosen (drop (length l.yielded) l.moves) (drop (length l.yielded) l.joint) l.left ≡ chosen l.moves l.joint l.k
