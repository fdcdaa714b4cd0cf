use Rattle.std.proofs.Common.{◌≡◌, map, vec_items}
use Rattle.std.specs.List.{range_with_len}
use Rattle.evaluate.specs.Index.{members}
use Rattle.evaluate.proofs.strata.Strata.of.Given as goal

abbrev pub invariant-loop-s : goal.invariant-loop-s
invariant-loop-s l = map vec_items (vec_items l.members) ≡ map (members l.rules) (range_with_len 0 l.s)
