use Rattle.std.proofs.Common.{◌≡◌, ◌+◌, ◌-◌, ◌≤◌, map, vec_items}
use Rattle.std.specs.List.{range_with_len}
use Rattle.rules.specs.Files.{held}
use Rattle.rules.proofs.file.File.records.Given as goal

abbrev pub invariant-loop-number : goal.invariant-loop-number
invariant-loop-number g l =
    (l.number ≤ g.R.Placed.count l.self.layout + 1)
    × (vec_items l.records ≡ map (g.R.Record.record_in (held l.self)) (range_with_len 1 (l.number - 1)))
