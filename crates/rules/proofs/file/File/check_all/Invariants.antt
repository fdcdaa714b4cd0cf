use Rattle.std.proofs.Common.{◌≡◌, ◌+◌, ◌-◌}
use Rattle.std.specs.List.{range_with_len}
use Rattle.rules.specs.Files.{held}
use Rattle.rules.specs.First.{first}
use Rattle.rules.proofs.file.File.check_all.Given as goal

abbrev pub invariant-loop-number : goal.invariant-loop-number
invariant-loop-number g l =
    let f = g.R.Record.fault l.self.layout (held l.self) in
    let n = g.R.Placed.count l.self.layout in
    first f (range_with_len l.number (n + 1 - l.number)) ≡ first f (range_with_len 1 n)
