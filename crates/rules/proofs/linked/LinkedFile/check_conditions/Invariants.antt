use Rattle.std.proofs.Common.{◌≡◌, ◌+◌, ◌-◌}
use Rattle.std.specs.List.{range_with_len}
use Rattle.rules.specs.Files.{held}
use Rattle.rules.specs.First.{first, head_fault}
use Rattle.rules.proofs.linked.LinkedFile.check_conditions.Given as goal

abbrev pub invariant-loop-number : goal.invariant-loop-number
invariant-loop-number l =
    let y = l.self.file.layout in
    let f = head_fault y (held l.self.file) in
    first f (range_with_len l.number (y.atoms + 1 - l.number)) ≡ first f (range_with_len 1 y.atoms)
