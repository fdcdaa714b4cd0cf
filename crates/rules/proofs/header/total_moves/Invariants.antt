use Rattle.std.proofs.Common.{◌≡◌, ◌+◌, ◌-◌, ◌*◌, ◌≤◌, map}
use Rattle.std.specs.List.{range_with_len}
use Rattle.rules.specs.First.{first, wrong_moves}
use Rattle.rules.specs.Tables.{total}
use Rattle.rules.specs.Words.{word}
use Rattle.rules.proofs.Headers.{move_fault}
use Rattle.rules.proofs.header.total_moves.Given as goal

abbrev pub invariant-loop-role : goal.invariant-loop-role
invariant-loop-role l =
    (l.total ≤ 32 * l.role)
    × (l.total ≡ total (map (λ r. word l.bytes (6 + r)) (range_with_len 0 l.role)))
    × (first (move_fault l.bytes) (range_with_len l.role (l.roles - l.role)) ≡ wrong_moves l.bytes)
