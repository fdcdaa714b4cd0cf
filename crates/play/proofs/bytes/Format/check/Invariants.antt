use Rattle.std.proofs.Common.{◌≡◌, ◌-◌, length}
use Rattle.std.specs.List.{range_with_len}
use Rattle.rules.specs.First.{first}
use Rattle.play.specs.Bytes.{byte_fault}
use Rattle.play.proofs.bytes.Format.check.Given as goal

abbrev pub invariant-loop-j : goal.invariant-loop-j
invariant-loop-j l =
    let fault = byte_fault l.self.rules.now l.self.part l.self.levels l.bytes in
    first fault (range_with_len l.j (length l.bytes - l.j)) ≡ first fault (range_with_len 0 (length l.bytes))
