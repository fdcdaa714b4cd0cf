-- What reading plays answers.
use Rattle.std.specs.Prelude.{ℕ, List, Ok, Err, Result}
use Rattle.play.specs.declared.faults.Fault.{Fault}
use Rattle.play.specs.declared.plays.Plays.{Plays}

-- the bytes of the plays that were read, and how many plays they are
abbrev pub contents : Result Plays Fault → Result (List ℕ × ℕ) Fault
contents (Ok plays) = Ok (plays.bytes.now, plays.count)
contents (Err fault) = Err fault
