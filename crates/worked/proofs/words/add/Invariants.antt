use Rattle.std.proofs.Common.{◌≡◌, ◌++◌, take}
use Rattle.worked.specs.Words.{bytes_in}
use Rattle.worked.proofs.words.add.Given as goal

abbrev pub invariant-loop-word : goal.invariant-loop-word
invariant-loop-word l = l.bytes.items ≡ l.initial.bytes.items ++ bytes_in (take l.word-index l.words)
