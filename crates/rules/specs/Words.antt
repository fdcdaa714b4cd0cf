-- A file is words: unsigned 16-bit numbers, high byte first. Word i stands at the offset 2 * i.
use Rattle.std.specs.Prelude.{ℕ, ◌+◌, ◌*◌, List, slice_index}

-- the word at a byte's place
abbrev pub word_from : List ℕ → ℕ → ℕ
word_from bs at = slice_index bs at * 256 + slice_index bs (at + 1)

abbrev pub word : List ℕ → ℕ → ℕ
word bs i = word_from bs (2 * i)
