-- A property file is records of three words: kind, value, next. Records are numbered from 1.
use Rattle.std.specs.Prelude.{ℕ, ◌+◌, ◌-◌, ◌*◌, ◌/◌, List, length}
use Rattle.rules.specs.Words.{word}

-- how many records there are
abbrev pub count_in : List ℕ → ℕ
count_in bs = length bs / 6

-- the index of word i of record k
abbrev pub record_word : ℕ → ℕ → ℕ
record_word k i = 3 * (k - 1) + i

-- the words by record number
pub record Words : Type 0 where
  pub kind : ℕ → ℕ
  pub value : ℕ → ℕ
  pub next : ℕ → ℕ

abbrev pub words_in : List ℕ → Words
words_in bs = record {
  kind = λ k. word bs (record_word k 0);
  value = λ k. word bs (record_word k 1);
  next = λ k. word bs (record_word k 2);
}
