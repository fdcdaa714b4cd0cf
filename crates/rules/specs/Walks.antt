-- Chains of typed records, by their numbers in a list; a record's number is 1 for the first.
use Rattle.std.specs.Prelude.{ℕ, ◌-◌, List, map, length, slice_index_or}
use Rattle.rules.specs.Chains.{chain}

-- where the record with each number links to; behind the last one stands none
abbrev pub links : {X : Type 0} → (X → ℕ) → X → List X → ℕ → ℕ
links next none xs k = next (slice_index_or xs (k - 1) none)

-- the records on the chain from record k on, each with its number
unfoldable pub walk : {X : Type 0} → (X → ℕ) → X → List X → ℕ → List (ℕ × X)
walk next none xs k = map (λ j. (j, slice_index_or xs (j - 1) none)) (chain (links next none xs) (length xs) k)
