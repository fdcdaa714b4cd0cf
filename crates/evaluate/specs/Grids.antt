-- A grid of values by level and atom, as rows of one list. A row has 512 places, of which the first n are used, one for each atom.
use Rattle.std.specs.Prelude.{◌≡◌, ℕ, ◌+◌, ◌*◌, ◌<◌, ◌≤◌, List, length, take, drop, ◌≢◌, slice_index_or}

abbrev pub place : ℕ → ℕ → ℕ
place level atom = level * 512 + atom

-- room for five levels and for the last round's values
abbrev pub Roomy : {X : Type 0} → List X → Type 0
Roomy xs = 6 * 512 ≤ length xs

-- the row that holds the last round's values
abbrev pub last_round : ℕ
last_round = 5

-- the first n values of a row
unfoldable pub row : {X : Type 0} → ℕ → List X → ℕ → List X
row n xs level = take n (drop (level * 512) xs)

-- place i is none of the first n of the row
abbrev pub Outside : ℕ → ℕ → ℕ → Type 0
Outside n level i = (a : ℕ) → a < n → i ≢ place level a

-- ys has what xs has, but in the first n places of a row, or of a row and the last round's
abbrev pub KeptBut : {X : Type 0} → ℕ → ℕ → List X → List X → Type 0
KeptBut {X} n level xs ys = (i : ℕ) (d : X) → Outside n level i → slice_index_or ys i d ≡ slice_index_or xs i d

abbrev pub KeptButLast : {X : Type 0} → ℕ → ℕ → List X → List X → Type 0
KeptButLast {X} n level xs ys = (i : ℕ) (d : X) → Outside n level i → Outside n last_round i → slice_index_or ys i d ≡ slice_index_or xs i d

-- or in the rows up to a level and the last round's
abbrev pub KeptPast : {X : Type 0} → ℕ → ℕ → List X → List X → Type 0
KeptPast {X} n horizon xs ys =
    (i : ℕ) (d : X) → ((k : ℕ) → k ≤ horizon → Outside n k i) → Outside n last_round i → slice_index_or ys i d ≡ slice_index_or xs i d
