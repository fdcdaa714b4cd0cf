-- What values hold: the levels of a play in rows, and behind them a table, the values of a property's records by level.
use Rattle.std.specs.Prelude.{◌≡◌, ℕ, ◌+◌, ◌-◌, ◌*◌, ◌<◌, ◌≤◌, ◌⊎◌, List, map, length, slice_index_or}
use Rattle.rules.specs.declared.opened.Rules.{Rules}
use Rattle.rules.specs.Opens.{atoms_of}
use Rattle.evaluate.specs.Evaluate.{Ops, look}
use Rattle.evaluate.specs.Grids.{row}
use Rattle.property.specs.declared.properties.Property.{Property}
use Rattle.property.specs.declared.records.Record.{Record}
use Rattle.property.specs.Reads.{records_of}
use Rattle.property.specs.Trees.{Property as Tree, property_of, reading_at}
use Rattle.parts.specs.Values.{value}

abbrev pub tree_of : Property → Tree
tree_of p = property_of (records_of p)

-- the place of record k, from 1, at a level of a table: 64 records at each of five levels
abbrev pub place_in_table : ℕ → ℕ → ℕ
place_in_table level k = 64 * level + (k - 1)

-- where the table begins and ends, behind the rows
abbrev pub table_start : ℕ
table_start = 3072

abbrev pub table_end : ℕ
table_end = 3392

abbrev pub Spacious : {X : Type 0} → List X → Type 0
Spacious xs = table_end ≤ length xs

-- ys has what xs has, but in the table
abbrev pub KeptBesideTable : {X : Type 0} → List X → List X → Type 0
KeptBesideTable {X} xs ys = (i : ℕ) (d : X) → (i < table_start) ⊎ (table_end ≤ i) → slice_index_or ys i d ≡ slice_index_or xs i d

-- tables: but in the entries of a level
abbrev pub KeptBesideLevel : {X : Type 0} → ℕ → List X → List X → Type 0
KeptBesideLevel {X} level xs ys = (i : ℕ) (d : X) → (i < place_in_table level 1) ⊎ (place_in_table (level + 1) 1 ≤ i) → slice_index_or ys i d ≡ slice_index_or xs i d

module _ {X V : Type 0} (means : X → V) (R : Rules) (xs : List X) where
  -- the row of a level means the values that L has
  abbrev pub LevelIn : (ℕ → List V) → ℕ → Type 0
  LevelIn L level = map means (row (length (atoms_of R)) xs level) ≡ L level

  abbrev pub LevelsIn : (ℕ → List V) → ℕ → Type 0
  LevelsIn L horizon = (level : ℕ) → level ≤ horizon → LevelIn L level

module _ {X V : Type 0} (o : Ops V) (means : X → V) (R : Rules) (rs : List Record) (L : ℕ → List V) (xs : List X) where
  -- the entry of record k means the value of the property that the record stands for
  abbrev pub Entered : (level left k : ℕ) → Type 0
  Entered level left k = look o (map means xs) (place_in_table level k) ≡ value o R L (reading_at rs k).whole level left

  -- so do those of the records behind record i
  abbrev pub FilledBehind : (level left i : ℕ) → Type 0
  FilledBehind level left i = (k : ℕ) → i < k → k ≤ length rs → Entered level left k

  -- and of all records, at the levels from this one up to the horizon
  abbrev pub FilledFrom : (level horizon : ℕ) → Type 0
  FilledFrom level horizon = (j : ℕ) → level ≤ j → j ≤ horizon → FilledBehind j (horizon - j) 0
