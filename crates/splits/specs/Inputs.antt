-- The inputs of a part. A case is a list of settings, an entry for each fluent and then for each choice, by level and role: 0 is open, and b + 1 is settled to branch b.
use Rattle.std.specs.Prelude.{ℕ, ◌+◌, ◌-◌, ◌*◌, ◌%◌, ◌<◌, ◌≤◌, cond, List, length, nat_lt, slice_index}
use Rattle.play.specs.declared.part.Part.{Part}
use Rattle.play.specs.declared.part.Part.TheVariants.{Base, Step}

pub record Inputs : Type 0 where
  pub fluents : ℕ
  -- how many moves each role has
  pub moves : List ℕ
  pub horizon : ℕ
  pub part : Part

abbrev pub entries : Inputs → ℕ
entries s = s.fluents + length s.moves * s.horizon

-- there is a role, each role has 1 to 32 moves, and the entries are at most 96
pub record Proper (s : Inputs) : Type 0 where
  pub roles : 0 < length s.moves
  pub some : (r : ℕ) → r < length s.moves → 0 < slice_index s.moves r
  pub few : (r : ℕ) → slice_index s.moves r ≤ 32
  pub fits : entries s ≤ 96

-- The inputs are the entries from the first input on: in a base the fluents are none.
abbrev pub first_of : Part → ℕ → ℕ
first_of Base fluents = fluents
first_of Step fluents = 0

abbrev pub first_input : Inputs → ℕ
first_input s = first_of s.part s.fluents

abbrev pub IsInput : Inputs → ℕ → Type 0
IsInput s k = (first_input s ≤ k) × (k < entries s)

-- the choice of a role, counted from 1, at a level
abbrev pub IsChoice : Inputs → ℕ → ℕ → Type 0
IsChoice s role level = (0 < role) × (role ≤ length s.moves) × (level < s.horizon)

abbrev pub choice_entry : Inputs → ℕ → ℕ → ℕ
choice_entry s role level = s.fluents + (level * length s.moves + (role - 1))

-- A fluent is false or true; a choice has a branch for each move of its role.
abbrev pub branch_count : Inputs → ℕ → ℕ
branch_count s k = cond (nat_lt k s.fluents) 2 (slice_index s.moves ((k - s.fluents) % length s.moves))
