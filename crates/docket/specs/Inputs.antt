-- The inputs of up to 64 plays as wide values, world k for play k: each is just the answer of that play, and no in the worlds past the
-- last play.
use Rattle.std.specs.Prelude.{◌≡◌, ℕ, ◌+◌, ◌*◌, ◌<◌, ◌≤◌, ◌&&◌, List, length, ◌≢◌, nat_lt, slice_index_or}
use Rattle.truth.specs.Forms.{only_no, Meaning}
use Rattle.truth.specs.Wide.{Place, means}
use Rattle.truth.specs.declared.wide.Wide.{Wide}
use Rattle.rules.specs.declared.opened.Rules.{Rules}
use Rattle.rules.specs.Opens.{moves_of}
use Rattle.evaluate.specs.Claims.{just}
use Rattle.evaluate.specs.Grids.{place}
use Rattle.evaluate.specs.Positions.{fluents, choices, does_at}
use Rattle.docket.specs.Choices.{choice_of}
use Rattle.docket.specs.Plays.{byte_is}

-- the play starts with fluent f
abbrev pub starting : List ℕ → (count f : ℕ) → Meaning Place
starting bs count f w = just (nat_lt w.at count && byte_is bs f 1 w.at)

-- where the move of a role at a level stands in a play
abbrev pub move_byte : Rules → (level role : ℕ) → ℕ
move_byte R level role = fluents R + R.layout.roles * level + role

-- the play makes move c at a level
abbrev pub doing : Rules → List ℕ → (count level c : ℕ) → Meaning Place
doing R bs count level c w =
    just (nat_lt w.at count && byte_is bs (move_byte R level (choice_of (moves_of R) c).role) (choice_of (moves_of R) c).number w.at)

-- place i is that of no does atom of a level
abbrev pub BesideMoves : Rules → ℕ → ℕ → Type 0
BesideMoves R level i = (c : ℕ) → c < choices R → i ≢ place level (does_at R c)

-- nor that of a fluent at level 0
abbrev pub BesideInputs : Rules → ℕ → ℕ → Type 0
BesideInputs R horizon i = (fluents R ≤ i) × ((j : ℕ) → j < horizon → BesideMoves R j i)

abbrev pub AllNoBeside : Rules → ℕ → List Wide → Type 0
AllNoBeside R horizon vs = (i : ℕ) (d : Wide) → i < length vs → BesideInputs R horizon i → (w : Place) → means (slice_index_or vs i d) w ≡ only_no
