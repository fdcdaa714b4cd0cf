-- The theorem about plays as bytes.
use Rattle.std.specs.Prelude.{◌≡◌, ℕ, ◌/◌, ◌<◌, ◌≤◌, List, length, None}
use Rattle.rules.specs.declared.opened.Rules.{Rules}
use Rattle.rules.specs.Opens.{moves_of}
use Rattle.evaluate.specs.Positions.{Position, Joint}
use Rattle.play.specs.declared.part.Part.{Part}
use Rattle.play.specs.Bytes.{first_fault}
use Rattle.play.specs.Parts.{Play}
use Rattle.docket.specs.Plays.{Spells}

pub record SpellsOne (R : Rules) (H : ℕ) (bs : List ℕ) (k : ℕ) : Type 0 where
  pub play : Play Position (Joint (moves_of R))
  pub this : Spells R H bs k play
  pub only : (q : Play Position (Joint (moves_of R))) → Spells R H bs k q → q ≡ play

-- Bytes that pass the check, over at most four levels, spell exactly one play at each of their places.
abbrev pub PlaysAreSpelled : Type 0
PlaysAreSpelled =
    (R : Rules) (part : Part) (H : ℕ) (bs : List ℕ) → H ≤ 4 → first_fault R part H bs ≡ None
    → (k : ℕ) → k < length bs / 96 → SpellsOne R H bs k
