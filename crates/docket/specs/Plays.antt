-- Plays as bytes: what a play is written as, and which play the bytes spell.
use Rattle.std.specs.Prelude.{◌≡◌, ℕ, ◌+◌, ◌-◌, ◌*◌, Bool, true, false, List, [], ◌∷◌, ◌++◌, map, length, take, drop, replicate, ◌==◌, slice_index}
use Rattle.rules.specs.declared.opened.Rules.{Rules}
use Rattle.rules.specs.Opens.{moves_of}
use Rattle.evaluate.specs.Positions.{fluents, Position, Joint}
use Rattle.evaluate.specs.Showing.{numbers}
use Rattle.play.specs.Parts.{Play}

abbrev pub flag : Bool → ℕ
flag true = 1
flag false = 0

-- byte i of play k
abbrev pub play_byte : List ℕ → ℕ → ℕ → ℕ
play_byte bs k i = slice_index bs (96 * k + i)

abbrev pub byte_is : List ℕ → (i byte k : ℕ) → Bool
byte_is bs i byte k = play_byte bs k i == byte

-- the move numbers of each level, by role
abbrev pub all_numbers : {ns : List ℕ} → List (Joint ns) → List ℕ
all_numbers [] = []
all_numbers (A ∷ μ) = numbers A ++ all_numbers μ

-- a play: its start, a byte for each fluent, and its move numbers; then zeros up to 96 bytes
abbrev pub written : {ns : List ℕ} → Play Position (Joint ns) → List ℕ
written play = map flag play.start ++ all_numbers play.joints

abbrev pub padded : List ℕ → List ℕ
padded bs = bs ++ replicate (96 - length bs) 0

-- Play k of the bytes is this play over H levels.
pub record Spells (R : Rules) (H : ℕ) (bs : List ℕ) (k : ℕ) (play : Play Position (Joint (moves_of R))) : Type 0 where
  pub fluents_each : length play.start ≡ fluents R
  pub levels : length play.joints ≡ H
  pub bytes : take 96 (drop (96 * k) bs) ≡ padded (written play)
