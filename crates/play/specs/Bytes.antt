-- Plays as bytes: each is 96 bytes, the start as one byte 0 or 1 for each fluent, then move numbers from 1 by level and role, then zeros.
use Rattle.std.specs.Prelude.{ℕ, ◌+◌, ◌-◌, ◌*◌, ◌%◌, Bool, cond, ◌&&◌, List, [], ◌∷◌, length, Option, ◌==◌, nat_le, nat_lt, slice_index, slice_index_or}
use Rattle.std.specs.List.{range_with_len}
use Rattle.rules.specs.declared.opened.Rules.{Rules}
use Rattle.rules.specs.declared.records.Mark.{Mark}
use Rattle.rules.specs.declared.records.Mark.TheVariants.{Still, Dependent, Initial}
use Rattle.rules.specs.First.{first, unless, within}
use Rattle.rules.specs.Opens.{moves_of, atoms_of}
use Rattle.rules.specs.Typed.{no_atom}
use Rattle.play.specs.declared.faults.Fault.{Fault}
use Rattle.play.specs.declared.faults.Fault.TheVariants.{Length, Byte}
use Rattle.play.specs.declared.part.Part.{Part}
use Rattle.play.specs.declared.part.Part.TheVariants.{Base, Step}

abbrev pub play_size : ℕ
play_size = 96

-- the byte of a fluent in the initial position
abbrev pub initial_byte : Mark → ℕ
initial_byte Initial = 1
initial_byte Still = 0
initial_byte Dependent = 0

-- the start of a base is the initial position, that of a step any position
abbrev pub start_fits : Part → Mark → ℕ → Bool
start_fits Base m b = b == initial_byte m
start_fits Step m b = nat_le b 1

-- the role whose move stands at byte i of a play
abbrev pub role_at : Rules → ℕ → ℕ
role_at R i = (i - R.layout.fluents) % R.layout.roles

-- byte i of a play over H levels
abbrev pub byte_fits : Rules → Part → ℕ → ℕ → ℕ → Bool
byte_fits R part H i b =
    cond (nat_lt i R.layout.fluents) (start_fits part (slice_index_or (atoms_of R) i no_atom).mark b)
    (cond (nat_lt i (R.layout.fluents + R.layout.roles * H)) (within 1 (slice_index (moves_of R) (role_at R i)) b) (b == 0))

-- 1 to 64 plays
abbrev pub wrong_length : List ℕ → Option Fault
wrong_length bs = unless (within 96 6144 (length bs) && length bs % 96 == 0) (Length (length bs))

abbrev pub byte_fault : Rules → Part → ℕ → List ℕ → ℕ → Option Fault
byte_fault R part H bs j = unless (byte_fits R part H (j % 96) (slice_index bs j)) (Byte j)

-- The first fault of plays for a part over H levels, or none.
abbrev pub first_fault : Rules → Part → ℕ → List ℕ → Option Fault
first_fault R part H bs = first (λ fault. fault) (wrong_length bs ∷ first (byte_fault R part H bs) (range_with_len 0 (length bs)) ∷ [])
