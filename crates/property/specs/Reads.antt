-- What reading a file answers.
use Rattle.std.specs.Prelude.{◌≡◌, ℕ, ◌<◌, ◌≤◌, List, [], ◌∷◌, length, Ok, Err, Result}
use Rattle.rules.specs.declared.opened.Rules.{Rules}
use Rattle.property.specs.declared.faults.Fault.{Fault}
use Rattle.property.specs.declared.properties.Property.{Property}
use Rattle.property.specs.declared.records.Formula.TheVariants.{Atom, All}
use Rattle.property.specs.declared.records.Record.{Record}
use Rattle.property.specs.Paths.{formula_at}
use Rattle.property.specs.Taken.{Taken, StillAtom}
use Rattle.property.specs.Typed.{records_in}
use Rattle.property.specs.Words.{count_in}

abbrev pub records_of : Property → List Record
records_of p = p.records.items

-- one record: all of an empty chain
abbrev pub all_of_nothing : List Record
all_of_nothing = record { formula = All 0; next = 0 } ∷ []

-- the records of a property that was read
abbrev pub contents : Result Property Fault → Result (List Record) Fault
contents (Ok p) = Ok (records_of p)
contents (Err f) = Err f

-- the value holds what the bytes say
pub record Says (bs : List ℕ) (p : Property) : Type 0 where
  pub count : length (records_of p) ≡ count_in bs
  pub records : records_of p ≡ records_in bs

-- each atom in the records is a still atom of the rule file
abbrev pub Fits : Rules → List Record → Type 0
Fits R rs = (k a : ℕ) → 0 < k → k ≤ length rs → formula_at rs k ≡ Atom a → StillAtom R a

-- A file that is taken gives the value that it says; any other is refused.
abbrev pub Reads : Rules → List ℕ → Result Property Fault → Type 0
Reads R bs (Ok p) = Taken R bs × Says bs p × Fits R (records_of p)
Reads R bs (Err f) = Taken R bs → ⊥
