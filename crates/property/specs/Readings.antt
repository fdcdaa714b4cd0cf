-- What records stand for, read from the last record to the first, since links lead later.
use Rattle.std.specs.Prelude.{ℕ, zero, suc, ◌-◌, List, [], ◌∷◌, slice_index_or}
use Rattle.property.specs.declared.records.Record.{Record}
use Rattle.property.specs.Typed.{operand_of}

-- A record's reading is made from the record, the reading where its value leads and the reading at its next; no record reads as none.
module _ {X : Type 0} (none : X) (made : Record → X → X → X) where
  -- at a link, of the readings of the records after record i
  abbrev pub at_link : List X → ℕ → ℕ → X
  at_link later i zero = none
  at_link later i (suc k) = slice_index_or later (k - i) none

  -- of the records from record i on
  unfoldable pub readings : ℕ → List Record → List X
  readings i [] = []
  readings i (r ∷ rs) =
      made r (at_link (readings (suc i) rs) i (operand_of r.formula)) (at_link (readings (suc i) rs) i r.next) ∷ readings (suc i) rs

  -- of record k
  abbrev pub reading : List Record → ℕ → X
  reading rs k = at_link (readings 1 rs) 0 k
