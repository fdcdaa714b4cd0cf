-- The bytes of a property on a docket.
use Rattle.std.specs.Prelude.{ℕ, List}
use Rattle.arrayvec.specs.ArrayVec.{ArrayVec}
use Rattle.property.specs.declared.records.Record.{Record}
use Rattle.property.specs.Typed.{records_in}

-- the records that they say
abbrev pub text_records : ArrayVec ℕ → List Record
text_records t = records_in t.items
