-- The number, layer and place of each fault of a property file. A place is an offset in bytes, or the file's length.
use Rattle.std.specs.Prelude.{ℕ}
use Rattle.rules.specs.declared.faults.Report.{Report}
use Rattle.property.specs.declared.faults.Fault.{Fault}
use Rattle.property.specs.declared.faults.Fault.TheVariants.{Length, Word, Degree}

-- layer 3 is the property
abbrev pub numbered : ℕ → ℕ → Report
numbered n p = record { number = n; layer = 3; place = p }

abbrev pub report_of : Fault → Report
report_of (Length length) = numbered 11 length
report_of (Word place) = numbered 12 place
report_of Degree = numbered 13 0
