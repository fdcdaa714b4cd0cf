-- The number, layer and place of each fault of a split file. A place is an offset in bytes, or the file's length.
use Rattle.std.specs.Prelude.{ℕ}
use Rattle.rules.specs.declared.faults.Report.{Report}
use Rattle.play.specs.declared.part.Part.{Part}
use Rattle.play.specs.declared.part.Part.TheVariants.{Base, Step}
use Rattle.splits.specs.declared.records.RecordFault.{RecordFault}
use Rattle.splits.specs.declared.records.RecordFault.TheVariants.{Kind, Number, Level}
use Rattle.splits.specs.declared.faults.WalkFault.{WalkFault}
use Rattle.splits.specs.declared.faults.WalkFault.TheVariants.{Length, PastEnd, OfRecord, NotClosed, Next, LeftOver}

-- layer 5 is the base file, layer 6 the step file
abbrev pub layer_of : Part → ℕ
layer_of Base = 5
layer_of Step = 6

abbrev pub numbered : Part → ℕ → ℕ → Report
numbered part n p = record { number = n; layer = layer_of part; place = p }

abbrev pub place_of : RecordFault → ℕ
place_of (Kind place) = place
place_of (Number place) = place
place_of (Level place) = place

abbrev pub report_of : Part → WalkFault → Report
report_of part (Length length) = numbered part 16 length
report_of part (PastEnd length) = numbered part 17 length
report_of part (OfRecord fault) = numbered part 18 (place_of fault)
report_of part (NotClosed place) = numbered part 19 place
report_of part (Next place) = numbered part 20 place
report_of part (LeftOver place) = numbered part 21 place

-- layer 7 is the output area
abbrev pub too_small_report : Report
too_small_report = record { number = 22; layer = 7; place = 0 }
