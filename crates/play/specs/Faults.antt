-- The number, layer and place of each fault of plays. Layer 8 is the plays.
use Rattle.rules.specs.declared.faults.Report.{Report}
use Rattle.play.specs.declared.faults.Fault.{Fault}
use Rattle.play.specs.declared.faults.Fault.TheVariants.{Length, Byte}

abbrev pub report_of : Fault → Report
report_of (Length length) = record { number = 23; layer = 8; place = length }
report_of (Byte place) = record { number = 24; layer = 8; place = place }
