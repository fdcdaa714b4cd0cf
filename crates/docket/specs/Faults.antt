-- The number, layer and place of each fault of a trial: those of the fault inside it.
use Rattle.rules.specs.declared.faults.Report.{Report}
use Rattle.property.specs.Faults.{report_of as property_report}
use Rattle.play.specs.Faults.{report_of as plays_report}
use Rattle.docket.specs.Memories.{report_of as memory_report}
use Rattle.docket.specs.declared.faults.TrialFault.{TrialFault}
use Rattle.docket.specs.declared.faults.TrialFault.TheVariants.{Memory, Property, Plays}

abbrev pub report_of : TrialFault → Report
report_of (Memory shortage) = memory_report shortage
report_of (Property fault) = property_report fault
report_of (Plays fault) = plays_report fault
