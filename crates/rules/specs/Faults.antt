-- The number, layer and place of each fault of a rule file. A place is an offset in bytes, or the file's length.
use Rattle.std.specs.Prelude.{ℕ}
use Rattle.rules.specs.declared.faults.Fault.{Fault}
use Rattle.rules.specs.declared.faults.Fault.TheVariants.{TooShort, Version, Count, Length, MoveCount, FewAtoms, AtomWord, RuleWord, LiteralWord, Condition}
use Rattle.rules.specs.declared.faults.Report.{Report}

-- layer 1 is the rule file
abbrev pub numbered : ℕ → ℕ → Report
numbered n p = record { number = n; layer = 1; place = p }

abbrev pub report_of : Fault → Report
report_of (TooShort length) = numbered 1 length
report_of Version = numbered 2 0
report_of (Count place) = numbered 3 place
report_of (Length length) = numbered 4 length
report_of (MoveCount place) = numbered 5 place
report_of FewAtoms = numbered 5 6
report_of (AtomWord place) = numbered 6 place
report_of (RuleWord place) = numbered 7 place
report_of (LiteralWord place) = numbered 8 place
report_of (Condition head place) = numbered 9 place
