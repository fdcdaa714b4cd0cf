-- The memories that a caller lends, numbered from 1: settings, values, case records, and the play buffer where a call has one.
use Rattle.std.specs.Prelude.{ℕ, [], ◌∷◌, Option, nat_le}
use Rattle.rules.specs.declared.faults.Report.{Report}
use Rattle.rules.specs.First.{first, or_else, unless}
use Rattle.docket.specs.declared.memories.Shortage.{Shortage}
use Rattle.docket.specs.declared.memories.Shortage.TheVariants.{Settings, Values, Cases, Buffer}

-- Number, layer and place: layer 2 is the memories, and the place is the memory's number.
abbrev pub numbered : ℕ → Report
numbered place = record { number = 10; layer = 2; place = place }

abbrev pub report_of : Shortage → Report
report_of Settings = numbered 1
report_of Values = numbered 2
report_of Cases = numbered 3
report_of Buffer = numbered 4

-- of so many bytes, values and case records, the first that are too few
abbrev pub short_memory : (settings values cases : ℕ) → Option Shortage
short_memory settings values cases =
    first (λ fault. fault) (unless (nat_le 96 settings) Settings ∷ unless (nat_le 3392 values) Values ∷ unless (nat_le 97 cases) Cases ∷ [])

abbrev pub short_memory_or_buffer : (settings values cases buffer : ℕ) → Option Shortage
short_memory_or_buffer settings values cases buffer = or_else (short_memory settings values cases) (unless (nat_le 96 buffer) Buffer)
