-- What lent memories hold when a call has ended.
use Rattle.std.specs.Prelude.{◌≡◌, ℕ, ◌<◌, List, length, slice_index, slice_index_or}
use Rattle.truth.specs.Forms.{only_no, Meaning}
use Rattle.splits.specs.declared.cases.Case.{Case}

-- bytes that are zero
abbrev pub Zeroed : List ℕ → Type 0
Zeroed bs = (k : ℕ) → k < length bs → slice_index bs k ≡ 0

-- values that allow only no in every world
abbrev pub AllNo : {V World : Type 0} → (V → Meaning World) → List V → Type 0
AllNo {V} {World} means vs = (k : ℕ) (d : V) → k < length vs → (w : World) → means (slice_index_or vs k d) w ≡ only_no

-- case records that are zero
abbrev pub zero_case : Case
zero_case = record { input = 0; branch = 0; number = 0 }

abbrev pub Blank : List Case → Type 0
Blank cs = (k : ℕ) → k < length cs → slice_index_or cs k zero_case ≡ zero_case
