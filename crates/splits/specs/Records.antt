-- What the records of a split file say, each in its case.
use Rattle.std.specs.Prelude.{ℕ, ◌+◌, ◌-◌, ◌*◌, ◌/◌, ◌%◌, ◌<◌, ◌≤◌, cond, List, [], ◌∷◌, length, Some, None, Ok, Err, Option, Result, ◌==◌, nat_lt, slice_index}
use Rattle.rules.specs.Words.{word_from as word}
use Rattle.splits.specs.Inputs.{Inputs, IsChoice, choice_entry}
use Rattle.play.specs.declared.part.Part.{Part}
use Rattle.play.specs.declared.part.Part.TheVariants.{Base, Step}
use Rattle.splits.specs.declared.records.Record.{Record}
use Rattle.splits.specs.declared.records.Record.TheVariants.{Close, Fluent, Choice}
use Rattle.splits.specs.declared.records.RecordFault.{RecordFault}
use Rattle.splits.specs.declared.records.RecordFault.TheVariants.{Kind, Number, Level}

-- The words of a record: kind, number, level, and its next.
abbrev pub kind_of : Record → ℕ
kind_of Close = 0
kind_of (Fluent number) = 1
kind_of (Choice role level) = 2

abbrev pub number_of : Record → ℕ
number_of Close = 0
number_of (Fluent number) = number
number_of (Choice role level) = role

abbrev pub level_of : Record → ℕ
level_of Close = 0
level_of (Fluent number) = 0
level_of (Choice role level) = level

abbrev pub record_words : Record → ℕ → List ℕ
record_words r next = kind_of r ∷ number_of r ∷ level_of r ∷ next ∷ []

-- the entry of the input that a record splits, if it splits one
abbrev pub split_input : Inputs → Record → Option ℕ
split_input s Close = None
split_input s (Fluent number) = Some (number - 1)
split_input s (Choice role level) = Some (choice_entry s role level)

-- the record that splits the input at an entry
abbrev pub split_record : Inputs → ℕ → Record
split_record s k =
    cond (nat_lt k s.fluents) (Fluent (k + 1))
    (Choice ((k - s.fluents) % length s.moves + 1) ((k - s.fluents) / length s.moves))

-- the fluent or choice is there
abbrev pub IsRecord : Inputs → Record → Type 0
IsRecord s Close = Unit {0}
IsRecord s (Fluent number) = (0 < number) × (number ≤ s.fluents)
IsRecord s (Choice role level) = IsChoice s role level

-- Record i, counted from 0, of the file bs in the case c, by its kind. The first word that breaks its rule is the fault.
abbrev pub closing : List ℕ → ℕ → Result Record RecordFault
closing bs i =
    cond (word bs (8 * i + 2) == 0)
    (cond (word bs (8 * i + 4) == 0) (Ok Close) (Err (Level (8 * i + 4))))
    (Err (Number (8 * i + 2)))

abbrev pub of_fluent : Inputs → List ℕ → List ℕ → ℕ → Result Record RecordFault
of_fluent s bs c i =
    cond (word bs (8 * i + 2) == 0) (Err (Number (8 * i + 2)))
    (cond (nat_lt s.fluents (word bs (8 * i + 2))) (Err (Number (8 * i + 2)))
    (cond (slice_index c (word bs (8 * i + 2) - 1) == 0)
    (cond (word bs (8 * i + 4) == 0) (Ok (Fluent (word bs (8 * i + 2)))) (Err (Level (8 * i + 4))))
    (Err (Number (8 * i + 2)))))

abbrev pub of_choice : Inputs → List ℕ → List ℕ → ℕ → Result Record RecordFault
of_choice s bs c i =
    cond (word bs (8 * i + 2) == 0) (Err (Number (8 * i + 2)))
    (cond (nat_lt (length s.moves) (word bs (8 * i + 2))) (Err (Number (8 * i + 2)))
    (cond (nat_lt (word bs (8 * i + 4)) s.horizon)
    (cond (slice_index c (choice_entry s (word bs (8 * i + 2)) (word bs (8 * i + 4))) == 0)
    (Ok (Choice (word bs (8 * i + 2)) (word bs (8 * i + 4))))
    (Err (Number (8 * i + 2))))
    (Err (Level (8 * i + 4)))))

-- a fluent is split in a step only
abbrev pub if_step : Part → Result Record RecordFault → Result Record RecordFault → Result Record RecordFault
if_step Base there else_fault = else_fault
if_step Step there else_fault = there

abbrev pub record_at : Inputs → List ℕ → List ℕ → ℕ → Result Record RecordFault
record_at s bs c i =
    cond (word bs (8 * i) == 0) (closing bs i)
    (cond (word bs (8 * i) == 1) (if_step s.part (of_fluent s bs c i) (Err (Kind (8 * i))))
    (cond (word bs (8 * i) == 2) (of_choice s bs c i) (Err (Kind (8 * i)))))
