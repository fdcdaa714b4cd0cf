-- The typed records, and the words that they come from.
use Rattle.std.specs.Prelude.{ℕ, ◌-◌, cond, List, map, ◌==◌, slice_index_or}
use Rattle.std.specs.List.{range_with_len}
use Rattle.property.specs.declared.records.Formula.{Formula}
use Rattle.property.specs.declared.records.Formula.TheVariants.{Atom, Not, All, Following}
use Rattle.property.specs.declared.records.Record.{Record}
use Rattle.property.specs.Words.{Words, words_in, count_in}

-- kind 1 is an atom, 2 a not, 3 an all, 4 a following
abbrev pub formula_of : ℕ → ℕ → Formula
formula_of kind value = cond (kind == 1) (Atom value) (cond (kind == 2) (Not value) (cond (kind == 3) (All value) (Following value)))

abbrev pub record_in : Words → ℕ → Record
record_in W k = record { formula = formula_of (W.kind k) (W.value k); next = W.next k }

-- the records that the bytes say
abbrev pub records_in : List ℕ → List Record
records_in bs = map (record_in (words_in bs)) (range_with_len 1 (count_in bs))

-- what stands behind the last record: no atom, and no link
abbrev pub unused : Record
unused = record { formula = Atom 0; next = 0 }

-- record k
abbrev pub record_at : List Record → ℕ → Record
record_at rs k = slice_index_or rs (k - 1) unused

-- where a formula's value leads: to its operand, or to the first of a chain; an atom's leads nowhere
abbrev pub operand_of : Formula → ℕ
operand_of (Atom a) = 0
operand_of (Not k) = k
operand_of (All k) = k
operand_of (Following k) = k
