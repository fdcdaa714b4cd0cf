-- When a property file is refused: the checks in their order, each with the fault that it finds, or none.
use Rattle.std.specs.Prelude.{ℕ, ◌+◌, ◌-◌, ◌*◌, ◌%◌, Bool, true, false, ◌&&◌, List, [], ◌∷◌, length, Option, ◌==◌, nat_le, slice_index_or}
use Rattle.std.specs.List.{range_with_len}
use Rattle.rules.specs.declared.opened.Rules.{Rules}
use Rattle.rules.specs.declared.records.Mark.{Mark}
use Rattle.rules.specs.declared.records.Mark.TheVariants.{Still, Dependent, Initial}
use Rattle.rules.specs.First.{unless, or_else, first, within, next_fits}
use Rattle.rules.specs.Opens.{atoms_of}
use Rattle.rules.specs.Typed.{no_atom}
use Rattle.property.specs.declared.faults.Fault.{Fault}
use Rattle.property.specs.declared.faults.Fault.TheVariants.{Length, Word, Degree}
use Rattle.property.specs.declared.records.Formula.{Formula}
use Rattle.property.specs.declared.records.Formula.TheVariants.{Atom, Not, All, Following}
use Rattle.property.specs.Degrees.{degree_of}
use Rattle.property.specs.Typed.{formula_of, records_in}
use Rattle.property.specs.Words.{Words, words_in, count_in, record_word}

-- What each word must be.

-- moves do not matter to a still atom
abbrev pub still : Mark → Bool
still Still = true
still Dependent = false
still Initial = true

abbrev pub still_atom : Rules → ℕ → Bool
still_atom R a = within 1 R.layout.atoms a && still (slice_index_or (atoms_of R) (a - 1) no_atom).mark

abbrev pub kind_fits : ℕ → Bool
kind_fits kind = within 1 4 kind

-- Of record k of n: an atom's value is a still atom; that of a not or a following, a later record; that of an all, 0 or a later record.
abbrev pub value_fits : Rules → ℕ → ℕ → Formula → Bool
value_fits R n k (Atom a) = still_atom R a
value_fits R n k (Not i) = within (k + 1) n i
value_fits R n k (All i) = next_fits k n i
value_fits R n k (Following i) = within (k + 1) n i

-- The checks.

-- 1 to 64 records of 6 bytes
abbrev pub wrong_length : List ℕ → Option Fault
wrong_length bs = unless (within 6 384 (length bs) && length bs % 6 == 0) (Length (length bs))

-- the words of record k of n, in their order
abbrev pub record_fault : Rules → ℕ → Words → ℕ → Option Fault
record_fault R n W k =
    or_else (unless (kind_fits (W.kind k)) (Word (2 * record_word k 0)))
    (or_else (unless (value_fits R n k (formula_of (W.kind k) (W.value k))) (Word (2 * record_word k 1)))
    (unless (next_fits k n (W.next k)) (Word (2 * record_word k 2))))

abbrev pub wrong_word : Rules → List ℕ → Option Fault
wrong_word R bs = first (record_fault R (count_in bs) (words_in bs)) (range_with_len 1 (count_in bs))

abbrev pub wrong_degree : List ℕ → Option Fault
wrong_degree bs = unless (nat_le (degree_of (records_in bs)) 3) Degree

-- The first fault of a file in checking order, or none.
abbrev pub first_fault : Rules → List ℕ → Option Fault
first_fault R bs = first (λ fault. fault) (wrong_length bs ∷ wrong_word R bs ∷ wrong_degree bs ∷ [])
