-- The typed records, and the words that they stand for.
use Rattle.std.specs.Prelude.{◌≡◌, ℕ, zero, suc, ◌+◌, ◌-◌, ◌*◌, ◌<◌, ◌≤◌, true, List, length, slice_index, slice_index_or}
use Rattle.rules.specs.declared.layout.Layout.{Layout}
use Rattle.rules.specs.declared.records.Atom.{Atom}
use Rattle.rules.specs.declared.records.Rule.{Rule}
use Rattle.rules.specs.declared.records.Literal.{Literal}
use Rattle.rules.specs.declared.records.Mark.{Mark}
use Rattle.rules.specs.declared.records.Mark.TheVariants.{Still, Dependent, Initial}
use Rattle.rules.specs.declared.records.Sign.{Sign}
use Rattle.rules.specs.declared.records.Sign.TheVariants.{Plain, Negated}
use Rattle.rules.specs.First.{within, count_fits}
use Rattle.rules.specs.Tables.{Tables, total}

-- the word of each mark and sign
abbrev pub mark_word : Mark → ℕ
mark_word Still = 0
mark_word Dependent = 1
mark_word Initial = 2

abbrev pub sign_word : Sign → ℕ
sign_word Plain = 0
sign_word Negated = 1

abbrev pub mark_of : ℕ → Mark
mark_of zero = Still
mark_of (suc zero) = Dependent
mark_of (suc (suc n)) = Initial

abbrev pub sign_of : ℕ → Sign
sign_of zero = Plain
sign_of (suc n) = Negated

-- the record with each number, by the words that the tables hold
abbrev pub atom_in : Tables → ℕ → Atom
atom_in T a = record { stratum = T.stratum a; mark = mark_of (T.mark a); first = T.first_rule a }

abbrev pub rule_in : Tables → ℕ → Rule
rule_in T r = record { next = T.next_rule r; first = T.first_literal r }

abbrev pub literal_in : Tables → ℕ → Literal
literal_in T l = record { atom = T.names l; sign = sign_of (T.sign l); next = T.next_literal l }

abbrev pub no_atom : Atom
no_atom = record { stratum = 0; mark = Still; first = 0 }

abbrev pub no_rule : Rule
no_rule = record { next = 0; first = 0 }

abbrev pub no_literal : Literal
no_literal = record { atom = 0; sign = Plain; next = 0 }

-- the tables of typed records
abbrev pub tables_from : List Atom → List Rule → List Literal → Tables
tables_from as' rs ls = record {
  stratum = λ a. (slice_index_or as' (a - 1) no_atom).stratum;
  mark = λ a. mark_word (slice_index_or as' (a - 1) no_atom).mark;
  first_rule = λ a. (slice_index_or as' (a - 1) no_atom).first;
  next_rule = λ r. (slice_index_or rs (r - 1) no_rule).next;
  first_literal = λ r. (slice_index_or rs (r - 1) no_rule).first;
  names = λ l. (slice_index_or ls (l - 1) no_literal).atom;
  sign = λ l. sign_word (slice_index_or ls (l - 1) no_literal).sign;
  next_literal = λ l. (slice_index_or ls (l - 1) no_literal).next;
}

-- as many of each as the header says
abbrev pub Shaped : Layout → List ℕ → List Atom → List Rule → List Literal → Type 0
Shaped y ms as' rs ls =
    (y.roles ≡ length ms) × (y.moves ≡ total ms) × (y.atoms ≡ length as') × (y.rules ≡ length rs) × (y.literals ≡ length ls)

-- the counts of the header are inside their limits, and there are atoms enough
abbrev pub Counted : Layout → Type 0
Counted y =
    (count_fits 1 y.fluents ≡ true) × (count_fits 2 y.roles ≡ true) × (count_fits 3 y.atoms ≡ true)
    × (count_fits 4 y.rules ≡ true) × (count_fits 5 y.literals ≡ true)

abbrev pub Enough : Layout → Type 0
Enough y = 2 * y.fluents + 2 * y.moves + 1 ≤ y.atoms

-- each role has 1 to 32 moves
abbrev pub Moving : List ℕ → Type 0
Moving ms = (r : ℕ) → r < length ms → within 1 32 (slice_index ms r) ≡ true
