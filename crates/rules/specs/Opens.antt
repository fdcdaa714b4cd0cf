-- What opening a file answers.
use Rattle.std.specs.Prelude.{◌≡◌, ℕ, List, map, Some, None, Ok, Err, vec_items, Result}
use Rattle.std.specs.List.{range_with_len}
use Rattle.rules.specs.declared.records.Atom.{Atom}
use Rattle.rules.specs.declared.records.Rule.{Rule}
use Rattle.rules.specs.declared.records.Literal.{Literal}
use Rattle.rules.specs.declared.opened.Rules.{Rules}
use Rattle.rules.specs.declared.faults.Refusal.{Refusal}
use Rattle.rules.specs.declared.faults.Refusal.TheVariants.{Faulty, Memory}
use Rattle.rules.specs.First.{first_fault}
use Rattle.rules.specs.Tables.{Tables, tables, layout_of, move_counts, atoms_in, rules_in, literals_in}
use Rattle.rules.specs.Taken.{Taken}
use Rattle.rules.specs.Typed.{atom_in, rule_in, literal_in, tables_from}

abbrev pub moves_of : Rules → List ℕ
moves_of R = vec_items R.moves

abbrev pub atoms_of : Rules → List Atom
atoms_of R = vec_items R.atoms

abbrev pub rules_of : Rules → List Rule
rules_of R = vec_items R.rules

abbrev pub literals_of : Rules → List Literal
literals_of R = vec_items R.literals

-- the words that the value stands for, by record number
abbrev pub tables_of : Rules → Tables
tables_of R = tables_from (atoms_of R) (rules_of R) (literals_of R)

-- the value holds what the bytes say
pub record Says (bs : List ℕ) (R : Rules) : Type 0 where
  pub layout : R.layout ≡ layout_of bs
  pub moves : moves_of R ≡ move_counts bs
  pub atoms : atoms_of R ≡ map (atom_in (tables (layout_of bs) bs)) (range_with_len 1 (atoms_in bs))
  pub rules : rules_of R ≡ map (rule_in (tables (layout_of bs) bs)) (range_with_len 1 (rules_in bs))
  pub literals : literals_of R ≡ map (literal_in (tables (layout_of bs) bs)) (range_with_len 1 (literals_in bs))

-- A file that is taken gives the value that it says, or finds no memory; any other gives its first fault.
abbrev pub Opens : List ℕ → Result Rules Refusal → Type 0
Opens bs (Ok R) = Taken bs × Says bs R
Opens bs (Err (Faulty f)) = (first_fault bs ≡ Some f) × (Taken bs → ⊥)
Opens bs (Err Memory) = (first_fault bs ≡ None) × Taken bs
