-- What a rule file holds, as tables of words by record number. Records of a kind are numbered from 1.
use Rattle.std.specs.Prelude.{ℕ, ◌+◌, ◌-◌, ◌*◌, List, [], ◌∷◌, map}
use Rattle.std.specs.List.{range_with_len}
use Rattle.rules.specs.Words.{word}
use Rattle.rules.specs.declared.layout.Layout.{Layout}

abbrev pub total : List ℕ → ℕ
total [] = 0
total (n ∷ ns) = n + total ns

-- Six header words, the move counts, and the records of atoms, rules and literals.
abbrev pub header_words : ℕ
header_words = 6

abbrev pub fluents_in : List ℕ → ℕ
fluents_in bs = word bs 1

abbrev pub roles_in : List ℕ → ℕ
roles_in bs = word bs 2

abbrev pub atoms_in : List ℕ → ℕ
atoms_in bs = word bs 3

abbrev pub rules_in : List ℕ → ℕ
rules_in bs = word bs 4

abbrev pub literals_in : List ℕ → ℕ
literals_in bs = word bs 5

-- the move counts, by role
abbrev pub move_counts : List ℕ → List ℕ
move_counts bs = map (λ r. word bs (6 + r)) (range_with_len 0 (roles_in bs))

abbrev pub moves_in : List ℕ → ℕ
moves_in bs = total (move_counts bs)

abbrev pub layout_of : List ℕ → Layout
layout_of bs = record {
  fluents = fluents_in bs;
  roles = roles_in bs;
  atoms = atoms_in bs;
  rules = rules_in bs;
  literals = literals_in bs;
  moves = moves_in bs;
}

-- where the records of each kind begin, and how many words there are, for R roles, A atoms, Q rules and L literals
abbrev pub atoms_at : Layout → ℕ
atoms_at y = 6 + y.roles

abbrev pub rules_at : Layout → ℕ
rules_at y = 6 + y.roles + 3 * y.atoms

abbrev pub literals_at : Layout → ℕ
literals_at y = 6 + y.roles + 3 * y.atoms + 2 * y.rules

abbrev pub words_of : Layout → ℕ
words_of y = 6 + y.roles + 3 * y.atoms + 2 * y.rules + 3 * y.literals

-- the index of word i of a record, by the record's number
abbrev pub atom_word : Layout → ℕ → ℕ → ℕ
atom_word y a i = atoms_at y + 3 * (a - 1) + i

abbrev pub rule_word : Layout → ℕ → ℕ → ℕ
rule_word y r i = rules_at y + 2 * (r - 1) + i

abbrev pub literal_word : Layout → ℕ → ℕ → ℕ
literal_word y l i = literals_at y + 3 * (l - 1) + i

-- An atom record is stratum, mark, first rule; a rule record next rule, first literal; a literal record atom, sign, next literal.
pub record Tables : Type 0 where
  pub stratum : ℕ → ℕ
  pub mark : ℕ → ℕ
  pub first_rule : ℕ → ℕ
  pub next_rule : ℕ → ℕ
  pub first_literal : ℕ → ℕ
  pub names : ℕ → ℕ
  pub sign : ℕ → ℕ
  pub next_literal : ℕ → ℕ

abbrev pub tables : Layout → List ℕ → Tables
tables y bs = record {
  stratum = λ a. word bs (atom_word y a 0);
  mark = λ a. word bs (atom_word y a 1);
  first_rule = λ a. word bs (atom_word y a 2);
  next_rule = λ r. word bs (rule_word y r 0);
  first_literal = λ r. word bs (rule_word y r 1);
  names = λ l. word bs (literal_word y l 0);
  sign = λ l. word bs (literal_word y l 1);
  next_literal = λ l. word bs (literal_word y l 2);
}
