-- The records of a kind stand in a row, inside the file.
use Rattle.std.specs.Prelude.{◌≡◌, ℕ, ◌+◌, ◌-◌, ◌*◌, ◌<◌, ◌≤◌}
use Rattle.std.proofs.Common.{arith, refl}
use Rattle.rules.specs.declared.layout.Layout.{Layout}
use Rattle.rules.specs.Tables.{words_of, atoms_at, rules_at, literals_at, atom_word, rule_word, literal_word}

pub atom_in_row : (y : Layout) (a i : ℕ) → 0 < a → a ≤ y.atoms → i < 3 → (atom_word y a i ≡ atoms_at y + 3 * (a - 1) + i) × (atom_word y a i < words_of y)
atom_in_row y a i above within part = (refl, omega arith)

pub rule_in_row : (y : Layout) (r i : ℕ) → 0 < r → r ≤ y.rules → i < 2 → (rule_word y r i ≡ rules_at y + 2 * (r - 1) + i) × (rule_word y r i < words_of y)
rule_in_row y r i above within part = (refl, omega arith)

pub literal_in_row : (y : Layout) (l i : ℕ) → 0 < l → l ≤ y.literals → i < 3 → (literal_word y l i ≡ literals_at y + 3 * (l - 1) + i) × (literal_word y l i < words_of y)
literal_in_row y l i above within part = (refl, omega arith)
