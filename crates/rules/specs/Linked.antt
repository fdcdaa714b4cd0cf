-- What the words of records that passed their checks give: links stay within the file and lead later.
use Rattle.std.specs.Prelude.{ℕ, ◌<◌, ◌≤◌}
use Rattle.rules.specs.declared.layout.Layout.{Layout}
use Rattle.rules.specs.Chains.{Later}
use Rattle.rules.specs.Tables.{Tables}

pub record Linked (y : Layout) (T : Tables) : Type 0 where
  pub first_rules : (a : ℕ) → 0 < a → a ≤ y.atoms → T.first_rule a ≤ y.rules
  pub next_rules : Later T.next_rule y.rules
  pub first_literals : (r : ℕ) → 0 < r → r ≤ y.rules → T.first_literal r ≤ y.literals
  pub next_literals : Later T.next_literal y.literals
  pub named : (l : ℕ) → 0 < l → l ≤ y.literals → (0 < T.names l) × (T.names l ≤ y.atoms)
  pub signed : (l : ℕ) → 0 < l → l ≤ y.literals → T.sign l ≤ 1

-- room for a summary of each record
abbrev pub Limited : Layout → Type 0
Limited y = (y.rules ≤ 2048) × (y.literals ≤ 8000)
