-- The moves of all roles, counted from 0 by role and then by move.
use Rattle.std.specs.Prelude.{ℕ, ◌+◌, ◌-◌, cond, List, [], ◌∷◌, nat_lt}
use Rattle.docket.specs.declared.choices.Choice.{Choice}

-- from role r on
abbrev pub choice_from : ℕ → List ℕ → ℕ → Choice
choice_from r [] c = record { role = 0; number = 0 }
choice_from r (n ∷ ns) c = cond (nat_lt c n) (record { role = r; number = c + 1 }) (choice_from (r + 1) ns (c - n))

abbrev pub choice_of : List ℕ → ℕ → Choice
choice_of ns c = choice_from 0 ns c
