-- What an atom stands for, by its number from 1: with F fluents and D moves of all roles together, the fluents, their next atoms,
-- the does atoms by role and move, the legal atoms in that order, terminal, and further atoms.
use Rattle.std.specs.Prelude.{ℕ, ◌+◌, ◌*◌, cond, ◌==◌, nat_le}
use Rattle.rules.specs.declared.kinds.Kind.{Kind}
use Rattle.rules.specs.declared.kinds.Kind.TheVariants.{Fluent, Next, Does, Legal, Terminal, Further}

abbrev pub kind_of : ℕ → ℕ → ℕ → Kind
kind_of F D a =
    cond (nat_le a F) Fluent
    (cond (nat_le a (2 * F)) Next
    (cond (nat_le a (2 * F + D)) Does
    (cond (nat_le a (2 * F + 2 * D)) Legal
    (cond (a == 2 * F + 2 * D + 1) Terminal Further))))
