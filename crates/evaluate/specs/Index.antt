-- The index of atoms by stratum.
use Rattle.std.specs.Prelude.{◌≡◌, ℕ, ◌<◌, List, [], map, length, vec_items, nat_eq, slice_index_or}
use Rattle.rules.specs.declared.opened.Rules.{Rules}
use Rattle.rules.specs.Opens.{atoms_of}
use Rattle.evaluate.specs.Lists.{passing}
use Rattle.evaluate.specs.Program.{atom_at}
use Rattle.evaluate.specs.declared.strata.Strata.{Strata}

-- what is listed for stratum s
abbrev pub segment : Strata → ℕ → List ℕ
segment S s = slice_index_or (map vec_items (vec_items S.members)) s []

-- the atoms of stratum s, ascending, counted from 0
abbrev pub members : Rules → ℕ → List ℕ
members R s = passing (length (atoms_of R)) (λ a. nat_eq (atom_at R a).stratum s)

-- for each stratum exactly its atoms are listed, ascending
abbrev pub SortedBy : Rules → Strata → Type 0
SortedBy R S = (s : ℕ) → s < 32 → segment S s ≡ members R s
