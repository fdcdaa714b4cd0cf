-- A whole tree covers every full setting of the inputs.
use Rattle.std.specs.Prelude.{◌≡◌, ℕ, ◌+◌, ◌<◌, ◌≤◌, Bool, true, false, ◌⊎◌, List, length, slice_index, slice_set}
use Rattle.splits.specs.Inputs.{Inputs, entries, branch_count, IsInput}
use Rattle.splits.specs.Trees.{Tree, close, split, Trees, no_more, branch, Closes, Whole}

-- every input is settled to one of its branches
abbrev pub Full : Inputs → List ℕ → Type 0
Full s f = (k : ℕ) → IsInput s k → (0 < slice_index f k) × (slice_index f k ≤ branch_count s k)

-- each input that the case settles is so in the full setting
abbrev pub Agrees : Inputs → List ℕ → List ℕ → Type 0
Agrees s c f = (k : ℕ) → IsInput s k → (slice_index c k ≡ 0) ⊎ (slice_index c k ≡ slice_index f k)

-- e is one of the cases that the tree of the case c ends in
abbrev mutual
  pub Ends : Tree → List ℕ → List ℕ → Type 0
  Ends close c e = e ≡ c
  Ends (split k ts) c e = EndBranches ts c k 0 e

  pub EndBranches : Trees → List ℕ → ℕ → ℕ → List ℕ → Type 0
  EndBranches no_more c k b e = ⊥
  EndBranches (branch t ts) c k b e = Ends t (slice_set c k (b + 1)) e ⊎ EndBranches ts c k (b + 1) e

-- A full setting that agrees with the case of a tree agrees with one of the closed cases that the tree ends in.
abbrev pub TreeCovers : (List ℕ → Bool) → Type 0
TreeCovers closed =
    (s : Inputs) (t : Tree) (c f : List ℕ) → entries s ≤ length c → Closes closed s t c → Full s f → Agrees s c f
    → (e : List ℕ) × Ends t c e × (closed e ≡ true) × Agrees s e f

-- So if no full setting that agrees with a closed case is bad, no full setting is that agrees with the case of a whole file.
abbrev pub WholeExcludes : (List ℕ → Bool) → Type 0
WholeExcludes closed =
    (s : Inputs) (bs c : List ℕ) (bad : List ℕ → Bool) → entries s ≤ length c → Whole closed s bs c
    → ((e f : List ℕ) → closed e ≡ true → Full s f → Agrees s e f → bad f ≡ false)
    → (f : List ℕ) → Full s f → Agrees s c f → bad f ≡ false
