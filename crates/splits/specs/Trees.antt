-- Trees of cases, and the file of a tree.
use Rattle.std.specs.Prelude.{◌≡◌, ℕ, ◌+◌, ◌*◌, ◌≤◌, Bool, true, false, cond, List, [], ◌∷◌, ◌++◌, length, Ok, slice_index, slice_set}
use Rattle.splits.specs.Inputs.{Inputs, Proper, entries, branch_count, IsInput}
use Rattle.splits.specs.Records.{record_words, split_record}
use Rattle.splits.specs.Walk.{walked}
use Rattle.splits.specs.declared.records.Record.TheVariants.{Close}

-- A case is closed, or split by the input at an entry, with a tree for each branch.
mutual
  pub data Tree : Type 0 where
    close : Tree
    split : ℕ → Trees → Tree

  pub data Trees : Type 0 where
    no_more : Trees
    branch : Tree → Trees → Trees

-- The tree closes the case: the input of a split is open, each of its branches has a tree that closes that case, and a case that the tree ends in is closed.
module _ (closed : List ℕ → Bool) (s : Inputs) where
  abbrev mutual
    pub Closes : Tree → List ℕ → Type 0
    Closes close c = closed c ≡ true
    Closes (split k ts) c = IsInput s k × (slice_index c k ≡ 0) × CloseBranches ts c k 0

    pub CloseBranches : Trees → List ℕ → ℕ → ℕ → Type 0
    CloseBranches no_more c k b = b ≡ branch_count s k
    CloseBranches (branch t ts) c k b = Closes t (slice_set c k (b + 1)) × CloseBranches ts c k (b + 1)

-- how many records a tree takes
abbrev mutual
  pub size : Tree → ℕ
  size close = 1
  size (split k ts) = 1 + sizes ts

  pub sizes : Trees → ℕ
  sizes no_more = 0
  sizes (branch t ts) = size t + sizes ts

abbrev pub is_end : Trees → Bool
is_end no_more = true
is_end (branch t ts) = false

-- The next of a last branch, and of the root, is 0; else it is the number, from 1, of the record e behind the subtree.
abbrev pub next : Bool → ℕ → ℕ
next last e = cond last 0 (e + 1)

-- The words of a tree's records, the first of which is record i, counted from 0.
module _ (s : Inputs) where
  abbrev mutual
    pub file : Tree → ℕ → Bool → List ℕ
    file close i last = record_words Close (next last (i + 1))
    file (split k ts) i last = record_words (split_record s k) (next last (i + (1 + sizes ts))) ++ files ts (i + 1)

    pub files : Trees → ℕ → List ℕ
    files no_more i = []
    files (branch t ts) i = file t i (is_end ts) ++ files ts (i + size t)

-- words, high byte first
abbrev pub words : List ℕ → List ℕ
words [] = []
words (a ∷ []) = []
words (a ∷ (b ∷ bs)) = (a * 256 + b) ∷ words bs

-- The bytes are the file of a tree that closes the case.
pub record Whole (closed : List ℕ → Bool) (s : Inputs) (bs c : List ℕ) : Type 0 where
  pub tree : Tree
  pub few : size tree ≤ 65535
  pub long : length bs ≡ 8 * size tree
  pub reads : words bs ≡ file s tree 0 true
  pub closes : Closes closed s tree c

-- The walk takes exactly the whole files.
abbrev pub WalkTakesWhole : (List ℕ → Bool) → Type 0
WalkTakesWhole closed =
    (s : Inputs) (bs c : List ℕ) → Proper s → entries s ≤ length c
    → (walked closed s bs c ≡ Ok tt → Whole closed s bs c) × (Whole closed s bs c → walked closed s bs c ≡ Ok tt)
