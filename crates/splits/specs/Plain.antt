-- The plain file: it splits the inputs in their order, and closes each case as soon as it is closed.
use Rattle.std.specs.Prelude.{◌≡◌, ℕ, zero, suc, ◌+◌, ◌-◌, ◌*◌, ◌/◌, ◌%◌, ◌<◌, ◌≤◌, Bool, true, false, cond, List, [], ◌∷◌, ◌++◌, length, take, replicate, Ok, Err, Result, nat_le, nat_lt, slice_index, slice_set}
use Rattle.splits.specs.Inputs.{Inputs, Proper, entries, first_input, IsInput, branch_count}
use Rattle.splits.specs.Walk.{walked}
use Rattle.splits.specs.Trees.{Tree, close, split, Trees, no_more, branch, Closes, size, file}
use Rattle.splits.specs.Coverage.{Full}
use Rattle.splits.specs.declared.drafted.Drafted.{Drafted}
use Rattle.splits.specs.declared.drafted.Drafted.TheVariants.{File, Play}
use Rattle.splits.specs.declared.drafted.TooSmall.{TooSmall}

-- The plain tree of a case, or a settled case that is not closed, met after so many records; and the same of the branches of a split.
pub data Drawn : Type 0 where
  made : Tree → Drawn
  shows : ℕ → List ℕ → Drawn

pub data Drawns : Type 0 where
  mades : Trees → Drawns
  shows_after : ℕ → List ℕ → Drawns

abbrev pub joined : Drawn → Drawns → Drawns
joined (made t) (mades ts) = mades (branch t ts)
joined (made t) (shows_after m c) = shows_after (size t + m) c
joined (shows m c) r = shows_after m c

-- the branches from branch b on, so many of them
abbrev pub each : (ℕ → Drawn) → ℕ → ℕ → Drawns
each g zero b = mades no_more
each g (suc more) b = joined (g b) (each g more (b + 1))

abbrev pub node : ℕ → Drawns → Drawn
node k (mades ts) = made (split k ts)
node k (shows_after m c) = shows (1 + m) c

module _ (closed : List ℕ → Bool) (s : Inputs) where
  -- so many inputs, from the entry k on, are left to split by
  abbrev pub plain : ℕ → ℕ → List ℕ → Drawn
  plain zero k c = cond (closed c) (made close) (shows 0 c)
  plain (suc left) k c = cond (closed c) (made close) (node k (each (λ b. plain left (k + 1) (slice_set c k (b + 1))) (branch_count s k) 0))

  abbrev pub plain_from : ℕ → List ℕ → Drawn
  plain_from k c = plain (entries s - k) k c

  -- of a case whose inputs are all open
  abbrev pub drawn : List ℕ → Drawn
  drawn c = plain_from (first_input s) c

-- The whole split keeps the plain order and closes only settled cases.
abbrev pub copies : ℕ → Tree → Trees
copies zero t = no_more
copies (suc n) t = branch t (copies n t)

module _ (s : Inputs) where
  abbrev pub whole_tree : ℕ → ℕ → Tree
  whole_tree zero k = close
  whole_tree (suc left) k = split k (copies (branch_count s k) (whole_tree left (k + 1)))

  abbrev pub whole_split : Tree
  whole_split = whole_tree (entries s - first_input s) (first_input s)

  -- 1 + b₁ + b₁ × b₂ + …, where p is the product so far
  abbrev pub sum_of_products : ℕ → ℕ → ℕ → ℕ
  sum_of_products p zero k = p
  sum_of_products p (suc left) k = p + sum_of_products (p * branch_count s k) left (k + 1)

  abbrev pub whole_count : ℕ
  whole_count = sum_of_products 1 (entries s - first_input s) (first_input s)

abbrev pub bytes : List ℕ → List ℕ
bytes [] = []
bytes (w ∷ ws) = w / 256 ∷ w % 256 ∷ bytes ws

-- a word written at a byte's place
abbrev pub put : List ℕ → ℕ → ℕ → List ℕ
put bs at w = slice_set (slice_set bs at (w / 256)) (at + 1) (w % 256)

-- how many records an area has room for, at most the most of a file
abbrev pub places : List ℕ → ℕ
places area = cond (nat_lt (length area / 8) 65535) (length area / 8) 65535

-- how many records are needed: those of the tree, or those before the case that is shown
abbrev pub needed : Drawn → ℕ
needed (made t) = size t
needed (shows m c) = m

-- what the draft answers
abbrev pub drafted : ℕ → Drawn → Result Drafted TooSmall
drafted room (made t) = cond (nat_le (size t) room) (Ok (File (size t))) (Err (record {}))
drafted room (shows m c) = cond (nat_le m room) (Ok Play) (Err (record {}))

-- the area after it, of n bytes: the file and then zeros, or zeros only
abbrev pub area_after : Inputs → ℕ → ℕ → Drawn → List ℕ
area_after s n room (made t) = cond (nat_le (size t) room) (bytes (file s t 0 true) ++ replicate (n - 8 * size t) 0) (replicate n 0)
area_after s n room (shows m c) = replicate n 0

-- the settings after it: the case that is shown, or the first one
abbrev pub settings_after : List ℕ → Drawn → List ℕ
settings_after c₀ (made t) = c₀
settings_after c₀ (shows m c) = c

-- every input is open
abbrev pub Unsettled : Inputs → List ℕ → Type 0
Unsettled s c = (k : ℕ) → IsInput s k → slice_index c k ≡ 0

-- e settles every input, and has else what the case c has
pub record Settles (s : Inputs) (c e : List ℕ) : Type 0 where
  pub full : Full s e
  pub long : length e ≡ length c
  pub before : (k : ℕ) → k < first_input s → slice_index e k ≡ slice_index c k
  pub behind : (k : ℕ) → entries s ≤ k → slice_index e k ≡ slice_index c k

-- A plain tree closes its case, and the walk takes its file.
abbrev pub PlainCloses : (List ℕ → Bool) → Type 0
PlainCloses closed =
    (s : Inputs) (c : List ℕ) (t : Tree) → Proper s → entries s ≤ length c → Unsettled s c → drawn closed s c ≡ made t
    → Closes closed s t c × (size t ≤ 65535 → walked closed s (bytes (file s t 0 true)) c ≡ Ok tt)

-- What is shown is a settled case that is not closed.
abbrev pub PlainShows : (List ℕ → Bool) → Type 0
PlainShows closed =
    (s : Inputs) (c : List ℕ) (m : ℕ) (e : List ℕ) → entries s ≤ length c → drawn closed s c ≡ shows m e → Settles s c e × (closed e ≡ false)

-- If every settled case is closed, there is a plain tree.
abbrev pub PlainMade : (List ℕ → Bool) → Type 0
PlainMade closed =
    (s : Inputs) (c : List ℕ) → entries s ≤ length c → ((e : List ℕ) → Settles s c e → closed e ≡ true) → (t : Tree) × (drawn closed s c ≡ made t)

-- A file that is drafted is taken: so many records from the front of the area.
abbrev pub DraftIsTaken : (List ℕ → Bool) → Type 0
DraftIsTaken closed =
    (s : Inputs) (c area : List ℕ) (n : ℕ) → Proper s → entries s ≤ length c → Unsettled s c → drafted (places area) (drawn closed s c) ≡ Ok (File n)
    → walked closed s (take (8 * n) (area_after s (length area) (places area) (drawn closed s c))) c ≡ Ok tt

-- The plain file never needs more records than the whole split, which has 1 + b₁ + b₁ × b₂ + … of them.
abbrev pub PlainIsSmall : (List ℕ → Bool) → Type 0
PlainIsSmall closed = (s : Inputs) (c : List ℕ) → needed (drawn closed s c) ≤ size (whole_split s)

abbrev pub WholeCounts : Type 0
WholeCounts = (s : Inputs) → size (whole_split s) ≡ whole_count s
