-- What stands at each turn of the draft.
use Rattle.std.proofs.Common.{◌≡◌, ℕ, zero, suc, ◌+◌, ◌-◌, ◌*◌, ◌/◌, ◌%◌, ◌<◌, ◌≤◌, Bool, true, false, List, [], ◌∷◌, ◌++◌, length, get_or, set, replicate, Some, None, Option, sym, refl, ap, ◌∙◌, arith}
use Rattle.splits.specs.Trees.{Tree, close, Trees, no_more, branch, size, sizes, file, files}
use Rattle.splits.specs.Inputs.{Inputs, entries, first_input, branch_count}
use Rattle.splits.specs.Plain.{Drawn, made, shows, Drawns, mades, shows_after, joined, each, node, plain, plain_from, drawn, bytes, put, needed}
use Rattle.splits.specs.declared.cases.Case.{Case}
use Rattle.std.proofs.lemmas.List.{append_assoc, length-append, set-set, set-get_or, set-append_right}
use Rattle.std.proofs.lemmas.Bool.{cond-true, cond-false}
use Rattle.splits.proofs.Wholes.{length_file}
use Rattle.splits.proofs.SplitWords.{kind_word, number_word, level_word}

abbrev pub tree_of : Drawn → Tree
tree_of (made t) = t
tree_of (shows m c) = close

-- the first b branches, all drawn and none the last
abbrev pub done_size : (ℕ → Drawn) → ℕ → ℕ
done_size g zero = 0
done_size g (suc b) = done_size g b + size (tree_of (g b))

abbrev pub done_files : Inputs → (ℕ → Drawn) → ℕ → ℕ → List ℕ
done_files inp g zero x = []
done_files inp g (suc b) x = done_files inp g b x ++ file inp (tree_of (g b)) (x + done_size g b) false

module _ (closed : List ℕ → Bool) (inp : Inputs) where
  -- the branch b of the input k, in the case p
  abbrev pub sub : List ℕ → ℕ → ℕ → Drawn
  sub p k b = plain_from closed inp (k + 1) (set p k (b + 1))

  -- The stack leads, d splits deep, from the case c₀ to the case c, whose records begin at record `at`; behind each split stand its branches that are drawn.
  abbrev pub Drawing : List ℕ → ℕ → ℕ → List ℕ → List Case → Type 0
  Drawing c₀ d at c [] = (c ≡ c₀) × (at ≡ 0) × (d ≡ first_input inp)
  Drawing c₀ d at c (o ∷ os) =
      (d ≡ o.input + 1) × (o.input < entries inp) × (o.branch < branch_count inp o.input) × (get_or c o.input 0 ≡ o.branch + 1) × (closed (set c o.input 0) ≡ false)
      × ((j : ℕ) → j < o.branch → sub (set c o.input 0) o.input j ≡ made (tree_of (sub (set c o.input 0) o.input j)))
      × (at ≡ o.number + 1 + done_size (sub (set c o.input 0) o.input) o.branch)
      × Drawing c₀ o.input o.number (set c o.input 0) os

  -- the words of the open splits and of their branches that are drawn
  abbrev pub written : List ℕ → List Case → List ℕ
  written c [] = []
  written c (o ∷ os) = written (set c o.input 0) os ++ (kind_word inp o.input ∷ number_word inp o.input ∷ level_word inp o.input ∷ 0 ∷ done_files inp (sub (set c o.input 0) o.input) o.branch (o.number + 1))

  pub record Over (c₀ : List ℕ) (d i at : ℕ) (c : List ℕ) (s : List Case) (area : List ℕ) (area_size : ℕ) : Type 0 where
    pub tree : Tree
    pub drawing : Drawing c₀ d i c s
    pub is : plain_from closed inp d c ≡ made tree
    pub ends : at ≡ i + size tree
    pub holds : area ≡ bytes (written c s) ++ (bytes (file inp tree i true) ++ replicate (area_size - 8 * at) 0)

  abbrev pub State : List ℕ → ℕ → ℕ → List ℕ → List Case → List ℕ → ℕ → ℕ → Option ℕ → Type 0
  State c₀ d at c s area room area_size None = Drawing c₀ d at c s × (at < room → area ≡ bytes (written c s) ++ replicate (area_size - 8 * at) 0)
  State c₀ d at c s area room area_size (Some i) = Over c₀ d i at c s area area_size

  pub record Drafting (c₀ : List ℕ) (at : ℕ) (c : List ℕ) (s : List Case) (area : List ℕ) (room area_size : ℕ) (over : Option ℕ) : Type 0 where
    pub within : at ≤ room
    pub shallow : first_input inp + length s ≤ entries inp
    pub state : State c₀ (first_input inp + length s) at c s area room area_size over

-- Over the branches of one split.
abbrev pub trees_from : (ℕ → Drawn) → ℕ → ℕ → Trees
trees_from g zero j = no_more
trees_from g (suc m) j = branch (tree_of (g j)) (trees_from g m (j + 1))

abbrev pub needs_all : Drawns → ℕ
needs_all (mades ts) = sizes ts
needs_all (shows_after m c) = m

-- the first b branches, before the others
abbrev after : (ℕ → Drawn) → ℕ → Drawns → Drawns
after g zero r = r
after g (suc b) r = after g b (joined (g b) r)

joined_needs : (t : Tree) (r : Drawns) → needs_all (joined (made t) r) ≡ size t + needs_all r
joined_needs t (mades ts) = refl
joined_needs t (shows_after m c) = refl

joined_low : (d : Drawn) (r : Drawns) → needed d ≤ needs_all (joined d r)
joined_low (made t) (mades ts) = omega arith
joined_low (made t) (shows_after m c) = omega arith
joined_low (shows m c) r = omega arith

module _ (inp : Inputs) (g : ℕ → Drawn) where
  pub each_made : (m j : ℕ) → ((x : ℕ) → j ≤ x → x < j + m → g x ≡ made (tree_of (g x))) → each g m j ≡ mades (trees_from g m j)
  each_made zero j h = refl
  each_made (suc m) j h = ap (λ q. joined q (each g m (j + 1))) (h j (omega arith) (omega arith)) ∙ ap (joined (made (tree_of (g j)))) (each_made m (j + 1) (λ x l u. h x (omega arith) (omega arith)))

  each_after : (b m n : ℕ) → n ≡ b + m → each g n 0 ≡ after g b (each g m b)
  each_after zero m n e = let f : n ≡ m = omega arith in ap (λ q. each g q 0) f
  each_after (suc b) m n e =
      let f : b + 1 ≡ suc b = omega arith in
      each_after b (suc m) n (omega arith) ∙ ap (λ q. after g b (joined (g b) (each g m q))) f

  after_needs : (b : ℕ) (r : Drawns) → ((j : ℕ) → j < b → g j ≡ made (tree_of (g j))) → needs_all (after g b r) ≡ done_size g b + needs_all r
  after_needs zero r h = omega arith
  after_needs (suc b) r h =
      let p = after_needs b (joined (g b) r) (λ j l. h j (omega arith)) in
      let q : needs_all (joined (g b) r) ≡ size (tree_of (g b)) + needs_all r = ap (λ x. needs_all (joined x r)) (h b (omega arith)) ∙ joined_needs (tree_of (g b)) r in
      omega arith

  after_shows : (b m : ℕ) (c : List ℕ) → ((j : ℕ) → j < b → g j ≡ made (tree_of (g j))) → after g b (shows_after m c) ≡ shows_after (done_size g b + m) c
  after_shows zero m c h = let e : m ≡ 0 + m = omega arith in ap (λ q. shows_after q c) e
  after_shows (suc b) m c h =
      let e : done_size g b + (size (tree_of (g b)) + m) ≡ done_size g b + size (tree_of (g b)) + m = omega arith in
      ap (λ q. after g b (joined q (shows_after m c))) (h b (omega arith)) ∙ (after_shows b (size (tree_of (g b)) + m) c (λ j l. h j (omega arith)) ∙ ap (λ q. shows_after q c) e)

  pub size_done : (b m n : ℕ) → n ≡ b + m → sizes (trees_from g n 0) ≡ done_size g b + sizes (trees_from g m b)
  size_done zero m n e = let f : n ≡ m = omega arith in let h = ap (λ q. sizes (trees_from g q 0)) f in omega arith
  size_done (suc b) m n e =
      let f : b + 1 ≡ suc b = omega arith in
      let h = ap (λ q. sizes (trees_from g m q)) f in
      let p = size_done b (suc m) n (omega arith) in
      omega arith

  pub files_done : (b m n x : ℕ) → n ≡ b + suc m → files inp (trees_from g n 0) x ≡ done_files inp g b x ++ files inp (trees_from g (suc m) b) (x + done_size g b)
  files_done zero m n x e =
      let f : n ≡ suc m = omega arith in
      let y : x ≡ x + 0 = omega arith in
      ap (λ q. files inp (trees_from g q 0) x) f ∙ ap (files inp (trees_from g (suc m) 0)) y
  files_done (suc b) m n x e =
      let f : b + 1 ≡ suc b = omega arith in
      let y : x + done_size g b + size (tree_of (g b)) ≡ x + (done_size g b + size (tree_of (g b))) = omega arith in
      files_done b (suc m) n x (omega arith)
      ∙ (ap (λ q. done_files inp g b x ++ (file inp (tree_of (g b)) (x + done_size g b) false ++ files inp (trees_from g (suc m) (b + 1)) q)) y
      ∙ (ap (λ q. done_files inp g b x ++ (file inp (tree_of (g b)) (x + done_size g b) false ++ files inp (trees_from g (suc m) q) (x + (done_size g b + size (tree_of (g b)))))) f
      ∙ sym (append_assoc (done_files inp g b x) (file inp (tree_of (g b)) (x + done_size g b) false) (files inp (trees_from g (suc m) (suc b)) (x + (done_size g b + size (tree_of (g b))))))))

  pub length_done : (b x : ℕ) → length (done_files inp g b x) ≡ 4 * done_size g b
  length_done zero x = refl
  length_done (suc b) x =
      let p = length-append (done_files inp g b x) (file inp (tree_of (g b)) (x + done_size g b) false) in
      let q = length_file inp (tree_of (g b)) (x + done_size g b) false in
      let r = length_done b x in
      omega arith

pub bytes_append : (x y : List ℕ) → bytes (x ++ y) ≡ bytes x ++ bytes y
bytes_append [] y = refl
bytes_append (w ∷ x) y = ap (λ q. w / 256 ∷ w % 256 ∷ q) (bytes_append x y)

pub length_bytes : (x : List ℕ) → length (bytes x) ≡ 2 * length x
length_bytes [] = refl
length_bytes (w ∷ x) = let r = length_bytes x in omega arith

-- a place behind a front
pub set_in : (xs ys : List ℕ) (m j i v : ℕ) → length xs ≡ m → i ≡ m + j → set (xs ++ ys) i v ≡ xs ++ set ys j v
set_in xs ys m j i v l e = let d : i - m ≡ j = omega arith in set-append_right xs ys m i v l (omega arith) ∙ ap (λ q. xs ++ set ys q v) d

pub put_in : (xs ys : List ℕ) (m j i w : ℕ) → length xs ≡ m → i ≡ m + j → put (xs ++ ys) i w ≡ xs ++ put ys j w
put_in xs ys m j i w l e = ap (λ q. set q (i + 1) (w % 256)) (set_in xs ys m j i (w / 256) l e) ∙ set_in xs (set ys j (w / 256)) m (j + 1) (i + 1) (w % 256) l (omega arith)

module _ (closed : List ℕ → Bool) (inp : Inputs) where
  pub plain_closed : (n k : ℕ) (c : List ℕ) → closed c ≡ true → plain closed inp n k c ≡ made close
  plain_closed zero k c h = cond-true _ _ _ h
  plain_closed (suc n) k c h = cond-true _ _ _ h

  pub plain_split : (k : ℕ) (p : List ℕ) → k < entries inp → closed p ≡ false → plain_from closed inp k p ≡ node k (each (sub closed inp p k) (branch_count inp k) 0)
  plain_split k p l h = let e : entries inp - k ≡ suc (entries inp - (k + 1)) = omega arith in ap (λ q. plain closed inp q k p) e ∙ cond-false _ _ _ h

  module _ (c₀ : List ℕ) where
    pub here : (d at : ℕ) (c : List ℕ) (o : Case) (os : List Case) → Drawing closed inp c₀ d at c (o ∷ os) → sub closed inp (set c o.input 0) o.input o.branch ≡ plain_from closed inp d c
    here d at c o os (e, i, b, v, h, all, a, r) =
        let u : set (set c o.input 0) o.input (o.branch + 1) ≡ c = set-set c o.input 0 (o.branch + 1) ∙ (ap (set c o.input) (sym v) ∙ set-get_or c o.input 0) in
        ap (plain_from closed inp (o.input + 1)) u ∙ ap (λ q. plain_from closed inp q c) (sym e)

    -- the split itself, by the branch that is drawn now
    around : (d at : ℕ) (c : List ℕ) (o : Case) (os : List Case) → Drawing closed inp c₀ d at c (o ∷ os)
        → plain_from closed inp o.input (set c o.input 0)
        ≡ node o.input (after (sub closed inp (set c o.input 0) o.input) o.branch (joined (plain_from closed inp d c) (each (sub closed inp (set c o.input 0) o.input) (branch_count inp o.input - (o.branch + 1)) (o.branch + 1))))
    around d at c o os w =
        let k = o.input in
        let g = sub closed inp (set c k 0) k in
        let m = branch_count inp k - (o.branch + 1) in
        plain_split k (set c k 0) w.1 w.4
        ∙ (ap (node k) (each_after inp g o.branch (suc m) (branch_count inp k) (omega (arith, w.2)))
        ∙ ap (λ q. node k (after g o.branch (joined q (each g m (o.branch + 1))))) (here d at c o os w))

    pub up_shows : (s : List Case) (d at : ℕ) (c : List ℕ) (m : ℕ) (x : List ℕ) → Drawing closed inp c₀ d at c s → plain_from closed inp d c ≡ shows m x → drawn closed inp c₀ ≡ shows (at + m) x
    up_shows [] d at c m x (e, a, z) h =
        let n : m ≡ at + m = omega arith in
        ap (drawn closed inp) (sym e) ∙ (ap (λ q. plain_from closed inp q c) (sym z) ∙ (h ∙ ap (λ q. shows q x) n))
    up_shows (o ∷ os) d at c m x w h =
        let k = o.input in
        let g = sub closed inp (set c k 0) k in
        let e : o.number + (1 + (done_size g o.branch + m)) ≡ at + m = omega (arith, w.6) in
        let t = around d at c o os w ∙ (ap (λ q. node k (after g o.branch (joined q (each g (branch_count inp k - (o.branch + 1)) (o.branch + 1))))) h ∙ ap (node k) (after_shows inp g o.branch m x w.5)) in
        up_shows os k o.number (set c k 0) (1 + (done_size g o.branch + m)) x w.7 t ∙ ap (λ q. shows q x) e

    pub node_needs : (k : ℕ) (r : Drawns) → needed (node k r) ≡ 1 + needs_all r
    node_needs k (mades ts) = refl
    node_needs k (shows_after m c) = refl

    pub up_needs : (s : List Case) (d at : ℕ) (c : List ℕ) → Drawing closed inp c₀ d at c s → at + needed (plain_from closed inp d c) ≤ needed (drawn closed inp c₀)
    up_needs [] d at c (e, a, z) =
        let h : needed (drawn closed inp c₀) ≡ needed (plain_from closed inp d c) = ap (λ q. needed (drawn closed inp q)) (sym e) ∙ ap (λ q. needed (plain_from closed inp q c)) (sym z) in
        omega arith
    up_needs (o ∷ os) d at c w =
        let k = o.input in
        let g = sub closed inp (set c k 0) k in
        let r = each g (branch_count inp k - (o.branch + 1)) (o.branch + 1) in
        let now = plain_from closed inp d c in
        let p : needed (plain_from closed inp k (set c k 0)) ≡ 1 + needs_all (after g o.branch (joined now r)) = ap needed (around d at c o os w) ∙ node_needs k (after g o.branch (joined now r)) in
        let q = after_needs inp g o.branch (joined now r) w.5 in
        let l = joined_low now r in
        let i = up_needs os k o.number (set c k 0) w.7 in
        omega (arith, w.6)
