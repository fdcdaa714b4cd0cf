-- The walk takes exactly the whole files.
use Rattle.std.proofs.Common.{◌≡◌, ℕ, zero, suc, ◌+◌, ◌*◌, ◌/◌, ◌%◌, ◌<◌, ◌≤◌, Bool, true, cond, eqb, List, [], ◌++◌, length, get_or, drop, set, None, Ok, Err, Result, sym, refl, ap, ◌∙◌, subst, ⊎_elim, arith}
use Rattle.std.proofs.lemmas.List.{length-set, append_assoc, append-nil, drop_all, length-append}
use Rattle.std.proofs.lemmas.Bool.{eq-eqb, ne_eqb, eqb-true, cond-true, cond-false, cases_Bool, cases_lt, lt-ltb, le-ltb}
use Rattle.std.proofs.lemmas.Bool.Decides.{nat_tests}
use Rattle.splits.specs.Inputs.{Inputs, Proper, entries, branch_count}
use Rattle.rules.specs.Words.{word_from as word}
use Rattle.splits.specs.Walk.{then_on, input_at, ended, branches, subtree, finished, sized, walked}
use Rattle.splits.specs.Trees.{Tree, close, split, Trees, no_more, branch, Closes, CloseBranches, size, sizes, is_end, next, file, files, words, Whole, WalkTakesWhole}
use Rattle.splits.specs.declared.faults.WalkFault.{WalkFault}
use Rattle.splits.specs.declared.faults.WalkFault.TheVariants.{Next}
use Rattle.splits.proofs.Opens.{open_of, open_low, open_some, open_less}
use Rattle.splits.proofs.Readings.{then_ok, split_input_open}
use Rattle.splits.proofs.SplitWords.{kind_word, number_word, level_word, reads_split, says_split, reads_close, says_close}
use Rattle.splits.proofs.Standings.{length_words, drop_record, stands}
use Rattle.splits.proofs.Resumes.{sub_close, sub_split, sub_ok, Begins}

module _ (inp : Inputs) where
  mutual
    pub length_file : (t : Tree) (i : ℕ) (last : Bool) → length (file inp t i last) ≡ 4 * size t
    length_file close i last = refl
    length_file (split k ts) i last = let r = length_files ts (i + 1) in omega arith

    pub length_files : (ts : Trees) (i : ℕ) → length (files inp ts i) ≡ 4 * sizes ts
    length_files no_more i = refl
    length_files (branch t ts) i =
        let p = length-append (file inp t i (is_end ts)) (files inp ts (i + size t)) in
        let q = length_file t i (is_end ts) in
        let r = length_files ts (i + size t) in
        omega arith

module _ (closed : List ℕ → Bool) (inp : Inputs) (bs : List ℕ) (proper : Proper inp) where
  abbrev n : ℕ
  n = entries inp

  ended_right : (i : ℕ) (last : Bool) (e : ℕ) → word bs (8 * i + 6) ≡ next last e → ended closed inp bs i last e ≡ Ok e
  ended_right i last e h = ap (λ r. then_on r (λ _. Ok e)) (cond-true _ _ _ (eq-eqb _ _ h))

  -- from the tree to the walk
  branches_low : (ts : Trees) (c : List ℕ) (k b : ℕ) → CloseBranches closed inp ts c k b → b ≤ branch_count inp k
  branches_low no_more c k b h = omega arith
  branches_low (branch t ts) c k b h = omega (arith, branches_low ts c k (b + 1) h.1)

  end_told : (ts : Trees) (c : List ℕ) (k more b : ℕ) → CloseBranches closed inp ts c k b → more + b ≡ branch_count inp k → is_end ts ≡ eqb more 0
  end_told no_more c k more b h e = sym (eq-eqb more 0 (omega arith))
  end_told (branch t ts) c k more b h e = sym (ne_eqb more 0 (λ z. omega (arith, branches_low ts c k (b + 1) h.1)))

  mutual
    tree_ok : (t : Tree) (d i : ℕ) (c : List ℕ) (last : Bool) (rest : List ℕ) → n ≤ length c → open_of n c ≤ d → Closes closed inp t c → drop (4 * i) (words bs) ≡ file inp t i last ++ rest
        → (subtree closed inp bs d i c last ≡ Ok (i + size t)) × (drop (4 * (i + size t)) (words bs) ≡ rest)
    tree_ok close d i c last rest l o h e =
        let s = stands bs i 0 0 0 (next last (i + 1)) rest e in
        (sub_close closed inp bs i c d last s.inside (reads_close inp bs c i s.kind s.number s.level) h ∙ ended_right i last (i + 1) s.follows, s.behind)
    tree_ok (split k ts) zero i c last rest l o (b, z, h) e = let n : ⊥ = omega (arith, open_some (entries inp) c k b.1 (omega arith) z) in absurd n
    tree_ok (split k ts) (suc d) i c last rest l o (b, z, h) e =
        let s = stands bs i (kind_word inp k) (number_word inp k) (level_word inp k) (next last (i + (1 + sizes ts))) (files inp ts (i + 1) ++ rest) e in
        let r = trees_ok ts d (i + 1) c k (branch_count inp k) 0 rest l b.1 z o (omega arith) h s.behind in
        let m : i + 1 + sizes ts ≡ i + (1 + sizes ts) = omega arith in (
          sub_split closed inp bs i c d last k s.inside (reads_split inp bs c i k proper b z s.kind s.number s.level)
              ∙ (ap (λ q. then_on q (ended closed inp bs i last)) (r.0 ∙ ap Ok m) ∙ ended_right i last (i + (1 + sizes ts)) s.follows),
          subst (λ q. drop (4 * q) (words bs) ≡ rest) m r.1,
        )

    trees_ok : (ts : Trees) (d i : ℕ) (c : List ℕ) (k more b : ℕ) (rest : List ℕ) → n ≤ length c → k < n → get_or c k 0 ≡ 0 → open_of n c ≤ suc d → more + b ≡ branch_count inp k
        → CloseBranches closed inp ts c k b → drop (4 * i) (words bs) ≡ files inp ts i ++ rest
        → (branches closed inp bs (subtree closed inp bs d) c k more b i ≡ Ok (i + sizes ts)) × (drop (4 * (i + sizes ts)) (words bs) ≡ rest)
    trees_ok no_more d i c k zero b rest l a z o m h e =
        let p : i ≡ i + 0 = omega arith in
        (ap Ok p, subst (λ q. drop (4 * q) (words bs) ≡ rest) p e)
    trees_ok no_more d i c k (suc more) b rest l a z o m h e = absurd (omega arith)
    trees_ok (branch t ts) d i c k zero b rest l a z o m h e = let n : ⊥ = omega (arith, branches_low ts c k (b + 1) h.1) in absurd n
    trees_ok (branch t ts) d i c k (suc more) b rest l a z o m (g, h) e =
        let f = open_less n c k b a (omega arith) z in
        let w = length-set c k (b + 1) in
        let x = tree_ok t d i (set c k (b + 1)) (is_end ts) (files inp ts (i + size t) ++ rest) (omega arith) (omega arith) g (e ∙ append_assoc (file inp t i (is_end ts)) (files inp ts (i + size t)) rest) in
        let y = trees_ok ts d (i + size t) c k more (b + 1) rest l a z o (omega arith) h x.1 in
        let p : i + size t + sizes ts ≡ i + (size t + sizes ts) = omega arith in (
          ap (λ q. then_on (subtree closed inp bs d i (set c k (b + 1)) q) (branches closed inp bs (subtree closed inp bs d) c k more (b + 1))) (sym (end_told ts c k more (b + 1) h (omega arith)))
              ∙ (ap (λ q. then_on q (branches closed inp bs (subtree closed inp bs d) c k more (b + 1))) x.0 ∙ (y.0 ∙ ap Ok p)),
          subst (λ q. drop (4 * q) (words bs) ≡ rest) p y.1,
        )

  -- from the walk to the tree
  ended_ok : (i : ℕ) (last : Bool) (x e : ℕ) → ended closed inp bs i last x ≡ Ok e → (x ≡ e) × (word bs (8 * i + 6) ≡ next last x)
  ended_ok i last x e h =
      ⊎_elim
      (λ q. (let f = sym (ap (λ b. then_on (cond {A = Result Unit WalkFault} b (Ok tt) (Err (Next (8 * i + 6)))) (λ _. Ok x)) q) ∙ h in cc, eqb-true _ _ q))
      (λ q. let f = sym (ap (λ b. then_on (cond {A = Result Unit WalkFault} b (Ok tt) (Err (Next (8 * i + 6)))) (λ _. Ok x)) q) ∙ h in absurd (cc))
      (cases_Bool (eqb (word bs (8 * i + 6)) (next last x)))

  pub record Found (i : ℕ) (c : List ℕ) (last : Bool) (e : ℕ) : Type 0 where
    pub tree : Tree
    pub reads : drop (4 * i) (words bs) ≡ file inp tree i last ++ drop (4 * e) (words bs)
    pub closes : Closes closed inp tree c
    pub ends : e ≡ i + size tree

  pub record Founds (c : List ℕ) (k more b i e : ℕ) : Type 0 where
    pub trees : Trees
    pub reads : drop (4 * i) (words bs) ≡ files inp trees i ++ drop (4 * e) (words bs)
    pub closes : CloseBranches closed inp trees c k b
    pub ends : e ≡ i + sizes trees

  found_branches : (d : ℕ) (c : List ℕ) (k more b i e : ℕ) → ((i : ℕ) (c : List ℕ) (last : Bool) (e : ℕ) → subtree closed inp bs d i c last ≡ Ok e → Found i c last e)
      → more + b ≡ branch_count inp k → branches closed inp bs (subtree closed inp bs d) c k more b i ≡ Ok e → Founds c k more b i e
  found_branches d c k zero b i e deeper m h =
      let p : i ≡ e = cc in
      record { trees = no_more; reads = ap (λ q. drop (4 * q) (words bs)) p; closes = omega arith; ends = omega arith }
  found_branches d c k (suc more) b i e deeper m h =
      let s = then_ok (subtree closed inp bs d i (set c k (b + 1)) (eqb more 0)) (branches closed inp bs (subtree closed inp bs d) c k more (b + 1)) e h in
      let t = deeper i (set c k (b + 1)) (eqb more 0) s.0 s.1 in
      let ts = found_branches d c k more (b + 1) s.0 e deeper (omega arith) s.2 in
      let w = end_told ts.trees c k more (b + 1) ts.closes (omega arith) in
      record {
        trees = branch t.tree ts.trees;
        reads =
            t.reads
            ∙ (ap (λ q. file inp t.tree i q ++ drop (4 * s.0) (words bs)) (sym w)
            ∙ (ap (λ q. file inp t.tree i (is_end ts.trees) ++ q) (ts.reads ∙ ap (λ q. files inp ts.trees q ++ drop (4 * e) (words bs)) t.ends)
            ∙ sym (append_assoc (file inp t.tree i (is_end ts.trees)) (files inp ts.trees (i + size t.tree)) (drop (4 * e) (words bs)))));
        closes = (t.closes, ts.closes);
        ends = omega (arith, t.ends, ts.ends);
      }

  from_close : (i : ℕ) (c : List ℕ) (last : Bool) (e : ℕ) → i < length bs / 8 → (Ok None ≡ input_at inp bs c i) × (closed c ≡ true) × (ended closed inp bs i last (i + 1) ≡ Ok e) → Found i c last e
  from_close i c last e h (q, o, f) =
      let s = says_close inp bs c i q in
      let x = ended_ok i last (i + 1) e f in
      let r = drop_record bs i h in
      let s₀ = s.0 in let s₁ = s.1 in let s₂ = s.2 in let x₀ = x.0 in let x₁ = x.1 in
      record { tree = close; reads = cc; closes = o; ends = sym x₀ }

  from_split : (d i : ℕ) (c : List ℕ) (last : Bool) (e : ℕ) → ((i : ℕ) (c : List ℕ) (last : Bool) (e : ℕ) → subtree closed inp bs d i c last ≡ Ok e → Found i c last e)
      → i < length bs / 8 → Begins closed inp bs i c (suc d) last e → Found i c last e
  from_split d i c last e deeper h (k, q, f) =
      let s = says_split inp bs c i k q in
      let a = split_input_open inp bs c i k q in
      let g = then_ok (branches closed inp bs (subtree closed inp bs d) c k (branch_count inp k) 0 (i + 1)) (ended closed inp bs i last) e f in
      let x = ended_ok i last g.0 e g.2 in
      let ts = found_branches d c k (branch_count inp k) 0 (i + 1) g.0 deeper (omega arith) g.1 in
      let r = drop_record bs i h in
      let m : g.0 ≡ i + (1 + sizes ts.trees) = omega (arith, ts.ends) in
      let s₀ = s.0 in let s₁ = s.1 in let s₂ = s.2 in let x₀ = x.0 in let x₁ = x.1 in let t₁ = ts.reads in
      record { tree = split k ts.trees; reads = cc; closes = (a.0, a.1, ts.closes); ends = sym x₀ ∙ m }

  found : (d i : ℕ) (c : List ℕ) (last : Bool) (e : ℕ) → subtree closed inp bs d i c last ≡ Ok e → Found i c last e
  found zero i c last e h = let p = sub_ok closed inp bs i c zero last e h in ⊎_elim (from_close i c last e p.0) (λ n. absurd n) p.1
  found (suc d) i c last e h = let p = sub_ok closed inp bs i c (suc d) last e h in ⊎_elim (from_close i c last e p.0) (from_split d i c last e (found d) p.0) p.1

  size_pos : (t : Tree) → 0 < size t
  size_pos close = omega arith
  size_pos (split k ts) = omega arith

  sized_says : sized closed inp bs ≡ true → (8 ≤ length bs) × (length bs ≤ 524280) × (length bs % 8 ≡ 0)
  sized_says e = grind (arith, nat_tests)

  sized_from : 8 ≤ length bs → length bs ≤ 524280 → length bs % 8 ≡ 0 → sized closed inp bs ≡ true
  sized_from a b m = grind (arith, nat_tests)

  finished_ok : (e : ℕ) → finished closed inp bs e ≡ Ok tt → length bs / 8 ≤ e
  finished_ok e h =
      ⊎_elim
      (λ l. let f = sym (cond-true _ _ _ (lt-ltb e (length bs / 8) l)) ∙ h in absurd (cc))
      (λ l. l)
      (cases_lt e (length bs / 8))

  pub whole_if : (c : List ℕ) → walked closed inp bs c ≡ Ok tt → Whole closed inp bs c
  whole_if c h =
      ⊎_elim
      (λ s.
      let p = sized_says s in
      let g = then_ok (subtree closed inp bs n 0 c true) (finished closed inp bs) tt (sym (cond-true _ _ _ s) ∙ h) in
      let f = found n 0 c true g.0 g.1 in
      let o = finished_ok g.0 g.2 in
      let l = length_words bs in
      let d = drop_all (4 * g.0) (words bs) (omega (arith, p.0, p.2)) in
      let r : words bs ≡ file inp f.tree 0 true = f.reads ∙ (ap (λ q. file inp f.tree 0 true ++ q) d ∙ append-nil (file inp f.tree 0 true)) in
      let m = ap length r in
      let k = length_file inp f.tree 0 true in
      record { tree = f.tree; few = omega (arith, p.1, p.2); long = omega (arith, p.2); reads = r; closes = f.closes })
      (λ s. let f = sym (cond-false _ _ _ s) ∙ h in absurd (cc))
      (cases_Bool (sized closed inp bs))

  pub if_whole : (c : List ℕ) → n ≤ length c → Whole closed inp bs c → walked closed inp bs c ≡ Ok tt
  if_whole c l w =
      let q = size_pos w.tree in
      let s = sized_from (omega (arith, w.long)) (omega (arith, w.long, w.few)) (omega (arith, w.long)) in
      let r = tree_ok w.tree n 0 c true [] l (open_low n c) w.closes (w.reads ∙ sym (append-nil (file inp w.tree 0 true))) in
      cond-true _ _ _ s ∙ (ap (λ q. then_on q (finished closed inp bs)) r.0 ∙ cond-false _ _ _ (le-ltb (0 + size w.tree) (length bs / 8) (omega (arith, w.long))))

pub walk_takes_whole : (closed : List ℕ → Bool) → WalkTakesWhole closed
walk_takes_whole closed inp bs c p l = (whole_if closed inp bs p c, if_whole closed inp bs p c l)
