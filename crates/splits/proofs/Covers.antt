-- A tree that closes a case covers the full settings that agree with the case.
use Rattle.std.proofs.Common.{◌≡◌, ℕ, ◌+◌, ◌<◌, ◌≤◌, Bool, true, eqb, ◌≢◌, List, length, get_or, set, sym, refl, ap, ◌∙◌, inl, inr, ⊎_elim, arith}
use Rattle.std.proofs.lemmas.List.{length-set, get_or-set_same, get_or-set_other}
use Rattle.std.proofs.lemmas.Bool.{cases_Bool, eqb-true, eqb-false}
use Rattle.splits.specs.Inputs.{Inputs, entries, branch_count}
use Rattle.splits.specs.Trees.{Tree, close, split, Trees, no_more, branch, Closes, CloseBranches}
use Rattle.splits.specs.Coverage.{Full, Agrees, Ends, EndBranches, TreeCovers, WholeExcludes}

module _ (closed : List ℕ → Bool) (s : Inputs) (f : List ℕ) (full : Full s f) where
  -- settling an input as the full setting does keeps the agreement
  agrees_set : (c : List ℕ) (k v : ℕ) → k < length c → get_or f k 0 ≡ v → Agrees s c f → Agrees s (set c k v) f
  agrees_set c k v l e a j i =
      ⊎_elim
      (λ q.
      let p = eqb-true j k q in
      inr (ap (λ n. get_or (set c k v) n 0) p ∙ (get_or-set_same c k v 0 l ∙ (sym e ∙ ap (λ n. get_or f n 0) (sym p)))))
      (λ q.
      let o = get_or-set_other c k j v 0 (eqb-false j k q) in
      ⊎_elim (λ z. inl (o ∙ z)) (λ z. inr (o ∙ z)) (a j i))
      (cases_Bool (eqb j k))

  mutual
    covers : (t : Tree) (c : List ℕ) → entries s ≤ length c → Closes closed s t c → Agrees s c f → (e : List ℕ) × Ends t c e × (closed e ≡ true) × Agrees s e f
    covers close c l h a = (c, refl, h, a)
    covers (split k ts) c l (i, z, h) a = let p = full k i in covers_branches ts c k 0 l i.1 h a p.0 p.1

    covers_branches : (ts : Trees) (c : List ℕ) (k b : ℕ) → entries s ≤ length c → k < entries s → CloseBranches closed s ts c k b → Agrees s c f → b < get_or f k 0 → get_or f k 0 ≤ branch_count s k
        → (e : List ℕ) × EndBranches ts c k b e × (closed e ≡ true) × Agrees s e f
    covers_branches no_more c k b l i h a p q = absurd (omega arith)
    covers_branches (branch t ts) c k b l i (g, h) a p q =
        ⊎_elim
        (λ y.
        let w = length-set c k (b + 1) in
        let r = covers t (set c k (b + 1)) (omega arith) g (agrees_set c k (b + 1) (omega arith) (eqb-true _ _ y) a) in
        (r.0, inl r.1, r.2, r.3))
        (λ y.
        let o : get_or f k 0 ≢ b + 1 = eqb-false _ _ y in
        let r = covers_branches ts c k (b + 1) l i h a (omega arith) q in
        (r.0, inr r.1, r.2, r.3))
        (cases_Bool (eqb (get_or f k 0) (b + 1)))

pub tree_covers : (closed : List ℕ → Bool) → TreeCovers closed
tree_covers closed s t c f l h full a = covers closed s f full t c l h a

pub whole_excludes : (closed : List ℕ → Bool) → WholeExcludes closed
whole_excludes closed s bs c bad l w none f full a =
    let r = covers closed s f full w.tree c l w.closes a in
    none r.0 f r.2 full r.3
