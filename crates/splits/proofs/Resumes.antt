-- What is still to come of a walk, by the stack of its splits; each turn of the walk keeps it.
use Rattle.std.proofs.Common.{◌≡◌, ℕ, zero, suc, ◌+◌, ◌-◌, ◌*◌, ◌/◌, ◌<◌, ◌≤◌, Bool, true, false, cond, eqb, ◌⊎◌, List, [], ◌∷◌, length, get_or, set, Some, None, Ok, Err, Option, Result, sym, refl, ap, ◌∙◌, inl, inr, ⊎_elim, arith}
use Rattle.std.proofs.lemmas.List.{length-set, set-set, set-get_or}
use Rattle.std.proofs.lemmas.Bool.{lt-ltb, le-ltb, eq-eqb, ne_eqb, cond-true, cond-false, cases_lt, cases_Bool}
use Rattle.splits.specs.Inputs.{Inputs, entries, branch_count}
use Rattle.splits.specs.Walk.{then_on, next_checked, input_at, ended, taken, branches, subtree, finished}
use Rattle.splits.specs.declared.records.RecordFault.{RecordFault}
use Rattle.splits.specs.declared.cases.Case.{Case}
use Rattle.splits.specs.declared.faults.WalkFault.{WalkFault}
use Rattle.splits.specs.declared.faults.WalkFault.TheVariants.{PastEnd, OfRecord, NotClosed}
use Rattle.splits.proofs.Opens.{open_of, open_low, open_some, open_more}

-- a record number, if there is one, is below n
abbrev pub Below : ℕ → Option ℕ → Type 0
Below n None = Unit {0}
Below n (Some i) = i < n

abbrev pub weight : Option ℕ → ℕ
weight None = 0
weight (Some i) = 1

module _ (inp : Inputs) where
  -- the branches behind the one that is walked now
  abbrev pub left : Case → ℕ
  left o = branch_count inp o.input - (o.branch + 1)

  abbrev pub is_last : List Case → Bool
  is_last [] = true
  is_last (o ∷ os) = eqb (left o) 0

  -- The stack leads from the case c₀ to the case c, and each of its splits is one.
  abbrev pub Standing : ℕ → List ℕ → List ℕ → List Case → Type 0
  Standing records c₀ c [] = c ≡ c₀
  Standing records c₀ c (o ∷ os) =
      (o.number < records) × (o.input < entries inp) × (o.branch < branch_count inp o.input) × (0 < get_or c o.input 0) × Standing records c₀ (set c o.input 0) os

  pub standing_count : (records : ℕ) (c₀ c : List ℕ) (s : List Case) → entries inp ≤ length c → Standing records c₀ c s → length s + open_of (entries inp) c ≡ open_of (entries inp) c₀
  standing_count records c₀ c [] l h = let e = ap (open_of (entries inp)) h in omega arith
  standing_count records c₀ c (o ∷ os) l (a, i, b, t, h) =
      let m = open_more (entries inp) c o.input i (omega arith) t in
      let n = length-set c o.input 0 in
      let r = standing_count records c₀ (set c o.input 0) os (omega arith) h in
      omega arith

  -- with an input open there is room for one more split
  pub standing_room : (records : ℕ) (c₀ c : List ℕ) (s : List Case) (k : ℕ) → entries inp ≤ length c → Standing records c₀ c s → k < entries inp → get_or c k 0 ≡ 0 → length s < entries inp
  standing_room records c₀ c s k l h i z =
      omega (arith, standing_count records c₀ c s l h, open_some (entries inp) c k i (omega arith) z, open_low (entries inp) c₀)

module _ (closed : List ℕ → Bool) (inp : Inputs) (bs : List ℕ) where
  -- The answer of the whole walk, once the subtree that is walked now has the answer r.
  abbrev pub resume : ℕ → List ℕ → List Case → Result ℕ WalkFault → Result Unit WalkFault
  resume d c [] r = then_on r (finished closed inp bs)
  resume d c (o ∷ os) r =
      resume (suc d) (set c o.input 0) os
      (then_on (then_on r (branches closed inp bs (subtree closed inp bs d) (set c o.input 0) o.input (left inp o) (o.branch + 1)))
      (ended closed inp bs o.number (is_last inp os)))

  -- at a record that is to be taken, and where the subtree of a record has just ended
  abbrev pub pending : ℕ → List ℕ → List Case → ℕ → Option ℕ → Result Unit WalkFault
  pending d c s i None = resume d c s (subtree closed inp bs d i c (is_last inp s))
  pending d c s e (Some i) = resume d c s (ended closed inp bs i (is_last inp s) e)

  resume_err : (d : ℕ) (c : List ℕ) (s : List Case) (x : WalkFault) → resume d c s (Err x) ≡ Err x
  resume_err d c [] x = refl
  resume_err d c (o ∷ os) x = resume_err (suc d) (set c o.input 0) os x

  -- the record that is to be taken
  module _ (i : ℕ) (c : List ℕ) where
    below : ℕ → ℕ → Result ℕ WalkFault
    below zero k = Err (PastEnd (length bs))
    below (suc d) k = branches closed inp bs (subtree closed inp bs d) c k (branch_count inp k) 0 (i + 1)

    sub_past : (d : ℕ) (last : Bool) → length bs / 8 ≤ i → subtree closed inp bs d i c last ≡ Err (PastEnd (length bs))
    sub_past zero last h = cond-false _ _ _ (le-ltb i (length bs / 8) h)
    sub_past (suc d) last h = cond-false _ _ _ (le-ltb i (length bs / 8) h)

    sub_in : (d : ℕ) (last : Bool) → i < length bs / 8 → subtree closed inp bs d i c last ≡ then_on (taken closed inp bs i c (below d) (input_at inp bs c i)) (ended closed inp bs i last)
    unfolding below
    sub_in zero last h = cond-true _ _ _ (lt-ltb i (length bs / 8) h)
    sub_in (suc d) last h = cond-true _ _ _ (lt-ltb i (length bs / 8) h)

    sub_at : (d : ℕ) (last : Bool) (r : Result (Option ℕ) RecordFault) → i < length bs / 8 → r ≡ input_at inp bs c i → subtree closed inp bs d i c last ≡ then_on (taken closed inp bs i c (below d) r) (ended closed inp bs i last)
    sub_at d last r h e = sub_in d last h ∙ ap (λ q. then_on (taken closed inp bs i c (below d) q) (ended closed inp bs i last)) (sym e)

    pub sub_close : (d : ℕ) (last : Bool) → i < length bs / 8 → Ok None ≡ input_at inp bs c i → closed c ≡ true → subtree closed inp bs d i c last ≡ ended closed inp bs i last (i + 1)
    sub_close d last h q o = sub_at d last (Ok None) h q ∙ ap (λ b. then_on (cond b (Ok (i + 1)) (Err (NotClosed (8 * i)))) (ended closed inp bs i last)) o

    pub sub_split : (d : ℕ) (last : Bool) (k : ℕ) → i < length bs / 8 → Ok (Some k) ≡ input_at inp bs c i
        → subtree closed inp bs (suc d) i c last ≡ then_on (branches closed inp bs (subtree closed inp bs d) c k (branch_count inp k) 0 (i + 1)) (ended closed inp bs i last)
    unfolding below
    sub_split d last k h q = sub_at (suc d) last (Ok (Some k)) h q

    -- what a subtree without a fault begins with
    abbrev pub Begins : ℕ → Bool → ℕ → Type 0
    Begins zero last e = ⊥
    Begins (suc d) last e = (k : ℕ) × (Ok (Some k) ≡ input_at inp bs c i) × (then_on (branches closed inp bs (subtree closed inp bs d) c k (branch_count inp k) 0 (i + 1)) (ended closed inp bs i last) ≡ Ok e)

    abbrev pub Starts : ℕ → Bool → ℕ → Type 0
    Starts d last e =
        ((Ok None ≡ input_at inp bs c i) × (closed c ≡ true) × (ended closed inp bs i last (i + 1) ≡ Ok e)) ⊎ Begins d last e

    begins : (d : ℕ) (last : Bool) (e k : ℕ) → Ok (Some k) ≡ input_at inp bs c i → then_on (below d k) (ended closed inp bs i last) ≡ Ok e → Begins d last e
    unfolding below
    begins zero last e k q h = absurd (cc)
    begins (suc d) last e k q h = (k, q, h)

    starts : (d : ℕ) (last : Bool) (e : ℕ) (r : Result (Option ℕ) RecordFault) → r ≡ input_at inp bs c i → then_on (taken closed inp bs i c (below d) r) (ended closed inp bs i last) ≡ Ok e → Starts d last e
    starts d last e (Err x) q h = absurd (cc)
    starts d last e (Ok None) q h =
        ⊎_elim
        (λ o. inl (q, o, sym (ap (λ b. then_on (cond b (Ok (i + 1)) (Err (NotClosed (8 * i)))) (ended closed inp bs i last)) o) ∙ h))
        (λ o. let f = sym (ap (λ b. then_on (cond b (Ok (i + 1)) (Err (NotClosed (8 * i)))) (ended closed inp bs i last)) o) ∙ h in absurd (cc))
        (cases_Bool (closed c))
    starts d last e (Ok (Some k)) q h = inr (begins d last e k q h)

    pub sub_ok : (d : ℕ) (last : Bool) (e : ℕ) → subtree closed inp bs d i c last ≡ Ok e → (i < length bs / 8) × Starts d last e
    sub_ok d last e h =
        ⊎_elim
        (λ l. (l, starts d last e _ refl (sym (sub_in d last l) ∙ h)))
        (λ l. let f = sym (sub_past d last l) ∙ h in absurd (cc))
        (cases_lt i (length bs / 8))

    module _ (d : ℕ) (s : List Case) where
      pub pending_past : length bs / 8 ≤ i → pending d c s i None ≡ Err (PastEnd (length bs))
      pending_past h = ap (resume d c s) (sub_past d (is_last inp s) h) ∙ resume_err d c s _

      pub pending_fault : (e : RecordFault) → i < length bs / 8 → Err e ≡ input_at inp bs c i → pending d c s i None ≡ Err (OfRecord e)
      pending_fault e h q = ap (resume d c s) (sub_at d (is_last inp s) (Err e) h q) ∙ resume_err d c s _

      pub pending_open : i < length bs / 8 → Ok None ≡ input_at inp bs c i → closed c ≡ false → pending d c s i None ≡ Err (NotClosed (8 * i))
      pending_open h q o =
          ap (resume d c s) (sub_at d (is_last inp s) (Ok None) h q ∙ ap (λ b. then_on (cond b (Ok (i + 1)) (Err (NotClosed (8 * i)))) (ended closed inp bs i (is_last inp s))) o)
          ∙ resume_err d c s _

      pub pending_close : i < length bs / 8 → Ok None ≡ input_at inp bs c i → closed c ≡ true → pending d c s i None ≡ pending d c s (i + 1) (Some i)
      pending_close h q o =
          ap (resume d c s) (sub_at d (is_last inp s) (Ok None) h q ∙ ap (λ b. then_on (cond b (Ok (i + 1)) (Err (NotClosed (8 * i)))) (ended closed inp bs i (is_last inp s))) o)

    -- a case with an open input k, as its parent sees it
    unset : (k v : ℕ) → get_or c k 0 ≡ 0 → set (set c k v) k 0 ≡ c
    unset k v z = set-set c k v 0 ∙ (ap (set c k) (sym z) ∙ set-get_or c k 0)

    pub pending_split : (d : ℕ) (s : List Case) (k : ℕ) → i < length bs / 8 → Ok (Some k) ≡ input_at inp bs c i → 0 < branch_count inp k → get_or c k 0 ≡ 0
        → pending (suc d) c s i None ≡ pending d (set c k 1) (record { input = k; branch = 0; number = i } ∷ s) (i + 1) None
    unfolding below
    pending_split d s k h q n z =
        let t : branch_count inp k ≡ suc (branch_count inp k - 1) = omega arith in
        ap (resume (suc d) c s) (sub_at (suc d) (is_last inp s) (Ok (Some k)) h q
        ∙ ap (λ m. then_on (branches closed inp bs (subtree closed inp bs d) c k m 0 (i + 1)) (ended closed inp bs i (is_last inp s))) t)
        ∙ ap (λ p. resume (suc d) p s (then_on (then_on (subtree closed inp bs d (i + 1) (set c k 1) (eqb (branch_count inp k - 1) 0)) (branches closed inp bs (subtree closed inp bs d) p k (branch_count inp k - 1) 1)) (ended closed inp bs i (is_last inp s)))) (sym (unset k 1 z))

  -- the subtree of record i has ended before record e
  module _ (i e d : ℕ) (c : List ℕ) (s : List Case) where
    pub pending_wrong : (last : Bool) (x : WalkFault) → is_last inp s ≡ last → Err x ≡ next_checked bs i e last → pending d c s e (Some i) ≡ Err x
    pending_wrong last x l q =
        ap (λ b. resume d c s (then_on (next_checked bs i e b) (λ _. Ok e))) l ∙ (ap (λ r. resume d c s (then_on r (λ _. Ok e))) (sym q) ∙ resume_err d c s x)

    right : (last : Bool) → is_last inp s ≡ last → Ok tt ≡ next_checked bs i e last → pending d c s e (Some i) ≡ resume d c s (Ok e)
    right last l q = ap (λ b. resume d c s (then_on (next_checked bs i e b) (λ _. Ok e))) l ∙ ap (λ r. resume d c s (then_on r (λ _. Ok e))) (sym q)

  module _ (i e d : ℕ) (c : List ℕ) (o : Case) (s : List Case) where
    pub pending_pop : left inp o ≡ 0 → Ok tt ≡ next_checked bs i e true → pending d c (o ∷ s) e (Some i) ≡ pending (suc d) (set c o.input 0) s e (Some o.number)
    pending_pop l q =
        right i e d c (o ∷ s) true (eq-eqb _ _ l) q
        ∙ ap (λ m. resume (suc d) (set c o.input 0) s (then_on (branches closed inp bs (subtree closed inp bs d) (set c o.input 0) o.input m (o.branch + 1) e) (ended closed inp bs o.number (is_last inp s)))) l

    pub pending_next : 0 < left inp o → Ok tt ≡ next_checked bs i e false
        → pending d c (o ∷ s) e (Some i) ≡ pending d (set c o.input (o.branch + 1 + 1)) (record { input = o.input; branch = o.branch + 1; number = o.number } ∷ s) e None
    pending_next l q =
        let k = o.input in
        let b = o.branch in
        let p = set c k 0 in
        let m = branch_count inp k - (b + 1 + 1) in
        let t : left inp o ≡ suc m = omega arith in
        let w : set p k (b + 1 + 1) ≡ set c k (b + 1 + 1) = set-set c k 0 (b + 1 + 1) in
        let u : p ≡ set (set c k (b + 1 + 1)) k 0 = sym (set-set c k (b + 1 + 1) 0) in
        right i e d c (o ∷ s) false (ne_eqb _ _ (λ z. omega arith)) q
        ∙ (ap (λ n. resume (suc d) p s (then_on (branches closed inp bs (subtree closed inp bs d) p k n (b + 1) e) (ended closed inp bs o.number (is_last inp s)))) t
        ∙ (ap (λ y. resume (suc d) p s (then_on (then_on (subtree closed inp bs d e y (eqb m 0)) (branches closed inp bs (subtree closed inp bs d) p k m (b + 1 + 1))) (ended closed inp bs o.number (is_last inp s)))) w
        ∙ ap (λ y. resume (suc d) y s (then_on (then_on (subtree closed inp bs d e (set c k (b + 1 + 1)) (eqb m 0)) (branches closed inp bs (subtree closed inp bs d) y k m (b + 1 + 1))) (ended closed inp bs o.number (is_last inp s)))) u))
