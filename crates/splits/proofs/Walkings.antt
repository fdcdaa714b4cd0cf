-- What stands at each turn of the walk, and that each turn keeps it.
use Rattle.std.proofs.Common.{◌≡◌, ℕ, suc, ◌+◌, ◌-◌, ◌*◌, ◌/◌, ◌%◌, ◌<◌, ◌≤◌, Bool, true, false, cond, eqb, leb, List, [], ◌∷◌, length, get_or, set, Some, None, Ok, Err, Option, Result, sym, refl, ap, ◌∙◌, subst, arith}
use Rattle.std.proofs.lemmas.List.{set-set, set-get_or, get_or-set_same}
use Rattle.std.proofs.lemmas.Bool.Decides.{nat_tests}
use Rattle.std.proofs.lemmas.Bool.{cond-true, leb-true, leb-false}
use Rattle.splits.specs.Inputs.{Inputs, entries, branch_count}
use Rattle.splits.specs.Walk.{then_on, next_checked, input_at, finished, walked, sized}
use Rattle.splits.specs.declared.records.RecordFault.{RecordFault}
use Rattle.splits.specs.declared.cases.Case.{Case}
use Rattle.splits.specs.declared.faults.WalkFault.{WalkFault}
use Rattle.splits.specs.declared.faults.WalkFault.TheVariants.{PastEnd, OfRecord, NotClosed}
use Rattle.splits.proofs.Readings.{split_input_open}
use Rattle.splits.proofs.Resumes.{Below, is_last, Standing, standing_room, pending, pending_past, pending_fault, pending_open, pending_close, pending_split, pending_wrong, pending_pop, pending_next}

pub record Walking (closed : List ℕ → Bool) (inp : Inputs) (bs c₀ : List ℕ) (i : ℕ) (c : List ℕ) (s : List Case) (over : Option ℕ) : Type 0 where
  pub within : i ≤ length bs / 8
  pub shallow : length s ≤ entries inp
  pub behind : Below (length bs / 8) over
  pub standing : Standing inp (length bs / 8) c₀ c s
  pub to_come : pending closed inp bs (entries inp - length s) c s i over ≡ walked closed inp bs c₀

-- a split is by an open input
pub split_open : (inp : Inputs) (bs c : List ℕ) (i k : ℕ) → Ok (Some k) ≡ input_at inp bs c i → (k < entries inp) × (get_or c k 0 ≡ 0)
split_open inp bs c i k e = let p = split_input_open inp bs c i k e in (p.0.1, p.1)

-- none is left of n where there are m
pub none_left : (n m : ℕ) → eqb (n - m) 0 ≡ leb n m
none_left n m = grind (arith, nat_tests)

then_on_then : {A B C E : Type 0} (r : Result A E) (b : B) (f : B → Result C E) → then_on (then_on r (λ _. Ok b)) f ≡ then_on r (λ _. f b)
then_on_then (Ok a) b f = refl
then_on_then (Err e) b f = refl

module _ {closed : List ℕ → Bool} {inp : Inputs} {bs c₀ : List ℕ} where
  -- the walk begins
  pub walking_starts : 8 ≤ length bs → length bs ≤ 524280 → length bs % 8 ≡ 0 → Walking closed inp bs c₀ 0 c₀ [] None
  walking_starts a b m =
      let s : sized closed inp bs ≡ true = grind (arith, nat_tests) in
      let z : entries inp - 0 ≡ entries inp = omega arith in
      record { within = omega arith; shallow = omega arith; behind = tt; standing = refl; to_come = ap (λ n. pending closed inp bs n c₀ [] 0 None) z ∙ sym (cond-true _ _ _ s) }

  -- of the same case
  pub walking_same : {i : ℕ} {c c' : List ℕ} {s s' : List Case} {over over' : Option ℕ} → Walking closed inp bs c₀ i c s over → c ≡ c' → s ≡ s' → over ≡ over' → Walking closed inp bs c₀ i c' s' over'
  walking_same {i = i} {c = c} {c' = c'} {s = s} {s' = s'} {over = over} w e f g =
      subst (Walking closed inp bs c₀ i c' s') g (subst (λ x. Walking closed inp bs c₀ i c' x over) f (subst (λ x. Walking closed inp bs c₀ i x s over) e w))

  module _ {i : ℕ} {c : List ℕ} {s : List Case} (w : Walking closed inp bs c₀ i c s None) where
    pub walking_past : length bs / 8 ≤ i → Err (PastEnd (length bs)) ≡ walked closed inp bs c₀
    walking_past h = sym (pending_past closed inp bs i c (entries inp - length s) s h) ∙ w.to_come

    pub walking_fault : (x : RecordFault) → i < length bs / 8 → Err x ≡ input_at inp bs c i → Err (OfRecord x) ≡ walked closed inp bs c₀
    walking_fault x h q = sym (pending_fault closed inp bs i c (entries inp - length s) s x h q) ∙ w.to_come

    pub walking_open : i < length bs / 8 → Ok None ≡ input_at inp bs c i → closed c ≡ false → Err (NotClosed (8 * i)) ≡ walked closed inp bs c₀
    walking_open h q o = sym (pending_open closed inp bs i c (entries inp - length s) s h q o) ∙ w.to_come

    pub walking_close : i < length bs / 8 → Ok None ≡ input_at inp bs c i → closed c ≡ true → Walking closed inp bs c₀ (i + 1) c s (Some i)
    walking_close h q o =
        record {
          within = omega arith;
          shallow = w.shallow;
          behind = h;
          standing = w.standing;
          to_come = sym (pending_close closed inp bs i c (entries inp - length s) s h q o) ∙ w.to_come;
        }

    -- with an input open there is room for one more split
    pub walking_room : (k : ℕ) → entries inp ≤ length c → Ok (Some k) ≡ input_at inp bs c i → (k < entries inp) × (length s < entries inp)
    walking_room k l q =
        let p = split_open inp bs c i k q in
        (p.0, standing_room inp (length bs / 8) c₀ c s k l w.standing p.0 p.1)

    pub walking_split : (k : ℕ) → entries inp ≤ length c → ((n : ℕ) → n < entries inp → 0 < branch_count inp n) → i < length bs / 8 → Ok (Some k) ≡ input_at inp bs c i
        → Walking closed inp bs c₀ (i + 1) (set c k 1) (record { input = k; branch = 0; number = i } ∷ s) None
    walking_split k l n h q =
        let p = split_open inp bs c i k q in
        let f = (walking_room k l q).1 in
        let u : set (set c k 1) k 0 ≡ c = set-set c k 1 0 ∙ (ap (set c k) (sym p.1) ∙ set-get_or c k 0) in
        let v : 0 < get_or (set c k 1) k 0 = rw (get_or-set_same c k 1 0 (omega arith)) (omega arith) in
        let r : entries inp - length s ≡ suc (entries inp - suc (length s)) = omega arith in
        let t = pending_split closed inp bs i c (entries inp - suc (length s)) s k h q (n k p.0) p.1 in
        record {
          within = omega arith;
          shallow = omega arith;
          behind = tt;
          standing = (h, p.0, n k p.0, v, subst (λ y. Standing inp (length bs / 8) c₀ y s) (sym u) w.standing);
          to_come = sym t ∙ (ap (λ y. pending closed inp bs y c s i None) (sym r) ∙ w.to_come);
        }

  -- the subtree of record j has ended
  module _ {i j : ℕ} {c : List ℕ} where
    pub walking_root : Walking closed inp bs c₀ i c [] (Some j) → then_on (next_checked bs j i true) (λ _. finished closed inp bs i) ≡ walked closed inp bs c₀
    walking_root w = sym (then_on_then (next_checked bs j i true) i (finished closed inp bs)) ∙ w.to_come

    module _ {o : Case} {s : List Case} (w : Walking closed inp bs c₀ i c (o ∷ s) (Some j)) where
      pub walking_wrong : (last : Bool) (x : WalkFault) → is_last inp (o ∷ s) ≡ last → Err x ≡ next_checked bs j i last → Err x ≡ walked closed inp bs c₀
      walking_wrong last x l q = sym (pending_wrong closed inp bs j i (entries inp - suc (length s)) c (o ∷ s) last x l q) ∙ w.to_come

      pub walking_next : entries inp ≤ length c → o.branch + 1 < branch_count inp o.input → Ok tt ≡ next_checked bs j i false
          → Walking closed inp bs c₀ i (set c o.input (o.branch + 1 + 1)) (record { input = o.input; branch = o.branch + 1; number = o.number } ∷ s) None
      walking_next m b q =
          let k = o.input in
          let p = w.standing in
          let u : set c k 0 ≡ set (set c k (o.branch + 1 + 1)) k 0 = sym (set-set c k (o.branch + 1 + 1) 0) in
          let v : 0 < get_or (set c k (o.branch + 1 + 1)) k 0 = rw (get_or-set_same c k (o.branch + 1 + 1) 0 (omega arith)) (omega arith) in
          let t = pending_next closed inp bs j i (entries inp - suc (length s)) c o s (omega arith) q in
          record {
            within = w.within;
            shallow = w.shallow;
            behind = tt;
            standing = (p.0, p.1, b, v, subst (λ y. Standing inp (length bs / 8) c₀ y s) u p.4);
            to_come = sym t ∙ w.to_come;
          }

      pub walking_pop : branch_count inp o.input ≤ o.branch + 1 → Ok tt ≡ next_checked bs j i true → Walking closed inp bs c₀ i (set c o.input 0) s (Some o.number)
      walking_pop b q =
          let p = w.standing in
          let r : entries inp - length s ≡ suc (entries inp - suc (length s)) = omega (arith, w.shallow) in
          let t = pending_pop closed inp bs j i (entries inp - suc (length s)) c o s (omega arith) q in
          record {
            within = w.within;
            shallow = omega (arith, w.shallow);
            behind = p.0;
            standing = p.4;
            to_come = ap (λ y. pending closed inp bs y (set c o.input 0) s i (Some o.number)) r ∙ (sym t ∙ w.to_come);
          }

      -- on to the next branch, or out of the split
      pub walking_turn : (last : Bool) → entries inp ≤ length c → last ≡ leb (branch_count inp o.input) (o.branch + 1) → Ok tt ≡ next_checked bs j i last
          → Walking closed inp bs c₀ i (set c o.input (cond last 0 (o.branch + 1 + 1))) (cond last s (record { input = o.input; branch = o.branch + 1; number = o.number } ∷ s)) (cond last (Some o.number) None)
      walking_turn true m e q = walking_pop (leb-true _ _ (sym e)) q
      walking_turn false m e q = walking_next m (leb-false _ _ (sym e)) q
