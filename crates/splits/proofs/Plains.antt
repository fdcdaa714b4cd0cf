-- The plain tree closes its case and is small; what is shown is a settled case that is not closed.
use Rattle.std.proofs.Common.{◌≡◌, ℕ, zero, suc, ◌+◌, ◌-◌, ◌*◌, ◌/◌, ◌%◌, ◌<◌, ◌≤◌, Bool, true, false, leb, ◌≢◌, ◌⊎◌, List, [], ◌∷◌, length, get_or, take, set, replicate, Ok, sym, refl, ap, ◌∙◌, subst, inl, inr, ⊎_elim, mul_assoc, suc-mul, mul-one, mul-add, arith}
use Rattle.std.proofs.lemmas.List.{get_or-set_other, get_or-set_same, length-set, take_at}
use Rattle.std.proofs.lemmas.Bool.{cond-true, cond-false, cases_Bool, cases_eq, leb-true, false≢true}
use Rattle.splits.specs.Inputs.{Inputs, Proper, entries, first_input, branch_count}
use Rattle.splits.specs.Walk.{walked}
use Rattle.splits.specs.Trees.{Tree, close, split, Trees, no_more, branch, Closes, CloseBranches, size, sizes, file, words}
use Rattle.splits.specs.Plain.{Drawn, made, shows, Drawns, mades, shows_after, joined, each, node, plain, drawn, copies, whole_tree, sum_of_products, bytes, needed, places, drafted, area_after, Unsettled, Settles, PlainCloses, PlainShows, PlainMade, DraftIsTaken, PlainIsSmall, WholeCounts}
use Rattle.splits.specs.declared.drafted.Drafted.TheVariants.{File}
use Rattle.splits.proofs.Counts.{first_low}
use Rattle.splits.proofs.Wholes.{length_file, if_whole}
use Rattle.splits.proofs.Draws.{length_bytes}
use Rattle.splits.proofs.Draftings.{places_fit}

words_bytes : (ws : List ℕ) → words (bytes ws) ≡ ws
words_bytes [] = refl
words_bytes (w ∷ ws) = let e : w / 256 * 256 + w % 256 ≡ w = omega arith in let r = words_bytes ws in cc

node_made : (k : ℕ) (r : Drawns) (t : Tree) → node k r ≡ made t → (ts : Trees) × (r ≡ mades ts) × (t ≡ split k ts)
node_made k (mades ts) t h = (ts, refl, cc)
node_made k (shows_after m c) t h = absurd (cc)

joined_made : (d : Drawn) (r : Drawns) (ts : Trees) → joined d r ≡ mades ts → (t : Tree) × (us : Trees) × (d ≡ made t) × (r ≡ mades us) × (ts ≡ branch t us)
joined_made (made t) (mades us) ts h = (t, us, refl, refl, cc)
joined_made (made t) (shows_after m c) ts h = absurd (cc)
joined_made (shows m c) r ts h = absurd (cc)

module _ (closed : List ℕ → Bool) (inp : Inputs) where
  each_closes : (g : ℕ → Drawn) (c : List ℕ) (k more b : ℕ) (ts : Trees) → ((j : ℕ) (t : Tree) → g j ≡ made t → Closes closed inp t (set c k (j + 1)))
      → more + b ≡ branch_count inp k → each g more b ≡ mades ts → CloseBranches closed inp ts c k b
  each_closes g c k zero b ts ih m h =
      let e : no_more ≡ ts = cc in
      subst (λ x. CloseBranches closed inp x c k b) e (omega arith)
  each_closes g c k (suc more) b ts ih m h =
      let p = joined_made (g b) (each g more (b + 1)) ts h in
      subst (λ x. CloseBranches closed inp x c k b) (sym p.4) (ih b p.0 p.2, each_closes g c k more (b + 1) p.1 ih (omega arith) p.3)

  plain_closes_from : (left k : ℕ) (c : List ℕ) (t : Tree) → k + left ≡ entries inp → first_input inp ≤ k → ((j : ℕ) → k ≤ j → j < entries inp → get_or c j 0 ≡ 0) → plain closed inp left k c ≡ made t → Closes closed inp t c
  plain_closes_from zero k c t e f o h =
      ⊎_elim
      (λ q. let f = sym (cond-true _ _ _ q) ∙ h in let s : close ≡ t = cc in subst (λ x. Closes closed inp x c) s q)
      (λ q. let f = sym (cond-false _ _ _ q) ∙ h in absurd (cc))
      (cases_Bool (closed c))
  plain_closes_from (suc left) k c t e f o h =
      ⊎_elim
      (λ q. let f = sym (cond-true _ _ _ q) ∙ h in let s : close ≡ t = cc in subst (λ x. Closes closed inp x c) s q)
      (λ q.
      let lt : k < entries inp = omega arith in
      let g : ℕ → Drawn = λ b. plain closed inp left (k + 1) (set c k (b + 1)) in
      let p = node_made k (each g (branch_count inp k) 0) t (sym (cond-false _ _ _ q) ∙ h) in
      let ih : (j : ℕ) (t : Tree) → g j ≡ made t → Closes closed inp t (set c k (j + 1)) =
      λ j t' h'. plain_closes_from left (k + 1) (set c k (j + 1)) t' (omega arith) (omega arith) (λ x a b. let ne : x ≢ k = omega arith in get_or-set_other c k x (j + 1) 0 ne ∙ o x (omega arith) b) h' in
      subst (λ x. Closes closed inp x c) (sym p.2) ((f, lt), o k (omega arith) lt, each_closes g c k (branch_count inp k) 0 p.0 ih (omega arith) p.1))
      (cases_Bool (closed c))

pub plain_closes : (closed : List ℕ → Bool) → PlainCloses closed
plain_closes closed inp c t p l o h =
    let f = first_low inp in
    let n = length_bytes (file inp t 0 true) in
    let m = length_file inp t 0 true in
    let q = plain_closes_from closed inp (entries inp - first_input inp) (first_input inp) c t (omega arith) (omega arith) (λ j a b. o j (a, b)) h in (
      q,
      λ s. if_whole closed inp (bytes (file inp t 0 true)) p c l (record { tree = t; few = s; long = omega arith; reads = words_bytes (file inp t 0 true); closes = q }),
    )

-- What is shown.
node_shows : (k : ℕ) (r : Drawns) (m : ℕ) (e : List ℕ) → node k r ≡ shows m e → (n : ℕ) × (r ≡ shows_after n e)
node_shows k (mades ts) m e h = absurd (cc)
node_shows k (shows_after n c) m e h = (n, let q : c ≡ e = cc in ap (shows_after n) q)

joined_shows : (d : Drawn) (r : Drawns) (m : ℕ) (e : List ℕ) → joined d r ≡ shows_after m e → ((n : ℕ) × (d ≡ shows n e)) ⊎ ((n : ℕ) × (r ≡ shows_after n e))
joined_shows (made t) (mades us) m e h = absurd (cc)
joined_shows (made t) (shows_after n c) m e h = inr (n, let q : c ≡ e = cc in ap (shows_after n) q)
joined_shows (shows n c) r m e h = inl (n, let q : c ≡ e = cc in ap (shows n) q)

each_shows : (g : ℕ → Drawn) (more b m : ℕ) (e : List ℕ) → each g more b ≡ shows_after m e → (j : ℕ) × (n : ℕ) × (j < b + more) × (g j ≡ shows n e)
each_shows g zero b m e h = absurd (cc)
each_shows g (suc more) b m e h =
    ⊎_elim
    (λ p. (b, p.0, omega arith, p.1))
    (λ p. let r = each_shows g more (b + 1) p.0 e p.1 in (r.0, r.1, omega (arith, r.2), r.3))
    (joined_shows (g b) (each g more (b + 1)) m e h)

module _ (closed : List ℕ → Bool) (inp : Inputs) where
  pub record Met (k left : ℕ) (c e : List ℕ) : Type 0 where
    pub fails : closed e ≡ false
    pub long : length e ≡ length c
    pub settled : (j : ℕ) → k ≤ j → j < k + left → (0 < get_or e j 0) × (get_or e j 0 ≤ branch_count inp j)
    pub before : (j : ℕ) → j < k → get_or e j 0 ≡ get_or c j 0
    pub behind : (j : ℕ) → k + left ≤ j → get_or e j 0 ≡ get_or c j 0

  met_up : (k left b : ℕ) (c e : List ℕ) → k < length c → b < branch_count inp k → Met (k + 1) left (set c k (b + 1)) e → Met k (suc left) c e
  met_up k left b c e l h m =
      let x : get_or e k 0 ≡ b + 1 = m.before k (omega arith) ∙ get_or-set_same c k (b + 1) 0 l in
      record {
        fails = m.fails;
        long = m.long ∙ length-set c k (b + 1);
        settled = λ j a u.
            ⊎_elim
            (λ q. subst (λ y. (0 < get_or e y 0) × (get_or e y 0 ≤ branch_count inp y)) (sym q) (omega arith, omega arith))
            (λ (q : j ≢ k). m.settled j (omega arith) (omega arith))
            (cases_eq j k);
        before = λ j a. let ne : j ≢ k = omega arith in m.before j (omega arith) ∙ get_or-set_other c k j (b + 1) 0 ne;
        behind = λ j a. let ne : j ≢ k = omega arith in m.behind j (omega arith) ∙ get_or-set_other c k j (b + 1) 0 ne;
      }

  met_here : (k : ℕ) (c e : List ℕ) (m : ℕ) → closed c ≡ false → shows 0 c ≡ shows m e → Met k 0 c e
  met_here k c e m q h =
      let x : c ≡ e = cc in
      subst (λ y. Met k 0 c y) x (record { fails = q; long = refl; settled = λ j a u. absurd (omega arith); before = λ j a. refl; behind = λ j a. refl })

  meets : (left k : ℕ) (c : List ℕ) (m : ℕ) (e : List ℕ) → k + left ≤ length c → plain closed inp left k c ≡ shows m e → Met k left c e
  meets zero k c m e l h =
      ⊎_elim
      (λ q. let f = sym (cond-true _ _ _ q) ∙ h in absurd (cc))
      (λ q. met_here k c e m q (sym (cond-false _ _ _ q) ∙ h))
      (cases_Bool (closed c))
  meets (suc left) k c m e l h =
      ⊎_elim
      (λ q. let f = sym (cond-true _ _ _ q) ∙ h in absurd (cc))
      (λ q.
      let g : ℕ → Drawn = λ b. plain closed inp left (k + 1) (set c k (b + 1)) in
      let p = node_shows k (each g (branch_count inp k) 0) m e (sym (cond-false _ _ _ q) ∙ h) in
      let r = each_shows g (branch_count inp k) 0 p.0 e p.1 in
      let w = length-set c k (r.0 + 1) in
      met_up k left r.0 c e (omega arith) (omega (arith, r.2)) (meets left (k + 1) (set c k (r.0 + 1)) r.1 e (omega arith) r.3))
      (cases_Bool (closed c))

pub plain_shows : (closed : List ℕ → Bool) → PlainShows closed
plain_shows closed inp c m e l h =
    let f = first_low inp in
    let p = meets closed inp (entries inp - first_input inp) (first_input inp) c m e (omega arith) h in (
      record { full = λ k i. p.settled k i.0 (let b = i.1 in omega arith); long = p.long; before = p.before; behind = λ k a. p.behind k (omega arith) },
      p.fails,
    )

made_or : (closed : List ℕ → Bool) (inp : Inputs) (c : List ℕ) → entries inp ≤ length c → ((e : List ℕ) → Settles inp c e → closed e ≡ true) → (d : Drawn) → drawn closed inp c ≡ d → (t : Tree) × (drawn closed inp c ≡ made t)
made_or closed inp c l all (made t) h = (t, h)
made_or closed inp c l all (shows m e) h = let p = plain_shows closed inp c m e l h in absurd (false≢true (sym p.1 ∙ all e p.0))

pub plain_made : (closed : List ℕ → Bool) → PlainMade closed
plain_made closed inp c l all = made_or closed inp c l all (drawn closed inp c) refl

-- The drafted file stands in front of the area.
taken_from : (closed : List ℕ → Bool) (inp : Inputs) (c area : List ℕ) (n : ℕ) → Proper inp → entries inp ≤ length c → Unsettled inp c
    → (d : Drawn) → drawn closed inp c ≡ d → drafted (places area) d ≡ Ok (File n) → walked closed inp (take (8 * n) (area_after inp (length area) (places area) d)) c ≡ Ok tt
taken_from closed inp c area n p l o (shows m e) h q =
    ⊎_elim
    (λ b. let f = sym (cond-true _ _ _ b) ∙ q in absurd (cc))
    (λ b. let f = sym (cond-false _ _ _ b) ∙ q in absurd (cc))
    (cases_Bool (leb m (places area)))
taken_from closed inp c area n p l o (made t) h q =
    ⊎_elim
    (λ b.
    let f = sym (cond-true _ _ _ b) ∙ q in
    let s : size t ≡ n = cc in
    let x = places_fit area (places area) refl in
    let y = leb-true (size t) (places area) b in
    let u = length_bytes (file inp t 0 true) in
    let v = length_file inp t 0 true in
    let zs : List ℕ = replicate (length area - 8 * size t) 0 in
    let w : take (8 * n) (area_after inp (length area) (places area) (made t)) ≡ bytes (file inp t 0 true) =
    ap (take (8 * n)) (cond-true _ _ _ b) ∙ take_at (bytes (file inp t 0 true)) zs (8 * n) (omega arith) in
    ap (λ bs. walked closed inp bs c) w ∙ (plain_closes closed inp c t p l o h).1 (omega (arith, x.1)))
    (λ b. let f = sym (cond-false _ _ _ b) ∙ q in absurd (cc))
    (cases_Bool (leb (size t) (places area)))

pub draft_is_taken : (closed : List ℕ → Bool) → DraftIsTaken closed
draft_is_taken closed inp c area n p l o q = taken_from closed inp c area n p l o (drawn closed inp c) refl q

-- Sizes.
all_of : Drawns → ℕ
all_of (mades ts) = sizes ts
all_of (shows_after m c) = m

joined_most : (d : Drawn) (r : Drawns) → all_of (joined d r) ≤ needed d + all_of r
unfolding all_of
joined_most (made t) (mades ts) = omega arith
joined_most (made t) (shows_after m c) = omega arith
joined_most (shows m c) r = omega arith

node_needed : (k : ℕ) (r : Drawns) → needed (node k r) ≡ 1 + all_of r
unfolding all_of
node_needed k (mades ts) = refl
node_needed k (shows_after m c) = refl

each_most : (g : ℕ → Drawn) (w : Tree) (more b : ℕ) → ((j : ℕ) → needed (g j) ≤ size w) → all_of (each g more b) ≤ sizes (copies more w)
unfolding all_of
each_most g w zero b h = omega arith
each_most g w (suc more) b h = omega (arith, each_most g w more (b + 1) h, joined_most (g b) (each g more (b + 1)), h b)

plain_most : (closed : List ℕ → Bool) (inp : Inputs) (left k : ℕ) (c : List ℕ) → needed (plain closed inp left k c) ≤ size (whole_tree inp left k)
plain_most closed inp zero k c =
    ⊎_elim (λ q. let e = ap needed (cond-true _ (made close) (shows 0 c) q) in omega arith) (λ q. let e = ap needed (cond-false _ (made close) (shows 0 c) q) in omega arith) (cases_Bool (closed c))
plain_most closed inp (suc left) k c =
    let g : ℕ → Drawn = λ b. plain closed inp left (k + 1) (set c k (b + 1)) in
    let r = each g (branch_count inp k) 0 in
    let m = each_most g (whole_tree inp left (k + 1)) (branch_count inp k) 0 (λ j. plain_most closed inp left (k + 1) (set c k (j + 1))) in
    let nn = node_needed k r in
    ⊎_elim (λ q. let e = ap needed (cond-true _ (made close) (node k r) q) in omega arith) (λ q. let e = ap needed (cond-false _ (made close) (node k r) q) in omega arith) (cases_Bool (closed c))

pub plain_is_small : (closed : List ℕ → Bool) → PlainIsSmall closed
plain_is_small closed inp c = plain_most closed inp (entries inp - first_input inp) (first_input inp) c

sizes_copies : (n : ℕ) (w : Tree) → sizes (copies n w) ≡ n * size w
sizes_copies zero w = omega arith
sizes_copies (suc n) w = let r = sizes_copies n w in let e = suc-mul n (size w) in omega arith

products : (inp : Inputs) (left k p : ℕ) → sum_of_products inp p left k ≡ p * size (whole_tree inp left k)
products inp zero k p = sym (mul-one p)
products inp (suc left) k p =
    let b = branch_count inp k in
    let w = size (whole_tree inp left (k + 1)) in
    let r : sum_of_products inp (p * b) left (k + 1) ≡ p * (b * w) = products inp left (k + 1) (p * b) ∙ mul_assoc p b w in
    let e : p * (1 + b * w) ≡ p * 1 + p * (b * w) = mul-add p 1 (b * w) in
    let o = mul-one p in
    let c : p * (1 + sizes (copies b (whole_tree inp left (k + 1)))) ≡ p * (1 + b * w) = ap (λ n. p * (1 + n)) (sizes_copies b (whole_tree inp left (k + 1))) in
    omega arith

pub whole_counts : WholeCounts
whole_counts inp = let r = products inp (entries inp - first_input inp) (first_input inp) 1 in omega arith
