-- The rounds of a stratum give least sets: over any values that are read as yes or not, negation read in another way.
use Rattle.std.proofs.Common.{◌≡◌, ℕ, zero, suc, ◌<◌, ◌≤◌, Bool, true, false, not, ◌&&◌, ◌||◌, eqb, ◌⊎◌, List, [], ◌∷◌, sym, refl, ap, ◌∙◌, subst, inl, inr, arith}
use Rattle.std.proofs.lemmas.Bool.{both_ways, cases_eq, cases_lt, and_parts, and_from, or_cases, or_left, or_right, eq-eqb, ne_eqb, not-true, not_from_false}
use Rattle.evaluate.specs.Lists.{Each, Some, here, there, tally}
use Rattle.evaluate.specs.Program.{Part, Program, Lower, PartFits, Stratified}
use Rattle.evaluate.specs.Model.{MetBy, Closed, Least}
use Rattle.evaluate.specs.Evaluate.{Ops, look, signed, part, body, any_of, cleared, rounds, stratum_done, up_to, evaluated}
use Rattle.evaluate.proofs.Related.{each_map, look_put_in, look_put_other, look_put_out}
use Rattle.evaluate.proofs.Steady.{steady, Same}

pub each_map₂ : {A : Type 0} {P Q S : A → Type 0} (f : (x : A) → P x → Q x → S x) (xs : List A) → Each P xs → Each Q xs → Each S xs
each_map₂ f [] g h = tt
each_map₂ f (x ∷ xs) g h = (f x g.0 h.0, each_map₂ f xs g.1 h.1)

pub some_map₂ : {A : Type 0} {P Q S : A → Type 0} (f : (x : A) → P x → Q x → S x) {xs : List A} → Each P xs → Some Q xs → Some S xs
some_map₂ f g (here h) = here (f _ g.0 h)
some_map₂ f g (there h) = there (some_map₂ f g.1 h)

-- bodies, where L says which literals are true
module _ (L : Part → Bool) where
  every : Bool → List Part → Bool
  every v [] = v
  every v (l ∷ ls) = every (v && L l) ls

  some : Bool → List (List Part) → Bool
  some v [] = v
  some v (b ∷ bs) = some (v || every true b) bs

  True : Part → Type 0
  True l = L l ≡ true

  every_true : (ls : List Part) (v : Bool) → v ≡ true → Each True ls → every v ls ≡ true
  unfolding every True
  every_true [] v e h = e
  every_true (l ∷ ls) v e h = every_true ls (v && L l) (and_from v _ e h.0) h.1

  every_parts : (ls : List Part) (v : Bool) → every v ls ≡ true → (v ≡ true) × Each True ls
  unfolding every True
  every_parts [] v e = (e, tt)
  every_parts (l ∷ ls) v e =
      let r = every_parts ls (v && L l) e in
      let p = and_parts v (L l) r.0 in
      (p.0, (p.1, r.1))

  some_started : (bs : List (List Part)) (v : Bool) → v ≡ true → some v bs ≡ true
  unfolding some
  some_started [] v e = e
  some_started (b ∷ bs) v e = some_started bs (v || every true b) (or_left v _ e)

  some_true : {bs : List (List Part)} → (v : Bool) → Some (Each True) bs → some v bs ≡ true
  unfolding some
  some_true v (here {x = b} {xs = bs} h) = some_started bs (v || every true b) (or_right v _ (every_true b true refl h))
  some_true v (there {x = b} {xs = bs} h) = some_true (v || every true b) h

  some_parts : (bs : List (List Part)) (v : Bool) → some v bs ≡ true → (v ≡ true) ⊎ Some (Each True) bs
  unfolding some
  some_parts [] v e = inl e
  some_parts (b ∷ bs) v e =
      elim (some_parts bs (v || every true b) e) [
        | inl h ↦ elim (or_cases v (every true b) h) [ inl k ↦ inl k | inr k ↦ inr (here (every_parts b true k).1) ]
        | inr h ↦ inr (there h)
      ]

some_up : (L K : Part → Bool) (bs : List (List Part)) → Each (Each (λ l. L l ≡ true → K l ≡ true)) bs → some L false bs ≡ true → some K false bs ≡ true
unfolding True
some_up L K bs h e =
    elim (some_parts L bs false e) [
      | inl z ↦ absurd (both_ways false refl z)
      | inr s ↦ some_true K false (some_map₂ (λ ls. each_map₂ (λ l f t. f t) ls) h s)
    ]

-- a plain literal is read in one way, a negated one in the other
reads : Bool → Bool → Bool → Bool
reads true x n = x
reads false x n = not n

pub up_eq : (b c : Bool) → (b ≡ true → c ≡ true) → (c ≡ true → b ≡ true) → b ≡ c
up_eq true c f g = sym (f refl)
up_eq false true f g = g refl
up_eq false false f g = refl

-- x i: the true atoms after i rounds of stratum s; N i: where negation is read then; M and F: the same before
record Rounds (P : Program) (s : ℕ) (x N : ℕ → ℕ → Bool) (M F : ℕ → Bool) : Type 0 where
  out : (i a : ℕ) → P.atoms ≤ a → x i a ≡ false
  starts : (a : ℕ) → a < P.atoms → P.stratum a ≡ s → x 0 a ≡ false
  goes : (i a : ℕ) → a < P.atoms → P.stratum a ≡ s → x (suc i) a ≡ some (λ (l : Part). reads l.plain (x i l.atom) (N i l.atom)) false (P.bodies a)
  others : (i a : ℕ) → a < P.atoms → (P.stratum a ≡ s → ⊥) → x i a ≡ M a
  negated : (i a : ℕ) → a < P.atoms → P.stratum a < s → N i a ≡ F a

module _ (P : Program) (st : Stratified P) (s : ℕ) (x N : ℕ → ℕ → Bool) (M F : ℕ → Bool) (r : Rounds P s x N M F) where
  fits : (a : ℕ) → a < P.atoms → P.stratum a ≡ s → Each (Each (PartFits P s)) (P.bodies a)
  fits a h e = subst (λ (t : ℕ). Each (Each (PartFits P t)) (P.bodies a)) e (st.ordered a h)

  reads_up : (b : Bool) (a i j : ℕ) → a < P.atoms → Lower b (P.stratum a) s → (x i a ≡ true → x j a ≡ true) → reads b (x i a) (N i a) ≡ true → reads b (x j a) (N j a) ≡ true
  unfolding reads
  reads_up true a i j h l u t = u t
  reads_up false a i j h l u t = subst (λ (z : Bool). not z ≡ true) (r.negated i a h l ∙ sym (r.negated j a h l)) t

  lift : (i j : ℕ) → ((a : ℕ) → x i a ≡ true → x j a ≡ true) → (a : ℕ) → a < P.atoms → P.stratum a ≡ s → x (suc i) a ≡ true → x (suc j) a ≡ true
  lift i j u a h e t =
      r.goes j a h e ∙ some_up _ _ (P.bodies a) (each_map (λ ls. each_map (λ (l : Part) (f : PartFits P s l). reads_up l.plain l.atom i j f.known f.lower (u l.atom)) ls) (P.bodies a) (fits a h e)) (sym (r.goes i a h e) ∙ t)

  spread : (i j : ℕ) → ((a : ℕ) → a < P.atoms → P.stratum a ≡ s → x i a ≡ true → x j a ≡ true) → (a : ℕ) → x i a ≡ true → x j a ≡ true
  spread i j u a t =
      elim (cases_lt a P.atoms) [
        | inl h ↦ elim (cases_eq (P.stratum a) s) [ inl e ↦ u a h e t | inr d ↦ r.others j a h d ∙ sym (r.others i a h d) ∙ t ]
        | inr h ↦ absurd (both_ways (x i a) (r.out i a h) t)
      ]

  grows : (i a : ℕ) → x i a ≡ true → x (suc i) a ≡ true
  grows zero a = spread 0 1 (λ b h e t. absurd (both_ways (x 0 b) (r.starts b h e) t)) a
  grows (suc i) a = spread (suc i) (suc (suc i)) (lift i (suc i) (grows i)) a

  inside : ℕ → ℕ → Bool
  inside i a = eqb (P.stratum a) s && x i a

  count : ℕ
  count = tally P.atoms (λ a. eqb (P.stratum a) s)

  back : (i : ℕ) → Same P.atoms (inside i) (inside (suc i)) → (a : ℕ) → x (suc i) a ≡ true → x i a ≡ true
  unfolding inside
  back i g = spread (suc i) i (λ a h e t. let k : eqb (P.stratum a) s ≡ true = eq-eqb (P.stratum a) s e in (and_parts (eqb (P.stratum a) s) (x i a) (g a h ∙ and_from _ _ k t)).1)

  -- after as many rounds as the stratum has atoms, one more changes nothing
  fixed : (a : ℕ) → x count a ≡ x (suc count) a
  unfolding inside count
  fixed a =
      up_eq _ _ (grows count a)
      (back count
      (steady P.atoms (λ a. eqb (P.stratum a) s) inside
      (λ i b t. let p = and_parts (eqb (P.stratum b) s) (x i b) t in and_from _ _ p.0 (grows i b p.1))
      (λ i b t. (and_parts (eqb (P.stratum b) s) (x i b) t).0)
      (λ i g b h. ap (λ c. eqb (P.stratum b) s && c) (up_eq _ _ (grows (suc i) b) (spread (suc (suc i)) (suc i) (lift (suc i) i (back i g)) b)))) a)

  module _ (Z : ℕ → Bool) (agrees : (b : ℕ) → b < P.atoms → P.stratum b ≤ s → Z b ≡ x count b) (Y : ℕ → Bool) (finally : (b : ℕ) → b < P.atoms → P.stratum b < s → Y b ≡ F b) where
    met_true : (b : Bool) (a : ℕ) → a < P.atoms → Lower b (P.stratum a) s → MetBy b P Z Y s Z a → reads b (x count a) (N count a) ≡ true
    unfolding reads
    met_true true a h l m = elim (cases_eq (P.stratum a) s) [ inl e ↦ sym (agrees a h l) ∙ m.0 e | inr u ↦ sym (agrees a h l) ∙ m.1 (omega arith) ]
    met_true false a h l m = not_from_false (N count a) (r.negated count a h l ∙ sym (finally a h l) ∙ m)

    true_met : (X : ℕ → Bool) (i : ℕ) → ((a : ℕ) → a < P.atoms → P.stratum a ≡ s → x i a ≡ true → X a ≡ true) → (b : Bool) (a : ℕ) → a < P.atoms → Lower b (P.stratum a) s → reads b (x i a) (N i a) ≡ true → MetBy b P Z Y s X a
    unfolding reads
    true_met X i ih true a h l t = (λ e. ih a h e t, λ u. agrees a h l ∙ r.others count a h (λ e. omega arith) ∙ sym (r.others i a h (λ e. omega arith)) ∙ t)
    true_met X i ih false a h l t = finally a h l ∙ sym (r.negated i a h l) ∙ not-true (N i a) t

    least_here : (X : ℕ → Bool) → Closed P Z Y s X → (i a : ℕ) → a < P.atoms → P.stratum a ≡ s → x i a ≡ true → X a ≡ true
    unfolding True
    least_here X c zero a h e t = absurd (both_ways (x 0 a) (r.starts a h e) t)
    least_here X c (suc i) a h e t =
        elim (some_parts _ (P.bodies a) false (sym (r.goes i a h e) ∙ t)) [
          | inl z ↦ absurd (both_ways false refl z)
          | inr some ↦ c a h e (some_map₂ (λ ls. each_map₂ (λ (l : Part) (f : PartFits P s l) m. true_met X i (least_here X c i) l.plain l.atom f.known f.lower m) ls) (fits a h e) some)
        ]

    least_in : Least P Z Y s
    unfolding True
    least_in = record {
      closed = λ a h e some.
          agrees a h (omega arith) ∙ fixed a ∙ r.goes count a h e ∙
          some_true _ false (some_map₂ (λ ls. each_map₂ (λ (l : Part) (f : PartFits P s l) m. met_true l.plain l.atom f.known f.lower m) ls) (fits a h e) some);
      least = λ X c a h e t. least_here X c count a h e (sym (agrees a h (omega arith)) ∙ t);
    }

-- an atom of another stratum stays, over any values
module _ {V : Type 0} (o : Ops V) (P : Program) where
  other : (s i : ℕ) (vs : List V) (a : ℕ) → a < P.atoms → (P.stratum a ≡ s → ⊥) → look o (rounds o P s i (cleared o P s vs)) a ≡ look o vs a
  unfolding rounds
  other s zero vs a h d = look_put_other o P s _ vs a h (ne_eqb (P.stratum a) s d)
  other s (suc i) vs a h d = look_put_other o P s _ (rounds o P s i (cleared o P s vs)) a h (ne_eqb (P.stratum a) s d) ∙ other s i vs a h d

  pub stays : (vs : List V) (t s a : ℕ) → s ≤ t → a < P.atoms → P.stratum a ≤ s → look o (up_to o P t vs) a ≡ look o (up_to o P s vs) a
  unfolding up_to stratum_done
  stays vs zero s a le h l = let e : 0 ≡ s = omega arith in ap (λ (m : ℕ). look o (up_to o P m vs) a) e
  stays vs (suc t) s a le h l =
      elim (cases_eq s (suc t)) [
        | inl e ↦ ap (λ (m : ℕ). look o (up_to o P m vs) a) (sym e)
        | inr u ↦ other (suc t) (tally P.atoms (λ b. eqb (P.stratum b) (suc t))) (up_to o P t vs) a h (λ e. omega arith) ∙ stays vs t s a (omega arith) h l
      ]

-- Values read as yes by h, and by k where they are negated.
pub record Half {V : Type 0} (o : Ops V) (h k : V → Bool) : Type 0 where
  pub yes_half : h o.yes' ≡ true
  pub no_half : h o.no' ≡ false
  pub not_half : (v : V) → h (o.not' v) ≡ not (k v)
  pub and_half : (u v : V) → h (o.and' u v) ≡ h u && h v
  pub or_half : (u v : V) → h (o.or' u v) ≡ h u || h v

module _ {V : Type 0} (o : Ops V) (h k : V → Bool) (half : Half o h k) where
  Read : (ℕ → V) → Part → Bool
  Read M l = reads l.plain (h (M l.atom)) (k (M l.atom))

  signed_half : (b : Bool) (v : V) → h (signed o b v) ≡ reads b (h v) (k v)
  unfolding reads
  signed_half true v = refl
  signed_half false v = half.not_half v

  body_half : (M : ℕ → V) (ls : List Part) (v : V) → h (body o M v ls) ≡ every (Read M) (h v) ls
  unfolding every Read
  body_half M [] v = refl
  body_half M (l ∷ ls) v = body_half M ls (o.and' v (part o M l)) ∙ ap (λ b. every (Read M) b ls) (half.and_half v _ ∙ ap (λ b. h v && b) (signed_half l.plain (M l.atom)))

  any_half : (M : ℕ → V) (bs : List (List Part)) (v : V) → h (any_of o M v bs) ≡ some (Read M) (h v) bs
  unfolding some
  any_half M [] v = refl
  any_half M (b ∷ bs) v =
      any_half M bs (o.or' v (body o M o.yes' b)) ∙ ap (λ c. some (Read M) c bs) (half.or_half v _ ∙ ap (λ c. h v || c) (body_half M b o.yes' ∙ ap (λ c. every (Read M) c b) half.yes_half))

  module _ (P : Program) (st : Stratified P) (vs : List V) where
    state : ℕ → ℕ → List V
    state s i = rounds o P s i (cleared o P s vs)

    state_rounds : (s : ℕ) → Rounds P s (λ i a. h (look o (state s i) a)) (λ i a. k (look o (state s i) a)) (λ a. h (look o vs a)) (λ a. k (look o vs a))
    unfolding state Read rounds
    state_rounds s = record {
      out = outs;
      starts = λ a l e. ap h (look_put_in o P s _ vs a l (eq-eqb (P.stratum a) s e)) ∙ half.no_half;
      goes = λ i a l e. ap h (look_put_in o P s _ (state s i) a l (eq-eqb (P.stratum a) s e)) ∙ any_half (look o (state s i)) (P.bodies a) o.no' ∙ ap (λ c. some (Read (look o (state s i))) c (P.bodies a)) half.no_half;
      others = λ i a l d. ap h (other o P s i vs a l d);
      negated = λ i a l u. ap k (other o P s i vs a l (λ e. omega arith));
    }
      where
        outs : (i a : ℕ) → P.atoms ≤ a → h (look o (rounds o P s i (cleared o P s vs)) a) ≡ false
        outs zero a l = ap h (look_put_out o P s _ vs a l) ∙ half.no_half
        outs (suc i) a l = ap h (look_put_out o P s _ (rounds o P s i (cleared o P s vs)) a l) ∙ half.no_half

  -- each stratum of what is evaluated is a least set
  least_at : (P : Program) → Stratified P → (vs : List V) → (s : ℕ) → suc s ≤ P.strata → Least P (λ a. h (look o (evaluated o P vs) a)) (λ a. k (look o (evaluated o P vs) a)) (suc s)
  unfolding state count evaluated up_to stratum_done
  least_at P st vs s le =
      least_in P st (suc s) _ _ _ _ (state_rounds P st (up_to o P s vs) (suc s))
      (λ a. h (look o (evaluated o P vs) a)) (λ b l u. ap h (top b l u))
      (λ a. k (look o (evaluated o P vs) a)) (λ b l u. ap k (stays o P vs P.strata s b (omega arith) l (omega arith)))
    where
      top : (b : ℕ) → b < P.atoms → P.stratum b ≤ suc s → look o (evaluated o P vs) b ≡ look o (state P st (up_to o P s vs) (suc s) (tally P.atoms (λ a. eqb (P.stratum a) (suc s)))) b
      top b l u = stays o P vs P.strata (suc s) b le l u

  pub evaluated_least : (P : Program) → Stratified P → (vs : List V) → (s : ℕ) → 0 < s → Least P (λ a. h (look o (evaluated o P vs) a)) (λ a. k (look o (evaluated o P vs) a)) s
  evaluated_least P st vs zero pos = absurd (omega arith)
  evaluated_least P st vs (suc s) pos = record {
    closed = λ a l e some. (least_at P st vs s (omega (arith, st.within a l))).closed a l e some;
    least = λ X c a l e t. (least_at P st vs s (omega (arith, st.within a l))).least X c a l e t;
  }
