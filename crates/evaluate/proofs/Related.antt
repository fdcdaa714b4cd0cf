-- What one evaluation does and another does alike: a relation that the operations keep, the evaluation keeps.
use Rattle.std.proofs.Common.{◌≡◌, ℕ, zero, suc, ◌<◌, ◌≤◌, Bool, true, false, cond, List, [], ◌∷◌, length, sym, ◌∙◌, subst₂, inl, inr, arith}
use lib.ListN.{get_or-eq_default}
use Rattle.std.proofs.lemmas.List.FromFn.{get_or-map-range_with_len, length-map-range_with_len, fill_by_all}
use Rattle.std.proofs.lemmas.Bool.{cases_lt, cases_Bool, cond-true, cond-false}
use Rattle.evaluate.specs.Lists.{Each}
use Rattle.evaluate.specs.Program.{Part, Program}
use Rattle.evaluate.specs.Evaluate.{Ops, look, signed, part, body, any_of, in_stratum, put_stratum, head, round, cleared, rounds, stratum_done, up_to, evaluated}

pub each_map : {A : Type 0} {P Q : A → Type 0} (f : (x : A) → P x → Q x) (xs : List A) → Each P xs → Each Q xs
each_map f [] h = tt
each_map f (x ∷ xs) h = (f x h.0, each_map f xs h.1)

pub each_any : {A : Type 0} {P : A → Type 0} (f : (x : A) → P x) (xs : List A) → Each P xs
each_any f [] = tt
each_any f (x ∷ xs) = (f x, each_any f xs)

-- a stratum that is put in, atom by atom
module _ {V : Type 0} (o : Ops V) (P : Program) (s : ℕ) (f : ℕ → V) (vs : List V) where
  pub put_length : length (put_stratum o P s f vs) ≡ P.atoms
  unfolding put_stratum
  put_length = length-map-range_with_len (λ a. cond (in_stratum o P s a) (f a) (look o vs a)) 0 P.atoms

  pub look_put : (a : ℕ) → a < P.atoms → look o (put_stratum o P s f vs) a ≡ cond (in_stratum o P s a) (f a) (look o vs a)
  unfolding put_stratum
  look_put a h = get_or-map-range_with_len (λ b. cond (in_stratum o P s b) (f b) (look o vs b)) 0 P.atoms a a o.no' h (omega arith)

  pub look_put_out : (a : ℕ) → P.atoms ≤ a → look o (put_stratum o P s f vs) a ≡ o.no'
  look_put_out a h = get_or-eq_default _ _ {n = a} (rw put_length h)

  pub look_put_in : (a : ℕ) → a < P.atoms → in_stratum o P s a ≡ true → look o (put_stratum o P s f vs) a ≡ f a
  look_put_in a h e = look_put a h ∙ cond-true (in_stratum o P s a) _ _ e

  pub look_put_other : (a : ℕ) → a < P.atoms → in_stratum o P s a ≡ false → look o (put_stratum o P s f vs) a ≡ look o vs a
  look_put_other a h e = look_put a h ∙ cond-false (in_stratum o P s a) _ _ e

-- the stratum of what was put in, put in again
pub put_again : {V : Type 0} (o : Ops V) (P : Program) (s : ℕ) (f : ℕ → V) (vs : List V) → put_stratum o P s (look o (put_stratum o P s f vs)) vs ≡ put_stratum o P s f vs
unfolding put_stratum
put_again o P s f vs =
    fill_by_all (λ a. cond (in_stratum o P s a) (f a) (look o vs a)) (put_stratum o P s (look o (put_stratum o P s f vs)) vs) P.atoms o.no' (put_length o P s _ vs)
    (λ a h. elim (cases_Bool (in_stratum o P s a)) [
      | inl e ↦ look_put_in o P s (look o (put_stratum o P s f vs)) vs a h e ∙ look_put o P s f vs a h
      | inr e ↦ look_put_other o P s (look o (put_stratum o P s f vs)) vs a h e ∙ sym (cond-false (in_stratum o P s a) _ _ e)
    ])

pub record Keeps {V W : Type 0} (o : Ops V) (q : Ops W) (R : V → W → Type 0) : Type 0 where
  pub yes_kept : R o.yes' q.yes'
  pub no_kept : R o.no' q.no'
  pub and_kept : (a b : V) (c d : W) → R a c → R b d → R (o.and' a b) (q.and' c d)
  pub or_kept : (a b : V) (c d : W) → R a c → R b d → R (o.or' a b) (q.or' c d)

module _ {V W : Type 0} (o : Ops V) (q : Ops W) (R : V → W → Type 0) (k : Keeps o q R) where
  abbrev pub Alike : (ℕ → V) → (ℕ → W) → Part → Type 0
  Alike M N l = R (part o M l) (part q N l)

  pub body_alike : (M : ℕ → V) (N : ℕ → W) (ls : List Part) → Each (Alike M N) ls → (v : V) (w : W) → R v w → R (body o M v ls) (body q N w ls)
  body_alike M N [] h v w r = r
  body_alike M N (l ∷ ls) h v w r =
      body_alike M N ls h.1 (o.and' v (part o M l)) (q.and' w (part q N l)) (k.and_kept v (part o M l) w (part q N l) r h.0)

  pub any_alike : (M : ℕ → V) (N : ℕ → W) (bs : List (List Part)) → Each (Each (Alike M N)) bs → (v : V) (w : W) → R v w → R (any_of o M v bs) (any_of q N w bs)
  any_alike M N [] h v w r = r
  any_alike M N (b ∷ bs) h v w r =
      any_alike M N bs h.1 (o.or' v (body o M o.yes' b)) (q.or' w (body q N q.yes' b))
      (k.or_kept v (body o M o.yes' b) w (body q N q.yes' b) r (body_alike M N b h.0 o.yes' q.yes' k.yes_kept))

-- The whole evaluation, on a set of atoms K whose rules name no others.
module _ {V W : Type 0} (o : Ops V) (q : Ops W) (R : V → W → Type 0) (k : Keeps o q R) (n : (v : V) (w : W) → R v w → R (o.not' v) (q.not' w)) (P : Program) (K : ℕ → Type 0) (shut : (a : ℕ) → a < P.atoms → K a → Each (Each (λ (l : Part). K l.atom)) (P.bodies a)) where
  abbrev pub Agree : List V → List W → Type 0
  Agree vs ws = (a : ℕ) → K a → R (look o vs a) (look q ws a)

  signed_alike : (b : Bool) (v : V) (w : W) → R v w → R (signed o b v) (signed q b w)
  signed_alike true v w r = r
  signed_alike false v w r = n v w r

  parts_alike : (vs : List V) (ws : List W) → Agree vs ws → (a : ℕ) → a < P.atoms → K a → Each (Each (Alike o q R k (look o vs) (look q ws))) (P.bodies a)
  parts_alike vs ws g a h ka =
      each_map (λ ls. each_map (λ (l : Part) kl. signed_alike l.plain _ _ (g l.atom kl)) ls) (P.bodies a) (shut a h ka)

  cond_alike : (b : Bool) (v v' : V) (w w' : W) → R v w → R v' w' → R (cond b v v') (cond b w w')
  cond_alike true v v' w w' r r' = r
  cond_alike false v v' w w' r r' = r'

  put_alike : (s : ℕ) (f : ℕ → V) (g : ℕ → W) (vs : List V) (ws : List W) → ((a : ℕ) → a < P.atoms → K a → R (f a) (g a)) → Agree vs ws → Agree (put_stratum o P s f vs) (put_stratum q P s g ws)
  put_alike s f g vs ws new old a ka =
      elim (cases_lt a P.atoms) [
        | inl h ↦ subst₂ R (sym (look_put o P s f vs a h)) (sym (look_put q P s g ws a h)) (cond_alike (in_stratum o P s a) _ _ _ _ (new a h ka) (old a ka))
        | inr h ↦ subst₂ R (sym (look_put_out o P s f vs a h)) (sym (look_put_out q P s g ws a h)) k.no_kept
      ]

  pub round_alike : (s : ℕ) (vs : List V) (ws : List W) → Agree vs ws → Agree (round o P s vs) (round q P s ws)
  round_alike s vs ws g =
      put_alike s (head o P vs) (head q P ws) vs ws (λ a h ka. any_alike o q R k (look o vs) (look q ws) (P.bodies a) (parts_alike vs ws g a h ka) _ _ k.no_kept) g

  pub cleared_alike : (s : ℕ) (vs : List V) (ws : List W) → Agree vs ws → Agree (cleared o P s vs) (cleared q P s ws)
  cleared_alike s vs ws g = put_alike s _ _ vs ws (λ a h ka. k.no_kept) g

  pub rounds_alike : (s m : ℕ) (vs : List V) (ws : List W) → Agree vs ws → Agree (rounds o P s m vs) (rounds q P s m ws)
  unfolding rounds
  rounds_alike s zero vs ws g = g
  rounds_alike s (suc m) vs ws g = round_alike s (rounds o P s m vs) (rounds q P s m ws) (rounds_alike s m vs ws g)

  pub stratum_alike : (s : ℕ) (vs : List V) (ws : List W) → Agree (cleared o P s vs) (cleared q P s ws) → Agree (stratum_done o P s vs) (stratum_done q P s ws)
  unfolding stratum_done
  stratum_alike s vs ws g = rounds_alike s _ (cleared o P s vs) (cleared q P s ws) g

  pub up_to_alike : (s : ℕ) (vs : List V) (ws : List W) → Agree vs ws → Agree (up_to o P s vs) (up_to q P s ws)
  unfolding up_to
  up_to_alike zero vs ws g = g
  up_to_alike (suc s) vs ws g = stratum_alike (suc s) _ _ (cleared_alike (suc s) _ _ (up_to_alike s vs ws g))

  pub evaluated_alike : (vs : List V) (ws : List W) → Agree vs ws → Agree (evaluated o P vs) (evaluated q P ws)
  unfolding evaluated
  evaluated_alike = up_to_alike P.strata

pub every_atom : (P : Program) (a : ℕ) → a < P.atoms → Unit {0} → Each (Each (λ (l : Part). Unit {0})) (P.bodies a)
every_atom P a h u = each_any (λ ls. each_any (λ _. tt) ls) (P.bodies a)
