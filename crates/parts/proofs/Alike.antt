-- A relation that the operations keep, the value of a part keeps; it reads still atoms, and does atoms below the horizon.
use Rattle.std.proofs.Common.{◌≡◌, ℕ, zero, suc, ◌+◌, ◌-◌, ◌<◌, ◌≤◌, Bool, true, false, cond, ltb, List, [], ◌∷◌, filter, sym, refl, ap, ◌∙◌, subst₂, inl, inr, arith}
use Rattle.std.specs.List.{range_with_len, AllByRecursion}
use Rattle.std.proofs.lemmas.Bool.{cases_lt, cond-true, cond-false, lt-ltb, le-ltb}
use Rattle.rules.specs.declared.opened.Rules.{Rules}
use Rattle.rules.specs.declared.records.Mark.{Mark}
use Rattle.rules.specs.declared.records.Mark.TheVariants.{Still, Dependent, Initial}
use Rattle.evaluate.specs.Evaluate.{Ops, look}
use Rattle.evaluate.specs.Levels.{level_of, from_first, at_level}
use Rattle.evaluate.specs.Positions.{fluents, choices, next_at, does_at, legal_at, terminal_at, still}
use Rattle.evaluate.specs.Program.{atom_at, is_still}
use Rattle.evaluate.proofs.Fitting.{rules_are_proper}
use Rattle.evaluate.proofs.Games.{level_still}
use Rattle.evaluate.proofs.Givens.{from_same, level_alike, levels_alike}
use Rattle.evaluate.proofs.Related.{Keeps}
use Rattle.property.specs.Taken.{StillAtom}
use Rattle.property.specs.Trees.{Property, Properties, atom, isn't, all, following, none, more, degree}
use Rattle.play.specs.declared.part.Part.{Part}
use Rattle.play.specs.declared.part.Part.TheVariants.{Base, Step}
use Rattle.play.specs.Parts.{horizon_of, assumed, may_assume}
use Rattle.parts.specs.Plays.{StillIn, EachStillIn}
use Rattle.parts.specs.Values.{at, value, all_value, undone_or_legal, each_move, every_move, legality_from, legality, each_value, broken, part_value}

not_dependent : (m : Mark) → (m ≡ Dependent → ⊥) → is_still m ≡ true
not_dependent Still h = refl
not_dependent Dependent h = absurd (h refl)
not_dependent Initial h = refl

-- a still atom that a property names, by its place
pub still_place : (R : Rules) (a : ℕ) → StillAtom R a → still R (a - 1) ≡ true
still_place R a h = not_dependent (atom_at R (a - 1)).mark h.2

kept_if : {X : Type 0} (P : X → Type 0) (b : Bool) (x : X) (xs : List X) → P x → AllByRecursion P xs → AllByRecursion P (cond b (x ∷ xs) xs)
kept_if P true x xs h hs = (h, hs)
kept_if P false x xs h hs = hs

pub all_kept : {X : Type 0} (P : X → Type 0) (test : X → Bool) (xs : List X) → AllByRecursion P xs → AllByRecursion P (filter test xs)
all_kept P test [] h = tt
all_kept P test (x ∷ xs) h = kept_if P (test x) x (filter test xs) h.0 (all_kept P test xs h.1)

module _ {V W : Type 0} (o : Ops V) (q : Ops W) (S : V → W → Type 0) (k : Keeps o q S) (n : (v : V) (w : W) → S v w → S (o.not' v) (q.not' w)) (R : Rules) where
  -- two plays alike up to a horizon
  pub record Alike (horizon : ℕ) (L : ℕ → List V) (M : ℕ → List W) : Type 0 where
    pub below : (j a : ℕ) → j < horizon → S (look o (L j) a) (look q (M j) a)
    pub stills : (j a : ℕ) → j ≤ horizon → still R a ≡ true → S (look o (L j) a) (look q (M j) a)

  module _ (H : ℕ) (L : ℕ → List V) (M : ℕ → List W) (same : Alike H L M) where
    or_alike : (v v' : V) (w w' : W) → S v w → S v' w' → S (o.or' (o.or' o.no' v) v') (q.or' (q.or' q.no' w) w')
    or_alike v v' w w' r r' = k.or_kept (o.or' o.no' v) v' (q.or' q.no' w) w' (k.or_kept o.no' v q.no' w k.no_kept r) r'

    mutual
      pub value_alike : (p : Property) → StillIn R p → (level left : ℕ) → level + left ≤ H → S (value o R L p level left) (value q R M p level left)
      value_alike (atom a) h level left u = same.stills level (a - 1) (omega arith) (still_place R a h)
      value_alike (isn't p) h level left u = n _ _ (value_alike p h level left u)
      value_alike (all ps) h level left u = all_alike ps h level left u _ _ k.yes_kept
      value_alike (following p) h level zero u = k.yes_kept
      value_alike (following p) h level (suc left) u =
          or_alike _ _ _ _ (same.stills level (terminal_at R) (omega arith) (rules_are_proper R).terminal_still) (value_alike p h (level + 1) left (omega arith))

      all_alike : (ps : Properties) → EachStillIn R ps → (level left : ℕ) → level + left ≤ H → (v : V) (w : W) → S v w → S (all_value o R L v ps level left) (all_value q R M w ps level left)
      all_alike none h level left u v w r = r
      all_alike (more p ps) h level left u v w r =
          all_alike ps h.1 level left u _ _ (k.and_kept v (value o R L p level left) w (value q R M p level left) r (value_alike p h.0 level left u))

    moves_alike : (level : ℕ) → level < H → (cs : List ℕ) (v : V) (w : W) → S v w → S (each_move o R L v level cs) (each_move q R M w level cs)
    moves_alike level u [] v w r = r
    moves_alike level u (c ∷ cs) v w r =
        moves_alike level u cs _ _ (k.and_kept v (undone_or_legal o R L level c) w (undone_or_legal q R M level c) r
        (or_alike _ _ _ _ (n _ _ (same.below level (does_at R c) u)) (same.below level (legal_at R c) u)))

    legality_alike : (left level : ℕ) → level + left ≤ H → (v over : V) (w done : W) → S v w → S over done → S (legality_from o R L v over level left) (legality_from q R M w done level left)
    legality_alike zero level u v over w done r s = r
    legality_alike (suc left) level u v over w done r s =
        let t = k.or_kept over (at o R L level (terminal_at R)) done (at q R M level (terminal_at R)) s (same.below level (terminal_at R) (omega arith)) in
        legality_alike left (level + 1) (omega arith) _ _ _ _
        (k.and_kept v _ w _ r (k.or_kept _ (every_move o R L level) _ (every_move q R M level) t (moves_alike level (omega arith) (range_with_len 0 (choices R)) _ _ k.yes_kept))) t

    each_alike : (qs : List Property) → AllByRecursion (StillIn R) qs → (v : V) (w : W) → S v w → S (each_value o R L v qs H) (each_value q R M w qs H)
    each_alike [] h v w r = r
    each_alike (p ∷ qs) h v w r =
        each_alike qs h.1 _ _ (k.and_kept v (value o R L p 0 H) w (value q R M p 0 H) r (value_alike p h.0 0 H (omega arith)))

    pub broken_alike : (part : Part) (qs : List Property) (p : Property) → AllByRecursion (StillIn R) qs → StillIn R p → S (broken o R L part qs p H) (broken q R M part qs p H)
    broken_alike Base qs p hs h =
        let l = legality_alike H 0 (omega arith) _ _ _ _ k.yes_kept k.no_kept in
        k.and_kept _ _ _ _ (k.and_kept _ (legality o R L H) _ (legality q R M H) k.yes_kept l) (n _ _ (value_alike p h 0 H (omega arith)))
    broken_alike Step qs p hs h =
        let l = legality_alike H 0 (omega arith) _ _ _ _ k.yes_kept k.no_kept in
        let a = k.and_kept _ (legality o R L H) _ (legality q R M H) k.yes_kept l in
        let b = k.and_kept _ (value o R L p 0 H) _ (value q R M p 0 H) a (value_alike p h 0 H (omega arith)) in
        k.and_kept _ _ _ _ (each_alike qs hs _ _ b) (n _ _ (value_alike (following p) h 0 H (omega arith)))

-- the does atoms below a horizon, and no from there on
module _ {V : Type 0} (o : Ops V) (R : Rules) (start : ℕ → V) (doing : ℕ → ℕ → V) (H : ℕ) where
  abbrev pub cut : ℕ → ℕ → V
  cut j c = cond (ltb j H) (doing j c) o.no'

  cut_is : (j c : ℕ) → j < H → doing j c ≡ cut j c
  cut_is j c h = sym (cond-true (ltb j H) (doing j c) o.no' (lt-ltb j H h))

  pub cut_below : (j : ℕ) → j < H → at_level o R start doing j ≡ at_level o R start cut j
  cut_below j h = from_same o R _ _ doing cut (λ i. level_of o R start (λ c. cut_is 0 c (omega arith) i)) j (λ i c p u. cut_is i c (omega arith))

  last_still : (j a : ℕ) → j ≤ H → still R a ≡ true → look o (at_level o R start doing j) a ≡ look o (at_level o R start cut j) a
  unfolding from_first
  last_still zero a h s = level_still o R start (doing 0) (cut 0) a s
  last_still (suc j) a h s =
      ap (λ (v : List V). look o (level_of o R (λ f. look o v (next_at R f)) (doing (suc j))) a) (cut_below j (omega arith))
      ∙ level_still o R (λ f. look o (at_level o R start cut j) (next_at R f)) (doing (suc j)) (cut (suc j)) a s

-- from the inputs below the horizon
module _ {V W : Type 0} (o : Ops V) (q : Ops W) (S : V → W → Type 0) (k : Keeps o q S) (n : (v : V) (w : W) → S v w → S (o.not' v) (q.not' w)) (R : Rules) (H : ℕ) (start : ℕ → V) (doing : ℕ → ℕ → V) (s : ℕ → W) (d : ℕ → ℕ → W) (starts : (f : ℕ) → f < fluents R → S (start f) (s f)) (moves : (j c : ℕ) → j < H → c < choices R → S (doing j c) (d j c)) where
  cut_alike : (j c : ℕ) → c < choices R → S (cut o R start doing H j c) (cut q R s d H j c)
  cut_alike j c h =
      elim (cases_lt j H) [
        | inl l ↦ subst₂ S (sym (cond-true (ltb j H) _ _ (lt-ltb j H l))) (sym (cond-true (ltb j H) _ _ (lt-ltb j H l))) (moves j c l h)
        | inr l ↦ subst₂ S (sym (cond-false (ltb j H) _ _ (le-ltb j H l))) (sym (cond-false (ltb j H) _ _ (le-ltb j H l))) k.no_kept
      ]

  level_is_alike : (j a : ℕ) → S (look o (at_level o R start (cut o R start doing H) j) a) (look q (at_level q R s (cut q R s d H) j) a)
  level_is_alike j a =
      levels_alike o q S k n R _ _ (cut o R start doing H) (cut q R s d H) (level_alike o q S k n R start _ s _ starts (cut_alike 0)) cut_alike j a

  pub inputs_alike : Alike o q S k n R H (at_level o R start doing) (at_level q R s d)
  inputs_alike = record {
    below = λ j a h. subst₂ S (ap (λ v. look o v a) (sym (cut_below o R start doing H j h))) (ap (λ v. look q v a) (sym (cut_below q R s d H j h))) (level_is_alike j a);
    stills = λ j a h e. subst₂ S (sym (last_still o R start doing H j a h e)) (sym (last_still q R s d H j a h e)) (level_is_alike j a);
  }

-- the whole
module _ {V W : Type 0} (o : Ops V) (q : Ops W) (S : V → W → Type 0) (k : Keeps o q S) (n : (v : V) (w : W) → S v w → S (o.not' v) (q.not' w)) (R : Rules) (start : ℕ → V) (doing : ℕ → ℕ → V) (s : ℕ → W) (d : ℕ → ℕ → W) (part : Part) (docket : List Property) (p : Property) (hs : AllByRecursion (StillIn R) docket) (h : StillIn R p) where
  pub part_alike : ((f : ℕ) → f < fluents R → S (start f) (s f)) → ((j c : ℕ) → j < horizon_of part (degree p) → c < choices R → S (doing j c) (d j c))
      → S (part_value o R (at_level o R start doing) part docket p) (part_value q R (at_level q R s d) part docket p)
  part_alike starts moves =
      broken_alike o q S k n R (horizon_of part (degree p)) _ _ (inputs_alike o q S k n R (horizon_of part (degree p)) start doing s d starts moves)
      part (assumed p docket) p (all_kept (StillIn R) (λ r. may_assume (degree p) (degree r)) docket hs) h
