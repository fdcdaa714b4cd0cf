-- What is given of a level decides it; and levels alike.
use Rattle.std.proofs.Common.{◌≡◌, ℕ, zero, suc, ◌+◌, ◌-◌, ◌*◌, ◌<◌, ◌≤◌, Bool, true, false, cond, ◌&&◌, ltb, leb, ◌⊎◌, List, length, sym, refl, ap, ◌∙◌, subst₂, inl, inr, add-one, arith}
use Rattle.std.proofs.lemmas.List.FromFn.{get_or-map-range_with_len, length-map-range_with_len, fill_by_all}
use Rattle.std.proofs.lemmas.List.{get_or_past}
use Rattle.std.proofs.lemmas.Bool.{cases_lt, cond-true, cond-false, lt-ltb, le-ltb, le-leb, lt-leb, and_from, and_left, and_right, eqb-false, cases_Bool}
use Rattle.rules.specs.declared.opened.Rules.{Rules}
use Rattle.rules.specs.Opens.{atoms_of}
use Rattle.evaluate.specs.Claims.{OnlyGivenMatters}
use Rattle.evaluate.specs.Evaluate.{Ops, look, in_stratum, put_stratum, cleared, rounds, stratum_done, up_to, evaluated}
use Rattle.evaluate.specs.Levels.{given, level_of, carried, from_first}
use Rattle.evaluate.specs.Lists.{Each}
use Rattle.evaluate.specs.Positions.{fluents, choices, next_at, does_at, input}
use Rattle.evaluate.specs.Program.{Part, Program, program_of, Lower, PartFits, Stratified}
use Rattle.evaluate.proofs.Fitting.{rules_stratified, given_kinds, enough}
use Rattle.evaluate.proofs.Related.{Keeps, each_map, every_atom, put_length, look_put_in, look_put_other, stratum_alike, evaluated_alike}

-- a list of n values is known by its values
pub known_by : {V : Type 0} (o : Ops V) (n : ℕ) (vs ws : List V) → length vs ≡ n → length ws ≡ n → ((a : ℕ) → a < n → look o vs a ≡ look o ws a) → vs ≡ ws
known_by o n vs ws e f same = fill_by_all (look o ws) vs n o.no' e same ∙ sym (fill_by_all (look o ws) ws n o.no' f (λ k h. refl))

same_kept : {V : Type 0} (o : Ops V) → Keeps o o (λ u v. u ≡ v)
same_kept o = record { yes_kept = refl; no_kept = refl; and_kept = λ a b c d r t. cc; or_kept = λ a b c d r t. cc }

module _ {V : Type 0} (o : Ops V) (P : Program) where
  rounds_length : (s m : ℕ) (f : ℕ → V) (vs : List V) → length (rounds o P s m (put_stratum o P s f vs)) ≡ P.atoms
  unfolding rounds
  rounds_length s zero f vs = put_length o P s f vs
  rounds_length s (suc m) f vs = put_length o P s _ _

  pub up_to_length : (s : ℕ) (vs : List V) → length (up_to o P (suc s) vs) ≡ P.atoms
  unfolding up_to stratum_done
  up_to_length s vs = rounds_length (suc s) _ (λ _. o.no') (up_to o P s vs)

  module _ (st : Stratified P) (vs ws : List V) (same : (a : ℕ) → a < P.atoms → P.stratum a ≡ 0 → look o vs a ≡ look o ws a) where
    abbrev Below : ℕ → ℕ → Type 0
    Below s a = (a < P.atoms) × (P.stratum a ≤ s)

    lower_below : (b : Bool) (t s : ℕ) → Lower b t s → t ≤ s
    lower_below true t s l = l
    lower_below false t s l = omega arith

    shut : (s a : ℕ) → a < P.atoms → Below s a → Each (Each (λ (l : Part). Below s l.atom)) (P.bodies a)
    shut s a h k =
        each_map (λ ls. each_map (λ (l : Part) (f : PartFits P (P.stratum a) l). (f.known, omega (arith, lower_below l.plain (P.stratum l.atom) (P.stratum a) f.lower, k.1))) ls) (P.bodies a) (st.ordered a h)

    -- the strata below agree, and the stratum starts from no
    cleared_same : (s : ℕ) (us ts : List V) → ((b : ℕ) → Below s b → look o us b ≡ look o ts b) → (b : ℕ) → Below (suc s) b → look o (cleared o P (suc s) us) b ≡ look o (cleared o P (suc s) ts) b
    cleared_same s us ts old b m =
        elim (cases_Bool (in_stratum o P (suc s) b)) [
          | inl e ↦ look_put_in o P (suc s) _ us b m.0 e ∙ sym (look_put_in o P (suc s) _ ts b m.0 e)
          | inr e ↦
              let ne : P.stratum b ≡ suc s → ⊥ = eqb-false (P.stratum b) (suc s) e in
              let l : P.stratum b ≤ s = elim (cases_lt (P.stratum b) (suc s)) [ inl l ↦ omega arith | inr l ↦ absurd (ne (omega (arith, m.1))) ] in
              look_put_other o P (suc s) _ us b m.0 e ∙ old b (m.0, l) ∙ sym (look_put_other o P (suc s) _ ts b m.0 e)
        ]

    up_to_same : (s a : ℕ) → Below s a → look o (up_to o P s vs) a ≡ look o (up_to o P s ws) a
    unfolding up_to
    up_to_same zero a k = same a k.0 (omega (arith, k.1))
    up_to_same (suc s) a k =
        stratum_alike o o (λ u v. u ≡ v) (same_kept o) (λ u v e. ap o.not' e) P (Below (suc s)) (shut (suc s)) (suc s) (up_to o P s vs) (up_to o P s ws)
        (cleared_same s (up_to o P s vs) (up_to o P s ws) (λ b m. up_to_same s b m)) a k

    pub evaluated_same : (a : ℕ) → a < P.atoms → look o (evaluated o P vs) a ≡ look o (evaluated o P ws) a
    unfolding evaluated
    evaluated_same a h = up_to_same P.strata a (h, st.within a h)

pub only_given_matters : {V : Type 0} (o : Ops V) → OnlyGivenMatters o
only_given_matters o P st vs ws same = evaluated_same o P st vs ws same

module _ {V : Type 0} (o : Ops V) (R : Rules) where
  pub given_length : (fluent doing : ℕ → V) → length (given o R fluent doing) ≡ length (atoms_of R)
  unfolding given
  given_length fluent doing = length-map-range_with_len (input o R fluent doing) 0 (length (atoms_of R))

  pub look_given : (fluent doing : ℕ → V) (a : ℕ) → a < length (atoms_of R) → look o (given o R fluent doing) a ≡ input o R fluent doing a
  unfolding given
  look_given fluent doing a h = get_or-map-range_with_len (input o R fluent doing) 0 (length (atoms_of R)) a a o.no' h (omega arith)

  evaluated_length : (vs : List V) → length (evaluated o (program_of R) vs) ≡ length (atoms_of R)
  unfolding evaluated
  evaluated_length vs = up_to_length o (program_of R) 30 vs

  pub level_length : (fluent doing : ℕ → V) → length (level_of o R fluent doing) ≡ length (atoms_of R)
  unfolding level_of
  level_length fluent doing = evaluated_length (given o R fluent doing)

  -- what is given, by kind
  pub input_fluent : (fluent doing : ℕ → V) (f : ℕ) → f < fluents R → input o R fluent doing f ≡ fluent f
  input_fluent fluent doing f h = cond-true _ _ _ (lt-ltb f (fluents R) h)

  pub input_does : (fluent doing : ℕ → V) (k : ℕ) → k < choices R → input o R fluent doing (does_at R k) ≡ doing k
  input_does fluent doing k h =
      let e : does_at R k - 2 * fluents R ≡ k = omega arith in
      cond-false _ _ _ (le-ltb (does_at R k) (fluents R) (omega arith))
      ∙ cond-true _ _ _ (and_from _ _ (le-leb (2 * fluents R) (does_at R k) (omega arith)) (lt-ltb (does_at R k) (2 * fluents R + choices R) (omega arith)))
      ∙ ap doing e

  -- inputs that agree by kind agree where they are given
  pub input_same : (fluent doing : ℕ → V) (f : ℕ → V) → ((k : ℕ) → k < fluents R → fluent k ≡ f k) → ((k : ℕ) → k < choices R → doing k ≡ f (does_at R k)) → (a : ℕ) → a < length (atoms_of R) → (program_of R).stratum a ≡ 0 → input o R fluent doing a ≡ f a
  input_same fluent doing f g d a h z =
      elim (given_kinds R a h z) [
        | inl l ↦ input_fluent fluent doing a l ∙ g a l
        | inr l ↦
            let e : a ≡ does_at R (a - 2 * fluents R) = omega (arith, l.0) in
            let k : a - 2 * fluents R < choices R = omega (arith, l.0, l.1) in
            ap (input o R fluent doing) e ∙ input_does fluent doing (a - 2 * fluents R) k ∙ d (a - 2 * fluents R) k ∙ ap f (sym e)
      ]

  -- a level evaluated from whatever its row held
  pub level_is : (vs : List V) → evaluated o (program_of R) vs ≡ level_of o R (look o vs) (λ k. look o vs (does_at R k))
  unfolding level_of
  level_is vs =
      known_by o (length (atoms_of R)) _ _ (evaluated_length vs) (evaluated_length (given o R (look o vs) (λ k. look o vs (does_at R k))))
      (evaluated_same o (program_of R) (rules_stratified R) vs (given o R (look o vs) (λ k. look o vs (does_at R k)))
      (λ a h z. sym (look_given (look o vs) (λ k. look o vs (does_at R k)) a h ∙ input_same (look o vs) (λ k. look o vs (does_at R k)) (look o vs) (λ k l. refl) (λ k l. refl) a h z)))

  pub level_same : (fluent doing fluent' doing' : ℕ → V) → ((k : ℕ) → k < fluents R → fluent k ≡ fluent' k) → ((k : ℕ) → k < choices R → doing k ≡ doing' k) → level_of o R fluent doing ≡ level_of o R fluent' doing'
  unfolding level_of
  level_same fluent doing fluent' doing' g d =
      known_by o (length (atoms_of R)) _ _ (evaluated_length (given o R fluent doing)) (evaluated_length (given o R fluent' doing'))
      (evaluated_same o (program_of R) (rules_stratified R) (given o R fluent doing) (given o R fluent' doing')
      (λ a h z. look_given fluent doing a h
      ∙ input_same fluent doing (input o R fluent' doing') (λ k l. g k l ∙ sym (input_fluent fluent' doing' k l)) (λ k l. d k l ∙ sym (input_does fluent' doing' k l)) a h z
      ∙ sym (look_given fluent' doing' a h)))

  pub look_carried : (v r : List V) (a : ℕ) → a < length (atoms_of R) → look o (carried o R v r) a ≡ cond (ltb a (fluents R)) (look o v (next_at R a)) (look o r a)
  unfolding carried
  look_carried v r a h = get_or-map-range_with_len (λ b. cond (ltb b (fluents R)) (look o v (next_at R b)) (look o r b)) 0 (length (atoms_of R)) a a o.no' h (omega arith)

  pub carried_all : (v r ws : List V) → length ws ≡ length (atoms_of R) → ((a : ℕ) → a < length (atoms_of R) → look o ws a ≡ cond (ltb a (fluents R)) (look o v (next_at R a)) (look o r a)) → ws ≡ carried o R v r
  unfolding carried
  carried_all v r ws e same = fill_by_all (λ a. cond (ltb a (fluents R)) (look o v (next_at R a)) (look o r a)) ws (length (atoms_of R)) o.no' e same

  -- a level whose fluents were carried over
  pub level_carried : (v r ws : List V) → ws ≡ carried o R v r → level_of o R (look o ws) (λ k. look o ws (does_at R k)) ≡ level_of o R (λ f. look o v (next_at R f)) (λ k. look o r (does_at R k))
  level_carried v r ws e =
      level_same _ _ _ _
      (λ k l. ap (λ z. look o z k) e ∙ look_carried v r k (omega (arith, enough R)) ∙ cond-true _ _ _ (lt-ltb k (fluents R) l))
      (λ k l. ap (λ z. look o z (does_at R k)) e ∙ look_carried v r (does_at R k) (omega (arith, enough R)) ∙ cond-false _ _ _ (le-ltb (does_at R k) (fluents R) (omega arith)))

  pub from_none : (first : List V) (doing : ℕ → ℕ → V) → first ≡ from_first o R first doing 0
  unfolding from_first
  from_none first doing = refl

  pub from_next : (first : List V) (doing : ℕ → ℕ → V) (k : ℕ) (v r : List V) → v ≡ from_first o R first doing k → ((c : ℕ) → look o r (does_at R c) ≡ doing (k + 1) c)
      → level_of o R (λ f. look o v (next_at R f)) (λ c. look o r (does_at R c)) ≡ from_first o R first doing (k + 1)
  unfolding from_first
  from_next first doing k v r e d =
      level_same _ _ _ _ (λ f l. ap (λ z. look o z (next_at R f)) e) (λ c l. d c) ∙ rw add-one refl

  -- does atoms matter only up to the level
  pub from_same : (first first' : List V) (doing doing' : ℕ → ℕ → V) → first ≡ first' → (k : ℕ) → ((j c : ℕ) → 0 < j → j ≤ k → doing j c ≡ doing' j c) → from_first o R first doing k ≡ from_first o R first' doing' k
  unfolding from_first
  from_same first first' doing doing' e zero d = e
  from_same first first' doing doing' e (suc k) d =
      level_same _ _ _ _ (λ f l. ap (λ z. look o z (next_at R f)) (from_same first first' doing doing' e k (λ j c p h. d j c p (omega arith)))) (λ c l. d (suc k) c (omega arith) (omega arith))

-- Levels alike: a relation that the operations keep, the levels keep.
module _ {V W : Type 0} (o : Ops V) (q : Ops W) (S : V → W → Type 0) (k : Keeps o q S) (n : (v : V) (w : W) → S v w → S (o.not' v) (q.not' w)) (R : Rules) where
  cond_alike : (b : Bool) (v v' : V) (w w' : W) → S v w → S v' w' → S (cond b v v') (cond b w w')
  cond_alike true v v' w w' r r' = r
  cond_alike false v v' w w' r r' = r'

  input_alike : (fluent doing : ℕ → V) (f d : ℕ → W) → ((c : ℕ) → c < fluents R → S (fluent c) (f c)) → ((c : ℕ) → c < choices R → S (doing c) (d c)) → (a : ℕ) → S (input o R fluent doing a) (input q R f d a)
  input_alike fluent doing f d g h a =
      elim (cases_lt a (fluents R)) [
        | inl l ↦ subst₂ S (sym (cond-true _ _ _ (lt-ltb a (fluents R) l))) (sym (cond-true _ _ _ (lt-ltb a (fluents R) l))) (g a l)
        | inr l ↦ subst₂ S (sym (cond-false _ _ _ (le-ltb a (fluents R) l))) (sym (cond-false _ _ _ (le-ltb a (fluents R) l))) (rest (cases_lt a (2 * fluents R + choices R)))
      ]
    where
      rest : (a < 2 * fluents R + choices R) ⊎ (2 * fluents R + choices R ≤ a)
          → S (cond (leb (2 * fluents R) a && ltb a (2 * fluents R + choices R)) (doing (a - 2 * fluents R)) o.no') (cond (leb (2 * fluents R) a && ltb a (2 * fluents R + choices R)) (d (a - 2 * fluents R)) q.no')
      rest (inr u) = subst₂ S (sym (cond-false _ _ _ (and_right _ _ (le-ltb a _ u)))) (sym (cond-false _ _ _ (and_right _ _ (le-ltb a _ u)))) k.no_kept
      rest (inl u) =
          elim (cases_lt a (2 * fluents R)) [
            | inl m ↦ subst₂ S (sym (cond-false _ _ _ (and_left _ _ (lt-leb (2 * fluents R) a m)))) (sym (cond-false _ _ _ (and_left _ _ (lt-leb (2 * fluents R) a m)))) k.no_kept
            | inr m ↦ cond_alike (leb (2 * fluents R) a && ltb a (2 * fluents R + choices R)) _ _ _ _ (h (a - 2 * fluents R) (omega arith)) k.no_kept
          ]

  pub given_alike : (fluent doing : ℕ → V) (f d : ℕ → W) → ((c : ℕ) → c < fluents R → S (fluent c) (f c)) → ((c : ℕ) → c < choices R → S (doing c) (d c)) → (a : ℕ) → S (look o (given o R fluent doing) a) (look q (given q R f d) a)
  given_alike fluent doing f d g h a =
      elim (cases_lt a (length (atoms_of R))) [
        | inl l ↦ subst₂ S (sym (look_given o R fluent doing a l)) (sym (look_given q R f d a l)) (input_alike fluent doing f d g h a)
        | inr l ↦
            let e : length (given o R fluent doing) ≤ a = omega (arith, given_length o R fluent doing) in
            let e' : length (given q R f d) ≤ a = omega (arith, given_length q R f d) in
            subst₂ S (sym (get_or_past (given o R fluent doing) a o.no' e)) (sym (get_or_past (given q R f d) a q.no' e')) k.no_kept
      ]

  pub level_alike : (fluent doing : ℕ → V) (f d : ℕ → W) → ((c : ℕ) → c < fluents R → S (fluent c) (f c)) → ((c : ℕ) → c < choices R → S (doing c) (d c)) → (a : ℕ) → S (look o (level_of o R fluent doing) a) (look q (level_of q R f d) a)
  unfolding level_of
  level_alike fluent doing f d g h a =
      evaluated_alike o q S k n (program_of R) (λ _. Unit {0}) (every_atom (program_of R)) (given o R fluent doing) (given q R f d) (λ b _. given_alike fluent doing f d g h b) a tt

  -- the same for the levels of a play
  pub levels_alike : (vs : List V) (ws : List W) (doing : ℕ → ℕ → V) (d : ℕ → ℕ → W) → ((a : ℕ) → S (look o vs a) (look q ws a)) → ((j c : ℕ) → c < choices R → S (doing j c) (d j c)) → (j a : ℕ) → S (look o (from_first o R vs doing j) a) (look q (from_first q R ws d j) a)
  unfolding from_first
  levels_alike vs ws doing d g h zero a = g a
  levels_alike vs ws doing d g h (suc j) a =
      level_alike _ _ _ _ (λ c l. levels_alike vs ws doing d g h j (next_at R c)) (h (suc j)) a
