-- What a record without a fault says.
use Rattle.std.proofs.Common.{◌≡◌, ℕ, ◌+◌, ◌-◌, ◌*◌, ◌<◌, ◌≤◌, cond, eqb, ◌⊎◌, List, length, get_or, Some, Ok, Err, Option, Result, sym, refl, ap, ◌∙◌, subst, ⊎_elim, arith}
use Rattle.std.proofs.lemmas.Bool.Decides.{nat_tests}
use Rattle.splits.specs.Inputs.{Inputs, first_of, IsInput, choice_entry}
use Rattle.rules.specs.Words.{word_from as word}
use Rattle.splits.specs.Records.{record_at, closing, of_fluent, of_choice, if_step, split_input, IsRecord}
use Rattle.splits.specs.Walk.{then_on, input_at}
use Rattle.play.specs.declared.part.Part.{Part}
use Rattle.play.specs.declared.part.Part.TheVariants.{Base, Step}
use Rattle.splits.specs.declared.records.Record.{Record}
use Rattle.splits.specs.declared.records.Record.TheVariants.{Close, Fluent, Choice}
use Rattle.splits.specs.declared.records.RecordFault.{RecordFault}
use Rattle.splits.specs.declared.records.RecordFault.TheVariants.{Kind}
use Rattle.splits.proofs.Counts.{choice_low}

pub then_ok : {A B E : Type 0} (a : Result A E) (f : A → Result B E) (e : B) → then_on a f ≡ Ok e → (x : A) × (a ≡ Ok x) × (f x ≡ Ok e)
then_ok (Ok x) f e h = (x, refl, h)
then_ok (Err x) f e h = absurd (cc)

first_low : (p : Part) (f n : ℕ) → f ≤ n → first_of p f ≤ n
first_low Base f n h = h
first_low Step f n h = omega arith

kinds : (w : ℕ) (x y z : Result Record RecordFault) (f : RecordFault) (r : Record) → Ok r ≡ cond (eqb w 0) x (cond (eqb w 1) y (cond (eqb w 2) z (Err f))) → ((w ≡ 0) × (Ok r ≡ x)) ⊎ (((w ≡ 1) × (Ok r ≡ y)) ⊎ ((w ≡ 2) × (Ok r ≡ z)))
kinds w x y z f r e = grind (arith, nat_tests)

module _ (s : Inputs) (bs c : List ℕ) (i : ℕ) where
  abbrev pub Reads : Record → Type 0
  Reads Close = (word bs (8 * i) ≡ 0) × (word bs (8 * i + 2) ≡ 0) × (word bs (8 * i + 4) ≡ 0)
  Reads (Fluent f) = (word bs (8 * i) ≡ 1) × (word bs (8 * i + 2) ≡ f) × (word bs (8 * i + 4) ≡ 0) × (s.part ≡ Step) × (0 < f) × (f ≤ s.fluents) × (get_or c (f - 1) 0 ≡ 0)
  Reads (Choice r l) = (word bs (8 * i) ≡ 2) × (word bs (8 * i + 2) ≡ r) × (word bs (8 * i + 4) ≡ l) × (0 < r) × (r ≤ length s.moves) × (l < s.horizon) × (get_or c (choice_entry s r l) 0 ≡ 0)

  close_says : (r : Record) → Ok r ≡ closing bs i → (r ≡ Close) × (word bs (8 * i + 2) ≡ 0) × (word bs (8 * i + 4) ≡ 0)
  close_says r e = grind (arith, nat_tests)

  fluent_says : (r : Record) → Ok r ≡ of_fluent s bs c i → (r ≡ Fluent (word bs (8 * i + 2))) × (word bs (8 * i + 4) ≡ 0) × (0 < word bs (8 * i + 2)) × (word bs (8 * i + 2) ≤ s.fluents) × (get_or c (word bs (8 * i + 2) - 1) 0 ≡ 0)
  fluent_says r e = grind (arith, nat_tests)

  choice_says : (r : Record) → Ok r ≡ of_choice s bs c i
      → (r ≡ Choice (word bs (8 * i + 2)) (word bs (8 * i + 4))) × (0 < word bs (8 * i + 2)) × (word bs (8 * i + 2) ≤ length s.moves) × (word bs (8 * i + 4) < s.horizon) × (get_or c (choice_entry s (word bs (8 * i + 2)) (word bs (8 * i + 4))) 0 ≡ 0)
  choice_says r e = grind (arith, nat_tests)

  from_close : (r : Record) → word bs (8 * i) ≡ 0 → Ok r ≡ closing bs i → Reads r
  from_close r w e = let p = close_says r e in subst Reads (sym p.0) (w, p.1, p.2)

  from_fluent : (p : Part) (r : Record) → s.part ≡ p → word bs (8 * i) ≡ 1 → Ok r ≡ if_step p (of_fluent s bs c i) (Err (Kind (8 * i))) → Reads r
  from_fluent Base r q w e = absurd (cc)
  from_fluent Step r q w e = let p = fluent_says r e in subst Reads (sym p.0) (w, refl, p.1, q, p.2, p.3, p.4)

  from_choice : (r : Record) → word bs (8 * i) ≡ 2 → Ok r ≡ of_choice s bs c i → Reads r
  from_choice r w e = let p = choice_says r e in subst Reads (sym p.0) (w, refl, refl, p.1, p.2, p.3, p.4)

  pub reads : (r : Record) → Ok r ≡ record_at s bs c i → Reads r
  reads r e = ⊎_elim (λ h. from_close r h.0 h.1) (⊎_elim (λ h. from_fluent s.part r refl h.0 h.1) (λ h. from_choice r h.0 h.1)) (kinds (word bs (8 * i)) _ _ _ (Kind (8 * i)) r e)

  pub is_record : (r : Record) → Ok r ≡ record_at s bs c i → IsRecord s r
  is_record Close e = tt
  is_record (Fluent f) e = let p = reads (Fluent f) e in (p.4, p.5)
  is_record (Choice r l) e = let p = reads (Choice r l) e in (p.3, p.4, p.5)

  pub told : (r : Record) (x : Option ℕ) → Ok r ≡ record_at s bs c i → x ≡ split_input s r → Ok x ≡ input_at s bs c i
  told r x e f = ap Ok f ∙ ap (λ a. then_on a (λ y. Ok (split_input s y))) e

  -- a split is by an open input
  open_in : (r : Record) (k : ℕ) → Reads r → split_input s r ≡ Some k → IsInput s k × (get_or c k 0 ≡ 0)
  open_in Close k p e = absurd (cc)
  open_in (Fluent f) k p e =
      let q : f - 1 ≡ k = cc in
      subst (λ y. IsInput s y × (get_or c y 0 ≡ 0)) q
      ((subst (λ y. first_of y s.fluents ≤ f - 1) (sym p.3) (omega arith), omega (arith, p.4, p.5)), p.6)
  open_in (Choice r l) k p e =
      let q : choice_entry s r l ≡ k = cc in
      let m = choice_low s r l (p.3, p.4, p.5) in
      subst (λ y. IsInput s y × (get_or c y 0 ≡ 0)) q ((first_low s.part _ _ (omega arith), m), p.6)

  pub split_input_open : (k : ℕ) → Ok (Some k) ≡ input_at s bs c i → IsInput s k × (get_or c k 0 ≡ 0)
  split_input_open k e =
      let t = then_ok (record_at s bs c i) (λ r. Ok (split_input s r)) (Some k) (sym e) in
      open_in t.0 k (reads t.0 (sym t.1)) (let f = t.2 in cc)
