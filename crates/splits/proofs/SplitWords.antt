-- The words of the record that splits an input: they are read as that split, and only they are.
use Rattle.std.proofs.Common.{◌≡◌, ℕ, ◌+◌, ◌-◌, ◌*◌, ◌/◌, ◌%◌, ◌<◌, ◌≤◌, List, length, get_or, Some, None, Ok, Err, sym, refl, ap, ◌∙◌, subst, ⊎_elim, mul_comm, arith}
use Rattle.std.proofs.lemmas.Nat.{div-add-mod', div-mul-add, mod-mul-add, div_below, mod_below}
use Rattle.std.proofs.lemmas.Bool.{eq-eqb, ne_eqb, cond-true, cond-false, cases_lt, lt-ltb, le-ltb}
use Rattle.splits.specs.Inputs.{Inputs, Proper, entries, first_of, IsInput, IsChoice, choice_entry}
use Rattle.rules.specs.Words.{word_from as word}
use Rattle.splits.specs.Records.{kind_of, number_of, level_of, record_at, of_fluent, if_step, split_input, split_record}
use Rattle.splits.specs.Walk.{input_at}
use Rattle.play.specs.declared.part.Part.{Part}
use Rattle.play.specs.declared.part.Part.TheVariants.{Base, Step}
use Rattle.splits.specs.declared.records.Record.{Record}
use Rattle.splits.specs.declared.records.Record.TheVariants.{Close, Fluent, Choice}
use Rattle.splits.specs.declared.records.RecordFault.TheVariants.{Kind}
use Rattle.splits.proofs.Readings.{Reads, reads, told, then_ok}

abbrev pub kind_word : Inputs → ℕ → ℕ
kind_word s k = kind_of (split_record s k)

abbrev pub number_word : Inputs → ℕ → ℕ
number_word s k = number_of (split_record s k)

abbrev pub level_word : Inputs → ℕ → ℕ
level_word s k = level_of (split_record s k)

is_step : (p : Part) (f k : ℕ) → first_of p f ≤ k → k < f → Step ≡ p
is_step Base f k a b = absurd (omega arith)
is_step Step f k a b = refl

-- the input at an entry behind the fluents is a choice
entry_back : (s : Inputs) (k : ℕ) → s.fluents ≤ k → choice_entry s ((k - s.fluents) % length s.moves + 1) ((k - s.fluents) / length s.moves) ≡ k
entry_back s k h = let d = div-add-mod' (k - s.fluents) (length s.moves) in omega arith

pub entry_choice : (s : Inputs) (k : ℕ) → Proper s → s.fluents ≤ k → k < entries s → IsChoice s ((k - s.fluents) % length s.moves + 1) ((k - s.fluents) / length s.moves)
entry_choice s k p h l =
    let m = mod_below (k - s.fluents) (length s.moves) p.roles in
    let q : k - s.fluents < s.horizon * length s.moves = subst (λ n. k - s.fluents < n) (mul_comm (length s.moves) s.horizon) (omega arith) in
    (omega arith, omega arith, div_below (k - s.fluents) (length s.moves) s.horizon p.roles q)

module _ (s : Inputs) (bs c : List ℕ) (i k : ℕ) where
  reads_fluent : IsInput s k → k < s.fluents → get_or c k 0 ≡ 0 → word bs (8 * i) ≡ 1 → word bs (8 * i + 2) ≡ k + 1 → word bs (8 * i + 4) ≡ 0 → Ok (Fluent (k + 1)) ≡ record_at s bs c i
  reads_fluent a h z w₀ w₁ w₂ =
      let m : word bs (8 * i + 2) - 1 ≡ k = omega arith in
      sym (cond-false _ _ _ (ne_eqb (word bs (8 * i)) 0 (λ e. omega arith))
      ∙ (cond-true _ _ _ (eq-eqb _ _ w₀)
      ∙ (sym (ap (λ p. if_step p (of_fluent s bs c i) (Err (Kind (8 * i)))) (is_step s.part s.fluents k a.0 h))
      ∙ (cond-false _ _ _ (ne_eqb (word bs (8 * i + 2)) 0 (λ e. omega arith))
      ∙ (cond-false _ _ _ (le-ltb s.fluents (word bs (8 * i + 2)) (omega arith))
      ∙ (cond-true _ _ _ (eq-eqb _ _ (ap (λ n. get_or c n 0) m ∙ z))
      ∙ (cond-true _ _ _ (eq-eqb _ _ w₂)
      ∙ ap (λ n. Ok (Fluent n)) w₁)))))))

  reads_choice : (r l : ℕ) → IsChoice s r l → get_or c (choice_entry s r l) 0 ≡ 0 → word bs (8 * i) ≡ 2 → word bs (8 * i + 2) ≡ r → word bs (8 * i + 4) ≡ l → Ok (Choice r l) ≡ record_at s bs c i
  reads_choice r l (x, y, z) o w₀ w₁ w₂ =
      sym (cond-false _ _ _ (ne_eqb (word bs (8 * i)) 0 (λ e. omega arith))
      ∙ (cond-false _ _ _ (ne_eqb (word bs (8 * i)) 1 (λ e. omega arith))
      ∙ (cond-true _ _ _ (eq-eqb _ _ w₀)
      ∙ (cond-false _ _ _ (ne_eqb (word bs (8 * i + 2)) 0 (λ e. omega arith))
      ∙ (cond-false _ _ _ (le-ltb (length s.moves) (word bs (8 * i + 2)) (omega arith))
      ∙ (cond-true _ _ _ (lt-ltb (word bs (8 * i + 4)) s.horizon (omega arith))
      ∙ (cond-true _ _ _ (eq-eqb _ _ (ap (λ n. get_or c (choice_entry s n (word bs (8 * i + 4))) 0) w₁ ∙ (ap (λ n. get_or c (choice_entry s r n) 0) w₂ ∙ o)))
      ∙ (ap (λ n. Ok (Choice n (word bs (8 * i + 4)))) w₁ ∙ ap (λ n. Ok (Choice r n)) w₂))))))))

  -- the words of a split are read as that split
  pub reads_split : Proper s → IsInput s k → get_or c k 0 ≡ 0 → word bs (8 * i) ≡ kind_word s k → word bs (8 * i + 2) ≡ number_word s k → word bs (8 * i + 4) ≡ level_word s k → Ok (Some k) ≡ input_at s bs c i
  reads_split p a z w₀ w₁ w₂ =
      ⊎_elim
      (λ h.
      let b = lt-ltb k s.fluents h in
      let m : k ≡ k + 1 - 1 = omega arith in
      told s bs c i (Fluent (k + 1)) (Some k) (reads_fluent a h z (w₀ ∙ ap kind_of (cond-true _ _ _ b)) (w₁ ∙ ap number_of (cond-true _ _ _ b)) (w₂ ∙ ap level_of (cond-true _ _ _ b))) (ap Some m))
      (λ h.
      let b = le-ltb k s.fluents h in
      let m = entry_back s k h in
      told s bs c i (Choice ((k - s.fluents) % length s.moves + 1) ((k - s.fluents) / length s.moves)) (Some k)
      (reads_choice _ _ (entry_choice s k p h a.1) (ap (λ n. get_or c n 0) m ∙ z) (w₀ ∙ ap kind_of (cond-false _ _ _ b)) (w₁ ∙ ap number_of (cond-false _ _ _ b)) (w₂ ∙ ap level_of (cond-false _ _ _ b))) (ap Some (sym m)))
      (cases_lt k s.fluents)

  -- and only they are
  abbrev pub Written : Type 0
  Written = (word bs (8 * i) ≡ kind_word s k) × (word bs (8 * i + 2) ≡ number_word s k) × (word bs (8 * i + 4) ≡ level_word s k)

  written : (r : Record) → Reads s bs c i r → split_input s r ≡ Some k → Written
  written Close p e = absurd (cc)
  written (Fluent f) p e =
      let q : f - 1 ≡ k = cc in
      let b = lt-ltb k s.fluents (omega (arith, p.4, p.5)) in
      let t : f ≡ k + 1 = omega (arith, p.4) in
      (p.0 ∙ sym (ap kind_of (cond-true _ _ _ b)), p.1 ∙ (t ∙ sym (ap number_of (cond-true _ _ _ b))), p.2 ∙ sym (ap level_of (cond-true _ _ _ b)))
  written (Choice r l) p e =
      let q : choice_entry s r l ≡ k = cc in
      let b = le-ltb k s.fluents (omega arith) in
      let m : k - s.fluents ≡ l * length s.moves + (r - 1) = omega arith in
      let y : r - 1 < length s.moves = omega (arith, p.3, p.4) in
      let u : (k - s.fluents) % length s.moves ≡ r - 1 = ap (λ n. n % length s.moves) m ∙ mod-mul-add l (length s.moves) (r - 1) y in
      let v : (k - s.fluents) / length s.moves ≡ l = ap (λ n. n / length s.moves) m ∙ div-mul-add l (length s.moves) (r - 1) y in
      let t : r ≡ r - 1 + 1 = omega (arith, p.3) in
      (p.0 ∙ sym (ap kind_of (cond-false _ _ _ b)), p.1 ∙ (t ∙ (ap (λ n. n + 1) (sym u) ∙ sym (ap number_of (cond-false _ _ _ b)))), p.2 ∙ (sym v ∙ sym (ap level_of (cond-false _ _ _ b))))

  pub says_split : Ok (Some k) ≡ input_at s bs c i → Written
  says_split e =
      let t = then_ok (record_at s bs c i) (λ r. Ok (split_input s r)) (Some k) (sym e) in
      written t.0 (reads s bs c i t.0 (sym t.1)) (let f = t.2 in cc)

module _ (s : Inputs) (bs c : List ℕ) (i : ℕ) where
  pub reads_close : word bs (8 * i) ≡ 0 → word bs (8 * i + 2) ≡ 0 → word bs (8 * i + 4) ≡ 0 → Ok None ≡ input_at s bs c i
  reads_close w₀ w₁ w₂ = told s bs c i Close None (sym (cond-true _ _ _ (eq-eqb _ _ w₀) ∙ (cond-true _ _ _ (eq-eqb _ _ w₁) ∙ cond-true _ _ _ (eq-eqb _ _ w₂)))) refl

  closing_words : (r : Record) → Reads s bs c i r → split_input s r ≡ None → Reads s bs c i Close
  closing_words Close p e = p
  closing_words (Fluent f) p e = absurd (cc)
  closing_words (Choice r l) p e = absurd (cc)

  pub says_close : Ok None ≡ input_at s bs c i → Reads s bs c i Close
  says_close e =
      let t = then_ok (record_at s bs c i) (λ r. Ok (split_input s r)) None (sym e) in
      closing_words t.0 (reads s bs c i t.0 (sym t.1)) (let f = t.2 in cc)
