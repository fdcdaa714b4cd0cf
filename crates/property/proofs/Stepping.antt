-- Readings of records, a record at a time.
use Rattle.std.proofs.Common.{◌≡◌, ℕ, zero, suc, ◌+◌, ◌-◌, ◌<◌, ◌≤◌, List, [], ◌∷◌, map, length, get_or, sym, refl, ap, ◌∙◌, ap₂, inl, inr, arith}
use Rattle.std.proofs.Math.ListN.{get_or-map}
use Rattle.std.proofs.lemmas.Bool.{cases_eq}
use Rattle.property.specs.declared.records.Record.{Record}
use Rattle.property.specs.Linked.{Linked}
use Rattle.property.specs.Readings.{at_link, readings, reading}
use Rattle.property.specs.Typed.{operand_of, record_at, unused}
use Rattle.property.proofs.Links.{operand_link, next_link}

module _ {X : Type 0} (none : X) (made : Record → X → X → X) where
  -- a link past record b + 1 does not see it
  past : (x : X) (later : List X) (b m : ℕ) → (0 < m → suc b < m) → at_link none made (x ∷ later) b m ≡ at_link none made later (suc b) m
  past x later b zero h = refl
  past x later b (suc m) h =
      let l = h (omega arith) in
      let e : m - b ≡ suc (m - suc b) = omega arith in
      ap (λ j. get_or (x ∷ later) j none) e

  -- a record of those after record b is made from the readings where its links lead
  from : (b : ℕ) (rs : List Record) (k : ℕ) (r : Record) → b < k → k ≤ b + length rs → get_or rs (k - 1 - b) unused ≡ r →
      (0 < operand_of r.formula → k < operand_of r.formula) → (0 < r.next → k < r.next) →
      at_link none made (readings none made (suc b) rs) b k
      ≡ made r (at_link none made (readings none made (suc b) rs) b (operand_of r.formula)) (at_link none made (readings none made (suc b) rs) b r.next)
  unfolding readings
  from b [] k r l u e o n = absurd (omega arith)
  from b (q ∷ rs) zero r l u e o n = absurd (omega arith)
  from b (q ∷ rs) (suc k) r l u e o n =
      elim (cases_eq k b) [
        | inl same ↦
            let z : k - b ≡ 0 = omega arith in
            let z' : suc k - 1 - b ≡ 0 = omega arith in
            let is : q ≡ r = sym (ap (λ j. get_or (q ∷ rs) j unused) z') ∙ e in
            let later : List X = readings none made (suc (suc b)) rs in
            let x : X = made q (at_link none made later (suc b) (operand_of q.formula)) (at_link none made later (suc b) q.next) in
            ap (λ j. get_or (x ∷ later) j none) z
            ∙ ap (λ p. made p (at_link none made later (suc b) (operand_of p.formula)) (at_link none made later (suc b) p.next)) is
            ∙ ap₂ (made r) (sym (past x later b (operand_of r.formula) (λ h. omega (arith, o h)))) (sym (past x later b r.next (λ h. omega (arith, n h))))
        | inr other ↦
            let w : suc k - 1 - b ≡ suc (suc k - 1 - suc b) = omega arith in
            let later : List X = readings none made (suc (suc b)) rs in
            let x : X = made q (at_link none made later (suc b) (operand_of q.formula)) (at_link none made later (suc b) q.next) in
            past x later b (suc k) (λ h. omega arith)
            ∙ from (suc b) rs (suc k) r (omega arith) (omega arith) (sym (ap (λ j. get_or (q ∷ rs) j unused) w) ∙ e) o n
            ∙ ap₂ (made r) (sym (past x later b (operand_of r.formula) (λ h. omega (arith, o h)))) (sym (past x later b r.next (λ h. omega (arith, n h))))
      ]

  pub reading_step : (rs : List Record) → Linked rs → (k : ℕ) → 0 < k → k ≤ length rs →
      reading none made rs k ≡ made (record_at rs k) (reading none made rs (operand_of (record_at rs k).formula)) (reading none made rs (record_at rs k).next)
  reading_step rs linked k p h =
      let z : k - 1 - 0 ≡ k - 1 = omega arith in
      from 0 rs k (record_at rs k) p (omega arith) (ap (λ j. get_or rs j unused) z)
      (operand_link (length rs) k (record_at rs k) (linked k p h)).0 (next_link (length rs) k (record_at rs k) (linked k p h)).0

-- a reading that is a function of another
module _ {X Y : Type 0} (h : X → Y) (none : X) (made : Record → X → X → X) (none' : Y) (made' : Record → Y → Y → Y)
    (at_none : h none ≡ none') (at_made : (r : Record) (x y : X) → h (made r x y) ≡ made' r (h x) (h y)) where
  mapped_link : (xs : List X) (i k : ℕ) → h (at_link none made xs i k) ≡ at_link none' made' (map h xs) i k
  mapped_link xs i zero = at_none
  mapped_link xs i (suc k) = sym (get_or-map h xs (k - i) none) ∙ ap (get_or (map h xs) (k - i)) at_none

  mapped_readings : (i : ℕ) (rs : List Record) → map h (readings none made i rs) ≡ readings none' made' i rs
  unfolding readings
  mapped_readings i [] = refl
  mapped_readings i (r ∷ rs) =
      let later : List X = readings none made (suc i) rs in
      let rest : map h later ≡ readings none' made' (suc i) rs = mapped_readings (suc i) rs in
      ap₂ ◌∷◌
      (at_made r (at_link none made later i (operand_of r.formula)) (at_link none made later i r.next)
      ∙ ap₂ (made' r)
      (mapped_link later i (operand_of r.formula) ∙ ap (λ ys. at_link none' made' ys i (operand_of r.formula)) rest)
      (mapped_link later i r.next ∙ ap (λ ys. at_link none' made' ys i r.next) rest))
      rest

  pub mapped_reading : (rs : List Record) (k : ℕ) → h (reading none made rs k) ≡ reading none' made' rs k
  mapped_reading rs k = mapped_link (readings none made 1 rs) 0 k ∙ ap (λ ys. at_link none' made' ys 0 k) (mapped_readings 1 rs)
