-- Records of a file that a loop reads one after the other.
use Rattle.std.proofs.Common.{◌≡◌, ℕ, ◌+◌, ◌-◌, ◌<◌, ◌≤◌, List, [], ◌∷◌, ◌++◌, map, length, None, Ok, Option, Result, sym, ap, ◌∙◌, ap₂, arith}
use Rattle.std.specs.List.{range_with_len}
use Rattle.std.proofs.lemmas.List.FromFn.{length-map-range_with_len, map-range_with_len_more}
use Rattle.rules.specs.declared.opened.Rules.{Rules}
use Rattle.rules.specs.First.{first, verdict}
use Rattle.rules.proofs.Firsts.{verdict_value, loop_goes, first_end}
use Rattle.property.specs.declared.faults.Fault.{Fault}
use Rattle.property.specs.declared.records.Record.{Record}
use Rattle.property.specs.First.{record_fault, wrong_word}
use Rattle.property.specs.Typed.{record_in, records_in}
use Rattle.property.specs.Words.{words_in, count_in}

module _ (R : Rules) (bs : List ℕ) where
  abbrev pub fault_of : ℕ → Option Fault
  fault_of k = record_fault R (count_in bs) (words_in bs) k

  -- the records before record k have no fault, and are these
  abbrev pub Collected : ℕ → List Record → Type 0
  Collected k rs =
      (rs ≡ map (record_in (words_in bs)) (range_with_len 1 (k - 1)))
      × (first fault_of (range_with_len k (count_in bs + 1 - k)) ≡ wrong_word R bs)

  pub collected_length : (k : ℕ) (rs : List Record) → Collected k rs → length rs ≡ k - 1
  collected_length k rs c = ap length c.0 ∙ length-map-range_with_len (record_in (words_in bs)) 1 (k - 1)

  pub collected_more : (k : ℕ) (rs new : List Record) (answer : Result Record Fault) (r : Record) → 0 < k → k ≤ count_in bs → Collected k rs
      → answer ≡ verdict (fault_of k) (record_in (words_in bs) k) → answer ≡ Ok r → new ≡ rs ++ r ∷ [] → Collected (k + 1) new
  collected_more k rs new answer r above within c is ok e =
      let same : record_in (words_in bs) k ≡ r = verdict_value (fault_of k) (record_in (words_in bs) k) r (sym is ∙ ok) in
      let one : k - 1 + 1 ≡ k + 1 - 1 = omega arith in (
        e ∙ ap₂ (λ xs x. xs ++ x ∷ []) c.0 (sym same)
            ∙ sym (map-range_with_len_more (record_in (words_in bs)) 1 (k - 1) k (omega arith))
            ∙ ap (λ m. map (record_in (words_in bs)) (range_with_len 1 m)) one,
        loop_goes fault_of k (count_in bs + 1) (wrong_word R bs) c.1 (omega arith) answer (record_in (words_in bs) k) r is ok,
      )

  pub collected_all : (k : ℕ) (rs : List Record) → k ≡ count_in bs + 1 → Collected k rs → Ok rs ≡ verdict (wrong_word R bs) (records_in bs)
  collected_all k rs end c =
      let all : k - 1 ≡ count_in bs = omega arith in
      let none : wrong_word R bs ≡ None = sym c.1 ∙ first_end fault_of k (count_in bs + 1) (omega arith) in
      ap Ok (c.0 ∙ ap (λ m. map (record_in (words_in bs)) (range_with_len 1 m)) all) ∙ ap (λ o. verdict o (records_in bs)) (sym none)
