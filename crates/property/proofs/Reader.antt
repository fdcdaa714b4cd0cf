-- From the checks of a file, one after the other, to what reading it answers.
use Rattle.std.proofs.Common.{◌≡◌, ℕ, ◌<◌, ◌≤◌, List, length, Some, None, Ok, Err, Result, sym, refl, ap, ◌∙◌, subst, ap₂, arith}
use Rattle.std.proofs.lemmas.Bool.{le-leb, lt-leb}
use Rattle.std.specs.Result.{result_map_both}
use Rattle.arrayvec.specs.ArrayVec.{ArrayVec}
use Rattle.rules.specs.declared.opened.Rules.{Rules}
use Rattle.rules.specs.First.{unless, or_else, verdict}
use Rattle.rules.proofs.Firsts.{verdict_ok, verdict_value, verdict_err}
use Rattle.rules.proofs.Passed.{none_both, unless_true}
use Rattle.property.specs.declared.faults.Fault.{Fault}
use Rattle.property.specs.declared.faults.Fault.TheVariants.{Degree}
use Rattle.property.specs.declared.properties.Property.{Property}
use Rattle.property.specs.declared.records.Record.{Record}
use Rattle.property.specs.declared.text.Text.{Text}
use Rattle.property.specs.Degrees.{degree_of}
use Rattle.property.specs.First.{wrong_length, wrong_word, wrong_degree, first_fault}
use Rattle.property.specs.Linked.{Linked}
use Rattle.property.specs.Reads.{Reads, Fits, contents, records_of}
use Rattle.property.specs.Taken.{Taken}
use Rattle.property.specs.Typed.{records_in}
use Rattle.property.proofs.Takings.{records_length, records_linked, records_fit, sized_long, sized_short, passed_taken, taken_passed}

abbrev pub text_of : Result Text Fault → Result (List ℕ) Fault
text_of r = result_map_both (λ t. t.bytes.now) (λ fault. fault) r

abbrev pub items_of : Result (ArrayVec Record) Fault → Result (List Record) Fault
items_of r = result_map_both (λ v. v.items) (λ fault. fault) r

module _ (R : Rules) (bs : List ℕ) where
  refused : (f : Fault) → first_fault R bs ≡ Some f → Taken R bs → ⊥
  refused f found t = let e = taken_passed R bs t in let z : ◌≡◌ {A = ℕ} 0 1 = cc in omega arith

  -- what reading answers, by what the checks find
  pub record Answers (r : Result Property Fault) : Type 0 where
    pub value : contents r ≡ verdict (first_fault R bs) (records_in bs)
    pub taken : Reads R bs r

  answers_fault : (f : Fault) → first_fault R bs ≡ Some f → Answers (Err f)
  answers_fault f found = record { value = ap (λ o. verdict o (records_in bs)) (sym found); taken = refused f found }

  -- the length and the words are right, and the records are those that the bytes say
  pub record Passed (xs : List Record) : Type 0 where
    pub size : wrong_length bs ≡ None
    pub words : wrong_word R bs ≡ None
    pub says : xs ≡ records_in bs

  module _ (of : Result Text Fault) (text : Text) (is_of : text_of of ≡ verdict (wrong_length bs) bs) (of_ok : of ≡ Ok text)
      (read : Result (ArrayVec Record) Fault) (is_read : items_of read ≡ verdict (wrong_word R text.bytes.now) (records_in text.bytes.now)) where
    right_length : wrong_length bs ≡ None
    right_length = verdict_ok (wrong_length bs) bs text.bytes.now (sym is_of ∙ ap text_of of_ok)

    same : text.bytes.now ≡ bs
    same = sym (verdict_value (wrong_length bs) bs text.bytes.now (sym is_of ∙ ap text_of of_ok))

    pub passed : (v : ArrayVec Record) → read ≡ Ok v → Passed v.items
    passed v ok =
        let e = sym is_read ∙ ap items_of ok in
        record {
          size = right_length;
          words = ap (wrong_word R) (sym same) ∙ verdict_ok (wrong_word R text.bytes.now) (records_in text.bytes.now) v.items e;
          says = sym (verdict_value (wrong_word R text.bytes.now) (records_in text.bytes.now) v.items e) ∙ ap records_in same;
        }

    pub word_refused : (f : Fault) → read ≡ Err f → Answers (Err f)
    word_refused f err =
        let found : wrong_word R bs ≡ Some f = ap (wrong_word R) (sym same) ∙ verdict_err (wrong_word R text.bytes.now) (records_in text.bytes.now) f (sym is_read ∙ ap items_of err) in
        answers_fault f (ap₂ (λ o p. or_else o (or_else p (or_else (wrong_degree bs) None))) right_length found)

  module _ (xs : List Record) (w : Passed xs) where
    pub some_records : 0 < length xs
    some_records = omega (arith, ap length w.says, records_length R bs, sized_long R bs w.size)

    pub few_records : length xs ≤ 64
    few_records = omega (arith, ap length w.says, records_length R bs, sized_short R bs w.size)

    pub all_linked : Linked xs
    all_linked = subst Linked (sym w.says) (records_linked R bs w.words)

    pub degree_refused : 3 < degree_of xs → Answers (Err Degree)
    degree_refused h =
        let d : wrong_degree bs ≡ Some Degree = ap (λ b. unless b Degree) (lt-leb (degree_of (records_in bs)) 3 (subst (λ rs. 3 < degree_of rs) w.says h)) in
        answers_fault Degree (ap₂ (λ o p. or_else o (or_else p (or_else (wrong_degree bs) None))) w.size w.words ∙ ap (λ q. or_else q None) d)

    pub property_read : (p : Property) → records_of p ≡ xs → degree_of xs ≤ 3 → Answers (Ok p)
    property_read p is low =
        let rs : records_of p ≡ records_in bs = is ∙ w.says in
        let none : first_fault R bs ≡ None =
        none_both (wrong_length bs) _ w.size
        (none_both (wrong_word R bs) _ w.words
        (none_both (wrong_degree bs) None (unless_true _ _ (le-leb (degree_of (records_in bs)) 3 (subst (λ rs. degree_of rs ≤ 3) w.says low))) refl)) in
        record {
          value = ap Ok rs ∙ ap (λ o. verdict o (records_in bs)) (sym none);
          taken = (
            passed_taken R bs none,
            record { count = ap length rs ∙ records_length R bs; records = rs },
            subst (Fits R) (sym rs) (records_fit R bs w.words),
          );
        }
