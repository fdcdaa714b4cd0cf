-- A file without a fault is taken, and one that is taken has none.
use Rattle.std.proofs.Common.{◌≡◌, ℕ, zero, suc, ◌+◌, ◌-◌, ◌%◌, ◌<◌, ◌≤◌, true, eqb, leb, List, length, get_or, None, sym, refl, ap, ◌∙◌, subst, ap₂, inl, inr, arith}
use Rattle.std.proofs.lemmas.List.FromFn.{length-map-range_with_len, get_or-map-range_with_len}
use Rattle.std.proofs.lemmas.Bool.{and_parts, and_from, or_left, or_right, leb-true, le-leb, eqb-true, eq-eqb, cases_eq}
use Rattle.rules.specs.declared.opened.Rules.{Rules}
use Rattle.rules.specs.declared.records.Mark.{Mark}
use Rattle.rules.specs.declared.records.Mark.TheVariants.{Still, Dependent, Initial}
use Rattle.rules.specs.First.{within, next_fits}
use Rattle.rules.specs.Opens.{atoms_of}
use Rattle.rules.specs.Typed.{no_atom}
use Rattle.rules.proofs.Passed.{unless_none, unless_true, both_none, none_both, first_each, each_first}
use Rattle.property.specs.declared.records.Formula.{Formula}
use Rattle.property.specs.declared.records.Formula.TheVariants.{Atom, Not, All, Following}
use Rattle.property.specs.declared.records.Record.{Record}
use Rattle.property.specs.Degrees.{degree_of}
use Rattle.property.specs.First.{still, still_atom, value_fits, record_fault, wrong_length, wrong_word, wrong_degree, first_fault}
use Rattle.property.specs.Linked.{operand_leads, record_leads, Linked}
use Rattle.property.specs.Reads.{Fits}
use Rattle.property.specs.Taken.{StillAtom, LaterRecord, RecordWords, Taken}
use Rattle.property.specs.Typed.{formula_of, record_in, records_in, record_at, unused}
use Rattle.property.specs.Words.{Words, words_in, count_in}
use Rattle.property.proofs.Followings.{most}
use Rattle.property.proofs.Links.{within_bounds, link_leads}

-- Tests on words, and what they say.
still_true : (m : Mark) → still m ≡ true → m ≡ Dependent → ⊥
still_true Still e d = let z : ◌≡◌ {A = ℕ} 0 1 = cc in omega arith
still_true Dependent e d = let z : ◌≡◌ {A = ℕ} 0 1 = cc in omega arith
still_true Initial e d = let z : ◌≡◌ {A = ℕ} 0 1 = cc in omega arith

true_still : (m : Mark) → (m ≡ Dependent → ⊥) → still m ≡ true
true_still Still n = refl
true_still Dependent n = absurd (n refl)
true_still Initial n = refl

true_within : (low high n : ℕ) → low ≤ n → n ≤ high → within low high n ≡ true
true_within low high n l h = and_from (leb low n) (leb n high) (le-leb low n l) (le-leb n high h)

module _ (R : Rules) where
  pub atom_still : (a : ℕ) → still_atom R a ≡ true → StillAtom R a
  atom_still a e =
      let p = and_parts (within 1 R.layout.atoms a) (still (get_or (atoms_of R) (a - 1) no_atom).mark) e in
      let b = within_bounds 1 R.layout.atoms a p.0 in
      (omega arith, b.1, still_true (get_or (atoms_of R) (a - 1) no_atom).mark p.1)

  still_known : (a : ℕ) → StillAtom R a → still_atom R a ≡ true
  still_known a s = and_from _ _ (true_within 1 R.layout.atoms a (omega (arith, s.0)) s.1) (true_still (get_or (atoms_of R) (a - 1) no_atom).mark s.2)

module _ (n k : ℕ) where
  later : (i : ℕ) → within (k + 1) n i ≡ true → LaterRecord n k i
  later i e = let b = within_bounds (k + 1) n i e in (omega arith, b.1)

  later_known : (i : ℕ) → LaterRecord n k i → within (k + 1) n i ≡ true
  later_known i l = true_within (k + 1) n i (omega (arith, l.0)) l.1

  link_later : (i : ℕ) → next_fits k n i ≡ true → 0 < i → LaterRecord n k i
  link_later i e some = let l = link_leads n k i e in (l.0 some, l.1)

  link_known : (i : ℕ) → (0 < i → LaterRecord n k i) → next_fits k n i ≡ true
  link_known i l =
      elim (cases_eq i 0) [
        | inl z ↦ or_left (eqb i 0) (within (k + 1) n i) (eq-eqb i 0 z)
        | inr z ↦ or_right (eqb i 0) (within (k + 1) n i) (later_known i (l (omega arith)))
      ]

-- The words of a record, and back.
module _ (R : Rules) (n : ℕ) (W : Words) (k : ℕ) where
  pub record_passes : record_fault R n W k ≡ None → RecordWords R n W k
  record_passes e =
      let p = both_none _ _ e in
      let q = both_none _ _ p.1 in
      let kind = within_bounds 1 4 (W.kind k) (unless_none _ _ p.0) in
      let value : value_fits R n k (formula_of (W.kind k) (W.value k)) ≡ true = unless_none _ _ q.0 in
      let by_kind : (m : ℕ) → W.kind k ≡ m → value_fits R n k (formula_of m (W.value k)) ≡ true =
      λ m i. subst (λ j. value_fits R n k (formula_of j (W.value k)) ≡ true) i value in
      record {
        kind = kind;
        atom = λ i. atom_still R (W.value k) (by_kind 1 i);
        negation = λ i. later n k (W.value k) (by_kind 2 i);
        all = λ i. link_later n k (W.value k) (by_kind 3 i);
        following = λ i. later n k (W.value k) (by_kind 4 i);
        next = link_later n k (W.next k) (unless_none _ _ q.1);
      }

  value_known : (kind v : ℕ) → 1 ≤ kind → kind ≤ 4 → (kind ≡ 1 → StillAtom R v) → (kind ≡ 2 → LaterRecord n k v) → (kind ≡ 3 → 0 < v → LaterRecord n k v) → (kind ≡ 4 → LaterRecord n k v) →
      value_fits R n k (formula_of kind v) ≡ true
  value_known zero v l h a b c d = absurd (omega arith)
  value_known (suc zero) v l h a b c d = still_known R v (a refl)
  value_known (suc (suc zero)) v l h a b c d = later_known n k v (b refl)
  value_known (suc (suc (suc zero))) v l h a b c d = link_known n k v (c refl)
  value_known (suc (suc (suc (suc zero)))) v l h a b c d = later_known n k v (d refl)
  value_known (suc (suc (suc (suc (suc m))))) v l h a b c d = absurd (omega arith)

  passes_record : RecordWords R n W k → record_fault R n W k ≡ None
  passes_record w =
      none_both _ _ (unless_true _ _ (true_within 1 4 (W.kind k) w.kind.0 w.kind.1))
      (none_both _ _ (unless_true _ _ (value_known (W.kind k) (W.value k) w.kind.0 w.kind.1 w.atom w.negation w.all w.following))
      (unless_true _ _ (link_known n k (W.next k) w.next)))

  value_leads : (f : Formula) → value_fits R n k f ≡ true → operand_leads n k f ≡ true
  value_leads (Atom a) e = refl
  value_leads (Not i) e = e
  value_leads (All i) e = e
  value_leads (Following i) e = e

  record_fault_leads : record_fault R n W k ≡ None → record_leads n k (record_in W k) ≡ true
  record_fault_leads e =
      let p = both_none _ _ e in
      let q = both_none _ _ p.1 in
      and_from _ _ (value_leads (formula_of (W.kind k) (W.value k)) (unless_none _ _ q.0)) (unless_none _ _ q.1)

module _ (R : Rules) (bs : List ℕ) where
  pub records_length : length (records_in bs) ≡ count_in bs
  records_length = length-map-range_with_len (record_in (words_in bs)) 1 (count_in bs)

  record_is : (k : ℕ) → 0 < k → k ≤ count_in bs → record_at (records_in bs) k ≡ record_in (words_in bs) k
  record_is k p h = get_or-map-range_with_len (record_in (words_in bs)) 1 (count_in bs) (k - 1) k unused (omega arith) (omega arith)

  module _ (passed : wrong_word R bs ≡ None) where
    each : (k : ℕ) → 0 < k → k ≤ count_in bs → record_fault R (count_in bs) (words_in bs) k ≡ None
    each k p h = first_each (record_fault R (count_in bs) (words_in bs)) (count_in bs) 1 passed k (omega arith) (omega arith)

    pub records_linked : Linked (records_in bs)
    records_linked k p h =
        let l : k ≤ count_in bs = omega (arith, records_length) in
        ap₂ (λ m r. record_leads m k r) records_length (record_is k p l) ∙ record_fault_leads R (count_in bs) (words_in bs) k (each k p l)

    pub records_fit : Fits R (records_in bs)
    records_fit k a p h e =
        let l : k ≤ count_in bs = omega (arith, records_length) in
        let f : formula_of ((words_in bs).kind k) ((words_in bs).value k) ≡ Atom a = sym (ap (λ (r : Record). r.formula) (record_is k p l)) ∙ e in
        let q = both_none _ _ (both_none _ _ (each k p l)).1 in
        let fits : value_fits R (count_in bs) k (formula_of ((words_in bs).kind k) ((words_in bs).value k)) ≡ true = unless_none _ _ q.0 in
        atom_still R a (subst (λ g. value_fits R (count_in bs) k g ≡ true) f fits)

    pub records_words : (k : ℕ) → 0 < k → k ≤ count_in bs → RecordWords R (count_in bs) (words_in bs) k
    records_words k p h = record_passes R (count_in bs) (words_in bs) k (each k p h)

  pub sized_long : wrong_length bs ≡ None → 6 ≤ length bs
  sized_long e = (within_bounds 6 384 (length bs) (and_parts _ _ (unless_none _ _ e)).0).0

  pub sized_short : wrong_length bs ≡ None → length bs ≤ 384
  sized_short e = (within_bounds 6 384 (length bs) (and_parts _ _ (unless_none _ _ e)).0).1

  pub sized_whole : wrong_length bs ≡ None → length bs % 6 ≡ 0
  sized_whole e = eqb-true (length bs % 6) 0 (and_parts (within 6 384 (length bs)) _ (unless_none _ _ e)).1

  pub some_records : 6 ≤ length bs → 1 ≤ length (records_in bs)
  some_records l = omega (arith, records_length)

  pub passed_taken : first_fault R bs ≡ None → Taken R bs
  passed_taken e =
      let a = both_none (wrong_length bs) _ e in
      let b = both_none (wrong_word R bs) _ a.1 in
      let c = both_none (wrong_degree bs) None b.1 in
      let low : degree_of (records_in bs) ≤ 3 = leb-true (degree_of (records_in bs)) 3 (unless_none _ _ c.0) in
      record {
        long = sized_long a.0;
        short = sized_short a.0;
        whole = sized_whole a.0;
        words = records_words b.0;
        followings = λ n w. omega (arith, (most (records_in bs) (records_linked b.0) 1 (omega arith) (some_records (sized_long a.0))).never_more n w);
      }

  pub taken_passed : Taken R bs → first_fault R bs ≡ None
  taken_passed t =
      let size : wrong_length bs ≡ None =
      unless_true _ _ (and_from _ _ (true_within 6 384 (length bs) t.long t.short) (eq-eqb (length bs % 6) 0 t.whole)) in
      let words : wrong_word R bs ≡ None =
      each_first (record_fault R (count_in bs) (words_in bs)) (count_in bs) 1 (λ k l h. passes_record R (count_in bs) (words_in bs) k (t.words k (omega arith) (omega arith))) in
      let low : degree_of (records_in bs) ≤ 3 =
      t.followings (degree_of (records_in bs)) (most (records_in bs) (records_linked words) 1 (omega arith) (some_records t.long)).reached in
      none_both (wrong_length bs) _ size
      (none_both (wrong_word R bs) _ words
      (none_both (wrong_degree bs) None (unless_true _ _ (le-leb (degree_of (records_in bs)) 3 low)) refl))
