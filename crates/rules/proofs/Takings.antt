-- A file without a fault is taken, and one that is taken has none.
use Rattle.std.proofs.Common.{◌≡◌, ℕ, ◌+◌, ◌*◌, ◌<◌, ◌≤◌, true, List, length, Some, None, Ok, Err, refl, arith}
use Rattle.std.proofs.lemmas.Bool.{leb-true, le-leb, eqb-true, eq-eqb}
use Rattle.rules.specs.declared.faults.Fault.{Fault}
use Rattle.rules.specs.declared.layout.Layout.{Layout}
use Rattle.rules.specs.First.{verdict, first_fault, too_short, wrong_version, wrong_count, wrong_length, wrong_moves, few_atoms, records_fault, count_fits}
use Rattle.rules.specs.Tables.{tables, layout_of, words_of, roles_in, atoms_in, fluents_in, moves_in}
use Rattle.rules.specs.Taken.{Taken}
use Rattle.rules.specs.Words.{word}
use Rattle.rules.proofs.Firsts.{verdict_ok, verdict_err, verdict_value}
use Rattle.rules.proofs.Headers.{count_fault, move_fault}
use Rattle.rules.proofs.Passed.{unless_none, unless_true, both_none, none_both, first_each, each_first, records_pass, fit_faultless}

module _ (bs : List ℕ) where
  pub passed_taken : first_fault bs ≡ None → Taken bs
  passed_taken e =
      let a = both_none (too_short bs) _ e in
      let b = both_none (wrong_version bs) _ a.1 in
      let c = both_none (wrong_count bs) _ b.1 in
      let d = both_none (wrong_length bs) _ c.1 in
      let f = both_none (wrong_moves bs) _ d.1 in
      let g = both_none (few_atoms bs) _ f.1 in
      let h = both_none (records_fault (layout_of bs) (tables (layout_of bs) bs)) None g.1 in
      let count : (i : ℕ) → 1 ≤ i → i < 6 → count_fits i (word bs i) ≡ true = λ i l m. unless_none _ _ (first_each (count_fault bs) 5 1 c.0 i l m) in
      record {
        long = leb-true 12 (length bs) (unless_none _ _ a.0);
        version = eqb-true (word bs 0) 1 (unless_none _ _ b.0);
        counts = (count 1 (omega arith) (omega arith), count 2 (omega arith) (omega arith), count 3 (omega arith) (omega arith), count 4 (omega arith) (omega arith), count 5 (omega arith) (omega arith));
        sized = eqb-true (length bs) (2 * words_of (layout_of bs)) (unless_none _ _ d.0);
        moves = λ r l. unless_none _ _ (first_each (move_fault bs) (roles_in bs) 0 f.0 r (omega arith) (omega arith));
        enough = leb-true (2 * fluents_in bs + 2 * moves_in bs + 1) (atoms_in bs) (unless_none _ _ g.0);
        records = records_pass (layout_of bs) (tables (layout_of bs) bs) h.0;
      }

  pub taken_passed : Taken bs → first_fault bs ≡ None
  taken_passed t =
      none_both (too_short bs) _ (unless_true _ _ (le-leb 12 (length bs) t.long))
      (none_both (wrong_version bs) _ (unless_true _ _ (eq-eqb (word bs 0) 1 t.version))
      (none_both (wrong_count bs) _ counts_pass
      (none_both (wrong_length bs) _ (unless_true _ _ (eq-eqb (length bs) (2 * words_of (layout_of bs)) t.sized))
      (none_both (wrong_moves bs) _ (each_first (move_fault bs) (roles_in bs) 0 (λ r l m. unless_true _ _ (t.moves r (omega arith))))
      (none_both (few_atoms bs) _ (unless_true _ _ (le-leb (2 * fluents_in bs + 2 * moves_in bs + 1) (atoms_in bs) t.enough))
      (none_both (records_fault (layout_of bs) (tables (layout_of bs) bs)) None (fit_faultless (layout_of bs) (tables (layout_of bs) bs) t.records) refl))))))
    where
      counts_pass : wrong_count bs ≡ None
      counts_pass =
          let n = t.counts in
          none_both (count_fault bs 1) _ (unless_true _ _ n.0)
          (none_both (count_fault bs 2) _ (unless_true _ _ n.1)
          (none_both (count_fault bs 3) _ (unless_true _ _ n.2)
          (none_both (count_fault bs 4) _ (unless_true _ _ n.3)
          (none_both (count_fault bs 5) None (unless_true _ _ n.4) refl))))

-- what a check's answer says of the bytes
module _ (bs : List ℕ) where
  pub accepted : (y : Layout) → verdict (first_fault bs) (layout_of bs) ≡ Ok y → (first_fault bs ≡ None) × Taken bs × (layout_of bs ≡ y)
  accepted y e = let none = verdict_ok (first_fault bs) (layout_of bs) y e in (none, passed_taken bs none, verdict_value (first_fault bs) (layout_of bs) y e)

  pub refused : (f : Fault) → verdict (first_fault bs) (layout_of bs) ≡ Err f → (first_fault bs ≡ Some f) × (Taken bs → ⊥)
  refused f e = let some = verdict_err (first_fault bs) (layout_of bs) f e in (some, λ t. let none = taken_passed bs t in cc)
