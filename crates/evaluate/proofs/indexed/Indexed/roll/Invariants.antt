use Rattle.std.proofs.Common.{◌≡◌, ℕ, ◌≤◌, map}
use Rattle.evaluate.specs.Evaluate.{look}
use Rattle.evaluate.specs.Grids.{row, KeptPast}
use Rattle.evaluate.specs.Indexing.{indexed_rules, size}
use Rattle.evaluate.specs.Levels.{from_first}
use Rattle.evaluate.specs.Meanings.{meanings}
use Rattle.evaluate.specs.Positions.{does_at}
use Rattle.evaluate.proofs.indexed.Indexed.roll.Given as goal

abbrev pub invariant-loop-level : goal.invariant-loop-level
invariant-loop-level g l =
    let t = g.T.TruthForm in
    let o = meanings t.neg t.conj t.disj in
    let R = indexed_rules l.self in
    let n = size l.self in
    let was = l.initial.values in
    let xs = l.values in
    record {
      kept : KeptPast n l.level was xs;
      values : (k : ℕ) → k ≤ l.level → map t.means (row n xs k) ≡ from_first o R (map t.means (row n was 0)) (λ j c. look o (map t.means (row n was j)) (does_at R c)) k;
    }
