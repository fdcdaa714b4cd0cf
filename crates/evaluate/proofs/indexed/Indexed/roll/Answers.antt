use Rattle.std.proofs.Common.{◌≡◌, ℕ, ◌+◌, ◌<◌, ◌≤◌, map, length, sym, refl, ap, ◌∙◌, inl, inr, arith}
use Rattle.std.proofs.lemmas.Bool.{cases_eq}
use Rattle.evaluate.specs.Evaluate.{look}
use Rattle.evaluate.specs.Grids.{row, Roomy}
use Rattle.evaluate.specs.Indexing.{indexed_rules, size}
use Rattle.evaluate.specs.Levels.{from_first}
use Rattle.evaluate.specs.Meanings.{meanings}
use Rattle.evaluate.specs.Positions.{does_at}
use Rattle.evaluate.proofs.Chains.{few_atoms}
use Rattle.evaluate.proofs.Givens.{from_none, from_next}
use Rattle.evaluate.proofs.Members.{row_within}
use Rattle.evaluate.proofs.Rows.{row_kept_last, row_kept_past}
use Rattle.evaluate.proofs.indexed.Indexed.roll.Goals as goal

pub loop-level-init : goal.loop-level-init
loop-level-init g c =
    let t = g.T.TruthForm in
    let o = meanings t.neg t.conj t.disj in
    let R = indexed_rules c.args.self in
    let n = size c.args.self in
    let was = c.args.values.now in
    record {
      kept = λ i d out out'. refl;
      values = λ k h. let e : k ≡ 0 = omega arith in
          ap (λ j. map t.means (row n was j)) e ∙ from_none o R (map t.means (row n was 0)) (λ j c. look o (map t.means (row n was j)) (does_at R c))
          ∙ ap (from_first o R (map t.means (row n was 0)) (λ j c. look o (map t.means (row n was j)) (does_at R c))) (sym e);
    }

pub loop-level-preserved : goal.loop-level-preserved
loop-level-preserved g c =
    let t = g.T.TruthForm in
    let o = meanings t.neg t.conj t.disj in
    let I = c.args.self in
    let R = indexed_rules I in
    let n = size I in
    let was = c.args.values.now in
    let xs = c.loop-level.values in
    let ys = c.advance.new.values in
    let L = c.loop-level.level in
    let i = c.loop-level.invariant in
    let e = c.advance.ensures in
    let first = map t.means (row n was 0) in
    let doing = λ (j : ℕ) (k : ℕ). look o (map t.means (row n was j)) (does_at R k) in
    let small : L < 4 = omega (arith, c.requires.horizon) in
    let long : length xs ≡ length was = c.loop-level.auto.values in
    let long' : length ys ≡ length xs = c.advance.auto.values in
    let roomy : Roomy xs = omega (arith, long, c.requires.room) in
    let ahead : row n xs (L + 1) ≡ row n was (L + 1) = row_kept_past n was xs (L + 1) (few_atoms R) long (row_within I was (L + 1) (omega arith) c.requires.room) L (omega arith) (λ p. omega arith) i.kept in
    record {
      kept = λ k d out out'. e.kept k d (out (L + 1) (omega arith)) out' ∙ i.kept k d (λ j h. out j (omega arith)) out';
      values = λ k h. elim (cases_eq k (L + 1)) [
        | inl p ↦ ap (λ j. map t.means (row n ys j)) p ∙ e.values
            ∙ from_next o R first doing L _ _ (i.values L (omega arith)) (λ k. ap (λ z. look o (map t.means z) (does_at R k)) ahead)
            ∙ ap (from_first o R first doing) (sym p)
        | inr p ↦
            let l : k ≤ L = omega arith in
            ap (map t.means) (row_kept_last n xs ys k (few_atoms R) long' (row_within I xs k (omega arith) roomy) (L + 1) p (λ q. omega arith) e.kept) ∙ i.values k l
      ];
    }

pub returns : goal.returns
returns g c =
    let i = c.loop-level.invariant in
    let e : c.loop-level.level ≡ c.args.horizon = omega arith in
    record {
      values = λ k h. i.values k (omega arith);
      kept = λ k d out out'. i.kept k d (λ j h. out j (omega arith)) out';
    }
