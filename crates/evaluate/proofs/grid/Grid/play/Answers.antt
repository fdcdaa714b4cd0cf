use Rattle.std.proofs.Common.{map, ap, ◌∙◌, arith}
use Rattle.evaluate.specs.Evaluate.{look}
use Rattle.evaluate.specs.Indexing.{indexed_rules, size}
use Rattle.evaluate.specs.Meanings.{meanings}
use Rattle.evaluate.specs.Positions.{does_at}
use Rattle.evaluate.proofs.Chains.{few_atoms}
use Rattle.evaluate.proofs.Givens.{from_same}
use Rattle.evaluate.proofs.Members.{row_within}
use Rattle.evaluate.proofs.Rows.{row_kept_last}
use Rattle.evaluate.proofs.grid.Grid.play.Goals as goal

pub returns-clause-values : goal.returns-clause-values
returns-clause-values g c =
    let t = g.T.TruthForm in
    let o = meanings t.neg t.conj t.disj in
    let I = c.args.rules in
    let R = indexed_rules I in
    let was = c.args.self.now.values.now in
    let e = c.evaluate.ensures in
    λ k h. c.roll.ensures.values k h ∙ from_same o R _ _ _ _ e.values k (λ j c' p l.
    ap (λ z. look o (map t.means z) (does_at R c')) (row_kept_last (size I) was c.evaluate.new.self.values.now j (few_atoms R) e.len (row_within I was j (omega (arith, c.requires.horizon)) c.requires.room) 0 (λ q. omega arith) (λ q. omega (arith, c.requires.horizon)) e.kept))

pub returns-clause-kept : goal.returns-clause-kept
returns-clause-kept g c = λ i d out out'. c.roll.ensures.kept i d out out' ∙ c.evaluate.ensures.kept i d (out 0 (omega arith)) out'
