use Rattle.std.proofs.Common.{◌≡◌, ◌+◌, map, get_or, ap, ◌∙◌, rules}
use Rattle.evaluate.specs.Grids.{row}
use Rattle.evaluate.specs.Indexing.{indexed_rules, size}
use Rattle.evaluate.specs.Meanings.{meanings}
use Rattle.evaluate.proofs.Givens.{level_carried}
use Rattle.evaluate.proofs.indexed.Indexed.advance.Goals as goal

pub returns : goal.returns
returns g c =
    let t = g.T.TruthForm in
    let o = meanings t.neg t.conj t.disj in
    let I = c.args.self in
    let n = size I in
    let L = c.args.level in
    let was = c.args.values.now in
    let k = c.carry.ensures in
    let e = c.evaluate.ensures in
    let same : c.values-2-1.given.0 ≡ c.evaluate.new.self.values.now = search rules in
    record {
      values = ap (λ l. map t.means (row n l (L + 1))) same ∙ e.values ∙ level_carried o (indexed_rules I) (map t.means (row n was L)) (map t.means (row n was (L + 1))) _ k.values;
      kept = λ i d out out'. ap (λ l. get_or l i d) same ∙ e.kept i d out out' ∙ k.kept i d out;
    }
