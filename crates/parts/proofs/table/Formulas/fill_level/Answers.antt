use Rattle.std.proofs.Common.{◌≡◌, ◌+◌, ◌-◌, ◌≤◌, set, ap, ◌∙◌, arith}
use Rattle.std.proofs.lemmas.List.{length-set}
use Rattle.evaluate.specs.Meanings.{meanings}
use Rattle.parts.specs.Tables.{place_in_table}
use Rattle.parts.proofs.Entries.{other_level, enter_kept, enter_filled}
use Rattle.parts.proofs.table.Formulas.fill_level.Goals as goal

pub loop-number-preserved : goal.loop-number-preserved
loop-number-preserved g c =
    let t = g.T.TruthForm in
    let o = meanings t.neg t.conj t.disj in
    let self = c.args.self.now in
    let R = self.run.now.rules.now in
    let rs = self.records.now in
    let was = c.args.table.now in
    let xs = c.loop-number.table in
    let k = c.args.level in
    let m = c.loop-number.number in
    let v = c.record_value.result in
    let inv = c.loop-number.invariant in
    let ys = set xs c.place_of.result v in
    let within : m ≤ 64 = omega (arith, self.few) in
    let is : ys ≡ set xs (place_in_table k m) v = ap (λ i. set xs i v) c.place_of.ensures.place in
    record {
      whole = length-set xs c.place_of.result v ∙ inv.whole;
      kept = λ j d out. enter_kept xs ys k m v c.loop-number-test.true within is j d out ∙ inv.kept j d out;
      filled = λ L level later.
          let filled = inv.filled L level later in
          enter_filled xs ys k m v c.loop-number-test.true within is o t.means R rs L c.args.left self.few (omega arith) (omega arith)
          (c.record_value.ensures L level
          (λ p. other_level o t.means R rs L self.few was xs c.told-table inv.whole k (k + 1) (c.args.left - 1) 0 (omega arith) (λ e. omega arith) inv.kept (later p))
          filled)
          filled;
    }

pub returns : goal.returns
returns g c =
    let inv = c.loop-number.invariant in
    record { values = λ L level later k p u. inv.filled L level later k (omega arith) u; kept = inv.kept; whole = inv.whole }
