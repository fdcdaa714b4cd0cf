use Rattle.std.proofs.Common.{◌≡◌, ◌+◌, ◌-◌, ◌∙◌, map, ap, arith}
use Rattle.evaluate.specs.Evaluate.{stratum_done}
use Rattle.evaluate.specs.Indexing.{indexed_rules}
use Rattle.evaluate.specs.Meanings.{meanings}
use Rattle.evaluate.specs.Program.{program_of}
use Rattle.evaluate.proofs.Steps.{up_to_none, up_to_next, evaluated_is}
use Rattle.evaluate.proofs.indexed.Indexed.all_strata.Goals as goal

pub loop-s-init : goal.loop-s-init
loop-s-init g c =
    let t = g.T.TruthForm in
    let o = meanings t.neg t.conj t.disj in
    record {
      alike = ap (map t.means) c.copy_from_slice.ensures.after;
      gone = up_to_none o (program_of (indexed_rules c.args.self)) (map t.means c.args.row.now);
    }

pub loop-s-preserved : goal.loop-s-preserved
loop-s-preserved g c =
    let t = g.T.TruthForm in
    let o = meanings t.neg t.conj t.disj in
    let P = program_of (indexed_rules c.args.self) in
    record {
      alike = c.stratum.ensures.alike;
      gone = c.stratum.ensures.values ∙ ap (stratum_done o P c.loop-s.s) c.loop-s.invariant.gone ∙ up_to_next o P (c.loop-s.s - 1) c.loop-s.s (c.loop-s.s + 1 - 1) _ (omega arith) (omega arith);
    }

pub returns : goal.returns
returns g c =
    let t = g.T.TruthForm in
    let o = meanings t.neg t.conj t.disj in
    let e : c.loop-s.s - 1 ≡ 31 = omega arith in
    c.loop-s.invariant.gone ∙ evaluated_is o (program_of (indexed_rules c.args.self)) (c.loop-s.s - 1) _ e
