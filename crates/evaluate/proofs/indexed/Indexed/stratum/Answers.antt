use Rattle.std.proofs.Common.{◌≡◌, ◌∙◌, map, length, sym, ap, arith}
use Rattle.evaluate.specs.Evaluate.{in_stratum, round, cleared}
use Rattle.evaluate.specs.Indexing.{indexed_rules, size}
use Rattle.evaluate.specs.Lists.{tally}
use Rattle.evaluate.specs.Meanings.{meanings}
use Rattle.evaluate.specs.Program.{program_of}
use Rattle.evaluate.proofs.Passings.{passing_length}
use Rattle.evaluate.proofs.Steps.{rounds_none, rounds_next, stratum_is}
use Rattle.evaluate.proofs.indexed.Indexed.stratum.Goals as goal

pub loop-init : goal.loop-init
loop-init g c =
    let t = g.T.TruthForm in
    let o = meanings t.neg t.conj t.disj in
    let P = program_of (indexed_rules c.args.self) in
    record {
      alike = c.clear-2.ensures ∙ ap (cleared o P c.args.s) c.requires.alike ∙ sym c.clear.ensures;
      gone = rounds_none o P c.args.s (map t.means c.clear.new.row);
    }

pub loop-preserved : goal.loop-preserved
loop-preserved g c =
    let t = g.T.TruthForm in
    let o = meanings t.neg t.conj t.disj in
    let P = program_of (indexed_rules c.args.self) in
    record {
      alike = c.again.ensures.alike;
      gone = c.again.ensures.values ∙ ap (round o P c.args.s) c.loop.invariant.gone ∙ rounds_next o P c.args.s c.loop.counter _;
    }

pub returns-clause-values : goal.returns-clause-values
returns-clause-values g c =
    let t = g.T.TruthForm in
    let o = meanings t.neg t.conj t.disj in
    let P = program_of (indexed_rules c.args.self) in
    let s = c.args.s in
    let ks = c.members-end.result.now in
    let e : c.loop.counter ≡ length ks = omega arith in
    let n : c.loop.counter ≡ tally P.atoms (in_stratum o P s) = e ∙ ap length c.members-end.ensures.exact ∙ passing_length (in_stratum o P s) (size c.args.self) in
    c.loop.invariant.gone ∙ stratum_is o P s c.loop.counter _ _ n c.clear.ensures
