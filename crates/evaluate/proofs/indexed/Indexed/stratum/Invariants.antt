use Rattle.std.proofs.Common.{◌≡◌, map}
use Rattle.evaluate.specs.Evaluate.{rounds}
use Rattle.evaluate.specs.Indexing.{indexed_rules}
use Rattle.evaluate.specs.Meanings.{meanings}
use Rattle.evaluate.specs.Program.{program_of}
use Rattle.evaluate.proofs.indexed.Indexed.stratum.Given as goal

abbrev pub invariant-loop : goal.invariant-loop
invariant-loop g l =
    let t = g.T.TruthForm in
    let o = meanings t.neg t.conj t.disj in
    record {
      alike : map t.means l.last ≡ map t.means l.row;
      gone : map t.means l.row ≡ rounds o (program_of (indexed_rules l.self)) l.s l.counter (map t.means l.initial.row);
    }
