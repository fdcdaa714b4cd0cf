use Rattle.std.proofs.Common.{◌≡◌, ℕ, ◌+◌, List, length}
use Rattle.truth.specs.Forms.{Answers}
use Rattle.evaluate.specs.Meanings.{meanings}
use Rattle.parts.specs.Tables.{LevelsIn, FilledFrom}
use Rattle.parts.proofs.table.Formulas.fill.Given as goal

abbrev pub invariant-loop-level : goal.invariant-loop-level
invariant-loop-level g l =
    let t = g.T.TruthForm in
    let o = meanings t.neg t.conj t.disj in
    let run = l.self.run.now in
    record {
      whole : length l.table ≡ 320;
      filled : (L : ℕ → List (t.World → Answers)) → LevelsIn t.means run.rules.now run.grid.now.values.now L l.horizon
          → FilledFrom o t.means run.rules.now l.self.records.now L l.table (l.level + 1) l.horizon;
    }
