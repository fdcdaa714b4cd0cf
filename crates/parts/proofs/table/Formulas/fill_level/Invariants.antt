use Rattle.std.proofs.Common.{◌≡◌, ℕ, ◌+◌, ◌-◌, ◌<◌, List, length}
use Rattle.truth.specs.Forms.{Answers}
use Rattle.evaluate.specs.Meanings.{meanings}
use Rattle.parts.specs.Tables.{LevelIn, FilledBehind, KeptBesideLevel}
use Rattle.parts.proofs.table.Formulas.fill_level.Given as goal

abbrev pub invariant-loop-number : goal.invariant-loop-number
invariant-loop-number g l =
    let t = g.T.TruthForm in
    let o = meanings t.neg t.conj t.disj in
    let R = l.self.run.now.rules.now in
    let rs = l.self.records.now in
    let was = l.initial.table in
    record {
      whole : length l.table ≡ 320;
      kept : KeptBesideLevel l.level was l.table;
      filled : (L : ℕ → List (t.World → Answers)) → LevelIn t.means R l.self.run.now.grid.now.values.now L l.level
          → (0 < l.left → FilledBehind o t.means R rs L was (l.level + 1) (l.left - 1) 0)
          → FilledBehind o t.means R rs L l.table l.level l.left l.number;
    }
