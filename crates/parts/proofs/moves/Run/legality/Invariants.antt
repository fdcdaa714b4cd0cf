use Rattle.std.proofs.Common.{◌≡◌, ℕ, ◌-◌, List}
use Rattle.truth.specs.Forms.{Answers}
use Rattle.evaluate.specs.Meanings.{meanings}
use Rattle.parts.specs.Tables.{LevelsIn}
use Rattle.parts.specs.Values.{legality_from, legality}
use Rattle.parts.proofs.moves.Run.legality.Given as goal

abbrev pub invariant-loop-level : goal.invariant-loop-level
invariant-loop-level g l =
    let t = g.T.TruthForm in
    let o = meanings t.neg t.conj t.disj in
    let R = l.self.rules.now in
    (L : ℕ → List (t.World → Answers)) → LevelsIn t.means R l.self.grid.now.values.now L l.horizon
    → legality_from o R L (t.means l.all) (t.means l.over) l.level (l.horizon - l.level) ≡ legality o R L l.horizon
