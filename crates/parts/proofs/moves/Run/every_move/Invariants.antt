use Rattle.std.proofs.Common.{◌≡◌, ℕ, ◌-◌, List}
use Rattle.std.specs.List.{range_with_len}
use Rattle.truth.specs.Forms.{Answers}
use Rattle.evaluate.specs.Meanings.{meanings}
use Rattle.evaluate.specs.Positions.{choices}
use Rattle.parts.specs.Tables.{LevelIn}
use Rattle.parts.specs.Values.{each_move, every_move}
use Rattle.parts.proofs.moves.Run.every_move.Given as goal

abbrev pub invariant-loop-choice : goal.invariant-loop-choice
invariant-loop-choice g l =
    let t = g.T.TruthForm in
    let o = meanings t.neg t.conj t.disj in
    let R = l.self.rules.now in
    (L : ℕ → List (t.World → Answers)) → LevelIn t.means R l.self.grid.now.values.now L l.level
    → each_move o R L (t.means l.all) l.level (range_with_len l.choice (choices R - l.choice)) ≡ every_move o R L l.level
