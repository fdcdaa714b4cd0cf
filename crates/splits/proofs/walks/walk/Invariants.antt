use Rattle.std.proofs.Common.{◌≡◌, ◌+◌, ◌-◌, ◌*◌, ◌≤◌, length}
use Rattle.splits.specs.Inputs.{entries}
use Rattle.splits.specs.Shapes.{inputs}
use Rattle.splits.specs.Stacks.{splits}
use Rattle.splits.proofs.Resumes.{weight}
use Rattle.splits.proofs.Walkings.{Walking}
use Rattle.splits.proofs.walks.walk.Given as goal

abbrev pub invariant-loop-over : goal.invariant-loop-over
invariant-loop-over g l = record {
  same_judge : g.J.Judge.closed l.judge ≡ g.J.Judge.closed l.initial.judge;
  room : entries (inputs l.shape) ≤ length l.splits.cases.now;
  walking : Walking (g.J.Judge.closed l.initial.judge) (inputs l.shape) l.bytes l.initial.settings l.at l.settings (splits l.splits) l.over;
}

abbrev pub decreases-loop-over : goal.decreases-loop-over
decreases-loop-over g l = 3 * (l.records - l.at) + length (splits l.splits) + weight l.over
