use Rattle.splits.proofs.Covers.{tree_covers, whole_excludes}
use Rattle.splits.proofs.theorems.tree_covers.Goals as goal

pub returns : goal.returns
returns g c = record { covers = tree_covers (g.J.Judge.closed c.args.judge.now); excludes = whole_excludes (g.J.Judge.closed c.args.judge.now) }
