use Rattle.splits.proofs.Plains.{plain_is_small, whole_counts}
use Rattle.splits.proofs.theorems.plain_is_small.Goals as goal

pub returns : goal.returns
returns g c = record { small = plain_is_small (g.J.Judge.closed c.args.judge.now); counts = whole_counts }
