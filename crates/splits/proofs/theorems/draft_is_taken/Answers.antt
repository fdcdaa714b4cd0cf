use Rattle.splits.proofs.Plains.{draft_is_taken}
use Rattle.splits.proofs.theorems.draft_is_taken.Goals as goal

pub returns : goal.returns
returns g c = draft_is_taken (g.J.Judge.closed c.args.judge.now)
