use Rattle.splits.proofs.Plains.{plain_closes, plain_shows, plain_made}
use Rattle.splits.proofs.theorems.plain_decides.Goals as goal

pub returns : goal.returns
returns g c =
    let closed = g.J.Judge.closed c.args.judge.now in
    record { closes = plain_closes closed; shows = plain_shows closed; made = plain_made closed }
