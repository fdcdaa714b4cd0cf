use Rattle.docket.proofs.Spelled.{plays_are_spelled}
use Rattle.docket.proofs.claims.plays_are_spelled.Goals as goal

pub returns : goal.returns
returns c = plays_are_spelled
