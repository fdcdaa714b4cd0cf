use Rattle.evaluate.proofs.Standard.{standard_is_one}
use Rattle.evaluate.proofs.claims.standard_is_one.Goals as goal

pub returns : goal.returns
returns c = standard_is_one
