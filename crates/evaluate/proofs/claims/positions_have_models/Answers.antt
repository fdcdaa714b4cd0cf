use Rattle.evaluate.proofs.Games.{positions_have_models}
use Rattle.evaluate.proofs.claims.positions_have_models.Goals as goal

pub returns : goal.returns
returns c = positions_have_models
