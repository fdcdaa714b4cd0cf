use Rattle.evaluate.proofs.Fitting.{rules_are_proper}
use Rattle.evaluate.proofs.claims.rules_are_proper.Goals as goal

pub returns : goal.returns
returns c = rules_are_proper
