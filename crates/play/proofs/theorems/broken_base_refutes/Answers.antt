use Rattle.play.proofs.Induction.{broken_base_refutes}
use Rattle.play.proofs.theorems.broken_base_refutes.Goals as goal

pub returns : goal.returns
returns g c G = broken_base_refutes G
