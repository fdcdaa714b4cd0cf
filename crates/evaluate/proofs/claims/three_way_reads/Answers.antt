use Rattle.evaluate.proofs.Standard.{three_way}
use Rattle.evaluate.proofs.claims.three_way_reads.Goals as goal

pub returns : goal.returns
returns g c = three_way g.T.TruthForm.World
