use Rattle.evaluate.proofs.Games.{game_reads}
use Rattle.evaluate.proofs.claims.game_reads.Goals as goal

pub returns : goal.returns
returns c = game_reads
