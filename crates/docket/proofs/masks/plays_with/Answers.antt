use Rattle.std.proofs.Common.{rules}
use Rattle.docket.specs.Plays.{byte_is}
use Rattle.docket.proofs.masks.plays_with.Goals as goal

pub returns : goal.returns
returns c = c.mask_of.ensures (byte_is c.args.plays.bytes.now c.args.at c.args.byte) (λ k r l q. search rules)
