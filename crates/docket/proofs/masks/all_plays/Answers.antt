use Rattle.std.proofs.Common.{rules, ◌∙◌, true, nat_lt}
use Rattle.std.proofs.Math.Bool.{and-true}
use Rattle.docket.proofs.masks.all_plays.Goals as goal

pub returns : goal.returns
returns c = λ k. c.mask_of.ensures (λ _. true) (λ j r l q. search rules) k ∙ and-true (nat_lt k c.args.plays.count)
