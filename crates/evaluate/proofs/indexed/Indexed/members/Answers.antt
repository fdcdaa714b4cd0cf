use Rattle.std.proofs.Common.{◌∙◌}
use Rattle.evaluate.proofs.Members.{member_below}
use Rattle.evaluate.proofs.indexed.Indexed.members.Goals as goal

pub returns-clause-within : goal.returns-clause-within
returns-clause-within c = member_below c.args.self c.args.s c.members.result.now (c.members.ensures ∙ c.args.self.sorted c.args.s c.requires)
