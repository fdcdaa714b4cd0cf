use Rattle.std.proofs.Common.{sym}
use Rattle.rules.proofs.Along.{rules_later}
use Rattle.rules.proofs.opened.Rules.rules_from.Goals as goal

pub of-requires-clause-later : goal.of-requires-clause-later
of-requires-clause-later c = rw (sym c.rules.ensures) at (rules_later c.args.self.now)
