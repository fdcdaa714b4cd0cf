use Rattle.std.proofs.Common.{sym}
use Rattle.rules.proofs.Along.{literals_later}
use Rattle.rules.proofs.opened.Rules.literals_from.Goals as goal

pub of-requires-clause-later : goal.of-requires-clause-later
of-requires-clause-later c = rw (sym c.literals.ensures) at (literals_later c.args.self.now)
