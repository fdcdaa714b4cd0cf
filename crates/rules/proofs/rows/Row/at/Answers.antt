use Rattle.std.proofs.Common.{arith}
use Rattle.rules.proofs.rows.Row.at.Goals as goal

pub overflow_mul-result : goal.overflow_mul-result
overflow_mul-result g c = let r = c.args.self.now in grind (arith, g.met.R.Placed.in_row r.file.layout r.number c.args.i r.above r.within c.requires)

pub overflow_mul-result-2 : goal.overflow_mul-result-2
overflow_mul-result-2 g c = let r = c.args.self.now in grind (arith, g.met.R.Placed.in_row r.file.layout r.number c.args.i r.above r.within c.requires)

pub overflow_add-result : goal.overflow_add-result
overflow_add-result g c = let r = c.args.self.now in grind (arith, g.met.R.Placed.in_row r.file.layout r.number c.args.i r.above r.within c.requires)

pub overflow_add-result-2 : goal.overflow_add-result-2
overflow_add-result-2 g c = let r = c.args.self.now in grind (arith, g.met.R.Placed.in_row r.file.layout r.number c.args.i r.above r.within c.requires)

pub returns : goal.returns
returns g c = let r = c.args.self.now in grind (arith, g.met.R.Placed.in_row r.file.layout r.number c.args.i r.above r.within c.requires)
