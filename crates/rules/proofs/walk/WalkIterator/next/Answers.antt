use Rattle.std.proofs.Common.{◌≡◌, [], ap, ◌∙◌, length, arith}
use Rattle.rules.specs.Walks.{walk}
use Rattle.rules.proofs.Along.{walk_none, walk_step_to}
use Rattle.rules.proofs.walk.WalkIterator.next.Goals as goal

pub returns-then-self-eq0-clause-steps : goal.returns-then-self-eq0-clause-steps
returns-then-self-eq0-clause-steps g c =
    let s = c.args.self.now in
    let r = g.R.Linking in
    let e : walk r.next r.none s.records.now s.at ≡ [] = ap (walk r.next r.none s.records.now) c.if-self-eq0.true ∙ walk_none r.next r.none s.records.now in
    (e, e)

pub returns-clause-steps : goal.returns-clause-steps
returns-clause-steps g c =
    let s = c.args.self.now in
    let r = g.R.Linking in
    walk_step_to r.next r.none s.records.now s.later s.at c.from.result c.next-self.result c.index-self-from.result (omega arith) s.within c.from.ensures c.next-self.ensures

pub returns-clause-goes : goal.returns-clause-goes
returns-clause-goes g c =
    let s = c.args.self.now in
    let r = g.R.Linking in
    let e = walk_step_to r.next r.none s.records.now s.later s.at c.from.result c.next-self.result c.index-self-from.result (omega arith) s.within c.from.ensures c.next-self.ensures in
    record { on = λ _. (tt, tt, omega (arith, ap length e)); keeps = tt; rests = λ _. tt }
