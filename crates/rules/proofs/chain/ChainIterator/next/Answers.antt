use Rattle.std.proofs.Common.{◌≡◌, [], ap, ◌∙◌, length, arith}
use Rattle.rules.specs.Chains.{chain}
use Rattle.rules.specs.Files.{held}
use Rattle.rules.proofs.Chains.{chain_none, chain_step_to}
use Rattle.rules.proofs.chain.ChainIterator.next.Goals as goal

pub returns-then-self-eq0-clause-steps : goal.returns-then-self-eq0-clause-steps
returns-then-self-eq0-clause-steps g c =
    let s = c.args.self.now in
    let next = g.R.Chained.next (held s.links.file) in
    let n = g.R.Placed.count s.links.file.layout in
    let e : chain next n s.at ≡ [] = ap (chain next n) c.if-self-eq0.true ∙ chain_none next n in
    (e, e)

pub returns-clause-steps : goal.returns-clause-steps
returns-clause-steps g c =
    let s = c.args.self.now in
    chain_step_to _ _ (g.met.R.Chained.leads_later s.links.file.layout (held s.links.file) s.links.linked) s.at c.next-self.result (omega arith) s.within
    (rw (c.row.ensures.file, c.row.ensures.number) at c.next-self.ensures)

pub returns-clause-goes : goal.returns-clause-goes
returns-clause-goes g c =
    let s = c.args.self.now in
    let e =
    chain_step_to _ _ (g.met.R.Chained.leads_later s.links.file.layout (held s.links.file) s.links.linked) s.at c.next-self.result (omega arith) s.within
    (rw (c.row.ensures.file, c.row.ensures.number) at c.next-self.ensures) in
    record { on = λ _. (tt, tt, omega (arith, ap length e)); keeps = tt; rests = λ _. tt }
