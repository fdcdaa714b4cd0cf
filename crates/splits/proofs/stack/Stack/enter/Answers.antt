use Rattle.std.proofs.Common.{arith}
use Rattle.std.proofs.lemmas.List.{length-set}
use Rattle.splits.proofs.Stacks.{length_stack}
use Rattle.splits.proofs.stack.Stack.enter.Goals as goal

pub invariant_of-self : goal.invariant_of-self
invariant_of-self c =
    let s = c.args.self.now in
    record { within = omega (arith, length_stack s.depth s.cases.now, length-set s.cases.now s.depth c.args.case) }
