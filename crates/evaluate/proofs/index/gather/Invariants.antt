use Rattle.std.proofs.Common.{◌≡◌, eqb, vec_items}
use Rattle.evaluate.specs.Lists.{passing}
use Rattle.evaluate.specs.Program.{atom_at}
use Rattle.evaluate.proofs.index.gather.Given as goal

abbrev pub invariant-loop-atom : goal.invariant-loop-atom
invariant-loop-atom l = vec_items l.members ≡ passing l.atom (λ a. eqb (atom_at l.rules a).stratum l.s)
