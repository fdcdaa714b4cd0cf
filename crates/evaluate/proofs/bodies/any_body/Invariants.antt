use Rattle.std.proofs.Common.{◌≡◌, map}
use Rattle.truth.specs.Forms.{only_no}
use Rattle.evaluate.specs.Lists.{Each}
use Rattle.evaluate.specs.Program.{bodies_from}
use Rattle.evaluate.specs.Evaluate.{look, any_of}
use Rattle.evaluate.specs.Meanings.{meanings}
use Rattle.evaluate.proofs.Walked.{Begins, rules_along, bodies}
use Rattle.evaluate.proofs.bodies.any_body.Given as goal

abbrev pub invariant-loop-r : goal.invariant-loop-r
invariant-loop-r g l =
    let t = g.T.TruthForm in
    let o = meanings t.neg t.conj t.disj in
    let at = look o (map t.means l.values) in
    let left = rules_along l.r-iterator.records.now l.r-iterator.at in
    Each (Begins l.rules) left × (any_of o at (t.means l.any) (map (bodies l.rules) left) ≡ any_of o at (λ _. only_no) (bodies_from l.rules l.first))
