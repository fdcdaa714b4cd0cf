use Rattle.std.proofs.Common.{◌≡◌, map}
use Rattle.truth.specs.Forms.{only_yes}
use Rattle.evaluate.specs.Lists.{Each}
use Rattle.evaluate.specs.Program.{body_from}
use Rattle.evaluate.specs.Evaluate.{look, body}
use Rattle.evaluate.specs.Meanings.{meanings}
use Rattle.evaluate.proofs.Walked.{Named, literals_along, parts}
use Rattle.evaluate.proofs.bodies.body.Given as goal

abbrev pub invariant-loop-l : goal.invariant-loop-l
invariant-loop-l g l =
    let t = g.T.TruthForm in
    let o = meanings t.neg t.conj t.disj in
    let at = look o (map t.means l.values) in
    let left = literals_along l.l-iterator.records.now l.l-iterator.at in
    Each (Named l.rules) left × (body o at (t.means l.all) (map parts left) ≡ body o at (λ _. only_yes) (body_from l.rules l.first))
