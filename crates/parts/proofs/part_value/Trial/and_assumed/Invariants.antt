use Rattle.std.proofs.Common.{◌≡◌, ℕ, List}
use Rattle.truth.specs.Forms.{Answers}
use Rattle.evaluate.specs.Meanings.{meanings}
use Rattle.property.specs.Trees.{Property, degree}
use Rattle.play.specs.Parts.{may_assume}
use Rattle.parts.specs.Tables.{LevelsIn}
use Rattle.parts.proofs.Tables.{rest_value}
use Rattle.parts.proofs.part_value.Trial.and_assumed.Given as goal

abbrev pub invariant-loop-other : goal.invariant-loop-other
invariant-loop-other g l =
    let t = g.T.TruthForm in
    let o = meanings t.neg t.conj t.disj in
    let self = l.self in
    let docket = self.claim.docket.now in
    let test = λ (q : Property). may_assume l.degree (degree q) in
    (L : ℕ → List (t.World → Answers)) → LevelsIn t.means self.claim.rules.now self.grid.now.values.now L l.horizon
    → rest_value o self.claim.rules.now L test docket l.horizon (t.means l.all) l.other-index
    ≡ rest_value o self.claim.rules.now L test docket l.horizon (t.means l.initial.all) 0
