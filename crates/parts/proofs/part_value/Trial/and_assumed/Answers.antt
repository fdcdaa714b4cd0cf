use Rattle.std.proofs.Common.{rules, ◌≡◌, ◌+◌, ◌<◌, Bool, map, length, filter, sym, ap, ◌∙◌, subst, arith}
use Rattle.evaluate.specs.Meanings.{meanings}
use Rattle.property.specs.declared.properties.Property.{Property}
use Rattle.property.specs.Reads.{Fits, records_of}
use Rattle.property.specs.Trees.{Property as Tree, degree}
use Rattle.play.specs.Parts.{may_assume}
use Rattle.parts.specs.Tables.{tree_of}
use Rattle.parts.specs.Values.{each_value}
use Rattle.parts.proofs.Tables.{rest_value, rest_taken, rest_passed, rest_ends}
use Rattle.parts.proofs.part_value.Trial.and_assumed.Goals as goal
use Rattle.parts.proofs.part_value.Trial.and_assumed.Goals.{then-assumes, else-assumes}

pub property_value-requires : goal.property_value-requires
property_value-requires g c =
    let self = c.args.self.now in (
      search rules,
      (subst (λ (p : Property). Fits self.claim.rules.now (records_of p)) (sym c.other-item.is) (self.claim.all c.loop-other.other-index c.other-item.result (omega arith)), c.requires),
    )

pub loop-other-preserved : goal.loop-other-preserved
loop-other-preserved g c L levels =
    let t = g.T.TruthForm in
    let o = meanings t.neg t.conj t.disj in
    let self = c.args.self.now in
    let R = self.claim.rules.now in
    let docket = self.claim.docket.now in
    let H = c.args.horizon in
    let i = c.loop-other.other-index in
    let q = c.other-item.result in
    let v = t.means c.loop-other.all in
    let test : Tree → Bool = λ q. may_assume c.degree-degree.result (degree q) in
    let h : i < length docket = omega arith in
    let asked : test (tree_of q) ≡ c.assumes.result = ap (may_assume c.degree-degree.result) (sym c.degree.ensures.tree) ∙ sym c.assumes.ensures in
    elim c.if-assumes.branch [
      | then-assumes w ↦
          ap (λ a. rest_value o R L test docket H (t.means a) (i + 1)) w.all-is
          ∙ ap (λ u. rest_value o R L test docket H u (i + 1)) (w.and-all.ensures ∙ ap (t.conj v) (w.property_value.ensures L levels))
          ∙ rest_taken o R L test docket H i q h c.other-item.is v (asked ∙ w.if-assumes.true) ∙ c.loop-other.invariant L levels
      | else-assumes w ↦
          ap (λ a. rest_value o R L test docket H (t.means a) (i + 1)) w.all-is
          ∙ rest_passed o R L test docket H i q h c.other-item.is v (asked ∙ w.if-assumes.false) ∙ c.loop-other.invariant L levels
    ]

pub returns : goal.returns
returns g c L levels =
    let t = g.T.TruthForm in
    let o = meanings t.neg t.conj t.disj in
    let self = c.args.self.now in
    let R = self.claim.rules.now in
    rest_ends o R L (λ q. may_assume c.degree-degree.result (degree q)) self.claim.docket.now c.args.horizon c.loop-other.other-index (t.means c.loop-other.all) c.loop-other-test.false
    ∙ c.loop-other.invariant L levels
    ∙ ap (λ n. each_value o R L (t.means c.args.first) (filter (λ q. may_assume n (degree q)) (map tree_of self.claim.docket.now)) c.args.horizon) c.degree-degree.ensures.tree
