use Rattle.std.proofs.Common.{◌≡◌, suc, ◌+◌, ◌-◌, ◌≤◌, map, length, sym, ap, ◌∙◌, subst, ap₂, arith}
use mathlib.Core.Path.{fun_ext}
use Rattle.evaluate.specs.Meanings.{meanings}
use Rattle.property.specs.Trees.{following, degree, property_of}
use Rattle.play.specs.Parts.{assumed}
use Rattle.parts.specs.Tables.{tree_of, LevelsIn}
use Rattle.parts.specs.Values.{value, ended_or, legality, each_value}
use Rattle.parts.proofs.part_value.Trial.step_value.Goals as goal

pub returns : goal.returns
returns g c L levels =
    let t = g.T.TruthForm in
    let o = meanings t.neg t.conj t.disj in
    let self = c.args.self.now in
    let R = self.claim.rules.now in
    let p = tree_of self.claim.property.now in
    let d = degree p in
    let h = c.from-horizon.result in
    let e = c.of.ensures in
    let n : h + 1 ≡ d + 1 = ap (λ k. k + 1) (c.from-horizon.ensures ∙ c.degree.ensures.tree) in
    let s : d + 1 ≡ suc d = omega arith in
    let z : h + 1 - 0 ≡ d + 1 = omega arith in
    let l : h + 1 - 1 ≡ d = omega arith in
    let lower = subst (LevelsIn t.means R self.grid.now.values.now L) (sym n) levels in
    let some : 1 ≤ length c.of.result.records.now = omega (arith, self.claim.property.now.some, ap length e.records) in
    let filled = c.fill.ensures L (subst (λ r. LevelsIn t.means r.rules.now r.grid.now.values.now L (h + 1)) (sym e.run) lower) in
    let holds : t.means c.entry-holds.result ≡ value o R L p 0 (d + 1) =
    c.entry-holds.ensures ∙ filled 0 (omega arith) (omega arith) 1 (omega arith) some
    ∙ ap₂ (λ rs k. value o c.of.result.run.now.rules.now L (property_of rs) 0 k) e.records z ∙ ap (λ r. value o r.rules.now L p 0 (d + 1)) e.run in
    let later : t.means c.entry.result ≡ value o R L p 1 d =
    c.entry.ensures ∙ filled 1 (omega arith) (omega arith) 1 (omega arith) some
    ∙ ap₂ (λ rs k. value o c.of.result.run.now.rules.now L (property_of rs) 1 k) e.records l ∙ ap (λ r. value o r.rules.now L p 1 d) e.run in
    let follows : t.means c.ended_or-follows.result ≡ value o R L (following p) 0 (d + 1) =
    c.ended_or-follows.ensures L (lower 0 (omega arith)) ∙ ap (ended_or o R L 0) later ∙ sym (ap (value o R L (following p) 0) s) in
    let first = c.and-first.ensures
    ∙ ap₂ t.conj (c.and.ensures ∙ ap₂ t.conj (fun_ext c.yes.ensures) (c.legality-legal.ensures L lower ∙ ap (legality o R L) n)) holds in
    c.and-2.ensures
    ∙ ap₂ t.conj
    (c.and_assumed.ensures L lower ∙ ap₂ (λ v k. each_value o R L v (assumed p (map tree_of self.claim.docket.now)) k) first n)
    (c.not.ensures ∙ ap t.neg follows)
