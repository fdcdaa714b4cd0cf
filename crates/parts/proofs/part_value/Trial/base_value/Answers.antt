use Rattle.std.proofs.Common.{◌≡◌, sym, ap, ◌∙◌, subst, ap₂}
use mathlib.Core.Path.{fun_ext}
use Rattle.evaluate.specs.Meanings.{meanings}
use Rattle.property.specs.Trees.{degree}
use Rattle.parts.specs.Tables.{tree_of, LevelsIn}
use Rattle.parts.specs.Values.{value, legality}
use Rattle.parts.proofs.part_value.Trial.base_value.Goals as goal

pub returns : goal.returns
returns g c L levels =
    let t = g.T.TruthForm in
    let o = meanings t.neg t.conj t.disj in
    let self = c.args.self.now in
    let R = self.claim.rules.now in
    let p = tree_of self.claim.property.now in
    let n : c.from-horizon.result ≡ degree p = c.from-horizon.ensures ∙ c.degree.ensures.tree in
    let lower = subst (LevelsIn t.means R self.grid.now.values.now L) (sym n) levels in
    c.and-2.ensures
    ∙ ap₂ t.conj
    (c.and.ensures ∙ ap₂ t.conj (fun_ext c.yes.ensures) (c.legality-legal.ensures L lower ∙ ap (legality o R L) n))
    (c.not.ensures ∙ ap t.neg (c.property_value-holds.ensures L lower ∙ ap (value o R L p 0) n))
