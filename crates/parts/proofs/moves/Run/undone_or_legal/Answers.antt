use Rattle.std.proofs.Common.{◌≡◌, ◌+◌, ◌*◌, ap, ◌∙◌, ap₂}
use mathlib.Core.Path.{fun_ext}
use Rattle.evaluate.specs.Evaluate.{look}
use Rattle.evaluate.specs.Meanings.{meanings}
use Rattle.evaluate.specs.Positions.{choices, fluents}
use Rattle.parts.proofs.moves.Run.undone_or_legal.Goals as goal

pub returns : goal.returns
returns g c L is =
    let t = g.T.TruthForm in
    let o = meanings t.neg t.conj t.disj in
    let R = c.args.self.now.rules.now in
    let k = c.args.choice in
    let f : c.from.result ≡ fluents R = c.from.ensures ∙ ap (λ y. y.fluents) c.layout-layout.ensures in
    let f₂ : c.from-2.result ≡ fluents R = c.from-2.ensures ∙ ap (λ y. y.fluents) c.layout-layout.ensures in
    let m : c.from-3.result ≡ choices R = c.from-3.ensures ∙ ap (λ y. y.moves) c.layout-layout.ensures in
    c.or-2.ensures
    ∙ ap₂ t.disj
    (c.or.ensures ∙ ap₂ t.disj (fun_ext c.no.ensures)
    (c.not-undone.ensures ∙ ap t.neg (c.value_at.ensures L is ∙ ap (λ n. look o (L c.args.level) (2 * n + k)) f)))
    (c.value_at-2.ensures L is ∙ ap₂ (λ n m. look o (L c.args.level) (2 * n + m + k)) f₂ m)
