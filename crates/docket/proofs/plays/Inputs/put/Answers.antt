use Rattle.std.proofs.Common.{◌≡◌, ◌+◌, ◌*◌, get_or, ap, ◌∙◌, arith}
use Rattle.truth.specs.Wide.{means}
use Rattle.docket.proofs.plays.Inputs.put.Goals as goal

pub returns-clause-start : goal.returns-clause-start
returns-clause-start c = λ f d h.
    let e : 0 * 512 + f ≡ f = omega arith in
    ap means (c.put_levels.ensures.kept (0 * 512 + f) d (λ j l k m q. omega arith)) ∙ ap (λ i. means (get_or c.put_start.new.values i d)) e ∙ c.put_start.ensures.start f d h
