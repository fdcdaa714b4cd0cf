use Rattle.std.proofs.Common.{◌≡◌, ◌&&◌, ltb, drop, ap, ◌∙◌, length-take, arith}
use Rattle.std.proofs.lemmas.List.{get_or_append_left}
use Rattle.truth.specs.Wide.{means}
use Rattle.docket.specs.Inputs.{starting}
use Rattle.docket.specs.Plays.{byte_is}
use Rattle.docket.proofs.Inputs.{few_fluents, mask_means, put_starts, put_goes}
use Rattle.docket.proofs.plays.Inputs.put_start.Goals as goal

pub loop-f-init : goal.loop-f-init
loop-f-init c = put_starts means (starting c.args.self.plays.bytes.now c.args.self.plays.count) (λ f. f) _

pub loop-f-preserved : goal.loop-f-preserved
loop-f-preserved c =
    let bs = c.args.self.plays.bytes.now in
    let n = c.args.self.plays.count in
    let f = c.loop-f.f in
    put_goes means (starting bs n) (λ f. f) _ f c.loop-f.value-items c.settled.result (omega (arith, c.loop-f.auto.value-items)) (λ g l q. omega arith)
    (c.settled.ensures.exact ∙ mask_means c.plays_with.result (λ k. ltb k n && byte_is bs f 1 k) c.plays_with.ensures) c.loop-f.invariant

pub returns-clause-start : goal.returns-clause-start
returns-clause-start c =
    let vs = c.args.values.now in
    let n = c.from-fluents.result in
    let F : n ≡ _ = c.from-fluents.ensures ∙ ap (λ y. y.fluents) c.layout.ensures in
    λ f d l.
    ap means (get_or_append_left c.loop-f.value-items (drop n vs) d f (omega (arith, length-take n vs, c.loop-f.auto.value-items, few_fluents c.args.self.rules.now, c.requires.room, F)))
    ∙ c.loop-f.invariant.done f d (omega (arith, length-take n vs, c.loop-f.auto.value-items, c.loop-f.auto.f-end, few_fluents c.args.self.rules.now, c.requires.room, F))
