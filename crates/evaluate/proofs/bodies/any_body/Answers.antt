use Rattle.std.proofs.Common.{◌≡◌, map, sym, ap, ◌∙◌, subst, ap₂}
use mathlib.Core.Path.{fun_ext}
use Rattle.rules.specs.Opens.{rules_of}
use Rattle.evaluate.specs.Lists.{Each}
use Rattle.evaluate.specs.Evaluate.{look, any_of}
use Rattle.evaluate.specs.Meanings.{meanings}
use Rattle.evaluate.proofs.Walked.{Begins, rules_along, bodies, along_begins, along_bodies}
use Rattle.evaluate.proofs.bodies.any_body.Goals as goal

pub loop-r-init : goal.loop-r-init
loop-r-init g c =
    let t = g.T.TruthForm in
    let o = meanings t.neg t.conj t.disj in
    let at = look o (map t.means c.args.values.now) in
    let R = c.args.rules.now in
    let k = c.args.first in
    let from = c.rules_from-r-items in
    let it = c.into_iter-r-iterator.result in
    let is : rules_along it.records.now it.at ≡ rules_along (rules_of R) k = rw (sym c.into_iter-r-iterator.ensures.into_iter_gives) at (ap₂ rules_along from.ensures.records from.ensures.from) in (
      subst (Each (Begins R)) (sym is) (along_begins R k c.requires.first),
      ap₂ (any_of o at) (fun_ext c.no-any.ensures) (ap (map (bodies R)) is ∙ along_bodies R k),
    )

pub body-requires : goal.body-requires
body-requires g c =
    let R = c.args.rules.now in
    record { first = (subst (Each (Begins R)) c.in-Some.ensures.steps c.loop-r.invariant.0).0; values = c.requires.values }

pub loop-r-preserved : goal.loop-r-preserved
loop-r-preserved g c =
    let t = g.T.TruthForm in
    let o = meanings t.neg t.conj t.disj in
    let at = look o (map t.means c.args.values.now) in
    let R = c.args.rules.now in
    let next = c.next.new.self in
    let left = rules_along next.records.now next.at in (
      (subst (Each (Begins R)) c.in-Some.ensures.steps c.loop-r.invariant.0).1,
      ap (λ v. any_of o at v (map (bodies R) left)) (c.or-any.ensures ∙ ap (t.disj (t.means c.loop-r.any)) c.body.ensures)
          ∙ sym (ap (λ rs. any_of o at (t.means c.loop-r.any) (map (bodies R) rs)) c.in-Some.ensures.steps) ∙ c.loop-r.invariant.1,
    )

pub returns : goal.returns
returns g c =
    let t = g.T.TruthForm in
    let o = meanings t.neg t.conj t.disj in
    let at = look o (map t.means c.args.values.now) in
    let R = c.args.rules.now in
    sym (ap (λ rs. any_of o at (t.means c.loop-r.any) (map (bodies R) rs)) c.in-None.ensures.steps.0) ∙ c.loop-r.invariant.1
