use Rattle.std.proofs.Common.{◌≡◌, map, sym, ap, ◌∙◌, subst, ap₂, arith}
use mathlib.Core.Path.{fun_ext}
use Rattle.rules.specs.Opens.{literals_of}
use Rattle.evaluate.specs.Lists.{Each}
use Rattle.evaluate.specs.Evaluate.{look, body}
use Rattle.evaluate.specs.Meanings.{meanings}
use Rattle.evaluate.proofs.Walked.{Named, literals_along, parts, along_named, along_body}
use Rattle.evaluate.proofs.bodies.body.Goals as goal

pub loop-l-init : goal.loop-l-init
loop-l-init g c =
    let t = g.T.TruthForm in
    let o = meanings t.neg t.conj t.disj in
    let at = look o (map t.means c.args.values.now) in
    let R = c.args.rules.now in
    let k = c.args.first in
    let from = c.literals_from-l-items in
    let it = c.into_iter-l-iterator.result in
    let is : literals_along it.records.now it.at ≡ literals_along (literals_of R) k = rw (sym c.into_iter-l-iterator.ensures.into_iter_gives) at (ap₂ literals_along from.ensures.records from.ensures.from) in (
      subst (Each (Named R)) (sym is) (along_named R k c.requires.first),
      ap₂ (body o at) (fun_ext c.yes-all.ensures) (ap (map parts) is ∙ along_body R k),
    )

pub literal-requires : goal.literal-requires
literal-requires g c =
    let R = c.args.rules.now in
    let named = subst (Each (Named R)) c.in-Some.ensures.steps c.loop-l.invariant.0 in
    record { above = named.0.0; within = omega (arith, named.0.1, c.requires.values) }

pub loop-l-preserved : goal.loop-l-preserved
loop-l-preserved g c =
    let t = g.T.TruthForm in
    let o = meanings t.neg t.conj t.disj in
    let at = look o (map t.means c.args.values.now) in
    let R = c.args.rules.now in
    let next = c.next.new.self in
    let left = literals_along next.records.now next.at in (
      (subst (Each (Named R)) c.in-Some.ensures.steps c.loop-l.invariant.0).1,
      ap (λ v. body o at v (map parts left)) (c.and-all.ensures ∙ ap (t.conj (t.means c.loop-l.all)) c.literal.ensures)
          ∙ sym (ap (λ ls. body o at (t.means c.loop-l.all) (map parts ls)) c.in-Some.ensures.steps) ∙ c.loop-l.invariant.1,
    )

pub returns : goal.returns
returns g c =
    let t = g.T.TruthForm in
    let o = meanings t.neg t.conj t.disj in
    let at = look o (map t.means c.args.values.now) in
    sym (ap (λ ls. body o at (t.means c.loop-l.all) (map parts ls)) c.in-None.ensures.steps.0) ∙ c.loop-l.invariant.1
