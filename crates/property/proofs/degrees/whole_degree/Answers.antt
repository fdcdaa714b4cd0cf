use Rattle.std.proofs.Common.{◌≡◌, ℕ, ◌+◌, ◌-◌, ◌<◌, ◌≤◌, ◌∷◌, length, get_or, set, sym, refl, ap, ◌∙◌, subst, ap₂, arith}
use Rattle.rules.proofs.Downs.{FilledDown, down_read, down_step}
use Rattle.property.specs.declared.degrees.Degrees.{Degrees}
use Rattle.property.specs.declared.records.Record.{Record}
use Rattle.property.specs.Degrees.{no_degrees, degrees_by, degrees_at}
use Rattle.property.specs.Typed.{operand_of, record_at}
use Rattle.property.proofs.Backwards.{turn}
use Rattle.property.proofs.Links.{operand_at, next_at}
use Rattle.property.proofs.Measures.{degrees_step, own_within}
use Rattle.property.proofs.degrees.whole_degree.Goals as goal

pub bounds-degrees-from : goal.bounds-degrees-from
bounds-degrees-from c =
    let rs = c.args.records.now in
    let s = c.in-Some.ensures.steps in
    let t = turn rs c.loop-i.i-iterator.iter.iter.rest.now c.next.new.self.iter.iter.rest.now c.loop-i.invariant.2 c.in-Some.record.now c.in-Some.i c.loop-i.invariant.3 s.1.0 (omega (arith, s.1.1)) in
    let operand = c.from.ensures ∙ c.operand.ensures ∙ ap (λ (r : Record). operand_of r.formula) (sym t.there) in
    omega (arith, (operand_at rs c.requires.linked (c.in-Some.i + 1) c.from.result (omega arith) t.inside operand).1)

pub bounds-degrees-from-in-loop-i : goal.bounds-degrees-from-in-loop-i
bounds-degrees-from-in-loop-i c =
    let rs = c.args.records.now in
    let s = c.in-Some.ensures.steps in
    let t = turn rs c.loop-i.i-iterator.iter.iter.rest.now c.next.new.self.iter.iter.rest.now c.loop-i.invariant.2 c.in-Some.record.now c.in-Some.i c.loop-i.invariant.3 s.1.0 (omega (arith, s.1.1)) in
    let next = c.from-in-loop-i.ensures ∙ ap (λ (r : Record). r.next) (sym t.there) in
    omega (arith, (next_at rs c.requires.linked (c.in-Some.i + 1) c.from-in-loop-i.result (omega arith) t.inside next).1)

pub degrees-requires : goal.degrees-requires
degrees-requires c =
    let rs = c.args.records.now in
    let ds = c.loop-i.degrees in
    let s = c.in-Some.ensures.steps in
    let t = turn rs c.loop-i.i-iterator.iter.iter.rest.now c.next.new.self.iter.iter.rest.now c.loop-i.invariant.2 c.in-Some.record.now c.in-Some.i c.loop-i.invariant.3 s.1.0 (omega (arith, s.1.1)) in
    let filled = subst (λ m. FilledDown no_degrees (degrees_at rs) (length rs) 65 m ds) t.number c.loop-i.invariant.1 in
    let at = c.from.result in
    let operand = c.from.ensures ∙ c.operand.ensures ∙ ap (λ (r : Record). operand_of r.formula) (sym t.there) in
    let l = operand_at rs c.requires.linked (c.in-Some.i + 1) at (omega arith) t.inside operand in
    let e : get_or ds at no_degrees ≡ degrees_at rs at = down_read no_degrees (degrees_at rs) (length rs) 65 ds (c.in-Some.i + 1) filled refl at l.0 l.1 in
    let is : (get_or ds at no_degrees).own ≡ (degrees_at rs at).own = ap (λ (d : Degrees). d.own) e in
    omega (arith, own_within rs c.requires.linked at l.1)

pub loop-i-preserved : goal.loop-i-preserved
loop-i-preserved c =
    let rs = c.args.records.now in
    let ds = c.loop-i.degrees in
    let s = c.in-Some.ensures.steps in
    let before = c.next.new.self.iter.iter.rest.now in
    let done = c.loop-i.invariant.2 in
    let r = c.in-Some.record.now in
    let k = c.in-Some.i + 1 in
    let place : c.in-Some.i ≡ length before = omega (arith, s.1.1) in
    let t = turn rs c.loop-i.i-iterator.iter.iter.rest.now before done r c.in-Some.i c.loop-i.invariant.3 s.1.0 place in
    let filled = subst (λ m. FilledDown no_degrees (degrees_at rs) (length rs) 65 m ds) t.number c.loop-i.invariant.1 in
    let above : 0 < k = omega arith in
    let operand = c.from.ensures ∙ c.operand.ensures ∙ ap (λ (r : Record). operand_of r.formula) (sym t.there) in
    let next = c.from-in-loop-i.ensures ∙ ap (λ (r : Record). r.next) (sym t.there) in
    let l = operand_at rs c.requires.linked k c.from.result above t.inside operand in
    let m = next_at rs c.requires.linked k c.from-in-loop-i.result above t.inside next in
    let read : (j : ℕ) → (0 < j → k < j) → j ≤ length rs → get_or ds j no_degrees ≡ degrees_at rs j =
    down_read no_degrees (degrees_at rs) (length rs) 65 ds k filled refl in
    let now = down_step no_degrees (degrees_at rs) (length rs) 65 ds k k c.degrees.result filled above t.inside (omega arith) (omega arith)
    (c.degrees.ensures
    ∙ ap (λ x. degrees_by x (get_or ds c.from.result no_degrees) (get_or ds c.from-in-loop-i.result no_degrees)) (sym t.there)
    ∙ ap₂ (degrees_by (record_at rs k))
    (read c.from.result l.0 l.1 ∙ ap (degrees_at rs) operand)
    (read c.from-in-loop-i.result m.0 m.1 ∙ ap (degrees_at rs) next)
    ∙ sym (degrees_step rs c.requires.linked k above t.inside)) in
    let left : k - 1 ≡ length before = omega arith in
    (omega (arith, s.0), subst (λ j. FilledDown no_degrees (degrees_at rs) (length rs) 65 j (set ds k c.degrees.result)) left now, r ∷ done, t.all)
