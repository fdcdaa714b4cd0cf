use Rattle.std.proofs.Common.{rules, sym, refl, ap, ◌∙◌, ap₂, arith}
use mathlib.Core.Path.{fun_ext}
use Rattle.rules.specs.Walks.{walk}
use Rattle.rules.proofs.Along.{walk_first, walk_over}
use Rattle.evaluate.specs.Meanings.{meanings}
use Rattle.property.specs.declared.records.Record.{Record}
use Rattle.property.specs.Trees.{reading_at}
use Rattle.property.specs.Typed.{record_at, unused}
use Rattle.property.proofs.Links.{chains_later, next_at}
use Rattle.property.proofs.Standing.{operands_step}
use Rattle.parts.specs.Values.{value, all_value}
use Rattle.parts.proofs.table.Formulas.all_entries.Goals as goal

pub of-number-items-requires : goal.of-number-items-requires
of-number-items-requires g c = let self = c.args.self.now in record { later = chains_later self.records.now self.linked; from = c.requires.first }

pub loop-number-init : goal.loop-number-init
loop-number-init g c =
    let t = g.T.TruthForm in
    let o = meanings t.neg t.conj t.disj in
    let R = c.args.self.now.run.now.rules.now in
    let rs = c.args.self.now.records.now in
    let along = walk (λ (r : Record). r.next) unused in
    let of = c.of-number-items.ensures in (
      c.args.first,
      rw (sym c.into_iter-number-iterator.ensures.into_iter_gives) at (ap₂ along of.records of.from),
      c.requires.first,
      λ L left i past filled.
          (past, ap (λ v. all_value o R L v (reading_at rs c.args.first).operands c.args.level left) (fun_ext c.yes-all.ensures)),
    )

pub entry-requires : goal.entry-requires
entry-requires g c =
    let self = c.args.self.now in
    let rs = self.records.now in
    let inv = c.loop-number.invariant in
    let s = walk_first (λ (r : Record). r.next) unused rs (chains_later rs self.linked) inv.0 _ _ inv.2 (sym inv.1 ∙ c.in-Some.ensures.steps) in
    (search rules, (c.requires.level, (omega (arith, s.0, s.1), omega (arith, s.1, inv.2, self.few))))

pub loop-number-preserved : goal.loop-number-preserved
loop-number-preserved g c =
    let t = g.T.TruthForm in
    let o = meanings t.neg t.conj t.disj in
    let self = c.args.self.now in
    let R = self.run.now.rules.now in
    let rs = self.records.now in
    let inv = c.loop-number.invariant in
    let k = inv.0 in
    let n = c.in-Some.number in
    let s = walk_first (λ (r : Record). r.next) unused rs (chains_later rs self.linked) k _ _ inv.2 (sym inv.1 ∙ c.in-Some.ensures.steps) in
    let next = next_at rs self.linked k (record_at rs k).next s.0 inv.2 refl in (
      (record_at rs k).next,
      s.2,
      next.1,
      λ L left i past filled.
          let old = inv.3 L left i past filled in
          let here = filled n (omega (arith, old.0 s.0, s.1)) (omega (arith, s.1, inv.2)) ∙ ap (λ j. value o R L (reading_at rs j).whole c.args.level left) s.1 in (
            (λ z. omega (arith, next.0 z, old.0 s.0)),
            ap (λ v. all_value o R L v (reading_at rs (record_at rs k).next).operands c.args.level left)
                (c.and-all.ensures ∙ ap (t.conj (t.means c.loop-number.all)) (c.entry.ensures ∙ here))
                ∙ sym (ap (λ ps. all_value o R L (t.means c.loop-number.all) ps c.args.level left) (operands_step rs self.linked k s.0 inv.2))
                ∙ old.1,
          ),
    )

pub returns : goal.returns
returns g c L left i past filled =
    let t = g.T.TruthForm in
    let o = meanings t.neg t.conj t.disj in
    let self = c.args.self.now in
    let R = self.run.now.rules.now in
    let rs = self.records.now in
    let inv = c.loop-number.invariant in
    let over = walk_over (λ (r : Record). r.next) unused rs (chains_later rs self.linked) inv.0 inv.2 (sym inv.1 ∙ c.in-None.ensures.steps.0) in
    sym (ap (λ n. all_value o R L (t.means c.loop-number.all) (reading_at rs n).operands c.args.level left) over)
    ∙ (inv.3 L left i past filled).1
