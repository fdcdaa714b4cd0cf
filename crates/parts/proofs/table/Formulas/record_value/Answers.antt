use Rattle.std.proofs.Common.{◌≡◌, ℕ, suc, ◌-◌, ◌<◌, List, get_or, sym, ap, ◌∙◌, arith}
use mathlib.Core.Path.{fun_ext}
use Rattle.evaluate.specs.Meanings.{meanings}
use Rattle.evaluate.proofs.Chains.{atoms_are}
use Rattle.property.specs.declared.records.Formula.{Formula}
use Rattle.property.specs.declared.records.Formula.TheVariants.{Atom, Not, All, Following}
use Rattle.property.specs.declared.records.Record.{Record}
use Rattle.property.specs.Paths.{formula_at}
use Rattle.property.specs.Trees.{following, reading_at}
use Rattle.property.specs.Typed.{unused}
use Rattle.property.proofs.Links.{formula_leads, some_operand}
use Rattle.property.proofs.Standing.{whole_by}
use Rattle.parts.specs.Values.{at, ended_or, value}
use Rattle.parts.proofs.table.Formulas.record_value.Goals as goal

-- the record's formula, read at the index of its number
read : (rs : List Record) (k i : ℕ) (f : Formula) → i ≡ k → (get_or rs (i - 1) unused).formula ≡ f → formula_at rs k ≡ f
read rs k i f at is = ap (λ n. (get_or rs (n - 1) unused).formula) (sym at) ∙ is

pub overflow_sub-from-in-Atom : goal.overflow_sub-from-in-Atom
overflow_sub-from-in-Atom g c =
    let self = c.args.self.now in
    let rs = self.records.now in
    let k = c.args.number in
    let above = c.requires.above in
    let within = c.requires.within in
    let a = c.in-Atom.atom in
    let e = read rs k c.from.result (Atom a) c.from.ensures c.in-Atom.is in
    let s = self.fits k a above within e in
    omega (arith, s.0, c.from-in-Atom.ensures)

pub value_at-requires : goal.value_at-requires
value_at-requires g c =
    let self = c.args.self.now in
    let rs = self.records.now in
    let k = c.args.number in
    let above = c.requires.above in
    let within = c.requires.within in
    let a = c.in-Atom.atom in
    let e = read rs k c.from.result (Atom a) c.from.ensures c.in-Atom.is in
    let s = self.fits k a above within e in
    record {
      level = omega (arith, c.requires.level);
      atom = omega (arith, s.0, s.1, c.from-in-Atom.ensures, atoms_are self.run.now.rules.now);
    }

pub returns-in-Atom : goal.returns-in-Atom
returns-in-Atom g c L is later filled =
    let t = g.T.TruthForm in
    let o = meanings t.neg t.conj t.disj in
    let self = c.args.self.now in
    let R = self.run.now.rules.now in
    let rs = self.records.now in
    let k = c.args.number in
    let above = c.requires.above in
    let within = c.requires.within in
    let a = c.in-Atom.atom in
    let e = read rs k c.from.result (Atom a) c.from.ensures c.in-Atom.is in
    c.value_at.ensures L is ∙ ap (λ n. at o R L c.args.level (n - 1)) c.from-in-Atom.ensures
    ∙ sym (ap (λ q. value o R L q c.args.level c.args.left) (whole_by rs self.linked k (Atom a) above within e))

pub returns-in-Not : goal.returns-in-Not
returns-in-Not g c L is later filled =
    let t = g.T.TruthForm in
    let o = meanings t.neg t.conj t.disj in
    let self = c.args.self.now in
    let R = self.run.now.rules.now in
    let rs = self.records.now in
    let k = c.args.number in
    let above = c.requires.above in
    let within = c.requires.within in
    let i = c.in-Not.operand in
    let e = read rs k c.from.result (Not i) c.from.ensures c.in-Not.is in
    let l = some_operand rs self.linked k (Not i) above within e tt in
    c.not.ensures ∙ ap t.neg (c.entry.ensures ∙ filled i l.0 l.1)
    ∙ sym (ap (λ q. value o R L q c.args.level c.args.left) (whole_by rs self.linked k (Not i) above within e))

pub returns-in-All : goal.returns-in-All
returns-in-All g c L is later filled =
    let t = g.T.TruthForm in
    let o = meanings t.neg t.conj t.disj in
    let self = c.args.self.now in
    let R = self.run.now.rules.now in
    let rs = self.records.now in
    let k = c.args.number in
    let above = c.requires.above in
    let within = c.requires.within in
    let i = c.in-All.first in
    let e = read rs k c.from.result (All i) c.from.ensures c.in-All.is in
    let l = formula_leads rs self.linked k (All i) above within e in
    c.all_entries.ensures L c.args.left k l.0 filled
    ∙ sym (ap (λ q. value o R L q c.args.level c.args.left) (whole_by rs self.linked k (All i) above within e))

pub returns-then-left-eq0 : goal.returns-then-left-eq0
returns-then-left-eq0 g c L is later filled =
    let t = g.T.TruthForm in
    let o = meanings t.neg t.conj t.disj in
    let self = c.args.self.now in
    let R = self.run.now.rules.now in
    let rs = self.records.now in
    let k = c.args.number in
    let above = c.requires.above in
    let within = c.requires.within in
    let i = c.in-Following.operand in
    let e = read rs k c.from.result (Following i) c.from.ensures c.in-Following.is in
    fun_ext c.yes.ensures
    ∙ sym (ap (λ q. value o R L q c.args.level c.args.left) (whole_by rs self.linked k (Following i) above within e)
    ∙ ap (value o R L (following (reading_at rs i).whole) c.args.level) c.if-left-eq0.true)

pub returns-else-left-eq0 : goal.returns-else-left-eq0
returns-else-left-eq0 g c L is later filled =
    let t = g.T.TruthForm in
    let o = meanings t.neg t.conj t.disj in
    let self = c.args.self.now in
    let R = self.run.now.rules.now in
    let rs = self.records.now in
    let k = c.args.number in
    let above = c.requires.above in
    let within = c.requires.within in
    let i = c.in-Following.operand in
    let e = read rs k c.from.result (Following i) c.from.ensures c.in-Following.is in
    let l = some_operand rs self.linked k (Following i) above within e tt in
    let some : 0 < c.args.left = omega arith in
    let s : c.args.left ≡ suc (c.args.left - 1) = omega arith in
    c.ended_or.ensures L is ∙ ap (ended_or o R L c.args.level) (c.entry-else-left-eq0.ensures ∙ later some i (omega (arith, l.0)) l.1)
    ∙ sym (ap (λ q. value o R L q c.args.level c.args.left) (whole_by rs self.linked k (Following i) above within e)
    ∙ ap (value o R L (following (reading_at rs i).whole) c.args.level) s)
