use Rattle.std.proofs.Common.{◌+◌, Ok, sym, ap, ◌∙◌, arith}
use Rattle.std.proofs.lemmas.Result.{err_from_is_err_and}
use Rattle.arrayvec.specs.ArrayVec.{ArrayVec}
use Rattle.rules.specs.First.{verdict}
use Rattle.rules.proofs.Firsts.{loop_stops}
use Rattle.property.specs.declared.records.Record.{Record}
use Rattle.property.specs.Typed.{record_in, records_in}
use Rattle.property.specs.Words.{words_in, count_in}
use Rattle.property.proofs.Collected.{fault_of, collected_length, collected_more, collected_all}
use Rattle.property.proofs.text.Text.records.Goals.{else-loop-number-test, then-loop-number-test+in_ok-record+else-number-number-end}
use Rattle.property.proofs.text.Text.records.Goals as goal

pub returns-in_err-record : goal.returns-in_err-record
returns-in_err-record c =
    let p = err_from_is_err_and c.from_residual.result c.from_residual.ensures.1 in
    let bs = c.args.self.bytes.now in
    let R = c.args.rules.now in
    let k = c.loop-number.number in
    let found = loop_stops (fault_of R bs) k (count_in bs + 1) _ c.loop-number.invariant.1 (omega arith) _ (record_in (words_in bs) k) _ c.record.ensures c.in_err-record.was in
    rw (p.1, p.2) (ap (λ o. verdict o (records_in bs)) (sym found))

pub push-requires : goal.push-requires
push-requires c = (omega arith, omega (arith, collected_length c.args.rules.now c.args.self.bytes.now c.loop-number.number c.loop-number.records.items c.loop-number.invariant))

pub loop-number-preserved : goal.loop-number-preserved
loop-number-preserved c =
    collected_more c.args.rules.now c.args.self.bytes.now c.loop-number.number c.loop-number.records.items c.push.new.self.items
    c.record.result c.in_ok-record.field-0 (omega arith) (omega arith) c.loop-number.invariant c.record.ensures c.in_ok-record.was c.push.ensures.items

pub returns : goal.returns
returns c =
    let bs = c.args.self.bytes.now in
    let R = c.args.rules.now in
    let k = c.loop-number.number in
    elim c.loop-number-test.branch [
      | else-loop-number-test w ↦
          ap (λ (v : ArrayVec Record). Ok v.items) w.records-is ∙ collected_all R bs k c.loop-number.records.items (omega (arith, w.loop-number-test.false)) c.loop-number.invariant
      | then-loop-number-test+in_ok-record+else-number-number-end w ↦
          ap (λ (v : ArrayVec Record). Ok v.items) w.records-is
          ∙ collected_all R bs (k + 1) w.push.new.self.items (omega arith)
          (collected_more R bs k c.loop-number.records.items w.push.new.self.items w.record.result w.in_ok-record.field-0 (omega arith) (omega arith)
          c.loop-number.invariant w.record.ensures w.in_ok-record.was w.push.ensures.items)
    ]
