use Rattle.std.proofs.Common.{length, sym, refl, ap, ◌∙◌, subst, arith}
use Rattle.std.proofs.lemmas.Result.{err_from_is_err_and}
use Rattle.property.specs.Degrees.{degree_of}
use Rattle.property.specs.Linked.{Linked}
use Rattle.property.proofs.Reader.{passed, word_refused, some_records, few_records, all_linked, degree_refused, property_read}
use Rattle.property.proofs.reading.read.Goals as goal

pub returns-in_err-records-clause-taken : goal.returns-in_err-records-clause-taken
returns-in_err-records-clause-taken c =
    let p = err_from_is_err_and c.from_residual-in_err-records.result c.from_residual-in_err-records.ensures.1 in
    let a = word_refused c.args.rules.now c.args.bytes.now c.try_from.result c.in_ok-try_from.field-0 c.try_from.ensures c.in_ok-try_from.was c.records.result c.records.ensures c.in_err-records.field-0.0 c.in_err-records.was in
    rw p.1 a.taken

pub whole_degree-degree-requires : goal.whole_degree-degree-requires
whole_degree-degree-requires c =
    let R = c.args.rules.now in
    let bs = c.args.bytes.now in
    let xs = c.in_ok-records.records.items in
    let w = passed R bs c.try_from.result c.in_ok-try_from.field-0 c.try_from.ensures c.in_ok-try_from.was c.records.result c.records.ensures c.in_ok-records.records c.in_ok-records.was in
    let same = ap length c.as_slice.ensures.value in
    record {
      linked = subst Linked (sym c.as_slice.ensures.value) (all_linked R bs xs w);
      some = omega (arith, same, some_records R bs xs w);
      few = omega (arith, same, few_records R bs xs w);
    }

pub returns-then-degree-gt-MOST_FOLLOWINGS-clause-taken : goal.returns-then-degree-gt-MOST_FOLLOWINGS-clause-taken
returns-then-degree-gt-MOST_FOLLOWINGS-clause-taken c =
    let R = c.args.rules.now in
    let bs = c.args.bytes.now in
    let xs = c.in_ok-records.records.items in
    let w = passed R bs c.try_from.result c.in_ok-try_from.field-0 c.try_from.ensures c.in_ok-try_from.was c.records.result c.records.ensures c.in_ok-records.records c.in_ok-records.was in
    let a = degree_refused R bs xs w (omega (arith, c.whole_degree-degree.ensures ∙ ap degree_of c.as_slice.ensures.value)) in
    a.taken

pub invariant_of-result : goal.invariant_of-result
invariant_of-result c =
    let R = c.args.rules.now in
    let bs = c.args.bytes.now in
    let xs = c.in_ok-records.records.items in
    let w = passed R bs c.try_from.result c.in_ok-try_from.field-0 c.try_from.ensures c.in_ok-try_from.was c.records.result c.records.ensures c.in_ok-records.records c.in_ok-records.was in
    record {
      some = some_records R bs xs w;
      few = few_records R bs xs w;
      linked = all_linked R bs xs w;
      measured = c.whole_degree-degree.ensures ∙ ap degree_of c.as_slice.ensures.value;
      low = omega arith;
    }

pub returns-clause-taken : goal.returns-clause-taken
returns-clause-taken c =
    let R = c.args.rules.now in
    let bs = c.args.bytes.now in
    let xs = c.in_ok-records.records.items in
    let w = passed R bs c.try_from.result c.in_ok-try_from.field-0 c.try_from.ensures c.in_ok-try_from.was c.records.result c.records.ensures c.in_ok-records.records c.in_ok-records.was in
    let a = property_read R bs xs w _ refl (omega (arith, c.whole_degree-degree.ensures ∙ ap degree_of c.as_slice.ensures.value)) in
    a.taken
