use Rattle.std.proofs.Common.{◌+◌, ◌*◌, ◌≡◌, ltb, map, get_or, sym, refl, ap, ◌∙◌, inl, inr, arith}
use Rattle.std.proofs.lemmas.Bool.{cases_lt, cond-true, cond-false, lt-ltb, le-ltb}
use Rattle.std.proofs.lemmas.List.{length-map}
use Rattle.evaluate.specs.Grids.{row, place}
use Rattle.evaluate.specs.Indexing.{indexed_rules, size}
use Rattle.evaluate.specs.Meanings.{meanings}
use Rattle.evaluate.specs.Positions.{fluents}
use Rattle.evaluate.proofs.Fitting.{enough}
use Rattle.evaluate.proofs.Givens.{carried_all}
use Rattle.evaluate.proofs.Looks.{look_same}
use Rattle.evaluate.proofs.Members.{row_within}
use Rattle.evaluate.proofs.Parts.{apart}
use Rattle.evaluate.proofs.Rows.{row_at, row_length}
use Rattle.evaluate.proofs.indexed.Indexed.carry.Goals as goal

pub returns : goal.returns
returns g c =
    let t = g.T.TruthForm in
    let o = meanings t.neg t.conj t.disj in
    let I = c.args.self in
    let R = indexed_rules I in
    let n = size I in
    let xs = c.args.values.now in
    let L = c.args.level in
    let f = c.from-fluents.result in
    let e : f ≡ fluents R = c.from-fluents.ensures ∙ ap (λ y. y.fluents) c.layout.ensures in
    let long = row_within I xs (L + 1) (omega (arith, c.requires.level)) c.requires.room in
    let zs = c.copy_within.new.self in
    let copied = c.copy_within.ensures.by_index in
    let here = row_length n xs L (omega (arith, long)) in
    let next = row_length n xs (L + 1) long in
    let made = row_length n zs (L + 1) (omega (arith, long, c.copy_within.ensures.len)) in
    record {
      values = carried_all o R (map t.means (row n xs L)) (map t.means (row n xs (L + 1))) (map t.means (row n zs (L + 1))) (length-map (row n zs (L + 1)) t.means ∙ made) (λ a h. elim (cases_lt a (fluents R)) [
        | inl l ↦ look_same o t.means (row n zs (L + 1)) (row n xs L) a (fluents R + a) (omega (arith, made)) (omega (arith, here, enough R))
            (λ d. row_at n zs (L + 1) a d (omega arith) ∙ copied.0 (place (L + 1) a) d (omega arith) (omega (arith, e)) ∙ ap (λ i. get_or xs i d) (omega (arith, e)) ∙ sym (row_at n xs L (fluents R + a) d (omega (arith, enough R))))
            ∙ sym (cond-true (ltb a (fluents R)) _ _ (lt-ltb a (fluents R) l))
        | inr l ↦ look_same o t.means (row n zs (L + 1)) (row n xs (L + 1)) a a (omega (arith, made)) (omega (arith, next))
            (λ d. row_at n zs (L + 1) a d (omega arith) ∙ copied.2 (place (L + 1) a) d (omega (arith, e)) ∙ sym (row_at n xs (L + 1) a d (omega arith)))
            ∙ sym (cond-false (ltb a (fluents R)) _ _ (le-ltb a (fluents R) l))
      ]);
      kept = λ i d out. elim (apart n (L + 1) i ((L + 1) * 512 + n) refl out) [ inl l ↦ copied.1 i d (omega arith) | inr l ↦ copied.2 i d (omega (arith, e, enough R)) ];
    }
