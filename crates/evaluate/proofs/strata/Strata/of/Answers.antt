use Rattle.std.proofs.Common.{◌≡◌, [], ◌∷◌, ◌++◌, map, get_or, vec_items, ap, ◌∙◌, ap₂, sym, arith}
use Rattle.std.specs.List.{range_with_len}
use Rattle.std.proofs.lemmas.List.{map-append}
use Rattle.std.proofs.lemmas.List.FromFn.{map-range_with_len_more, get_or-map-range_with_len}
use Rattle.evaluate.specs.Index.{members}
use Rattle.evaluate.proofs.strata.Strata.of.Goals as goal

pub loop-s-preserved : goal.loop-s-preserved
loop-s-preserved c =
    let m = members c.args.rules.now in
    ap (map vec_items) c.in_ok-push.ensures.items ∙ map-append vec_items _ _
    ∙ ap₂ (λ l k. l ++ k ∷ []) c.loop-s.invariant c.in_ok-gather.ensures
    ∙ sym (map-range_with_len_more m 0 c.loop-s.s c.loop-s.s (omega arith))

pub returns : goal.returns
returns c s h =
    let m = members c.args.rules.now in
    let e : c.loop-s.s ≡ 32 = omega arith in
    ap (λ l. get_or l s []) (c.loop-s.invariant ∙ ap (λ n. map m (range_with_len 0 n)) e) ∙ get_or-map-range_with_len m 0 32 s s [] (omega arith) (omega arith)
