use Rattle.std.proofs.Common.{◌≡◌, ◌+◌, ◌*◌, ◌<◌, ◌≤◌, ◌-◌, map, length, drop, sym, ap, ◌∙◌, subst, length-drop, arith}
use Rattle.std.proofs.lemmas.List.{length-take, length-take-le}
use Rattle.evaluate.specs.Evaluate.{evaluated}
use Rattle.evaluate.specs.Grids.{row, last_round, KeptButLast}
use Rattle.evaluate.specs.Indexing.{indexed_rules, size}
use Rattle.evaluate.specs.Meanings.{meanings}
use Rattle.evaluate.specs.Program.{program_of}
use Rattle.evaluate.proofs.Chains.{few_atoms}
use Rattle.evaluate.proofs.Givens.{level_is}
use Rattle.evaluate.proofs.Parts.{before_row, after, after_row, after_kept}
use Rattle.evaluate.proofs.indexed.Indexed.evaluate.Goals as goal

pub returns : goal.returns
returns g c =
    let t = g.T.TruthForm in
    let o = meanings t.neg t.conj t.disj in
    let I = c.args.self in
    let R = indexed_rules I in
    let xs = c.args.values.now in
    let L = c.args.level in
    let n = length c.atoms-atoms.result.now in
    let rows = c.split_at_mut-rows.result.0.now in
    let last = c.split_at_mut-rows.result.1.now in
    let ys = c.all_strata.new.row in
    let zs = c.all_strata.new.last in
    let e : n ≡ size I = ap length c.atoms-atoms.ensures in
    let small : n ≤ 512 = omega (arith, e, few_atoms R) in
    let split = c.split_at_mut-rows.ensures.value in
    let five : length rows ≡ last_round * 512 = c.split_at_mut-rows.ensures.front_len in
    let h : L < last_round = c.requires.level in
    let room : n ≤ length last = omega (arith, c.split_at_mut-rows.ensures.back_len, c.requires.room) in
    let long : length ys ≡ n = c.all_strata.auto.row ∙ omega (arith, length-take (L * 512 + n - L * 512) (drop (L * 512) rows), length-drop (L * 512) rows) in
    let long' : length zs ≡ n = c.all_strata.auto.last ∙ length-take-le n last room in
    record {
      values =
          ap (λ k. map t.means (row k (after n L xs rows last ys zs split five h small room long long') L)) (sym e)
          ∙ ap (map t.means) (after_row n L xs rows last ys zs split five h small room long long')
          ∙ c.all_strata.ensures
          ∙ ap (λ l. evaluated o (program_of R) (map t.means l)) (before_row n L xs rows last ys zs split five h small room long long')
          ∙ ap (λ k. evaluated o (program_of R) (map t.means (row k xs L))) e
          ∙ level_is o R (map t.means (row (size I) xs L));
      kept = subst (λ k. KeptButLast k L xs (after n L xs rows last ys zs split five h small room long long')) e (after_kept n L xs rows last ys zs split five h small room long long');
    }
