use Rattle.std.proofs.Common.{◌<◌, map, length, sym, ap, ◌∙◌, arith}
use Rattle.std.proofs.lemmas.List.{get_or-map}
use Rattle.evaluate.specs.Evaluate.{look}
use Rattle.evaluate.specs.Meanings.{meanings}
use Rattle.parts.proofs.table.entry.Goals as goal

pub returns : goal.returns
returns g c =
    let t = g.T.TruthForm in
    let o = meanings t.neg t.conj t.disj in
    let xs = c.args.table.now in
    let i = c.place_of.result in
    let h : i < length xs = omega arith in
    sym (get_or-map t.means xs i c.index-table-place_of.result o.no' h) ∙ ap (look o (map t.means xs)) c.place_of.ensures.place
