use Rattle.std.proofs.Common.{◌≡◌, ◌+◌, ◌-◌, ◌<◌, ◌≤◌, sym, ap, ◌∙◌, ap₂, arith}
use mathlib.Core.Path.{fun_ext}
use Rattle.std.specs.List.{range_with_len}
use Rattle.evaluate.specs.Meanings.{meanings}
use Rattle.evaluate.specs.Positions.{choices}
use Rattle.parts.specs.Values.{each_move}
use Rattle.parts.proofs.Cells.{counting_goes, counting_ends}
use Rattle.parts.proofs.moves.Run.every_move.Goals as goal

pub loop-choice-init : goal.loop-choice-init
loop-choice-init g c L is =
    let t = g.T.TruthForm in
    let o = meanings t.neg t.conj t.disj in
    let R = c.args.self.now.rules.now in
    let z : choices R - 0 ≡ choices R = omega arith in
    ap₂ (λ v n. each_move o R L v c.args.level (range_with_len 0 n)) (fun_ext c.yes-all.ensures) z

pub loop-choice-preserved : goal.loop-choice-preserved
loop-choice-preserved g c L is =
    let t = g.T.TruthForm in
    let o = meanings t.neg t.conj t.disj in
    let R = c.args.self.now.rules.now in
    let i = c.loop-choice.choice in
    let m : c.from-choice-end.result ≡ choices R = c.from-choice-end.ensures ∙ ap (λ y. y.moves) c.layout.ensures in
    let h : i < choices R = omega arith in
    ap (λ v. each_move o R L v c.args.level (range_with_len (i + 1) (choices R - (i + 1)))) (c.and-all.ensures ∙ ap (t.conj (t.means c.loop-choice.all)) (c.undone_or_legal.ensures L is))
    ∙ sym (ap (each_move o R L (t.means c.loop-choice.all) c.args.level) (counting_goes i (choices R) h)) ∙ c.loop-choice.invariant L is

pub returns : goal.returns
returns g c L is =
    let t = g.T.TruthForm in
    let o = meanings t.neg t.conj t.disj in
    let R = c.args.self.now.rules.now in
    let i = c.loop-choice.choice in
    let m : c.from-choice-end.result ≡ choices R = c.from-choice-end.ensures ∙ ap (λ y. y.moves) c.layout.ensures in
    let h : choices R ≤ i = omega arith in
    sym (ap (each_move o R L (t.means c.loop-choice.all) c.args.level) (counting_ends i (choices R) h)) ∙ c.loop-choice.invariant L is
