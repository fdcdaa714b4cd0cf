use Rattle.std.proofs.Common.{◌≡◌, suc, ◌+◌, ◌-◌, ◌<◌, sym, ap, ◌∙◌, ap₂, arith}
use mathlib.Core.Path.{fun_ext}
use Rattle.evaluate.specs.Meanings.{meanings}
use Rattle.parts.specs.Values.{ended, legality_from}
use Rattle.parts.proofs.moves.Run.legality.Goals as goal

pub loop-level-init : goal.loop-level-init
loop-level-init g c L is =
    let t = g.T.TruthForm in
    let o = meanings t.neg t.conj t.disj in
    let R = c.args.self.now.rules.now in
    let H = c.args.horizon in
    let z : H - 0 ≡ H = omega arith in
    ap₂ (λ v u. legality_from o R L v u 0 (H - 0)) (fun_ext c.yes-all.ensures) (fun_ext c.no-over.ensures) ∙ ap (legality_from o R L o.yes' o.no' 0) z

pub loop-level-preserved : goal.loop-level-preserved
loop-level-preserved g c L is =
    let t = g.T.TruthForm in
    let o = meanings t.neg t.conj t.disj in
    let R = c.args.self.now.rules.now in
    let H = c.args.horizon in
    let k = c.loop-level.level in
    let v = t.means c.loop-level.all in
    let u = t.means c.loop-level.over in
    let h : k < H = omega arith in
    let here = is k (omega arith) in
    let s : H - k ≡ suc (H - (k + 1)) = omega arith in
    let e : t.means c.or-over.result ≡ o.or' u (ended o R L k) = c.or-over.ensures ∙ ap (t.disj u) (c.ended.ensures L here) in
    let f = c.and-all.ensures ∙ ap (t.conj v) (c.or.ensures ∙ ap₂ t.disj e (c.every_move.ensures L here)) in
    ap₂ (λ a b. legality_from o R L a b (k + 1) (H - (k + 1))) f e
    ∙ sym (ap (legality_from o R L v u k) s) ∙ c.loop-level.invariant L is

pub returns : goal.returns
returns g c L is =
    let t = g.T.TruthForm in
    let o = meanings t.neg t.conj t.disj in
    let R = c.args.self.now.rules.now in
    let H = c.args.horizon in
    let k = c.loop-level.level in
    let z : H - k ≡ 0 = omega arith in
    sym (ap (legality_from o R L (t.means c.loop-level.all) (t.means c.loop-level.over) k) z) ∙ c.loop-level.invariant L is
