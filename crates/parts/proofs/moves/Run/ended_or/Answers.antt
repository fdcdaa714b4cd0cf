use Rattle.std.proofs.Common.{ap, ◌∙◌, ap₂}
use mathlib.Core.Path.{fun_ext}
use Rattle.parts.proofs.moves.Run.ended_or.Goals as goal

pub returns : goal.returns
returns g c L is =
    let t = g.T.TruthForm in
    c.or-2.ensures ∙ ap (λ v. t.disj v (t.means c.args.later)) (c.or.ensures ∙ ap₂ t.disj (fun_ext c.no.ensures) (c.ended.ensures L is))
