use Rattle.std.proofs.Common.{ap, ◌∙◌, arith}
use Rattle.evaluate.specs.Meanings.{meanings}
use Rattle.evaluate.proofs.Chains.{few_atoms}
use Rattle.parts.proofs.Cells.{cell}
use Rattle.parts.proofs.moves.Run.value_at.Goals as goal

pub get-requires : goal.get-requires
get-requires g c = omega (arith, few_atoms c.args.self.now.rules.now, c.args.self.now.room, c.requires.level, c.requires.atom)

pub returns : goal.returns
returns g c L is =
    let t = g.T.TruthForm in
    let run = c.args.self.now in
    ap t.means (c.get.ensures c.get.result)
    ∙ cell (meanings t.neg t.conj t.disj) t.means run.rules.now run.grid.now.values.now L c.args.level c.args.atom c.get.result is
    c.requires.level c.requires.atom run.room
