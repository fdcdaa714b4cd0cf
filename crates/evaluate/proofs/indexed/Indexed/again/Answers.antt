use Rattle.std.proofs.Common.{◌≡◌, map, sym, ap, ◌∙◌}
use Rattle.evaluate.specs.Evaluate.{look, head, put_stratum}
use Rattle.evaluate.specs.Indexing.{indexed_rules}
use Rattle.evaluate.specs.Meanings.{meanings}
use Rattle.evaluate.specs.Program.{program_of}
use Rattle.evaluate.proofs.Related.{put_again}
use Rattle.evaluate.proofs.indexed.Indexed.again.Goals as goal

pub returns : goal.returns
returns g c =
    let t = g.T.TruthForm in
    let o = meanings t.neg t.conj t.disj in
    let P = program_of (indexed_rules c.args.self) in
    let s = c.args.s in
    let X = map t.means c.args.row.now in
    let made : map t.means c.renew.new.row ≡ put_stratum o P s (head o P X) X = c.renew.ensures ∙ ap (λ y. put_stratum o P s (head o P y) X) c.requires.alike in
    record {
      values = made;
      alike =
          c.keep.ensures ∙ ap (λ l. put_stratum o P s (look o l) (map t.means c.args.last.now)) made
          ∙ ap (put_stratum o P s (look o (put_stratum o P s (head o P X) X))) c.requires.alike
          ∙ put_again o P s (head o P X) X ∙ sym made;
    }
