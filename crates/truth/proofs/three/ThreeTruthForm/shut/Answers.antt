use Rattle.std.proofs.lemmas.Bool.{false≢true}
use Rattle.truth.specs.Three.{here}
use Rattle.truth.proofs.Threes.{not_no, only_no_here}
use Rattle.truth.proofs.three.ThreeTruthForm.shut.Goals as goal

pub returns-in_default : goal.returns-in_default
returns-in_default c =
    let v = c.args.self in
    record {
      sound = λ e. absurd (false≢true e);
      complete = λ all. absurd (c.in_default.not-No (only_no_here v (all here)));
      exact = not_no v c.in_default.not-No;
    }
