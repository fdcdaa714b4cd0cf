use Rattle.std.proofs.lemmas.Result.{err_from_is_err_and}
use Rattle.rules.proofs.Takings.{taken_passed}
use Rattle.docket.proofs.opening.open.Goals as goal

pub returns-in_err-strata-clause-opens : goal.returns-in_err-strata-clause-opens
returns-in_err-strata-clause-opens c =
    let p = err_from_is_err_and c.from_residual-in_err-strata.result c.from_residual-in_err-strata.ensures.1 in
    rw (p.1, p.2) (taken_passed _ c.in_ok-rules.ensures.0, c.in_ok-rules.ensures.0)
