use Rattle.std.proofs.Common.{sym, ap, ◌∙◌}
use Rattle.rules.specs.First.{unless, verdict}
use Rattle.rules.proofs.Firsts.{first_more, first_found}
use Rattle.play.specs.declared.faults.Fault.TheVariants.{Byte}
use Rattle.play.proofs.bytes.Format.check.Goals as goal

pub returns-then-not-fits : goal.returns-then-not-fits
returns-then-not-fits c =
    let found = ap (λ b. unless b (Byte c.loop-j.j)) (sym c.fits.ensures ∙ c.if-not-fits.true) in
    ap (λ o. verdict o tt) (sym (first_found _ _ _ _ c.loop-j-test.true found) ∙ c.loop-j.invariant)

pub loop-j-preserved : goal.loop-j-preserved
loop-j-preserved c =
    let none = ap (λ b. unless b (Byte c.loop-j.j)) (sym c.fits.ensures ∙ c.if-not-fits.false) in
    first_more _ _ _ c.loop-j-test.true none ∙ c.loop-j.invariant
