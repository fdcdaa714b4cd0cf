use Rattle.std.proofs.Common.{sym, ◌∙◌}
use Rattle.rules.proofs.Firsts.{verdict_ok}
use Rattle.rules.proofs.Passed.{passed_linked}
use Rattle.rules.proofs.checks.check.Goals as goal

pub invariant_of-check_conditions : goal.invariant_of-check_conditions
invariant_of-check_conditions c = record {
  linked = passed_linked _ _
      (verdict_ok _ tt _ (sym c.check_all.ensures ∙ c.in_ok-check_all.was))
      (verdict_ok _ tt _ (sym c.check_all-2.ensures ∙ c.in_ok-check_all-2.was))
      (verdict_ok _ tt _ (sym c.check_all-3.ensures ∙ c.in_ok-check_all-3.was));
}
