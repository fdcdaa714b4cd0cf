use Rattle.std.proofs.Common.{◌≤◌, List, length, sym, subst}
use Rattle.property.specs.declared.records.Record.{Record}
use Rattle.property.specs.Linked.{Linked}
use Rattle.property.specs.Reads.{Fits}
use Rattle.parts.proofs.table.Formulas.of.Goals as goal

pub invariant_of-result : goal.invariant_of-result
invariant_of-result g c =
    let p = c.args.property.now in
    let e = sym c.records.ensures.value in
    record {
      linked = subst Linked e p.linked;
      few = subst (λ (rs : List Record). length rs ≤ 64) e p.few;
      fits = subst (Fits c.args.run.now.rules.now) e c.requires;
    }
