-- What every opened value's invariant gives.
use Rattle.std.proofs.Common.{◌≡◌, false, is_some, Some, None, Option, refl}
use Rattle.rules.specs.declared.opened.Rules.{Rules}
use Rattle.rules.specs.First.{records_fault}
use Rattle.rules.specs.Linked.{Linked}
use Rattle.rules.specs.Opens.{tables_of}
use Rattle.rules.specs.Taken.{RecordsFit}
use Rattle.rules.proofs.Passed.{records_pass, words_linked}

nothing : {X : Type 0} (o : Option X) → is_some o ≡ false → o ≡ None
nothing None e = refl
nothing (Some x) e = cc

pub rules_fit : (R : Rules) → RecordsFit R.layout (tables_of R)
rules_fit R = records_pass R.layout (tables_of R) (nothing (records_fault R.layout (tables_of R)) R.faultless)

pub rules_linked : (R : Rules) → Linked R.layout (tables_of R)
rules_linked R = let f = rules_fit R in words_linked R.layout (tables_of R) f.atoms f.rules f.literals
