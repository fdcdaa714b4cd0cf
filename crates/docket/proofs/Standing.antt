-- What stands on a docket fits its rules.
use Rattle.std.proofs.Common.{List, [], ◌∷◌, map}
use mathlib.Core.Logic.{∥∥₁_elim}
use std.HLevel.{Π_prop}
use native.Mathlib.Bridge.{le_prop}
use Rattle.std.proofs.Props.{props}
use Rattle.std.specs.List.{AllByRecursion}
use Rattle.rules.specs.declared.opened.Rules.{Rules}
use Rattle.property.specs.declared.properties.Property.{Property}
use Rattle.property.specs.Reads.{records_of}
use Rattle.parts.specs.Plays.{StillIn}
use Rattle.parts.specs.Tables.{tree_of}
use Rattle.parts.proofs.Stills.{records_are_still}
use Rattle.docket.specs.declared.dockets.Docket.{Docket}
use Rattle.docket.specs.Dockets.{properties_of, trees_of}
use Rattle.docket.specs.Truths.{Fitting}

fitting_prop : (R : Rules) (p : Property) → IsProp (Fitting R p)
fitting_prop R p = Π_prop (λ k. Π_prop (λ a. Π_prop (λ _. Π_prop (λ _. Π_prop (λ _. hlevel (props, le_prop))))))

all_prop : {X : Type 0} (P : X → Type 0) → ((x : X) → IsProp (P x)) → (xs : List X) → IsProp (AllByRecursion P xs)
all_prop P h [] p q = λ i. tt
all_prop P h (x ∷ xs) p q = λ i. (h x p.0 q.0 i, all_prop P h xs p.1 q.1 i)

pub all_fit : (D : Docket) → AllByRecursion (Fitting D.rules) (properties_of D)
all_fit D = ∥∥₁_elim D.fitting (all_prop (Fitting D.rules) (fitting_prop D.rules) (properties_of D)) (λ x. x)

still_each : (R : Rules) (ps : List Property) → AllByRecursion (Fitting R) ps → AllByRecursion (StillIn R) (map tree_of ps)
still_each R [] h = tt
still_each R (p ∷ ps) h = (records_are_still R (records_of p) h.0, still_each R ps h.1)

pub all_still : (D : Docket) → AllByRecursion (StillIn D.rules) (trees_of D)
all_still D = still_each D.rules (properties_of D) (all_fit D)
