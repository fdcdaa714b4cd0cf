use Rattle.std.proofs.Common.{sym, subst}
use Rattle.property.specs.Trees.{StandsFor, property_of}
use Rattle.property.proofs.Standing.{stands}
use Rattle.property.proofs.properties.Property.records.Goals as goal

pub returns-clause-stands : goal.returns-clause-stands
returns-clause-stands c =
    let p = c.args.self.now in
    subst (λ rs. StandsFor rs (property_of rs)) (sym c.as_slice.ensures.value) (stands p.records.items p.linked p.some)
