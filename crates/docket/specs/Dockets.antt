-- A docket: its rule file, and the properties that stand on it.
use Rattle.std.specs.Prelude.{List, map, Ok, Err, Result}
use Rattle.rules.specs.declared.opened.Rules.{Rules}
use Rattle.rules.specs.declared.faults.Refusal.{Refusal}
use Rattle.property.specs.declared.properties.Property.{Property}
use Rattle.property.specs.Trees.{Property as Tree}
use Rattle.parts.specs.Tables.{tree_of}
use Rattle.docket.specs.declared.dockets.Docket.{Docket}

-- the rule file of a docket that was opened
abbrev pub rules_opened : Result Docket Refusal → Result Rules Refusal
rules_opened (Ok docket) = Ok docket.rules
rules_opened (Err refusal) = Err refusal

-- the properties that stand, in the order in which they were admitted; and as trees
abbrev pub properties_of : Docket → List Property
properties_of docket = docket.properties.items

abbrev pub trees_of : Docket → List Tree
trees_of docket = map tree_of (properties_of docket)
