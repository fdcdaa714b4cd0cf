-- What is so of each property on a docket.
use Rattle.rules.specs.declared.opened.Rules.{Rules}
use Rattle.rules.specs.Opens.{moves_of}
use Rattle.evaluate.specs.Positions.{Position, Joint, Game, ReadsStandardModel}
use Rattle.property.specs.declared.properties.Property.{Property}
use Rattle.property.specs.Reads.{Fits, records_of}
use Rattle.property.specs.Trees.{Property as Tree}
use Rattle.play.specs.Truth.{TrueEverywhere}
use Rattle.parts.specs.Plays.{by_number}
use Rattle.parts.specs.Tables.{tree_of}

-- its atoms are still atoms of the rule file
abbrev pub Fitting : Rules → Property → Type 0
Fitting R p = Fits R (records_of p)

-- A property is true at every reachable position of a rule file: in every game that reads the standard model.
abbrev pub TrueIn : Rules → Tree → Type 0
TrueIn R p = (G : Game Position (Joint (moves_of R))) → ReadsStandardModel R G → TrueEverywhere (by_number G) p

abbrev pub Holding : Rules → Property → Type 0
Holding R p = TrueIn R (tree_of p)
