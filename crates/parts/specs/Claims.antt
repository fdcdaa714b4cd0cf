-- What holds of the value of a part: over any values, over the meanings of a form, and over yes and no.
use Rattle.std.specs.Prelude.{◌≡◌, ℕ, ◌<◌, Bool, true, ◌↔◌, List, length}
use Rattle.std.specs.List.{AllByRecursion}
use Rattle.truth.specs.Forms.{only_no, Meaning, Allows, SettledEverywhere}
use Rattle.rules.specs.declared.opened.Rules.{Rules}
use Rattle.rules.specs.Opens.{moves_of}
use Rattle.evaluate.specs.Claims.{just}
use Rattle.evaluate.specs.Evaluate.{Ops, bool_ops}
use Rattle.evaluate.specs.Levels.{at_level}
use Rattle.evaluate.specs.Positions.{fluents, choices, Position, holds_in, Joint, Game, ReadsStandardModel}
use Rattle.property.specs.declared.records.Record.{Record}
use Rattle.property.specs.Reads.{Fits}
use Rattle.property.specs.Trees.{Property, degree, property_of}
use Rattle.play.specs.declared.part.Part.{Part}
use Rattle.play.specs.Parts.{Play, PlayOf, Breaks, horizon_of}
use Rattle.play.specs.Marks.{marked}
use Rattle.parts.specs.Plays.{made, played, by_number, StillIn}
use Rattle.parts.specs.Values.{part_value}

-- The property of a file that was read names only still atoms.
abbrev pub RecordsAreStill : Type 0
RecordsAreStill = (R : Rules) (rs : List Record) → Fits R rs → StillIn R (property_of rs)

-- Over yes and no, the value of a part on the levels of a play is the play's mark, in any game that reads the standard model.
abbrev pub ValuesAreMarks : Type 0
ValuesAreMarks =
    (R : Rules) (G : Game Position (Joint (moves_of R))) → ReadsStandardModel R G
    → (part : Part) (docket : List Property) (p : Property) → AllByRecursion (StillIn R) docket → StillIn R p
    → (play : Play Position (Joint (moves_of R))) → length play.joints ≡ horizon_of part (degree p)
    → part_value bool_ops R (played R play) part docket p ≡ marked (by_number G) part docket p play

-- So it is yes exactly if the play breaks the part.
abbrev pub ValuesShowBreaks : Type 0
ValuesShowBreaks =
    (R : Rules) (G : Game Position (Joint (moves_of R))) → ReadsStandardModel R G
    → (part : Part) (docket : List Property) (p : Property) → AllByRecursion (StillIn R) docket → StillIn R p
    → (play : Play Position (Joint (moves_of R))) → PlayOf (by_number G) part p play
    → Breaks (by_number G) part docket p play ↔ (part_value bool_ops R (played R play) part docket p ≡ true)

-- Does atoms of the last level do not matter, over any values.
abbrev pub LastMovesDoNotMatter : {V : Type 0} → Ops V → Type 0
LastMovesDoNotMatter {V} o =
    (R : Rules) (start : ℕ → V) (doing other : ℕ → ℕ → V) (part : Part) (docket : List Property) (p : Property)
    → AllByRecursion (StillIn R) docket → StillIn R p
    → ((j c : ℕ) → j < horizon_of part (degree p) → c < choices R → doing j c ≡ other j c)
    → part_value o R (at_level o R start doing) part docket p ≡ part_value o R (at_level o R start other) part docket p

module _ {World : Type 0} (o : Ops (Meaning World)) where
  -- the values given below the horizon allow the answers s and d in world w
  abbrev pub InputsAllow : Rules → ℕ → World → (start : ℕ → Meaning World) (doing : ℕ → ℕ → Meaning World) → (s : ℕ → Bool) (d : ℕ → ℕ → Bool) → Type 0
  InputsAllow R horizon w start doing s d =
      ((f : ℕ) → f < fluents R → Allows (start f w) (s f)) × ((j c : ℕ) → j < horizon → c < choices R → Allows (doing j c w) (d j c))

  -- they have one answer in every world
  abbrev pub InputsSettled : Rules → ℕ → (start : ℕ → Meaning World) (doing : ℕ → ℕ → Meaning World) → Type 0
  InputsSettled R horizon start doing =
      ((f : ℕ) → f < fluents R → SettledEverywhere (start f)) × ((j c : ℕ) → j < horizon → c < choices R → SettledEverywhere (doing j c))

  -- they allow a play
  abbrev pub AllowPlay : (R : Rules) → ℕ → World → (start : ℕ → Meaning World) (doing : ℕ → ℕ → Meaning World) → Play Position (Joint (moves_of R)) → Type 0
  AllowPlay R horizon w start doing play = InputsAllow R horizon w start doing (holds_in play.start) (made play.joints)

  -- Where the inputs allow answers in a world, the value of the part allows there what those answers give.
  abbrev pub PartsAreSound : Type 0
  PartsAreSound =
      (R : Rules) (w : World) (start : ℕ → Meaning World) (doing : ℕ → ℕ → Meaning World) (s : ℕ → Bool) (d : ℕ → ℕ → Bool)
      → (part : Part) (docket : List Property) (p : Property) → AllByRecursion (StillIn R) docket → StillIn R p
      → InputsAllow R (horizon_of part (degree p)) w start doing s d
      → Allows (part_value o R (at_level o R start doing) part docket p w) (part_value bool_ops R (at_level bool_ops R s d) part docket p)

  -- Where the inputs are settled, so is the value of the part.
  abbrev pub PartsAreSettled : Type 0
  PartsAreSettled =
      (R : Rules) (start : ℕ → Meaning World) (doing : ℕ → ℕ → Meaning World)
      → (part : Part) (docket : List Property) (p : Property) → AllByRecursion (StillIn R) docket → StillIn R p
      → InputsSettled R (horizon_of part (degree p)) start doing
      → SettledEverywhere (part_value o R (at_level o R start doing) part docket p)

  -- The value of the part allows the mark of every play that the inputs allow.
  abbrev pub MarksAreAllowed : Type 0
  MarksAreAllowed =
      (R : Rules) (G : Game Position (Joint (moves_of R))) → ReadsStandardModel R G
      → (w : World) (start : ℕ → Meaning World) (doing : ℕ → ℕ → Meaning World)
      → (part : Part) (docket : List Property) (p : Property) → AllByRecursion (StillIn R) docket → StillIn R p
      → (play : Play Position (Joint (moves_of R))) → length play.joints ≡ horizon_of part (degree p)
      → AllowPlay R (horizon_of part (degree p)) w start doing play
      → Allows (part_value o R (at_level o R start doing) part docket p w) (marked (by_number G) part docket p play)

  -- Where they are settled it is just the mark of the play that they allow, in every world.
  abbrev pub MarksAreExact : Type 0
  MarksAreExact =
      (R : Rules) (G : Game Position (Joint (moves_of R))) → ReadsStandardModel R G
      → (w : World) (start : ℕ → Meaning World) (doing : ℕ → ℕ → Meaning World)
      → (part : Part) (docket : List Property) (p : Property) → AllByRecursion (StillIn R) docket → StillIn R p
      → (play : Play Position (Joint (moves_of R))) → length play.joints ≡ horizon_of part (degree p)
      → AllowPlay R (horizon_of part (degree p)) w start doing play → InputsSettled R (horizon_of part (degree p)) start doing
      → part_value o R (at_level o R start doing) part docket p w ≡ just (marked (by_number G) part docket p play)

  -- Where it is no in a world, no play that the inputs allow there breaks the part.
  abbrev pub ClosedMeansUnbroken : Type 0
  ClosedMeansUnbroken =
      (R : Rules) (G : Game Position (Joint (moves_of R))) → ReadsStandardModel R G
      → (w : World) (start : ℕ → Meaning World) (doing : ℕ → ℕ → Meaning World)
      → (part : Part) (docket : List Property) (p : Property) → AllByRecursion (StillIn R) docket → StillIn R p
      → part_value o R (at_level o R start doing) part docket p w ≡ only_no
      → (play : Play Position (Joint (moves_of R))) → AllowPlay R (horizon_of part (degree p)) w start doing play
      → ¬ Breaks (by_number G) part docket p play
