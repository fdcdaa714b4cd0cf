-- Whether a play breaks a part, as a truth value.
use Rattle.std.specs.Prelude.{Bool, true, not, ◌&&◌, List, [], ◌∷◌}
use Rattle.evaluate.specs.Positions.{Game}
use Rattle.property.specs.Trees.{Property, following}
use Rattle.play.specs.declared.part.Part.{Part}
use Rattle.play.specs.declared.part.Part.TheVariants.{Base, Step}
use Rattle.play.specs.Truth.{satisfied}
use Rattle.play.specs.Parts.{assumed, Play, run, run_legal}

module _ {Pos Joint : Type 0} (G : Game Pos Joint) where
  abbrev pub each_satisfied : List Property → Pos → List Pos → Bool
  each_satisfied [] S rest = true
  each_satisfied (q ∷ qs) S rest = satisfied G q S rest && each_satisfied qs S rest

  abbrev pub shown : Part → List Property → Property → Pos → List Pos → Bool
  shown Base qs p S rest = not (satisfied G p S rest)
  shown Step qs p S rest = satisfied G p S rest && (each_satisfied qs S rest && not (satisfied G (following p) S rest))

  -- the mark of a play
  abbrev pub marked : Part → List Property → Property → Play Pos Joint → Bool
  marked part docket p play =
      run_legal G play.start play.joints && shown part (assumed p docket) p play.start (run G play.start play.joints)
