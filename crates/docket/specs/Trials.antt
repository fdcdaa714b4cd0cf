-- What a trial answers.
use Rattle.std.specs.Prelude.{◌≡◌, ℕ, ◌/◌, ◌<◌, ◌≤◌, true, false, List, length, Some, None, Ok, Err, Option, Result}
use Rattle.truth.specs.Bit.{bit}
use Rattle.rules.specs.First.{or_else}
use Rattle.rules.specs.Opens.{moves_of}
use Rattle.evaluate.specs.Positions.{Position, Joint, Game, ReadsStandardModel}
use Rattle.property.specs.Degrees.{degree_of}
use Rattle.property.specs.First.{first_fault as property_fault}
use Rattle.property.specs.Trees.{Property as Tree, property_of, degree}
use Rattle.property.specs.Typed.{records_in}
use Rattle.play.specs.declared.part.Part.{Part}
use Rattle.play.specs.Bytes.{first_fault as plays_fault}
use Rattle.play.specs.Marks.{marked}
use Rattle.play.specs.Parts.{Play, horizon_of}
use Rattle.parts.specs.Plays.{by_number}
use Rattle.docket.specs.declared.dockets.Docket.{Docket}
use Rattle.docket.specs.declared.faults.TrialFault.{TrialFault}
use Rattle.docket.specs.declared.faults.TrialFault.TheVariants.{Memory, Property, Plays}
use Rattle.docket.specs.declared.trials.Trial.{Trial}
use Rattle.docket.specs.Dockets.{trees_of}
use Rattle.docket.specs.Memories.{short_memory}
use Rattle.docket.specs.Plays.{Spells}

abbrev pub lifted : {A B : Type 0} → (A → B) → Option A → Option B
lifted f None = None
lifted f (Some x) = Some (f x)

-- The first fault in checking order, or none: of memories with so many bytes, values and case records, of the property, of the plays.
abbrev pub trial_fault : Docket → Part → (property plays : List ℕ) → (settings values cases : ℕ) → Option TrialFault
trial_fault D part property plays settings values cases =
    or_else (lifted Memory (short_memory settings values cases))
    (or_else (lifted Property (property_fault D.rules property))
    (lifted Plays (plays_fault D.rules part (horizon_of part (degree_of (records_in property))) plays)))

abbrev pub fault_in : {X F : Type 0} → Result X F → Option F
fault_in (Ok x) = None
fault_in (Err f) = Some f

-- In any game that reads the standard model, bit k is set exactly if play k breaks the part of p on this docket; the bits past the
-- plays are not set.
pub record MarksPlays (D : Docket) (part : Part) (p : Tree) (plays : List ℕ) (count marks : ℕ) : Type 0 where
  pub each :
      (G : Game Position (Joint (moves_of D.rules))) → ReadsStandardModel D.rules G
      → (k : ℕ) → k < count → (play : Play Position (Joint (moves_of D.rules))) → Spells D.rules (horizon_of part (degree p)) plays k play
      → bit marks k ≡ marked (by_number G) part (trees_of D) p play
  pub past : (k : ℕ) → count ≤ k → k < 64 → bit marks k ≡ false

-- the least of 64 bits that is set, or none
abbrev pub FirstMarked : ℕ → Option ℕ → Type 0
FirstMarked marks None = (k : ℕ) → k < 64 → bit marks k ≡ false
FirstMarked marks (Some i) = (bit marks i ≡ true) × ((k : ℕ) → k < i → bit marks k ≡ false)

pub record Tried (D : Docket) (part : Part) (property plays : List ℕ) (t : Trial) : Type 0 where
  pub marks : MarksPlays D part (property_of (records_in property)) plays (length plays / 96) t.marks
  pub first : FirstMarked t.marks t.first
