-- The theorems, of any game. A joint move as a premise says only that there is one: without any there are no plays to look at.
use Rattle.std.specs.Prelude.{◌≡◌, ℕ, ◌+◌, ◌<◌, ◌≤◌, true, false, ◌↔◌, List, [], take}
use Rattle.std.specs.List.{AllByRecursion}
use Rattle.evaluate.specs.Positions.{Game}
use Rattle.property.specs.Trees.{Property, isn't, following, degree}
use Rattle.play.specs.declared.part.Part.{Part}
use Rattle.play.specs.declared.part.Part.TheVariants.{Base, Step}
use Rattle.play.specs.Sequences.{ended, Sequence, behind, Complete, Stuck}
use Rattle.play.specs.Truth.{satisfied, TrueAt, TrueEverywhere}
use Rattle.play.specs.Parts.{assumed, Play, PlayOf, Breaks, Holds, Grown}
use Rattle.play.specs.Marks.{marked}

module _ {Pos Joint : Type 0} (G : Game Pos Joint) where
  -- A property whose base and step hold, beside assumed properties that are true everywhere, is true everywhere.
  abbrev pub Induction : Type 0
  Induction =
      Joint → (docket : List Property) (p : Property) → AllByRecursion (TrueEverywhere G) (assumed p docket)
      → Holds G Base docket p → Holds G Step docket p → TrueEverywhere G p

  -- A docket that grew by properties whose base and step hold has only properties that are true everywhere.
  abbrev pub DocketsAreTrue : Type 0
  DocketsAreTrue = Joint → (docket : List Property) → Grown G docket → AllByRecursion (TrueEverywhere G) docket

  -- Only the first d positions behind the first matter to a property of degree at most d.
  abbrev pub PrefixesDecide : Type 0
  PrefixesDecide =
      (p : Property) (d : ℕ) → degree p ≤ d → (S : Pos) (rest : List Pos) → satisfied G p S (take d rest) ≡ satisfied G p S rest

  -- What is true at a position is satisfied by longer complete sequences too.
  abbrev pub LongerSequencesSatisfy : Type 0
  LongerSequencesSatisfy =
      (p : Property) (S : Pos) → TrueAt G p S → (m : ℕ) → degree p ≤ m → (σ : Sequence G S) → Complete G m σ
      → satisfied G p S (behind G σ) ≡ true

  -- The base says that the property is true at the initial position.
  abbrev pub BaseSays : Type 0
  BaseSays = Joint → (docket : List Property) (p : Property) → Holds G Base docket p ↔ TrueAt G p G.initial

  -- A play that breaks the base shows that the property is not true everywhere.
  abbrev pub BrokenBaseRefutes : Type 0
  BrokenBaseRefutes = (docket : List Property) (p : Property) (play : Play Pos Joint) → Breaks G Base docket p play → ¬ TrueEverywhere G p

  -- The step says it of sequences: from any position, each (n+1)-complete one that satisfies the property and the assumed ones
  -- satisfies following-the-property.
  abbrev pub StepSays : Type 0
  StepSays =
      Joint → (docket : List Property) (p : Property) → Holds G Step docket p
      ↔ ((S : Pos) (σ : Sequence G S) → Complete G (degree p + 1) σ → satisfied G p S (behind G σ) ≡ true
      → AllByRecursion (λ q. satisfied G q S (behind G σ) ≡ true) (assumed p docket) → satisfied G (following p) S (behind G σ) ≡ true)

  -- A play of a part breaks it exactly if its mark is true.
  abbrev pub MarksAreRight : Type 0
  MarksAreRight =
      (part : Part) (docket : List Property) (p : Property) (play : Play Pos Joint) → PlayOf G part p play
      → Breaks G part docket p play ↔ (marked G part docket p play ≡ true)

  -- Where play has ended following p is true, whatever p: so not-following fails there and following-not is true. At every other
  -- position the two say the same.
  pub record NegationAt (p : Property) (S : Pos) : Type 0 where
    pub at_end : ended G S ≡ true → TrueAt G (following p) S × TrueAt G (following (isn't p)) S × (¬ TrueAt G (isn't (following p)) S)
    pub elsewhere : ended G S ≡ false → TrueAt G (isn't (following p)) S ↔ TrueAt G (following (isn't p)) S

  abbrev pub NegationsOfFollowing : Type 0
  NegationsOfFollowing = (p : Property) (S : Pos) → NegationAt p S

  -- A property of degree 0 is judged at the position itself, a stuck one too; at a stuck one all of higher degree are true.
  pub record JudgedAt (p : Property) (S : Pos) : Type 0 where
    pub here : degree p ≡ 0 → TrueAt G p S ↔ (satisfied G p S [] ≡ true)
    pub ahead : 0 < degree p → Stuck G S → TrueAt G p S

  abbrev pub StuckPositionsCount : Type 0
  StuckPositionsCount = (p : Property) (S : Pos) → JudgedAt p S
