-- Base and step of a property: plays, their runs, and which plays break a part.
use Rattle.std.specs.Prelude.{◌≡◌, ℕ, ◌+◌, Bool, true, false, cond, ◌&&◌, List, [], ◌∷◌, ◌++◌, length, filter, nat_le}
use Rattle.std.specs.List.{AllByRecursion}
use Rattle.evaluate.specs.Positions.{Game}
use Rattle.property.specs.Trees.{Property, following, degree}
use Rattle.play.specs.declared.part.Part.{Part}
use Rattle.play.specs.declared.part.Part.TheVariants.{Base, Step}
use Rattle.play.specs.Sequences.{ended}
use Rattle.play.specs.Truth.{satisfied}

-- how many moves a part of a property of degree n looks ahead
abbrev pub horizon_of : Part → ℕ → ℕ
horizon_of Base n = n
horizon_of Step n = n + 1

-- A property of degree d may be assumed in the step of one of degree n only if d is at most n + 1.
abbrev pub may_assume : ℕ → ℕ → Bool
may_assume n d = nat_le d (n + 1)

-- the properties of a docket that the step of p assumes, and no other
abbrev pub assumed : Property → List Property → List Property
assumed p docket = filter (λ q. may_assume (degree p) (degree q)) docket

-- A play: a starting position, and a joint move, legal or not, for each level from 0.
pub record Play (Pos Joint : Type 0) : Type 0 where
  pub start : Pos
  pub joints : List Joint

module _ {Pos Joint : Type 0} (G : Game Pos Joint) where
  -- The run of a play ends at the first position where play has ended, or at the last level. Its positions behind the first:
  abbrev pub run : Pos → List Joint → List Pos
  run S [] = []
  run S (A ∷ μ) = cond (ended G S) [] (G.next S A ∷ run (G.next S A) μ)

  -- the moves of the run are legal; what the play holds for later levels is free
  abbrev pub run_legal : Pos → List Joint → Bool
  run_legal S [] = true
  run_legal S (A ∷ μ) = cond (ended G S) true (G.legal S A && run_legal (G.next S A) μ)

  abbrev pub Starting : Part → Pos → Type 0
  Starting Base S = S ≡ G.initial
  Starting Step S = Unit {0}

  -- the plays of a part of p
  pub record PlayOf (part : Part) (p : Property) (play : Play Pos Joint) : Type 0 where
    pub starts : Starting part play.start
    pub levels : length play.joints ≡ horizon_of part (degree p)

  -- What a run shows against a part. Base: it fails p. Step: it satisfies p and each of the properties qs, and fails following p.
  abbrev pub Against : Part → List Property → Property → Pos → List Pos → Type 0
  Against Base qs p S rest = satisfied G p S rest ≡ false
  Against Step qs p S rest =
      (satisfied G p S rest ≡ true) × AllByRecursion (λ q. satisfied G q S rest ≡ true) qs × (satisfied G (following p) S rest ≡ false)

  -- with just the properties qs assumed
  pub record BreaksBeside (part : Part) (qs : List Property) (p : Property) (play : Play Pos Joint) : Type 0 where
    pub is_play : PlayOf part p play
    pub legally : run_legal play.start play.joints ≡ true
    pub against : Against part qs p play.start (run play.start play.joints)

  abbrev pub HoldsBeside : Part → List Property → Property → Type 0
  HoldsBeside part qs p = (play : Play Pos Joint) → ¬ BreaksBeside part qs p play

  abbrev pub Breaks : Part → List Property → Property → Play Pos Joint → Type 0
  Breaks part docket p play = BreaksBeside part (assumed p docket) p play

  -- no play breaks the part
  abbrev pub Holds : Part → List Property → Property → Type 0
  Holds part docket p = HoldsBeside part (assumed p docket) p

  -- A docket that grew from empty, a property at a time, each with base and step that hold beside those before it.
  pub data Grown : List Property → Type 0 where
    empty : Grown []
    added : {docket : List Property} (p : Property) → Grown docket → Holds Base docket p → Holds Step docket p → Grown (docket ++ (p ∷ []))
