-- Why no property of degree above n + 1 may be assumed: two games whose only fluent is true at first and false after the one joint
-- move there is. Play never ends.
use Rattle.std.specs.Prelude.{◌≡◌, ◌+◌, Bool, true, false, List, [], ◌∷◌, length, ◌≢◌}
use Rattle.evaluate.specs.Positions.{Game}
use Rattle.property.specs.Trees.{Property, atom, isn't, all, following, none, degree}
use Rattle.play.specs.declared.part.Part.TheVariants.{Base, Step}
use Rattle.play.specs.Sequences.{Reachable, Stuck}
use Rattle.play.specs.Truth.{TrueEverywhere}
use Rattle.play.specs.Parts.{run_legal, Breaks, HoldsBeside}

pub data Only : Type 0 where
  onward : Only

-- the move is legal only while the fluent is true: after one move play is stuck
abbrev pub stranded : Game Bool Only
stranded = record { initial = true; terminal = λ S. false; legal = λ S A. S; next = λ S A. false; holds = λ S a. S }

-- the move is always legal: play is never stuck
abbrev pub restless : Game Bool Only
restless = record { initial = true; terminal = λ S. false; legal = λ S A. true; next = λ S A. false; holds = λ S a. S }

abbrev pub fluent : Property
fluent = atom 1

-- It fails on every sequence with a move. No sequence of `stranded` has two moves, so there it is true at every position.
abbrev pub vacuous : Property
vacuous = following (isn't (following (all none)))

-- It is satisfied by every sequence of two moves, and fails on those of one.
abbrev pub cut_short : Property
cut_short = following (isn't (following (isn't (all none))))

-- Were q assumed, which is true everywhere and of degree n + 2, base and step of p would hold, and p is not true everywhere.
-- The step as it is defined does not assume q, and a play breaks it.
pub record Unsound (G : Game Bool Only) (q p : Property) : Type 0 where
  pub too_deep : degree q ≡ degree p + 2
  pub assumption : TrueEverywhere G q
  pub base_holds : HoldsBeside G Base (q ∷ []) p
  pub step_holds : HoldsBeside G Step (q ∷ []) p
  pub untrue : ¬ TrueEverywhere G p
  pub caught : Breaks G Step (q ∷ []) p (record { start = true; joints = onward ∷ [] })

-- Longer plays would not help where play gets stuck: of as many levels as `vacuous` looks ahead there is none with legal moves.
pub record UnsoundWhenStuck : Type 0 where
  pub unsound : Unsound stranded vacuous fluent
  pub reaches : Reachable stranded false
  pub stuck : Stuck stranded false
  pub no_longer : (S : Bool) (μ : List Only) → length μ ≡ degree vacuous → run_legal stranded S μ ≢ true

-- And a run of n + 1 moves may fail a deeper property only because it is cut short.
abbrev pub UnsoundWhenCut : Type 0
UnsoundWhenCut = Unsound restless cut_short fluent
