-- Two small games, of the fluents live and old and one role with the moves fresh and late, both always legal; play never ends.
use Rattle.std.specs.Prelude.{ℕ, zero, suc, Bool, true, false, not, ◌&&◌, ◌||◌, [], ◌∷◌}
use Rattle.evaluate.specs.Positions.{Game}
use Rattle.property.specs.Trees.{Property, atom, isn't, all, none, more}
use Rattle.play.specs.declared.part.Part.TheVariants.{Base, Step}
use Rattle.play.specs.Truth.{TrueEverywhere}
use Rattle.play.specs.Parts.{Breaks, Holds}

pub record Fluents : Type 0 where
  pub live : Bool
  pub old : Bool

pub data Turn : Type 0 where
  fresh : Turn
  late : Turn

abbrev pub is_fresh : Turn → Bool
is_fresh fresh = true
is_fresh late = false

-- atom 1 is live, and any other stands for old
abbrev pub value : Fluents → ℕ → Bool
value S zero = S.old
value S (suc zero) = S.live
value S (suc (suc a)) = S.old

-- A position is live after fresh, and old after late.
abbrev pub turning : Game Fluents Turn
turning = record {
  initial = record { live = true; old = false };
  terminal = λ S. false;
  legal = λ S A. true;
  next = λ S A. record { live = is_fresh A; old = not (is_fresh A) };
  holds = value;
}

-- The same, but one that is live and not old stays live.
abbrev pub lingering : Game Fluents Turn
lingering = record {
  initial = record { live = true; old = false };
  terminal = λ S. false;
  legal = λ S A. true;
  next = λ S A. record { live = is_fresh A || (S.live && not S.old); old = not (is_fresh A) };
  holds = value;
}

abbrev pub not_both : Property
not_both = isn't (all (more (atom 1) (more (atom 2) none)))

pub record Worked : Type 0 where
  pub base_holds : Holds turning Base [] not_both
  pub step_holds : Holds turning Step [] not_both
  pub so_true : TrueEverywhere turning not_both
  pub lingering_base : Holds lingering Base [] not_both
  -- from live, not old, by late
  pub lingering_step : Breaks lingering Step [] not_both (record { start = record { live = true; old = false }; joints = late ∷ [] })
  pub lingering_untrue : ¬ TrueEverywhere lingering not_both
