-- A worked example: two fluents, one role with two moves, a step with horizon 1.
use Rattle.std.specs.Prelude.{◌≡◌, ℕ, Bool, not, List, [], ◌∷◌, Ok, Err, ◌==◌, slice_index}
use Rattle.splits.specs.Faults.{report_of}
use Rattle.splits.specs.Inputs.{Inputs}
use Rattle.splits.specs.Plain.{whole_count}
use Rattle.splits.specs.Walk.{walked}
use Rattle.splits.specs.declared.faults.WalkFault.TheVariants.{NotClosed, Next}
use Rattle.play.specs.declared.part.Part.TheVariants.{Step}

abbrev pub two_fluents : Inputs
two_fluents = record { fluents = 2; moves = 2 ∷ []; horizon = 1; part = Step }

-- a case is closed once the role's choice is settled
abbrev pub by_choice : List ℕ → Bool
by_choice c = not (slice_index c 2 == 0)

abbrev pub all_open : List ℕ
all_open = 0 ∷ 0 ∷ 0 ∷ []

-- splits the choice, and closes both branches; the first branch has this next
abbrev pub split_choice : ℕ → List ℕ
split_choice next = 0 ∷ 2 ∷ 0 ∷ 1 ∷ 0 ∷ 0 ∷ 0 ∷ 0 ∷ 0 ∷ 0 ∷ 0 ∷ 0 ∷ 0 ∷ 0 ∷ 0 ∷ next ∷ 0 ∷ 0 ∷ 0 ∷ 0 ∷ 0 ∷ 0 ∷ 0 ∷ 0 ∷ []

abbrev pub close_at_once : List ℕ
close_at_once = 0 ∷ 0 ∷ 0 ∷ 0 ∷ 0 ∷ 0 ∷ 0 ∷ 0 ∷ []

pub record Worked : Type 0 where
  pub taken : walked by_choice two_fluents (split_choice 3) all_open ≡ Ok tt
  pub not_closed : walked by_choice two_fluents close_at_once all_open ≡ Err (NotClosed 0)
  pub not_closed_report : report_of Step (NotClosed 0) ≡ record { number = 19; layer = 6; place = 0 }
  pub wrong_next : walked by_choice two_fluents (split_choice 0) all_open ≡ Err (Next 14)
  pub wrong_next_report : report_of Step (Next 14) ≡ record { number = 20; layer = 6; place = 14 }
  pub whole : whole_count two_fluents ≡ 15
