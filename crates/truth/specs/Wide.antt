-- The wide form: 64 worlds, numbered from 0.
use Rattle.std.specs.Prelude.{ℕ, ◌<◌, Bool, true, false, cond}
use Rattle.std.proofs.Common.{lit<}
use Rattle.truth.specs.Forms.{Answers, only_yes, only_no, both, Meaning}
use Rattle.truth.specs.Bit.{bit}
use Rattle.truth.specs.declared.wide.Wide.{Wide}

pub record Place : Type 0 where
  pub at : ℕ
  pub below : at < 64

abbrev pub first : Place
first = record { at = 0; below = lit< tt }

-- by whether yes is allowed and whether no is; the last case is not met, since a world allows an answer
abbrev pub allowing : Bool → Bool → Answers
allowing true false = only_yes
allowing false true = only_no
allowing true true = both
allowing false false = both

-- world k has bit k of each number
abbrev pub means : Wide → Meaning Place
means v w = allowing (bit v.yes w.at) (bit v.no w.at)

-- only yes in the worlds of the mask, only no in the others
abbrev pub by_mask : ℕ → Meaning Place
by_mask mask w = cond (bit mask w.at) only_yes only_no

abbrev pub yes_allowed : Answers → Bool
yes_allowed only_yes = true
yes_allowed only_no = false
yes_allowed both = true
