use Rattle.std.proofs.Common.{◌≡◌, ℕ, ◌<◌, get_or}
use Rattle.truth.specs.Wide.{means}
use Rattle.truth.specs.declared.wide.Wide.{Wide}
use Rattle.evaluate.specs.Grids.{place}
use Rattle.evaluate.specs.Positions.{choices, does_at}
use Rattle.docket.specs.Inputs.{doing, BesideMoves}
use Rattle.docket.proofs.plays.Inputs.put_levels.Given as goal

abbrev pub invariant-loop-level : goal.invariant-loop-level
invariant-loop-level l =
    ((j c : ℕ) (d : Wide) → j < l.level → c < choices l.self.rules.now → means (get_or l.values (place j (does_at l.self.rules.now c)) d) ≡ doing l.self.rules.now l.self.plays.bytes.now l.self.plays.count j c)
    × ((i : ℕ) (d : Wide) → ((j : ℕ) → j < l.level → BesideMoves l.self.rules.now j i) → get_or l.values i d ≡ get_or l.initial.values i d)
