-- The levels of a play, over any values: what is given at each level, evaluated; the next atoms of a level are the fluents of the
-- level after it.
use Rattle.std.specs.Prelude.{ℕ, zero, suc, Bool, false, cond, List, map, length, nat_lt}
use Rattle.std.specs.List.{range_with_len}
use Rattle.rules.specs.declared.opened.Rules.{Rules}
use Rattle.rules.specs.Opens.{atoms_of, moves_of}
use Rattle.evaluate.specs.Program.{atom_at, is_initial, program_of}
use Rattle.evaluate.specs.Evaluate.{Ops, bool_ops, look, evaluated}
use Rattle.evaluate.specs.Positions.{fluents, next_at, legal_at, terminal_at, Position, holds_in, Joint, does, legal_for, input, Game}

module _ {V : Type 0} (o : Ops V) (R : Rules) where
  unfoldable pub given : (fluent doing : ℕ → V) → List V
  given fluent doing = map (input o R fluent doing) (range_with_len 0 (length (atoms_of R)))

  -- the values of a level, from its fluents' values and those of its does atoms, by role and then by move
  unfoldable pub level_of : (fluent doing : ℕ → V) → List V
  level_of fluent doing = evaluated o (program_of R) (given fluent doing)

  -- a row whose fluents are taken from the next atoms of the level before, v; the rest is as it was, r
  unfoldable pub carried : (v r : List V) → List V
  carried v r = map (λ a. cond (nat_lt a (fluents R)) (look o v (next_at R a)) (look o r a)) (range_with_len 0 (length (atoms_of R)))

  -- the values of level k of a play, from those of level 0 and those of the does atoms at the levels after it
  unfoldable pub from_first : (first : List V) (doing : ℕ → ℕ → V) → ℕ → List V
  from_first first doing zero = first
  from_first first doing (suc k) = level_of (λ f. look o (from_first first doing k) (next_at R f)) (doing (suc k))

  -- the same from the fluents' values at level 0 and those of the does atoms at each level
  abbrev pub at_level : (start : ℕ → V) (doing : ℕ → ℕ → V) → ℕ → List V
  at_level start doing k = from_first (level_of start (doing 0)) doing k

-- The game that the evaluation over yes and no makes. Still atoms are read with no move made.
module _ (R : Rules) where
  unfoldable pub model : Position → Joint (moves_of R) → List Bool
  model S A = level_of bool_ops R (holds_in S) (does A)

  unfoldable pub seen : Position → List Bool
  seen S = level_of bool_ops R (holds_in S) (λ _. false)

  abbrev pub game : Game Position (Joint (moves_of R))
  game = record {
    initial = map (λ f. is_initial (atom_at R f).mark) (range_with_len 0 (fluents R));
    terminal = λ S. look bool_ops (seen S) (terminal_at R);
    legal = λ S A. legal_for A (λ k. look bool_ops (seen S) (legal_at R k));
    next = λ S A. map (λ f. look bool_ops (model S A) (next_at R f)) (range_with_len 0 (fluents R));
    holds = λ S a. look bool_ops (seen S) a;
  }
