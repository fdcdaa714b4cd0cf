-- What people are shown of a position and a joint move: which atoms are true.
use Rattle.std.specs.Prelude.{ℕ, ◌+◌, ◌-◌, ◌*◌, Bool, true, false, cond, ◌&&◌, List, [], ◌∷◌, length, ◌==◌, nat_le, nat_lt}
use Rattle.truth.specs.declared.three.Three.{Three}
use Rattle.rules.specs.declared.opened.Rules.{Rules}
use Rattle.rules.specs.First.{within}
use Rattle.rules.specs.Opens.{moves_of}
use Rattle.evaluate.specs.Positions.{fluents, Joint, done, pick}

-- the moves of a joint move by role, as people number them: from 1
abbrev pub numbers : {ns : List ℕ} → Joint ns → List ℕ
numbers done = []
numbers (pick m h j) = (m + 1) ∷ numbers j

-- one move for each role, each one of its moves
abbrev pub moves_fit : (ns ms : List ℕ) → Bool
moves_fit [] [] = true
moves_fit [] (m ∷ ms) = false
moves_fit (n ∷ ns) [] = false
moves_fit (n ∷ ns) (m ∷ ms) = within 1 n m && moves_fit ns ms

-- whether move k, counted from 0 by role and then by move, is among the moves given
abbrev pub chosen : (ns ms : List ℕ) → ℕ → Bool
chosen [] ms k = false
chosen (n ∷ ns) [] k = false
chosen (n ∷ ns) (m ∷ ms) k = cond (nat_lt k n) (k + 1 == m) (chosen ns ms (k - n))

-- when a position and moves are shown: an entry for each fluent, moves that fit, and room for the values
abbrev pub shows : Rules → List Bool → List ℕ → List Three → Bool
shows R S ms vs = length S == fluents R && (nat_le (6 * 512) (length vs) && moves_fit (moves_of R) ms)
