-- Positions, joint moves, and the game that the rules of a file make: terminal, legal, the following position and the still atoms
-- are read off the standard model of a position and a joint move.
use Rattle.std.specs.Prelude.{◌≡◌, ℕ, ◌+◌, ◌-◌, ◌*◌, ◌<◌, Bool, true, false, cond, ◌&&◌, List, [], ◌∷◌, length, ◌==◌, nat_le, nat_lt, slice_index_or}
use Rattle.rules.specs.declared.opened.Rules.{Rules}
use Rattle.rules.specs.Opens.{atoms_of, moves_of}
use Rattle.evaluate.specs.Program.{atom_at, is_still, is_initial, program_of}
use Rattle.evaluate.specs.Model.{StandardModel}
use Rattle.evaluate.specs.Evaluate.{Ops, bool_ops}

-- Where atoms stand, counted from 0: the fluents, a next atom for each, a does atom for each move of each role, by role and then
-- by move, a legal atom for each in that order, terminal, and the file's own atoms.
abbrev pub fluents : Rules → ℕ
fluents R = R.layout.fluents

-- how many moves the roles have together
abbrev pub choices : Rules → ℕ
choices R = R.layout.moves

abbrev pub next_at : Rules → ℕ → ℕ
next_at R f = fluents R + f

abbrev pub does_at : Rules → ℕ → ℕ
does_at R k = 2 * fluents R + k

abbrev pub legal_at : Rules → ℕ → ℕ
legal_at R k = 2 * fluents R + choices R + k

abbrev pub terminal_at : Rules → ℕ
terminal_at R = 2 * fluents R + 2 * choices R

abbrev pub still : Rules → ℕ → Bool
still R a = is_still (atom_at R a).mark

-- A position is a set of fluents: fluent f is true if entry f is.
abbrev pub Position : Type 0
Position = List Bool

abbrev pub holds_in : Position → ℕ → Bool
holds_in S f = slice_index_or S f false

-- A joint move gives each role one of its moves, counted from 0.
pub data Joint : List ℕ → Type 0 where
  done : Joint []
  pick : {n : ℕ} {ns : List ℕ} (m : ℕ) → m < n → Joint ns → Joint (n ∷ ns)

-- whether move k, counted by role and then by move, is made
abbrev pub does : {ns : List ℕ} → Joint ns → ℕ → Bool
does done k = false
does (pick {n = n} m h j) k = cond (nat_lt k n) (k == m) (does j (k - n))

-- whether each role's move is legal, where L says which moves are
abbrev pub legal_for : {ns : List ℕ} → Joint ns → (ℕ → Bool) → Bool
legal_for done L = true
legal_for (pick {n = n} m h j) L = L m && legal_for j (λ k. L (n + k))

-- What is given of a level, over any values: its fluents and does atoms. All other atoms are to be found, and start from no.
abbrev pub input : {V : Type 0} → Ops V → Rules → (fluent doing : ℕ → V) → ℕ → V
input o R fluent doing a =
    cond (nat_lt a (fluents R)) (fluent a)
    (cond (nat_le (2 * fluents R) a && nat_lt a (2 * fluents R + choices R)) (doing (a - 2 * fluents R)) o.no')

-- M is the standard model of a position and a joint move.
abbrev pub ModelOf : (R : Rules) → Position → Joint (moves_of R) → (ℕ → Bool) → Type 0
ModelOf R S A M = StandardModel (program_of R) (input bool_ops R (holds_in S) (does A)) M

pub record Game (Pos Joint : Type 0) : Type 0 where
  pub initial : Pos
  pub terminal : Pos → Bool
  -- the joint move is legal for every role
  pub legal : Pos → Joint → Bool
  pub next : Pos → Joint → Pos
  -- a still atom's value
  pub holds : Pos → ℕ → Bool

-- what a game says of a position and a joint move, read off M
pub record ReadOff (R : Rules) (G : Game Position (Joint (moves_of R))) (S : Position) (A : Joint (moves_of R)) (M : ℕ → Bool) : Type 0 where
  pub size : length (G.next S A) ≡ fluents R
  pub next_is : (f : ℕ) → f < fluents R → holds_in (G.next S A) f ≡ M (next_at R f)
  pub terminal_is : G.terminal S ≡ M (terminal_at R)
  pub legal_is : G.legal S A ≡ legal_for A (λ k. M (legal_at R k))
  pub holds_is : (a : ℕ) → a < length (atoms_of R) → still R a ≡ true → G.holds S a ≡ M a

-- A game reads the standard model if that is so of each position and joint move.
pub record ReadsStandardModel (R : Rules) (G : Game Position (Joint (moves_of R))) : Type 0 where
  pub size : length G.initial ≡ fluents R
  pub starts : (f : ℕ) → f < fluents R → holds_in G.initial f ≡ is_initial (atom_at R f).mark
  pub reads : (S : Position) (A : Joint (moves_of R)) (M : ℕ → Bool) → ModelOf R S A M → ReadOff R G S A M
