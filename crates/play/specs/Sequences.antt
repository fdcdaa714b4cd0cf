-- Play: sequences of legal joint moves, the positions that they reach, and where play ends or is stuck.
use Rattle.std.specs.Prelude.{◌≡◌, ℕ, ◌+◌, ◌<◌, Bool, true, false, ◌⊎◌, List, [], ◌∷◌}
use Rattle.evaluate.specs.Positions.{Game}

-- The end of play: here alone it is said which positions end it.
abbrev pub ended : {Pos Joint : Type 0} → Game Pos Joint → Pos → Bool
ended G S = G.terminal S

-- A sequence from a position: the position, and any number of moves on from it, or none. It leaves only positions where play has
-- not ended, by joint moves that are legal for every role.
pub data Sequence {Pos Joint : Type 0} (G : Game Pos Joint) : Pos → Type 0 where
  stop : {S : Pos} → Sequence G S
  move : {S : Pos} (A : Joint) → ended G S ≡ false → G.legal S A ≡ true → Sequence G (G.next S A) → Sequence G S

module _ {Pos Joint : Type 0} (G : Game Pos Joint) where
  abbrev pub moves : {S : Pos} → Sequence G S → ℕ
  moves stop = 0
  moves (move A going legal σ) = moves σ + 1

  -- the position that it reaches, its last
  abbrev pub reached : {S : Pos} → Sequence G S → Pos
  reached (stop {S = S}) = S
  reached (move A going legal σ) = reached σ

  -- its positions behind the first
  abbrev pub behind : {S : Pos} → Sequence G S → List Pos
  behind stop = []
  behind (move {S = S} A going legal σ) = G.next S A ∷ behind σ

  -- n-complete: n moves, or fewer and play has ended where it ends
  abbrev pub Complete : {S : Pos} → ℕ → Sequence G S → Type 0
  Complete n σ = (moves σ ≡ n) ⊎ ((moves σ < n) × (ended G (reached σ) ≡ true))

  -- S is reached by a sequence from the initial position
  pub record Reachable (S : Pos) : Type 0 where
    pub way : Sequence G G.initial
    pub arrives : reached way ≡ S

  -- Play has not ended, but some role has no legal move, so that no joint move leads on. Sequences may stop here.
  pub record Stuck (S : Pos) : Type 0 where
    pub going : ended G S ≡ false
    pub no_move : (A : Joint) → G.legal S A ≡ false
