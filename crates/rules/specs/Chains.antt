-- Chains of records: from a first number, next leads on, and 0 ends the chain.
use Rattle.std.specs.Prelude.{ℕ, zero, suc, ◌<◌, ◌≤◌, List, [], ◌∷◌}

-- the numbers of the chain from record k on, in its order; links that lead later need at most as many steps as there are records
unfoldable pub chain : (ℕ → ℕ) → ℕ → ℕ → List ℕ
chain next zero k = []
chain next (suc n) zero = []
chain next (suc n) (suc k) = suc k ∷ chain next n (next (suc k))

-- record m is on the chain from record k on
pub data On (next : ℕ → ℕ) : ℕ → ℕ → Type 0 where
  here : {k : ℕ} → On next (suc k) (suc k)
  further : {k m : ℕ} → On next (next (suc k)) m → On next (suc k) m

-- each of n next numbers is 0, or names a later record
abbrev pub Later : (ℕ → ℕ) → ℕ → Type 0
Later next n = (k : ℕ) → 0 < k → k ≤ n → (0 < next k → k < next k) × (next k ≤ n)
