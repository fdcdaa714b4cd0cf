-- The bits of a number.
use Rattle.std.specs.Prelude.{◌≡◌, ℕ, ◌<◌, Bool, true, ◌||◌, ◌==◌}
use Rattle.std.specs.Int.{bit_at}

-- whether bit k of n is set
abbrev pub bit : ℕ → ℕ → Bool
bit n k = bit_at n k == 1

-- each of 64 worlds allows an answer: its bit is set in y, in n, or in both
abbrev pub Answered : ℕ → ℕ → Type 0
Answered y n = (k : ℕ) → k < 64 → (bit y k || bit n k) ≡ true
