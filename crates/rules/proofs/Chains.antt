-- Chains of records, a record at a time.
use Rattle.std.proofs.Common.{◌≡◌, ℕ, zero, suc, ◌+◌, ◌<◌, ◌≤◌, [], ◌∷◌, sym, refl, ap, ◌∙◌, arith}
use Rattle.rules.specs.Chains.{chain, Later}

pub chain_none : (next : ℕ → ℕ) (n : ℕ) → chain next n 0 ≡ []
unfolding chain
chain_none next zero = refl
chain_none next (suc n) = refl

module _ (next : ℕ → ℕ) (n : ℕ) (later : Later next n) where
  -- as many steps as there are records from k on are enough
  enough : (a b k : ℕ) → k ≤ n → (0 < k → n < a + k) → (0 < k → n < b + k) → chain next a k ≡ chain next b k
  unfolding chain
  enough a b zero h p q = chain_none next a ∙ sym (chain_none next b)
  enough zero b (suc k) h p q = absurd (omega (arith, p (omega arith)))
  enough (suc a) zero (suc k) h p q = absurd (omega (arith, q (omega arith)))
  enough (suc a) (suc b) (suc k) h p q =
      let on = later (suc k) (omega arith) h in
      ap (λ ks. suc k ∷ ks) (enough a b (next (suc k)) on.1 (λ z. omega (arith, p (omega arith), on.0 z)) (λ z. omega (arith, q (omega arith), on.0 z)))

  pub chain_step : (k : ℕ) → 0 < k → k ≤ n → chain next n k ≡ k ∷ chain next n (next k)
  unfolding chain
  chain_step zero p h = absurd (omega arith)
  chain_step (suc k) p h = enough n (suc n) (suc k) h (λ _. omega arith) (λ _. omega arith)

  pub chain_step_to : (k j : ℕ) → 0 < k → k ≤ n → j ≡ next k → chain next n k ≡ k ∷ chain next n j
  chain_step_to k j p h e = chain_step k p h ∙ ap (λ i. k ∷ chain next n i) (sym e)

-- two kinds of links that agree have the same chains
pub chain_alike : (next other : ℕ → ℕ) (n : ℕ) → Later next n → ((k : ℕ) → 0 < k → k ≤ n → next k ≡ other k) → (m k : ℕ) → k ≤ n → chain next m k ≡ chain other m k
unfolding chain
chain_alike next other n later same zero k h = refl
chain_alike next other n later same (suc m) zero h = refl
chain_alike next other n later same (suc m) (suc k) h =
    ap (λ ks. suc k ∷ ks)
    (chain_alike next other n later same m (next (suc k)) (later (suc k) (omega arith) h).1
    ∙ ap (chain other m) (same (suc k) (omega arith) h))
