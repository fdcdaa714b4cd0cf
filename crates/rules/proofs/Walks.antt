-- The first fault along a chain, a record at a time.
use Rattle.std.proofs.Common.{◌≡◌, ℕ, zero, suc, ◌<◌, ◌≤◌, List, [], ◌∷◌, Some, None, Option, sym, refl, ap, ◌∙◌, arith}
use Rattle.rules.specs.Chains.{chain, Later}
use Rattle.rules.specs.First.{first, or_else}

-- each of the numbers is one of the n records
abbrev pub Inside : ℕ → List ℕ → Type 0
Inside n [] = Unit {0}
Inside n (k ∷ ks) = (0 < k) × (k ≤ n) × Inside n ks

chain_inside : (next : ℕ → ℕ) (n : ℕ) → Later next n → (m k : ℕ) → k ≤ n → Inside n (chain next m k)
unfolding chain
chain_inside next n later zero k h = tt
chain_inside next n later (suc m) zero h = tt
chain_inside next n later (suc m) (suc k) h = (omega arith, h, chain_inside next n later m (next (suc k)) (later (suc k) (omega arith) h).1)

-- the numbers that are left decide what the walk finds
abbrev pub Left : {X : Type 0} → ℕ → (ℕ → Option X) → Option X → List ℕ → Type 0
Left n f whole ks = Inside n ks × (first f ks ≡ whole)

module _ {X : Type 0} (f : ℕ → Option X) (n : ℕ) where
  pub walk_starts : (next : ℕ → ℕ) → Later next n → (k : ℕ) → k ≤ n → Left n f (first f (chain next n k)) (chain next n k)
  walk_starts next later k h = (chain_inside next n later n k h, refl)

  module _ (whole : Option X) (k : ℕ) (ks rest : List ℕ) (is : ks ≡ k ∷ rest) (left : Left n f whole ks) where
    here : Left n f whole (k ∷ rest)
    here = rw is at left

    pub walk_inside : (0 < k) × (k ≤ n)
    walk_inside = (here.0.0, here.0.1)

    pub walk_stops : (x : X) → f k ≡ Some x → whole ≡ Some x
    walk_stops x e = sym here.1 ∙ ap (λ o. or_else o (first f rest)) e

    pub walk_goes : f k ≡ None → Left n f whole rest
    walk_goes e = (here.0.2, sym (ap (λ o. or_else o (first f rest)) e) ∙ here.1)
