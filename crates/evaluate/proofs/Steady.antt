-- A chain of growing sets of numbers below n, whose members all pass the test c, stands still after as many steps as numbers pass c.
use Rattle.std.proofs.Common.{◌≡◌, ℕ, zero, suc, ◌<◌, ◌≤◌, Bool, true, false, cond, ◌⊎◌, sym, refl, ◌∙◌, subst, inl, inr, not-suc-le-zero, arith}
use Rattle.std.proofs.lemmas.Bool.{both_ways, cases_eq}
use Rattle.evaluate.specs.Lists.{tally}

abbrev pub Within : (p q : ℕ → Bool) → Type 0
Within p q = (a : ℕ) → p a ≡ true → q a ≡ true

abbrev pub Same : ℕ → (p q : ℕ → Bool) → Type 0
Same n p q = (a : ℕ) → a < n → p a ≡ q a

bit_le : (b c : Bool) → (b ≡ true → c ≡ true) → ◌≤◌ (cond b 1 0) (cond c 1 0)
bit_le true true h = omega arith
bit_le true false h = absurd (both_ways false refl (h refl))
bit_le false c h = omega arith

pub tally_le : (p q : ℕ → Bool) → Within p q → (n : ℕ) → tally n p ≤ tally n q
tally_le p q w zero = omega arith
tally_le p q w (suc n) = omega (arith, tally_le p q w n, bit_le (p n) (q n) (w n))

pub tally_grows : (p q : ℕ → Bool) → Within p q → (n : ℕ) → Same n p q ⊎ (tally n p < tally n q)
tally_grows p q w zero = inl (λ a h. absurd (not-suc-le-zero h))
tally_grows p q w (suc n) = go (p n) (q n) refl refl (tally_grows p q w n)
  where
    more : p n ≡ q n → Same n p q → Same (suc n) p q
    more e s a h = elim (cases_eq a n) [ inl i ↦ subst (λ (m : ℕ). p m ≡ q m) (sym i) e | inr u ↦ s a (omega arith) ]

    alike : p n ≡ q n → Same n p q ⊎ (tally n p < tally n q) → Same (suc n) p q ⊎ (tally (suc n) p < tally (suc n) q)
    alike e (inl s) = inl (more e s)
    alike e (inr lt) = inr (rw e (omega arith))

    go : (b c : Bool) → p n ≡ b → q n ≡ c → Same n p q ⊎ (tally n p < tally n q) → Same (suc n) p q ⊎ (tally (suc n) p < tally (suc n) q)
    go true true e f d = alike (e ∙ sym f) d
    go true false e f d = absurd (both_ways (q n) f (w n e))
    go false true e f d = inr (rw (e, f) (omega (arith, tally_le p q w n)))
    go false false e f d = alike (e ∙ sym f) d

module _ (n : ℕ) (c : ℕ → Bool) (p : ℕ → ℕ → Bool) (up : (i : ℕ) → Within (p i) (p (suc i))) (cap : (i : ℕ) → Within (p i) c) (again : (i : ℕ) → Same n (p i) (p (suc i)) → Same n (p (suc i)) (p (suc (suc i)))) where
  reached : (i : ℕ) → Same n (p i) (p (suc i)) ⊎ (i ≤ tally n (p i))
  reached zero = inr (omega arith)
  reached (suc i) = elim (reached i) [ inl e ↦ inl (again i e) | inr h ↦ elim (tally_grows (p i) (p (suc i)) (up i) n) [ inl e ↦ inl (again i e) | inr lt ↦ inr (omega arith) ] ]

  pub steady : Same n (p (tally n c)) (p (suc (tally n c)))
  steady =
      elim (reached (tally n c)) [
        | inl e ↦ e
        | inr h ↦ elim (tally_grows (p (tally n c)) (p (suc (tally n c))) (up (tally n c)) n) [
          | inl e ↦ e
          | inr lt ↦ absurd (omega (arith, tally_le (p (suc (tally n c))) c (cap (suc (tally n c))) n))
        ]
      ]
