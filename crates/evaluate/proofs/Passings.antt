-- The numbers below a limit that pass a test.
use Rattle.std.proofs.Common.{◌≡◌, ℕ, zero, suc, ◌+◌, ◌-◌, ◌<◌, Bool, true, false, cond, List, [], ◌∷◌, ◌++◌, length, get_or, sym, refl, ap, ◌∙◌, inl, inr, add-one, arith}
use Rattle.std.proofs.lemmas.List.{append-nil, append_assoc, length-append, get_or_append_left, get_or-append_right}
use Rattle.std.proofs.lemmas.Bool.{cond-true, cond-false, cases_lt}
use Rattle.evaluate.specs.Lists.{tally, passing}

pub passing_none : (p : ℕ → Bool) → passing 0 p ≡ []
unfolding passing
passing_none p = refl

pub passing_suc : (p : ℕ → Bool) (n : ℕ) → passing (n + 1) p ≡ passing n p ++ cond (p n) (n ∷ []) []
unfolding passing
passing_suc p n = rw add-one refl

module _ (p : ℕ → Bool) (n : ℕ) (before now : List ℕ) (e : now ≡ before ++ passing n p) where
  -- a loop that pushes those that pass
  pub passing_more : (after : List ℕ) → p n ≡ true → after ≡ now ++ n ∷ [] → after ≡ before ++ passing (n + 1) p
  passing_more after t f =
      f ∙ ap (λ l. l ++ n ∷ []) e ∙ append_assoc before (passing n p) (n ∷ [])
      ∙ ap (λ l. before ++ l) (sym (passing_suc p n ∙ ap (λ l. passing n p ++ l) (cond-true (p n) (n ∷ []) [] t)))

  pub passing_same : p n ≡ false → now ≡ before ++ passing (n + 1) p
  passing_same t =
      e ∙ ap (λ l. before ++ l) (sym (passing_suc p n ∙ ap (λ l. passing n p ++ l) (cond-false (p n) (n ∷ []) [] t) ∙ append-nil (passing n p)))

bit_length : (b : Bool) (n : ℕ) → length (cond b (n ∷ []) []) ≡ cond b 1 0
bit_length true n = refl
bit_length false n = refl

-- there are as many as the tally
pub passing_length : (p : ℕ → Bool) (n : ℕ) → length (passing n p) ≡ tally n p
unfolding passing
passing_length p zero = refl
passing_length p (suc n) = omega (arith, length-append (passing n p) (cond (p n) (n ∷ []) []), bit_length (p n) n, passing_length p n)

-- each is below the limit
bit_below : (b : Bool) (n i : ℕ) → i < length (cond b (n ∷ []) []) → get_or (cond b (n ∷ []) []) i 0 ≡ n
bit_below true n zero h = refl
bit_below true n (suc i) h = absurd (omega arith)
bit_below false n i h = absurd (omega arith)

pub passing_below : (p : ℕ → Bool) (n i : ℕ) → i < length (passing n p) → get_or (passing n p) i 0 < n
unfolding passing
passing_below p zero i h = absurd (omega arith)
passing_below p (suc n) i h =
    elim (cases_lt i (length (passing n p))) [
      | inl l ↦ omega (arith, get_or_append_left (passing n p) (cond (p n) (n ∷ []) []) 0 i l, passing_below p n i l)
      | inr l ↦
          let k : i - length (passing n p) < length (cond (p n) (n ∷ []) []) = omega (arith, length-append (passing n p) (cond (p n) (n ∷ []) [])) in
          omega (arith, get_or-append_right (passing n p) (cond (p n) (n ∷ []) []) (length (passing n p)) i 0 refl l, bit_below (p n) n (i - length (passing n p)) k)
    ]
