-- A function's values written into a list, at the numbers that pass a test.
use Rattle.std.proofs.Common.{◌≡◌, ℕ, zero, suc, ◌+◌, ◌<◌, ◌≤◌, Bool, true, false, cond, ◌&&◌, ltb, List, [], ◌∷◌, ◌++◌, map, length, get_or, drop, set, sym, refl, ap, ◌∙◌, inl, inr, arith}
use Rattle.std.specs.List.{range_with_len}
use Rattle.std.proofs.lemmas.List.FromFn.{fill_by_all}
use Rattle.std.proofs.lemmas.List.{length-set, get_or-set_same, get_or-set_other, drop_more}
use Rattle.std.proofs.lemmas.Bool.{cases_eq, cases_lt, lt-ltb, le-ltb, cond-true, cond-false, and_from, and_left, and_right}
use Rattle.evaluate.specs.Lists.{passing}

module _ {V : Type 0} (f : ℕ → V) where
  unfoldable pub written : List ℕ → List V → List V
  written [] ws = ws
  written (k ∷ ks) ws = written ks (set ws k (f k))

  written_append : (ks ls : List ℕ) (ws : List V) → written (ks ++ ls) ws ≡ written ls (written ks ws)
  unfolding written
  written_append [] ls ws = refl
  written_append (k ∷ ks) ls ws = written_append ks ls (set ws k (f k))

  written_length : (ks : List ℕ) (ws : List V) → length (written ks ws) ≡ length ws
  unfolding written
  written_length [] ws = refl
  written_length (k ∷ ks) ws = written_length ks (set ws k (f k)) ∙ length-set ws k (f k)

  -- what is left gives the whole
  pub written_goes : (ks : List ℕ) (i k : ℕ) (ws : List V) → i < length ks → k ≡ get_or ks i 0 → written (drop (i + 1) ks) (set ws k (f k)) ≡ written (drop i ks) ws
  unfolding written
  written_goes ks i k ws h e = ap (λ j. written (drop (i + 1) ks) (set ws j (f j))) e ∙ ap (λ l. written l ws) (sym (drop_more ks i 0 h))

  pub written_ends : (ks : List ℕ) (ws : List V) → ks ≡ [] → written ks ws ≡ ws
  unfolding written
  written_ends ks ws e = ap (λ l. written l ws) e

  module _ (p : ℕ → Bool) (d : V) (ws : List V) where
    abbrev mixed : ℕ → ℕ → V
    mixed n a = cond (ltb a n && p a) (f a) (get_or ws a d)

    same_test : (a n : ℕ) → (a ≡ n → ⊥) → ltb a n ≡ ltb a (suc n)
    same_test a n ne = elim (cases_lt a n) [ inl h ↦ lt-ltb a n h ∙ sym (lt-ltb a (suc n) (omega arith)) | inr h ↦ le-ltb a n h ∙ sym (le-ltb a (suc n) (omega arith)) ]

    one_written : (n a : ℕ) (b : Bool) → p n ≡ b → suc n ≤ length ws → get_or (written (passing n p) ws) a d ≡ mixed n a
        → get_or (written (cond b (n ∷ []) []) (written (passing n p) ws)) a d ≡ mixed (suc n) a
    unfolding written
    one_written n a true e h old =
        let inside : n < length (written (passing n p) ws) = omega (arith, written_length (passing n p) ws) in
        elim (cases_eq a n) [
          | inl q ↦ ap (λ i. get_or (set (written (passing n p) ws) n (f n)) i d) q ∙ get_or-set_same (written (passing n p) ws) n (f n) d inside ∙ ap f (sym q)
              ∙ sym (cond-true (ltb a (suc n) && p a) _ _ (and_from _ _ (lt-ltb a (suc n) (omega arith)) (ap p q ∙ e)))
          | inr q ↦ get_or-set_other (written (passing n p) ws) n a (f n) d q ∙ old ∙ ap (λ (t : Bool). cond (t && p a) (f a) (get_or ws a d)) (same_test a n q)
        ]
    one_written n a false e h old =
        elim (cases_eq a n) [
          | inl q ↦ old ∙ cond-false (ltb a n && p a) _ _ (and_left _ _ (le-ltb a n (omega arith))) ∙ sym (cond-false (ltb a (suc n) && p a) _ _ (and_right _ _ (ap p q ∙ e)))
          | inr q ↦ old ∙ ap (λ (t : Bool). cond (t && p a) (f a) (get_or ws a d)) (same_test a n q)
        ]

    pub written_at : (n a : ℕ) → n ≤ length ws → get_or (written (passing n p) ws) a d ≡ mixed n a
    unfolding written passing
    written_at zero a h = sym (cond-false (ltb a 0 && p a) _ _ (and_left _ _ (le-ltb a 0 (omega arith))))
    written_at (suc n) a h = ap (λ l. get_or l a d) (written_append (passing n p) (cond (p n) (n ∷ []) []) ws) ∙ one_written n a (p n) refl h (written_at n a (omega arith))

    -- all of them
    pub written_all : (n : ℕ) → length ws ≡ n → written (passing n p) ws ≡ map (λ a. cond (p a) (f a) (get_or ws a d)) (range_with_len 0 n)
    written_all n e =
        fill_by_all (λ a. cond (p a) (f a) (get_or ws a d)) (written (passing n p) ws) n d (written_length (passing n p) ws ∙ e)
        (λ a h. written_at n a (omega arith) ∙ ap (λ (t : Bool). cond (t && p a) (f a) (get_or ws a d)) (lt-ltb a n h))
