-- Rows of a list, where places of one of them are written.
use Rattle.std.proofs.Common.{◌≡◌, ℕ, ◌+◌, ◌-◌, ◌*◌, ◌<◌, ◌≤◌, List, length, get_or, take, drop, sym, ap, ◌∙◌, inl, inr, arith}
use Rattle.std.specs.List.{between}
use Rattle.std.proofs.lemmas.List.{get_or-take, get_or-drop, length-take, length-drop, same_lists}
use Rattle.std.proofs.lemmas.Bool.{cases_order}
use Rattle.evaluate.specs.Grids.{row, place, last_round, Outside, KeptButLast, KeptPast}

-- places of two rows differ
pub rows_apart : (j k a b : ℕ) → a < 512 → b < 512 → (j ≡ k → ⊥) → place j a ≡ place k b → ⊥
rows_apart j k a b h i ne e = elim (cases_order j k) [ inl p ↦ ne p | inr (inl p) ↦ omega arith | inr (inr p) ↦ omega arith ]

module _ {X : Type 0} (n : ℕ) (xs : List X) where
  pub row_between : (j e : ℕ) → e ≡ j * 512 + n → row n xs j ≡ between (j * 512) e xs
  unfolding row
  row_between j e p = let q : n ≡ e - j * 512 = omega arith in ap (λ (m : ℕ). take m (drop (j * 512) xs)) q

  pub row_at : (j a : ℕ) (d : X) → a < n → get_or (row n xs j) a d ≡ get_or xs (place j a) d
  unfolding row
  row_at j a d h = get_or-take n (drop (j * 512) xs) a d h ∙ get_or-drop (j * 512) xs a d

  pub row_length : (j : ℕ) → j * 512 + n ≤ length xs → length (row n xs j) ≡ n
  unfolding row
  row_length j h = omega (arith, length-take n (drop (j * 512) xs), length-drop (j * 512) xs)

  -- a row stays where its places do
  pub row_same : (ys : List X) (k : ℕ) → length ys ≡ length xs → k * 512 + n ≤ length xs → ((a : ℕ) (d : X) → a < n → get_or ys (place k a) d ≡ get_or xs (place k a) d) → row n ys k ≡ row n xs k
  unfolding row
  row_same ys k e long same =
      same_lists (row n ys k) (row n xs k) (omega (arith, length-take n (drop (k * 512) ys), length-drop (k * 512) ys, row_length k long)) (λ a d h.
      let l : a < n = omega (arith, length-take n (drop (k * 512) ys)) in
      get_or-take n (drop (k * 512) ys) a d l ∙ get_or-drop (k * 512) ys a d ∙ same a d l ∙ sym (row_at k a d l))

  -- the other rows stay
  module _ (ys : List X) (k : ℕ) (small : n ≤ 512) (e : length ys ≡ length xs) (long : k * 512 + n ≤ length xs) where
    outside : (level a : ℕ) → (k ≡ level → ⊥) → a < n → Outside n level (place k a)
    outside level a ne h b i p = rows_apart k level a b (omega arith) (omega arith) ne p

    pub row_kept_last : (level : ℕ) → (k ≡ level → ⊥) → (k ≡ last_round → ⊥) → KeptButLast n level xs ys → row n ys k ≡ row n xs k
    row_kept_last level ne ne' kept = row_same ys k e long (λ a d h. kept (place k a) d (outside level a ne h) (outside last_round a ne' h))

    pub row_kept_past : (horizon : ℕ) → horizon < k → (k ≡ last_round → ⊥) → KeptPast n horizon xs ys → row n ys k ≡ row n xs k
    row_kept_past horizon past ne kept = row_same ys k e long (λ a d h. kept (place k a) d (λ j l. outside j a (λ p. omega arith) h) (outside last_round a ne h))
