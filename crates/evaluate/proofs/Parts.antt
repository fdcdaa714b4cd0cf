-- What is left in a list after writes to parts of it: to a row, and to the last round's.
use Rattle.std.proofs.Common.{◌≡◌, ℕ, ◌+◌, ◌-◌, ◌*◌, ◌<◌, ◌≤◌, ◌⊎◌, List, ◌++◌, length, get_or, drop, sym, refl, ap, ◌∙◌, inl, inr, arith, rules}
use borrow.Rule.Slice.PartMut.{put_mid}
use Rattle.std.specs.List.{between}
use Rattle.std.proofs.lemmas.Bool.{cases_lt}
use Rattle.std.proofs.lemmas.List.{get_or_append_left, get_or-append_right, length-append, same_lists, places}
use Rattle.evaluate.specs.Grids.{row, place, last_round, Outside, KeptButLast}
use Rattle.evaluate.proofs.Rows.{row_at, row_between, row_length}

module _ {X : Type 0} (at k : ℕ) (xs ys : List X) (within : at + k ≤ length xs) (long : length ys ≡ k) where
  pub part_length : length (put_mid at k xs ys) ≡ length xs
  part_length = search (rules, places)

  pub part_outside : (i : ℕ) (d : X) → (i < at) ⊎ (at + k ≤ i) → get_or (put_mid at k xs ys) i d ≡ get_or xs i d
  part_outside i d h = grind (arith, places)

  pub part_inside : (i : ℕ) (d : X) → i < k → get_or (put_mid at k xs ys) (at + i) d ≡ get_or ys i d
  part_inside i d h = grind (arith, places)

-- a place outside a row is before it or behind it
pub apart : (n r i end : ℕ) → end ≡ r * 512 + n → Outside n r i → (i < r * 512) ⊎ (end ≤ i)
apart n r i end e out =
    elim (cases_lt i (r * 512)) [
      | inl l ↦ inl l
      | inr l ↦ elim (cases_lt i end) [ inl m ↦ absurd (out (i - r * 512) (omega arith) (omega arith)) | inr m ↦ inr m ]
    ]

module _ {X : Type 0} (n level : ℕ) (xs rows last ys zs : List X) (split : xs ≡ rows ++ last) (five : length rows ≡ last_round * 512) (h : level < last_round) (small : n ≤ 512) (room : n ≤ length last) (long : length ys ≡ n) (long' : length zs ≡ n) where
  -- the row is ys now, and the last round's zs
  abbrev pub after : List X
  after = put_mid (level * 512) (level * 512 + n - level * 512) rows ys ++ (zs ++ drop n last)

  len : length (put_mid (level * 512) (level * 512 + n - level * 512) rows ys) ≡ last_round * 512
  len = part_length (level * 512) (level * 512 + n - level * 512) rows ys (omega arith) (omega arith) ∙ five

  front : (i : ℕ) (d : X) → i < last_round * 512 → get_or after i d ≡ get_or (put_mid (level * 512) (level * 512 + n - level * 512) rows ys) i d
  front i d l = get_or_append_left _ _ d i (omega (arith, len))

  pub before_row : between (level * 512) (level * 512 + n) rows ≡ row n xs level
  before_row =
      let m : length (row n xs level) ≡ n = row_length n xs level (omega (arith, ap length split, length-append rows last)) in
      let m' : length (row n rows level) ≡ n = row_length n rows level (omega arith) in
      sym (row_between n rows level (level * 512 + n) refl)
      ∙ same_lists _ _ (m' ∙ sym m) (λ a d l.
      let l' : a < n = omega arith in
      row_at n rows level a d l' ∙ sym (row_at n xs level a d l' ∙ ap (λ z. get_or z (place level a) d) split ∙ get_or_append_left rows last d (place level a) (omega arith)))

  pub after_row : row n after level ≡ ys
  after_row =
      let full : length after ≡ length xs = grind (arith, places, len) in
      let m : length (row n after level) ≡ n = row_length n after level (omega (arith, ap length split, length-append rows last)) in
      same_lists _ _ (m ∙ sym long) (λ a d l.
      let l' : a < n = omega arith in
      row_at n after level a d l' ∙ front (place level a) d (omega arith)
      ∙ part_inside (level * 512) (level * 512 + n - level * 512) rows ys (omega arith) (omega arith) a d (omega arith))

  pub after_kept : KeptButLast n level xs after
  after_kept i d out out' =
      elim (cases_lt i (last_round * 512)) [
        | inl l ↦ front i d l ∙ part_outside (level * 512) (level * 512 + n - level * 512) rows ys (omega arith) (omega arith) i d (apart n level i (level * 512 + (level * 512 + n - level * 512)) (omega arith) out)
            ∙ sym (ap (λ z. get_or z i d) split ∙ get_or_append_left rows last d i (omega arith))
        | inr l ↦ get_or-append_right _ _ (last_round * 512) i d len l
            ∙ part_outside 0 n last zs (omega arith) long' (i - last_round * 512) d (inr (beyond (apart n last_round i (last_round * 512 + n) refl out') l))
            ∙ sym (ap (λ z. get_or z i d) split ∙ get_or-append_right rows last (last_round * 512) i d five l)
      ]
    where
      beyond : (i < last_round * 512) ⊎ (last_round * 512 + n ≤ i) → last_round * 512 ≤ i → 0 + n ≤ i - last_round * 512
      beyond (inl l) m = absurd (omega arith)
      beyond (inr l) m = omega arith
