-- A list whose middle part was written anew.
use Rattle.std.proofs.Common.{rules, ◌≡◌, ℕ, ◌+◌, ◌-◌, ◌<◌, ◌≤◌, List, length, get_or, inl, inr, arith}
use Rattle.std.proofs.lemmas.List.{places}
use Rattle.std.proofs.lemmas.Bool.{cases_lt}
use borrow.Rule.Slice.PartMut.{put_mid}

-- place a + c of the list is place c of the part
pub part_inside : {X : Type 0} (a k : ℕ) (xs ys : List X) (c : ℕ) (d : X) → a + k ≤ length xs → length ys ≡ k → c < k → get_or (put_mid a k xs ys) (a + c) d ≡ get_or ys c d
part_inside a k xs ys c d h e l = search (rules, places)

part_before : {X : Type 0} (a k : ℕ) (xs ys : List X) (i : ℕ) (d : X) → a + k ≤ length xs → length ys ≡ k → i < a → get_or (put_mid a k xs ys) i d ≡ get_or xs i d
part_before a k xs ys i d h e l = search (rules, places)

part_behind : {X : Type 0} (a k : ℕ) (xs ys : List X) (i : ℕ) (d : X) → a + k ≤ length xs → length ys ≡ k → a + k ≤ i → get_or (put_mid a k xs ys) i d ≡ get_or xs i d
part_behind a k xs ys i d h e l = search (rules, places)

-- the other places hold what they held
pub part_outside : {X : Type 0} (a k : ℕ) (xs ys : List X) (i : ℕ) (d : X) → a + k ≤ length xs → length ys ≡ k → ((c : ℕ) → c < k → i ≡ a + c → ⊥)
    → get_or (put_mid a k xs ys) i d ≡ get_or xs i d
part_outside a k xs ys i d h e out =
    elim (cases_lt i a) [
      | inl l ↦ part_before a k xs ys i d h e l
      | inr l ↦ elim (cases_lt i (a + k)) [
        | inl m ↦ absurd (out (i - a) (omega arith) (omega arith))
        | inr m ↦ part_behind a k xs ys i d h e m
      ]
    ]
