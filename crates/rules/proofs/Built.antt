-- A list that a loop builds from a function of the number.
use Rattle.std.proofs.Common.{◌≡◌, ℕ, ◌+◌, List, [], ◌∷◌, ◌++◌, map, sym, ap, ◌∙◌, ap₂}
use Rattle.std.specs.List.{range_with_len}
use Rattle.std.proofs.lemmas.List.FromFn.{map-range_with_len_more}

pub built_more : {X : Type 0} (f : ℕ → X) (a i j k : ℕ) (xs ys : List X) (x : X) → xs ≡ map f (range_with_len a i) → ys ≡ xs ++ x ∷ [] → x ≡ f j → a + i ≡ j → i + 1 ≡ k → ys ≡ map f (range_with_len a k)
built_more f a i j k xs ys x before pushed is at more = pushed ∙ ap₂ (λ zs z. zs ++ z ∷ []) before is ∙ sym (map-range_with_len_more f a i j at) ∙ ap (λ n. map f (range_with_len a n)) more
