-- A loop that writes a function's values into a row, atom by atom of a list.
use Rattle.std.proofs.Common.{◌≡◌, ℕ, ◌+◌, ◌<◌, ◌≤◌, Bool, cond, List, map, length, get_or, drop, set, sym, ap, ◌∙◌}
use Rattle.std.specs.List.{range_with_len}
use Rattle.std.proofs.lemmas.List.{length-map, map-set, drop_all}
use Rattle.evaluate.specs.Lists.{passing}
use Rattle.evaluate.proofs.Writes.{written, written_goes, written_ends, written_all}

module _ {X V : Type 0} (m : X → V) (f : ℕ → V) (ks : List ℕ) (was : List X) where
  -- the first i atoms of the list are written
  abbrev pub Filled : List X → ℕ → Type 0
  Filled xs i = written f (drop i ks) (map m xs) ≡ written f ks (map m was)

  pub filled_more : (xs : List X) (i a : ℕ) (v : X) → Filled xs i → i < length ks → a ≡ get_or ks i 0 → m v ≡ f a → Filled (set xs a v) (i + 1)
  filled_more xs i a v old h at made =
      ap (written f (drop (i + 1) ks)) (map-set m xs a v ∙ ap (set (map m xs) a) made) ∙ written_goes f ks i a (map m xs) h at ∙ old

  -- over the atoms that pass a test
  pub filled_all : (xs : List X) (i n : ℕ) → Filled xs i → length ks ≤ i → (p : ℕ → Bool) (d : V) → ks ≡ passing n p → length was ≡ n → map m xs ≡ map (λ a. cond (p a) (f a) (get_or (map m was) a d)) (range_with_len 0 n)
  filled_all xs i n filled end p d e long =
      sym (written_ends f (drop i ks) (map m xs) (drop_all i ks end)) ∙ filled ∙ ap (λ l. written f l (map m was)) e
      ∙ written_all f p d (map m was) n (length-map was m ∙ long)
