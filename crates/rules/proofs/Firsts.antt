-- The first fault along a list of numbers, a number at a time.
use Rattle.std.proofs.Common.{◌≡◌, ℕ, suc, ◌+◌, ◌-◌, ◌<◌, ◌≤◌, ◌∷◌, Some, None, Ok, Err, Option, Result, sym, refl, ap, ◌∙◌, arith}
use Rattle.std.specs.List.{range_with_len}
use Rattle.rules.specs.First.{first, or_else, verdict}

pub range_next : (i end : ℕ) → i < end → range_with_len i (end - i) ≡ i ∷ range_with_len (i + 1) (end - (i + 1))
range_next i end h = let e : end - i ≡ suc (end - (i + 1)) = omega arith in ap (range_with_len i) e

pub verdict_ok : {X F : Type 0} (o : Option F) (x y : X) → verdict o x ≡ Ok y → o ≡ None
verdict_ok None x y e = refl
verdict_ok (Some f) x y e = cc

pub verdict_err : {X F : Type 0} (o : Option F) (x : X) (f : F) → verdict o x ≡ Err f → o ≡ Some f
verdict_err None x f e = cc
verdict_err (Some g) x f e = cc

pub verdict_value : {X F : Type 0} (o : Option F) (x y : X) → verdict o x ≡ Ok y → x ≡ y
verdict_value None x y e = cc
verdict_value (Some f) x y e = cc

module _ {X : Type 0} (f : ℕ → Option X) (i end : ℕ) where
  step : i < end → first f (range_with_len i (end - i)) ≡ or_else (f i) (first f (range_with_len (i + 1) (end - (i + 1))))
  step h = ap (first f) (range_next i end h)

  -- nothing at i: the rest decides
  pub first_more : i < end → f i ≡ None → first f (range_with_len (i + 1) (end - (i + 1))) ≡ first f (range_with_len i (end - i))
  first_more h e = sym (step h ∙ ap (λ o. or_else o (first f (range_with_len (i + 1) (end - (i + 1))))) e)

  pub first_found : (x : X) → i < end → f i ≡ Some x → first f (range_with_len i (end - i)) ≡ Some x
  first_found x h e = step h ∙ ap (λ o. or_else o (first f (range_with_len (i + 1) (end - (i + 1))))) e

  pub first_end : end ≤ i → first f (range_with_len i (end - i)) ≡ None
  first_end h = let e : end - i ≡ 0 = omega arith in ap (λ n. first f (range_with_len i n)) e

-- The same for a loop whose body answers by `verdict`: whole is what the loop is to find.
module _ {X A : Type 0} (f : ℕ → Option X) (i end : ℕ) (whole : Option X) (rest : first f (range_with_len i (end - i)) ≡ whole) (before : i < end) where
  pub loop_stops : (r : Result A X) (a : A) (e : X) → r ≡ verdict (f i) a → r ≡ Err e → whole ≡ Some e
  loop_stops r a e is was = sym rest ∙ first_found f i end e before (verdict_err (f i) a e (sym is ∙ was))

  pub loop_goes : (r : Result A X) (a b : A) → r ≡ verdict (f i) a → r ≡ Ok b → first f (range_with_len (i + 1) (end - (i + 1))) ≡ whole
  loop_goes r a b is was = first_more f i end before (verdict_ok (f i) a b (sym is ∙ was)) ∙ rest
