-- Wide inputs, written one by one.
use Rattle.std.proofs.Common.{◌≡◌, ℕ, ◌+◌, ◌*◌, ◌<◌, ◌≤◌, Bool, true, false, cond, List, length, get_or, set, sym, refl, ap, ◌∙◌, inl, inr, mul-le-mul, arith}
use Rattle.std.proofs.lemmas.List.{get_or-set_same, get_or-set_other}
use Rattle.std.proofs.lemmas.Bool.{cases_eq, leb-true, and_parts}
use Rattle.truth.specs.Bit.{bit}
use Rattle.truth.specs.Forms.{only_yes, only_no}
use Rattle.truth.specs.Wide.{by_mask}
use Rattle.rules.specs.declared.opened.Rules.{Rules}
use Rattle.rules.specs.Opens.{atoms_of, moves_of}
use Rattle.rules.specs.Tables.{total}
use Rattle.evaluate.specs.Claims.{just}
use Rattle.evaluate.specs.Positions.{fluents, choices, does_at}
use Rattle.evaluate.proofs.Fitting.{enough}

pub few_fluents : (R : Rules) → fluents R ≤ 64
few_fluents R = leb-true (fluents R) 64 (and_parts _ _ R.counted.0).1

pub few_roles : (R : Rules) → R.layout.roles ≤ 8
few_roles R = leb-true R.layout.roles 8 (and_parts _ _ R.counted.1).1

pub roles_are : (R : Rules) → R.layout.roles ≡ length (moves_of R)
roles_are R = R.shaped.0

pub choices_are : (R : Rules) → choices R ≡ total (moves_of R)
choices_are R = R.shaped.1

-- a mask's answers, world by world
by_answer : (b : Bool) → cond b only_yes only_no ≡ just b
by_answer true = refl
by_answer false = refl

pub mask_means : (mask : ℕ) (p : ℕ → Bool) → ((k : ℕ) → bit mask k ≡ p k) → by_mask mask ≡ (λ w. just (p w.at))
mask_means mask p e = λ i w. (by_answer (bit mask w.at) ∙ ap just (e w.at)) i

-- the values f of the first n places `at` are written, and nothing else
pub record Put {X M : Type 0} (m : X → M) (f : ℕ → M) (at : ℕ → ℕ) (was : List X) (n : ℕ) (xs : List X) : Type 0 where
  pub done : (c : ℕ) (d : X) → c < n → m (get_or xs (at c) d) ≡ f c
  pub kept : (i : ℕ) (d : X) → ((c : ℕ) → c < n → i ≡ at c → ⊥) → get_or xs i d ≡ get_or was i d

module _ {X M : Type 0} (m : X → M) (f : ℕ → M) (at : ℕ → ℕ) (was : List X) where
  pub put_starts : Put m f at was 0 was
  put_starts = record { done = λ c d h. absurd (omega arith); kept = λ i d out. refl }

  pub put_goes : (n : ℕ) (xs : List X) (v : X) → at n < length xs → ((c : ℕ) → c < n → at c ≡ at n → ⊥) → m v ≡ f n → Put m f at was n xs → Put m f at was (n + 1) (set xs (at n) v)
  put_goes n xs v h apart made old = record {
    done = λ c d l. elim (cases_eq c n) [
      | inl e ↦ ap (λ j. m (get_or (set xs (at n) v) (at j) d)) e ∙ ap m (get_or-set_same xs (at n) v d h) ∙ made ∙ ap f (sym e)
      | inr e ↦ let k : c < n = omega arith in ap m (get_or-set_other xs (at n) (at c) v d (apart c k)) ∙ old.done c d k
    ];
    kept = λ i d out. get_or-set_other xs (at n) i v d (out n (omega arith)) ∙ old.kept i d (λ c l. out c (omega arith));
  }

-- the bytes of moves are within a play
pub move_inside : (F r j role : ℕ) → F ≤ 64 → r ≤ 8 → j < 4 → role < r → F + r * j + role < 96
move_inside F r j role f e h k = let q : j ≤ 3 = omega arith in let p : r * j ≤ 8 * 3 = mul-le-mul e q in in_bound (r * j) p
  where
    in_bound : (x : ℕ) → x ≤ 24 → F + x + role < 96
    in_bound x p = omega arith

pub does_small : (R : Rules) (c : ℕ) → c < choices R → does_at R c < length (atoms_of R)
does_small R c h = omega (arith, enough R)
