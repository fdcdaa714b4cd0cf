-- Masks made bit by bit, from the highest down.
use Rattle.std.proofs.Common.{◌≡◌, ℕ, zero, suc, ◌+◌, ◌-◌, ◌*◌, ◌/◌, ◌%◌, ◌^◌, ◌<◌, ◌≤◌, Bool, true, false, ◌&&◌, eqb, ltb, sym, refl, subst, ap, ◌∙◌, div-one, arith, pow_mono}
use Rattle.std.proofs.lemmas.Nat.{pow-add, pow_pos, shr-shr}
use Rattle.std.proofs.lemmas.Nat.Bits.{bit_at-lt, bit_at-zero, same_from_bits}
use Rattle.std.proofs.lemmas.Bool.{lt-ltb, le-ltb, eqb-false}
use Rattle.std.proofs.Math.Nat.{div-lt_iff_lt-mul}
use Rattle.std.specs.Int.{bit_at}
use Rattle.truth.specs.Bit.{bit}
use Rattle.truth.proofs.Bitwise.{bit_zero}
use Rattle.docket.specs.Plays.{flag}

abbrev odd : ℕ → Bool
odd x = eqb (x % 2) 1

small_flag : (b : Bool) → flag b < 2
small_flag true = omega arith
small_flag false = omega arith

flag_is : (b : Bool) → eqb (flag b) 1 ≡ b
flag_is true = refl
flag_is false = refl

pub low_bit : (m : ℕ) (b : Bool) → bit (2 * m + flag b) 0 ≡ b
low_bit m b =
    let s = small_flag b in
    let e : (2 * m + flag b) % 2 ≡ flag b = omega arith in
    ap odd (div-one (2 * m + flag b)) ∙ ap (λ (x : ℕ). eqb x 1) e ∙ flag_is b

pub high_bit : (m : ℕ) (b : Bool) (k : ℕ) → bit (2 * m + flag b) (suc k) ≡ bit m k
high_bit m b k =
    let s = small_flag b in
    let a = 2 * m + flag b in
    let e : a / 2 ≡ m = omega arith in
    sym (ap odd (shr-shr a 1 k) ∙ ap (bit a) (omega arith)) ∙ ap (λ (x : ℕ). bit x k) e

-- no bits but those from n on, of count
abbrev pub Small : (count n mask : ℕ) → Type 0
Small count n mask = mask < 2 ^ (count - n)

pub small_goes : (count n mask : ℕ) (b : Bool) (new before : ℕ) → n < count → before ≡ n + 1 → new ≡ 2 * mask + flag b → Small count before mask → Small count n new
small_goes count n mask b new before h e is o =
    let d : count - n ≡ 1 + (count - (n + 1)) = omega arith in
    let q = pow-add 2 1 (count - (n + 1)) in
    let s = small_flag b in
    let t : mask < 2 ^ (count - (n + 1)) = subst (λ (j : ℕ). mask < 2 ^ (count - j)) e o in
    rw is (rw d (omega arith))

-- the bits from n on are in place, of count
abbrev pub Masked : (p : ℕ → Bool) (count n mask : ℕ) → Type 0
Masked p count n mask = (k : ℕ) → bit mask k ≡ ltb (k + n) count && p (k + n)

pub masked_starts : (p : ℕ → Bool) (count : ℕ) → Masked p count count 0
masked_starts p count k = bit_zero k ∙ sym (ap (λ t. t && p (k + count)) (le-ltb (k + count) count (omega arith)))

-- such a mask has no other bits
pub masked_small : (p : ℕ → Bool) (count n mask : ℕ) → Masked p count n mask → Small count n mask
masked_small p count n mask m =
    let none : mask / 2 ^ (count - n) ≡ 0 = same_from_bits (mask / 2 ^ (count - n)) 0 above in
    omega (arith, (div-lt_iff_lt-mul {k = 2 ^ (count - n)} {x = mask} {y = 1} (pow_pos (count - n))).0 (omega (arith, none)))
  where
    above : (k : ℕ) → bit_at (mask / 2 ^ (count - n)) k ≡ bit_at 0 k
    above k =
        let j = count - n + k in
        let e : bit mask j ≡ false = m j ∙ ap (λ t. t && p (j + n)) (le-ltb (j + n) count (omega arith)) in
        let z : bit_at mask j ≡ 0 = omega (arith, bit_at-lt mask j, eqb-false (bit_at mask j) 1 e) in
        ap (λ x. x % 2) (shr-shr mask (count - n) k) ∙ z ∙ sym (bit_at-zero k)

pub masked_fits : (p : ℕ → Bool) (count n mask : ℕ) → 0 < n → count ≤ 64 → Masked p count n mask → mask < 2 ^ 63
masked_fits p count n mask h few m = omega (arith, masked_small p count n mask m, pow_mono {i = count - n} {j = 63} (omega arith))

pub masked_goes : (p : ℕ → Bool) (count n mask : ℕ) → n < count → Masked p count (n + 1) mask → Masked p count n (2 * mask + flag (p n))
masked_goes p count n mask h old = goes
  where
    goes : (k : ℕ) → bit (2 * mask + flag (p n)) k ≡ ltb (k + n) count && p (k + n)
    goes zero =
        let e : n ≡ 0 + n = omega arith in
        low_bit mask (p n) ∙ ap p e ∙ sym (ap (λ t. t && p (0 + n)) (lt-ltb (0 + n) count (omega arith)))
    goes (suc k) =
        let e : k + (n + 1) ≡ suc k + n = omega arith in
        high_bit mask (p n) k ∙ old k ∙ ap (λ j. ltb j count && p j) e

pub masked_ends : (p : ℕ → Bool) (count n mask : ℕ) → n ≡ 0 → Masked p count n mask → (k : ℕ) → bit mask k ≡ ltb k count && p k
masked_ends p count n mask z m k = m k ∙ ap (λ j. ltb j count && p j) (omega arith)
