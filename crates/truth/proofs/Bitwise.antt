-- What the bitwise operations do to each bit.
use Rattle.std.proofs.Common.{◌≡◌, ℕ, zero, suc, ◌-◌, ◌/◌, ◌^◌, ◌<◌, true, false, not, ◌&&◌, ◌||◌, eqb, min, max, sym, ap, ◌∙◌, arith}
use lib.Bits.{bit_and, bit_or}
use Rattle.std.specs.Int.{bit_at}
use Rattle.std.proofs.lemmas.Nat.{pow-add, pow_pos}
use Rattle.std.proofs.lemmas.Nat.Bits.{bit_at_lowest, bit_at-suc, bit_at-lt, bit_at-zero, bit_at_and, bit_at_or, bit_at_ones, same_from_bits_below}
use Rattle.truth.specs.Bit.{bit}

least_digit : (x y : ℕ) → x < 2 → y < 2 → eqb (min x y) 1 ≡ (eqb x 1 && eqb y 1)
least_digit x y h k = grind arith

most_digit : (x y : ℕ) → x < 2 → y < 2 → eqb (max x y) 1 ≡ (eqb x 1 || eqb y 1)
most_digit x y h k = grind arith

other_digit : (x : ℕ) → x < 2 → eqb (1 - x) 1 ≡ not (eqb x 1)
other_digit x h = grind arith

no_digit : (x : ℕ) → x < 2 → eqb x 1 ≡ false → x ≡ 0
no_digit x h e = grind arith

pub bit-and : (a b k : ℕ) → bit (bit_and a b) k ≡ (bit a k && bit b k)
bit-and a b k = ap (λ n. eqb n 1) (bit_at_and a b k) ∙ least_digit (bit_at a k) (bit_at b k) (bit_at-lt a k) (bit_at-lt b k)

pub bit-or : (a b k : ℕ) → bit (bit_or a b) k ≡ (bit a k || bit b k)
bit-or a b k = ap (λ n. eqb n 1) (bit_at_or a b k) ∙ most_digit (bit_at a k) (bit_at b k) (bit_at-lt a k) (bit_at-lt b k)

pub bit_zero : (k : ℕ) → bit 0 k ≡ false
bit_zero k = ap (λ n. eqb n 1) (bit_at-zero k)

bit_at_complement : (n a k : ℕ) → a < 2 ^ n → k < n → bit_at (2 ^ n - 1 - a) k ≡ 1 - bit_at a k
bit_at_complement zero a k h l = absurd (omega arith)
bit_at_complement (suc n) a zero h l = omega (arith, bit_at_lowest (2 ^ suc n - 1 - a), bit_at_lowest a, pow-add 2 1 n)
bit_at_complement (suc n) a (suc k) h l =
    let p = pow-add 2 1 n in
    let half : (2 ^ suc n - 1 - a) / 2 ≡ 2 ^ n - 1 - a / 2 = omega arith in
    bit_at-suc _ k ∙ ap (λ x. bit_at x k) half ∙ bit_at_complement n (a / 2) k (omega arith) (omega arith) ∙ ap (λ d. 1 - d) (sym (bit_at-suc a k))

-- the complement in n bits
pub bit_complement : (n a k : ℕ) → a < 2 ^ n → k < n → bit (2 ^ n - 1 - a) k ≡ not (bit a k)
bit_complement n a k h l = ap (λ x. eqb x 1) (bit_at_complement n a k h l) ∙ other_digit (bit_at a k) (bit_at-lt a k)

pub bit_ones : (n k : ℕ) → k < n → bit (2 ^ n - 1) k ≡ true
bit_ones n k h = ap (λ x. eqb x 1) (bit_at_ones n k h)

-- a number whose low n bits are all of it, and none of them set, is 0
pub no_bits : (n a : ℕ) → a < 2 ^ n → ((k : ℕ) → k < n → bit a k ≡ false) → a ≡ 0
no_bits n a h f =
    same_from_bits_below n a 0 h (pow_pos n) (λ k l. no_digit (bit_at a k) (bit_at-lt a k) (f k l) ∙ sym (bit_at-zero k))
