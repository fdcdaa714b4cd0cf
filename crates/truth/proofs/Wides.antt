-- The wide form's numbers, world by world.
use Rattle.std.proofs.Common.{◌≡◌, ℕ, ◌-◌, ◌^◌, ◌<◌, Bool, true, false, cond, not, ◌&&◌, ◌||◌, ap, ◌∙◌, ap₂, arith}
use lib.Bits.{bit_and, bit_or}
use Rattle.truth.specs.Forms.{only_yes, only_no}
use Rattle.truth.specs.Kleene.{meet, join}
use Rattle.truth.specs.Bit.{bit, Answered}
use Rattle.truth.specs.Wide.{allowing}
use Rattle.truth.proofs.Bitwise.{bit-and, bit-or, bit_complement, bit_ones}

-- y, n and z, m: whether each of two values allows yes, no

allowing_and : (y n z m : Bool) → (y || n) ≡ true → (z || m) ≡ true → allowing (y && z) (n || m) ≡ meet (allowing y n) (allowing z m)
allowing_and y n z m h k = grind arith

allowing_or : (y n z m : Bool) → (y || n) ≡ true → (z || m) ≡ true → allowing (y || z) (n && m) ≡ join (allowing y n) (allowing z m)
allowing_or y n z m h k = grind arith

some_and : (y n z m : Bool) → (y || n) ≡ true → (z || m) ≡ true → ((y && z) || (n || m)) ≡ true
some_and y n z m h k = grind arith

some_or : (y n z m : Bool) → (y || n) ≡ true → (z || m) ≡ true → ((y || z) || (n && m)) ≡ true
some_or y n z m h k = grind arith

allowing_not : (y : Bool) → allowing y (not y) ≡ cond y only_yes only_no
allowing_not y = grind arith

some_not : (y : Bool) → (y || not y) ≡ true
some_not y = grind arith

-- where yes is not allowed, only no is, and conversely
pub only_no_from : (y n : Bool) → (y || n) ≡ true → y ≡ false → allowing y n ≡ only_no
only_no_from y n h e = grind arith

pub only_no_then : (y n : Bool) → allowing y n ≡ only_no → y ≡ false
only_no_then y n e = grind arith

-- a world is a bit of the number with every bit set
pub every_world : (k : ℕ) → k < 64 → bit (2 ^ 64 - 1) k ≡ true
every_world = bit_ones 64

pub answered_and : (y n z m : ℕ) → Answered y n → Answered z m → Answered (bit_and y z) (bit_or n m)
answered_and y n z m h k i l =
    ap₂ ◌||◌ (bit-and y z i) (bit-or n m i) ∙ some_and (bit y i) (bit n i) (bit z i) (bit m i) (h i l) (k i l)

pub answered_or : (y n z m : ℕ) → Answered y n → Answered z m → Answered (bit_or y z) (bit_and n m)
answered_or y n z m h k i l =
    ap₂ ◌||◌ (bit-or y z i) (bit-and n m i) ∙ some_or (bit y i) (bit n i) (bit z i) (bit m i) (h i l) (k i l)

pub answered_not : (y : ℕ) → y < 2 ^ 64 → Answered y (2 ^ 64 - 1 - y)
answered_not y h i l = ap (λ (b : Bool). bit y i || b) (bit_complement 64 y i h l) ∙ some_not (bit y i)

pub allows_and : (y n z m i : ℕ) → i < 64 → Answered y n → Answered z m → allowing (bit (bit_and y z) i) (bit (bit_or n m) i) ≡ meet (allowing (bit y i) (bit n i)) (allowing (bit z i) (bit m i))
allows_and y n z m i l h k =
    ap₂ allowing (bit-and y z i) (bit-or n m i) ∙ allowing_and (bit y i) (bit n i) (bit z i) (bit m i) (h i l) (k i l)

pub allows_or : (y n z m i : ℕ) → i < 64 → Answered y n → Answered z m → allowing (bit (bit_or y z) i) (bit (bit_and n m) i) ≡ join (allowing (bit y i) (bit n i)) (allowing (bit z i) (bit m i))
allows_or y n z m i l h k =
    ap₂ allowing (bit-or y z i) (bit-and n m i) ∙ allowing_or (bit y i) (bit n i) (bit z i) (bit m i) (h i l) (k i l)

pub allows_not : (y i : ℕ) → y < 2 ^ 64 → i < 64 → allowing (bit y i) (bit (2 ^ 64 - 1 - y) i) ≡ cond (bit y i) only_yes only_no
allows_not y i h l = ap (allowing (bit y i)) (bit_complement 64 y i h l) ∙ allowing_not (bit y i)
