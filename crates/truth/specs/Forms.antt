-- Truth forms: worlds, the answers that a value allows in each, and the laws of the operations.
use Rattle.std.specs.Prelude.{Bool, true, false, not, ◌&&◌, ◌||◌}

-- the answers that one world allows
pub data Answers : Type 0 where
  only_yes : Answers
  only_no : Answers
  both : Answers

-- the answer yes is true, the answer no is false
abbrev pub Allows : Answers → Bool → Type 0
Allows only_yes true = Unit {0}
Allows only_yes false = ⊥
Allows only_no true = ⊥
Allows only_no false = Unit {0}
Allows both x = Unit {0}

-- one answer is allowed and not the other
abbrev pub Settled : Answers → Type 0
Settled only_yes = Unit {0}
Settled only_no = Unit {0}
Settled both = ⊥

-- what a value means: the answers that it allows in each world
abbrev pub Meaning : Type 0 → Type 0
Meaning World = World → Answers

abbrev pub SettledEverywhere : {World : Type 0} → Meaning World → Type 0
SettledEverywhere {World} a = (w : World) → Settled (a w)

-- sound: in each world the result allows the combination of any answers that the operands allow there
abbrev pub Sound₁ : {World : Type 0} → (Bool → Bool) → (Meaning World → Meaning World) → Type 0
Sound₁ {World} f op = (a : Meaning World) (w : World) (x : Bool) → Allows (a w) x → Allows (op a w) (f x)

abbrev pub Sound₂ : {World : Type 0} → (Bool → Bool → Bool) → (Meaning World → Meaning World → Meaning World) → Type 0
Sound₂ {World} f op =
    (a b : Meaning World) (w : World) (x y : Bool) → Allows (a w) x → Allows (b w) y → Allows (op a b w) (f x y)

-- settled: where every operand has one answer in every world, so has the result
abbrev pub Settles₁ : {World : Type 0} → (Meaning World → Meaning World) → Type 0
Settles₁ {World} op = (a : Meaning World) → SettledEverywhere a → SettledEverywhere (op a)

abbrev pub Settles₂ : {World : Type 0} → (Meaning World → Meaning World → Meaning World) → Type 0
Settles₂ {World} op =
    (a b : Meaning World) → SettledEverywhere a → SettledEverywhere b → SettledEverywhere (op a b)

-- the laws of a truth form's not, and, or
pub record Laws {World : Type 0} (neg : Meaning World → Meaning World) (conj disj : Meaning World → Meaning World → Meaning World) : Type 0 where
  pub neg_sound : Sound₁ not neg
  pub conj_sound : Sound₂ ◌&&◌ conj
  pub disj_sound : Sound₂ ◌||◌ disj
  pub neg_settled : Settles₁ neg
  pub conj_settled : Settles₂ conj
  pub disj_settled : Settles₂ disj

-- more than the laws ask: settled in each world by itself
abbrev pub SettlesByWorld : {World : Type 0} → (Meaning World → Meaning World) → (Meaning World → Meaning World → Meaning World) → (Meaning World → Meaning World → Meaning World) → Type 0
SettlesByWorld {World} neg conj disj =
    ((a : Meaning World) (w : World) → Settled (a w) → Settled (neg a w))
    × ((a b : Meaning World) (w : World) → Settled (a w) → Settled (b w) → Settled (conj a b w))
    × ((a b : Meaning World) (w : World) → Settled (a w) → Settled (b w) → Settled (disj a b w))
