-- The three-way form: one world.
use Rattle.std.specs.Prelude.{Bool, true, false, cond, ◌&&◌, ◌||◌}
use Rattle.truth.specs.Forms.{only_yes, only_no, both, Meaning}
use Rattle.truth.specs.declared.three.Three.{Three}
use Rattle.truth.specs.declared.three.Three.TheVariants.{Yes, No, Open}

-- the one world
pub data Only : Type 0 where
  here : Only

-- the answers that each case allows
abbrev pub means : Three → Meaning Only
means Yes w = only_yes
means No w = only_no
means Open w = both

-- the case that allows just one answer
abbrev pub answer : Bool → Three
answer true = Yes
answer false = No

abbrev pub is_yes : Three → Bool
is_yes Yes = true
is_yes No = false
is_yes Open = false

abbrev pub is_no : Three → Bool
is_no Yes = false
is_no No = true
is_no Open = false

abbrev pub three_not : Three → Three
three_not Yes = No
three_not No = Yes
three_not Open = Open

-- no if an operand is no, yes if each is yes, else open
abbrev pub three_and : Three → Three → Three
three_and a b = cond (is_no a || is_no b) No (cond (is_yes a && is_yes b) Yes Open)

-- yes if an operand is yes, no if each is no, else open
abbrev pub three_or : Three → Three → Three
three_or a b = cond (is_yes a || is_yes b) Yes (cond (is_no a && is_no b) No Open)
