-- Kleene's three-valued operations: on the answers of one world, and on meanings world by world.
use Rattle.truth.specs.Forms.{Answers, only_yes, only_no, both, Meaning}

abbrev pub flip : Answers → Answers
flip only_yes = only_no
flip only_no = only_yes
flip both = both

-- no if an operand is no, yes if each is yes, else both
abbrev pub meet : Answers → Answers → Answers
meet only_no b = only_no
meet only_yes b = b
meet both only_no = only_no
meet both only_yes = both
meet both both = both

-- yes if an operand is yes, no if each is no, else both
abbrev pub join : Answers → Answers → Answers
join only_yes b = only_yes
join only_no b = b
join both only_yes = only_yes
join both only_no = both
join both both = both

abbrev pub neg : {World : Type 0} → Meaning World → Meaning World
neg a w = flip (a w)

abbrev pub conj : {World : Type 0} → Meaning World → Meaning World → Meaning World
conj a b w = meet (a w) (b w)

abbrev pub disj : {World : Type 0} → Meaning World → Meaning World → Meaning World
disj a b w = join (a w) (b w)
