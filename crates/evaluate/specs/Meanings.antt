-- The meanings of a truth form as values: which answers are allowed in each world.
use Rattle.truth.specs.Forms.{Answers, only_yes, only_no, Meaning}
use Rattle.truth.specs.Kleene.{flip, meet, join, neg, conj, disj}
use Rattle.evaluate.specs.Evaluate.{Ops}

abbrev pub meanings : {World : Type 0} → (Meaning World → Meaning World) → (Meaning World → Meaning World → Meaning World)
    → (Meaning World → Meaning World → Meaning World) → Ops (Meaning World)
meanings not and or = record { yes' = λ _. only_yes; no' = λ _. only_no; not' = not; and' = and; or' = or }

-- Kleene's operations: on the answers of one world, and world by world
abbrev pub kleene : Ops Answers
kleene = record { yes' = only_yes; no' = only_no; not' = flip; and' = meet; or' = join }

abbrev pub kleene_each : (World : Type 0) → Ops (Meaning World)
kleene_each World = meanings {World = World} neg conj disj
