-- What the laws of a form give of the value of a part.
use Rattle.std.proofs.Common.{◌≡◌, Bool, true, refl, ap, subst}
use Rattle.truth.specs.Forms.{Answers, only_no, Meaning, Allows, SettledEverywhere, Laws}
use Rattle.evaluate.specs.Evaluate.{Ops, bool_ops}
use Rattle.evaluate.specs.Levels.{at_level}
use Rattle.evaluate.specs.Meanings.{meanings}
use Rattle.evaluate.specs.Positions.{holds_in}
use Rattle.evaluate.proofs.Standing.{allows_kept, settled_kept, is_just}
use Rattle.play.specs.Marks.{marked}
use Rattle.play.proofs.Marks.{marks_are_right}
use Rattle.parts.specs.Claims.{LastMovesDoNotMatter, PartsAreSound, PartsAreSettled, MarksAreAllowed, MarksAreExact, ClosedMeansUnbroken}
use Rattle.parts.specs.Plays.{made, by_number}
use Rattle.parts.specs.Values.{part_value}
use Rattle.parts.proofs.Alike.{part_alike}
use Rattle.parts.proofs.Reading.{values_are_marks}

pub last_moves_do_not_matter : {V : Type 0} (o : Ops V) → LastMovesDoNotMatter o
last_moves_do_not_matter o R start doing other part docket p hs h same =
    part_alike o o (λ u v. u ≡ v) (record { yes_kept = refl; no_kept = refl; and_kept = λ a b c d r t. cc; or_kept = λ a b c d r t. cc }) (λ u v e. ap o.not' e)
    R start doing start other part docket p hs h (λ f l. refl) same

no_yes : (v : Answers) → v ≡ only_no → Allows v true → ⊥
no_yes v e a = subst (λ (u : Answers). Allows u true) e a

module _ {World : Type 0} {neg : Meaning World → Meaning World} {conj disj : Meaning World → Meaning World → Meaning World} (laws : Laws neg conj disj) where
  abbrev o : Ops (Meaning World)
  o = meanings neg conj disj

  pub sound : PartsAreSound o
  sound R w start doing s d part docket p hs h inputs =
      part_alike o bool_ops (λ v b. Allows (v w) b) (allows_kept laws w) (λ v b. laws.neg_sound v w b) R start doing s d part docket p hs h inputs.0 inputs.1

  pub settled : PartsAreSettled o
  settled R start doing part docket p hs h inputs =
      part_alike o o (λ v _. SettledEverywhere v) (settled_kept laws) (λ v _. laws.neg_settled v) R start doing start doing part docket p hs h inputs.0 inputs.1

  pub allowed : MarksAreAllowed o
  allowed R G reads w start doing part docket p hs h play e inputs =
      subst (λ (b : Bool). Allows (part_value o R (at_level o R start doing) part docket p w) b) (values_are_marks R G reads part docket p hs h play e)
      (sound R w start doing (holds_in play.start) (made play.joints) part docket p hs h inputs)

  pub exact : MarksAreExact o
  exact R G reads w start doing part docket p hs h play e inputs one =
      is_just _ (marked (by_number G) part docket p play) (allowed R G reads w start doing part docket p hs h play e inputs) (settled R start doing part docket p hs h one w)

  pub unbroken : ClosedMeansUnbroken o
  unbroken R G reads w start doing part docket p hs h closed play inputs b =
      no_yes _ closed (subst (λ (c : Bool). Allows (part_value o R (at_level o R start doing) part docket p w) c) ((marks_are_right (by_number G) part docket p play b.is_play).0 b)
      (allowed R G reads w start doing part docket p hs h play b.is_play.levels inputs))
