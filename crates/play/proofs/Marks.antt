-- The mark of a play says whether it breaks the part.
use Rattle.std.proofs.Common.{◌≡◌, Bool, true, false, not, List, [], ◌∷◌, Decides, refl}
use Rattle.std.specs.List.{AllByRecursion}
use Rattle.std.proofs.lemmas.Bool.{not-true, not_from_false}
use Rattle.std.proofs.lemmas.Bool.Decides.{Decides-like, Decides-and}
use Rattle.evaluate.specs.Positions.{Game}
use Rattle.property.specs.Trees.{Property, following}
use Rattle.play.specs.declared.part.Part.{Part}
use Rattle.play.specs.declared.part.Part.TheVariants.{Base, Step}
use Rattle.play.specs.Truth.{satisfied}
use Rattle.play.specs.Parts.{assumed, run, run_legal, Against}
use Rattle.play.specs.Marks.{each_satisfied, shown}
use Rattle.play.specs.Claims.{MarksAreRight}

-- a test, and its negation, as facts
test_decides : (t : Bool) → Decides t (t ≡ true)
test_decides t = (λ h. h, λ h. h)

not_decides : (t : Bool) → Decides (not t) (t ≡ false)
not_decides t = (not-true t, not_from_false t)

module _ {Pos Joint : Type 0} (G : Game Pos Joint) (S : Pos) (rest : List Pos) where
  each_decides : (qs : List Property) → Decides (each_satisfied G qs S rest) (AllByRecursion (λ q. satisfied G q S rest ≡ true) qs)
  each_decides [] = (λ _. tt, λ _. refl)
  each_decides (q ∷ qs) = Decides-and _ _ (test_decides (satisfied G q S rest)) (each_decides qs)

  shown_decides : (part : Part) (qs : List Property) (p : Property) → Decides (shown G part qs p S rest) (Against G part qs p S rest)
  shown_decides Base qs p = not_decides (satisfied G p S rest)
  shown_decides Step qs p =
      let beside = Decides-and _ _ (each_decides qs) (not_decides (satisfied G (following p) S rest)) in
      Decides-like _ (λ h. (h.0, h.1.0, h.1.1)) (λ h. (h.0, (h.1, h.2))) (Decides-and _ _ (test_decides (satisfied G p S rest)) beside)

module _ {Pos Joint : Type 0} (G : Game Pos Joint) where
  pub marks_are_right : MarksAreRight G
  marks_are_right part docket p play is =
      let S = play.start in
      let qs = assumed p docket in
      let rest = run G S play.joints in
      let d = Decides-and _ _ (test_decides (run_legal G S play.joints)) (shown_decides G S rest part qs p) in
      (λ b. d.1 (b.legally, b.against), λ h. let k = d.0 h in record { is_play = is; legally = k.0; against = k.1 })
