-- A property whose base and step hold is true everywhere.
use Rattle.std.proofs.Common.{◌≡◌, ◌+◌, ◌≤◌, true, false, List, [], ◌∷◌, get_or, refl, subst, inl, inr, arith}
use Rattle.std.specs.List.{All, AllByRecursion}
use Rattle.std.proofs.lemmas.Bool.{cases_Bool, leb-true, leb-false}
use Rattle.std.proofs.lemmas.List.Elements.{All-from_recursion, recursion_from_All, All-nil, All-push, All-filter, filter_passes}
use Rattle.evaluate.specs.Positions.{Game}
use Rattle.property.specs.Trees.{Property, degree}
use Rattle.play.specs.declared.part.Part.TheVariants.{Base, Step}
use Rattle.play.specs.Sequences.{ended, Sequence, stop, move, behind, reached, Complete, Reachable}
use Rattle.play.specs.Truth.{satisfied, TrueAt, TrueEverywhere}
use Rattle.play.specs.Parts.{may_assume, assumed, BreaksBeside, HoldsBeside, Holds, Grown, empty, added}
use Rattle.play.specs.Claims.{Induction, DocketsAreTrue, BrokenBaseRefutes}
use Rattle.play.proofs.Prefixes.{complete_on, longer_sequences_satisfy}
use Rattle.play.proofs.Parts.{StepsFrom, base_true, true_base, step_true}

-- each assumed property has a degree of at most n + 1
shallow_each : (p : Property) (docket : List Property) → All (λ q. degree q ≤ degree p + 1) (assumed p docket)
shallow_each p docket k d lt =
    leb-true _ (degree p + 1) (filter_passes (λ q. may_assume (degree p) (degree q)) docket k d lt)

pub assumed_shallow : (p : Property) (docket : List Property) → AllByRecursion (λ q. degree q ≤ degree p + 1) (assumed p docket)
assumed_shallow p docket = recursion_from_All (λ q. degree q ≤ degree p + 1) (assumed p docket) (shallow_each p docket)

-- what holds of each assumed property, said of the docket, and back
pub all_assumed : (P : Property → Type 0) (p : Property) (docket : List Property) → AllByRecursion (λ q. degree q ≤ degree p + 1 → P q) docket → AllByRecursion P (assumed p docket)
all_assumed P p docket h =
    let shallow : Property → Type 0 = λ q. degree q ≤ degree p + 1 → P q in
    recursion_from_All P (assumed p docket) (λ k d lt.
    All-filter (λ q. may_assume (degree p) (degree q)) shallow docket (All-from_recursion shallow docket h) k d lt (shallow_each p docket k d lt))

pub assumed_all : (P : Property → Type 0) (p : Property) (docket : List Property) → AllByRecursion P (assumed p docket) → AllByRecursion (λ q. degree q ≤ degree p + 1 → P q) docket
assumed_all P p [] h = tt
assumed_all P p (q ∷ docket) h =
    elim (cases_Bool (may_assume (degree p) (degree q))) [
      | inl e ↦ let k : P q × AllByRecursion P (assumed p docket) = rw e at h in (λ _. k.0, assumed_all P p docket k.1)
      | inr e ↦ let k : AllByRecursion P (assumed p docket) = rw e at h in (λ l. absurd (omega (arith, leb-false (degree q) (degree p + 1) e)), assumed_all P p docket k)
    ]

module _ {Pos Joint : Type 0} (G : Game Pos Joint) (qs : List Property) (p : Property) (shallow : AllByRecursion (λ q. degree q ≤ degree p + 1) qs) where
  -- one legal move on
  true_next : {S : Pos} → StepsFrom G qs p S → All (λ q. TrueAt G q S) qs → TrueAt G p S → (A : Joint) → ended G S ≡ false → G.legal S A ≡ true → TrueAt G p (G.next S A)
  true_next {S} steps beside here A t l τ c =
      let σ : Sequence G S = move A t l τ in
      let d : Complete G (degree p + 1) σ = complete_on G A t l τ (degree p) (degree p + 1) refl c in
      steps σ d (longer_sequences_satisfy G p S here (degree p + 1) (omega arith) σ d)
      (recursion_from_All (λ q. satisfied G q S (behind G σ) ≡ true) qs
      (λ k e lt. longer_sequences_satisfy G (get_or qs k e) S (beside k e lt) (degree p + 1) (All-from_recursion (λ q. degree q ≤ degree p + 1) qs shallow k e lt) σ d))

  -- along a sequence
  true_along : {S : Pos} (σ : Sequence G S) → ((τ : Sequence G S) → StepsFrom G qs p (reached G τ)) → ((τ : Sequence G S) → All (λ q. TrueAt G q (reached G τ)) qs) → TrueAt G p S → TrueAt G p (reached G σ)
  true_along stop steps beside here = here
  true_along (move A t l σ) steps beside here =
      true_along σ (λ τ. steps (move A t l τ)) (λ τ. beside (move A t l τ)) (true_next (steps stop) (beside stop) here A t l)

  -- It is enough that no play from a reachable position breaks the step.
  pub induction_from : Joint → AllByRecursion (TrueEverywhere G) qs → HoldsBeside G Base qs p
      → ((S : Pos) (μ : List Joint) → Reachable G S → ¬ BreaksBeside G Step qs p (record { start = S; joints = μ })) → TrueEverywhere G p
  induction_from any beside base step S r =
      let arrived : (τ : Sequence G G.initial) → Reachable G (reached G τ) = λ τ. record { way = τ; arrives = refl } in
      subst (TrueAt G p) r.arrives (true_along r.way
      (λ τ. step_true G any qs p (reached G τ) (λ μ. step (reached G τ) μ (arrived τ)))
      (λ τ k d lt. All-from_recursion (TrueEverywhere G) qs beside k d lt (reached G τ) (arrived τ))
      (base_true G any qs p base))

module _ {Pos Joint : Type 0} (G : Game Pos Joint) where
  pub induction : Induction G
  induction any docket p beside base step =
      induction_from G (assumed p docket) p (assumed_shallow p docket) any beside base (λ S μ r. step (record { start = S; joints = μ }))

  beside_all : Joint → (docket : List Property) (p : Property) → All (TrueEverywhere G) docket → Holds G Base docket p → Holds G Step docket p → TrueEverywhere G p
  beside_all any docket p beside =
      let assumed_true = All-filter (λ q. may_assume (degree p) (degree q)) (TrueEverywhere G) docket beside in
      induction any docket p (recursion_from_All (TrueEverywhere G) (assumed p docket) assumed_true)

  -- beside a docket of which all is true everywhere
  pub induction_beside : Joint → (docket : List Property) (p : Property) → AllByRecursion (TrueEverywhere G) docket → Holds G Base docket p → Holds G Step docket p → TrueEverywhere G p
  induction_beside any docket p beside = beside_all any docket p (All-from_recursion (TrueEverywhere G) docket beside)

  pub dockets_are_true : DocketsAreTrue G
  dockets_are_true any docket grown = recursion_from_All (TrueEverywhere G) docket (grown_true grown)
    where
      grown_true : {ds : List Property} → Grown G ds → All (TrueEverywhere G) ds
      grown_true empty = All-nil (TrueEverywhere G)
      grown_true (added {docket = ds} p g base step) =
          All-push (TrueEverywhere G) ds p (grown_true g) (beside_all any ds p (grown_true g) base step)

  pub broken_base_refutes : BrokenBaseRefutes G
  broken_base_refutes docket p play b everywhere =
      true_base G (assumed p docket) p (everywhere G.initial (record { way = stop; arrives = refl })) play b
