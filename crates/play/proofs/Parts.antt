-- What base and step say of sequences.
use Rattle.std.proofs.Common.{◌≡◌, ◌+◌, true, List, refl}
use Rattle.std.specs.List.{AllByRecursion}
use Rattle.std.proofs.lemmas.Bool.{both_ways, true_from_ne_false}
use Rattle.evaluate.specs.Positions.{Game}
use Rattle.property.specs.Trees.{Property, following, degree}
use Rattle.play.specs.declared.part.Part.TheVariants.{Base, Step}
use Rattle.play.specs.Sequences.{Sequence, behind, Complete}
use Rattle.play.specs.Truth.{satisfied, TrueAt}
use Rattle.play.specs.Parts.{assumed, run, BreaksBeside, HoldsBeside}
use Rattle.play.specs.Claims.{BaseSays, StepSays}
use Rattle.play.proofs.Runs.{played, passed}

module _ {Pos Joint : Type 0} (G : Game Pos Joint) where
  -- what the step says of the sequences from S
  abbrev pub StepsFrom : List Property → Property → Pos → Type 0
  StepsFrom qs p S =
      (σ : Sequence G S) → Complete G (degree p + 1) σ → satisfied G p S (behind G σ) ≡ true
      → AllByRecursion (λ q. satisfied G q S (behind G σ) ≡ true) qs → satisfied G (following p) S (behind G σ) ≡ true

  pub base_true : Joint → (qs : List Property) (p : Property) → HoldsBeside G Base qs p → TrueAt G p G.initial
  base_true any qs p base σ c =
      let r = played G any (degree p) σ c in
      true_from_ne_false (satisfied G p G.initial (behind G σ))
      (λ e. base (record { start = G.initial; joints = r.joints })
      (record { is_play = record { starts = refl; levels = r.levels }; legally = r.legally; against = rw r.runs e }))

  pub true_base : (qs : List Property) (p : Property) → TrueAt G p G.initial → HoldsBeside G Base qs p
  true_base qs p at_start play b =
      let S = play.start in
      let r = passed G play.joints S b.legally in
      let true_here : TrueAt G p S = rw b.is_play.starts at_start in
      both_ways (satisfied G p S (run G S play.joints)) b.against
      (rw r.runs at (true_here r.way (rw b.is_play.levels at r.whole)))

  -- the step from one position: only plays that start there matter
  pub step_true : Joint → (qs : List Property) (p : Property) (S : Pos) → ((μ : List Joint) → ¬ BreaksBeside G Step qs p (record { start = S; joints = μ })) → StepsFrom qs p S
  step_true any qs p S step σ c here beside =
      let r = played G any (degree p + 1) σ c in
      true_from_ne_false (satisfied G (following p) S (behind G σ))
      (λ e. step r.joints
      (record { is_play = record { starts = tt; levels = r.levels }; legally = r.legally; against = rw r.runs (here, beside, e) }))

  pub true_step : (qs : List Property) (p : Property) → ((S : Pos) → StepsFrom qs p S) → HoldsBeside G Step qs p
  true_step qs p steps play b =
      let S = play.start in
      let r = passed G play.joints S b.legally in
      let rest = run G S play.joints in
      both_ways (satisfied G (following p) S rest) b.against.2
      (rw r.runs at (steps S r.way (rw b.is_play.levels at r.whole) (rw r.runs b.against.0) (rw r.runs b.against.1)))

  pub base_says : BaseSays G
  base_says any docket p = (base_true any (assumed p docket) p, true_base (assumed p docket) p)

  pub step_says : StepSays G
  step_says any docket p = (λ step S. step_true any (assumed p docket) p S (λ μ. step (record { start = S; joints = μ })), true_step (assumed p docket) p)
