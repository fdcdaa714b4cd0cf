-- The worked example: not both live and old.
use Rattle.std.proofs.Common.{true, List, [], ◌∷◌, refl, inl, arith}
use Rattle.std.proofs.lemmas.Bool.{false≢true, true≢false}
use Rattle.play.specs.declared.part.Part.TheVariants.{Base, Step}
use Rattle.play.specs.Sequences.{stop, move}
use Rattle.play.specs.Parts.{Breaks, Holds}
use Rattle.play.specs.Example.{Fluents, Turn, fresh, late, turning, lingering, not_both, Worked}
use Rattle.play.proofs.Parts.{true_base}
use Rattle.play.proofs.Induction.{induction}

turning_base : Holds turning Base [] not_both
turning_base = true_base turning [] not_both (λ σ c. refl)

turning_step : (S : Fluents) (μ : List Turn) → ¬ Breaks turning Step [] not_both (record { start = S; joints = μ })
turning_step S [] b = omega (arith, b.is_play.levels)
turning_step S (fresh ∷ μ) b = true≢false b.against.2
turning_step S (late ∷ μ) b = true≢false b.against.2

turning_holds : Holds turning Step [] not_both
turning_holds play = turning_step play.start play.joints

pub worked : Worked
worked = record {
  base_holds = turning_base;
  step_holds = turning_holds;
  so_true = induction turning fresh [] not_both tt turning_base turning_holds;
  lingering_base = true_base lingering [] not_both (λ σ c. refl);
  lingering_step = record { is_play = record { starts = tt; levels = refl }; legally = refl; against = (refl, tt, refl) };
  lingering_untrue = λ h. false≢true (h (record { live = true; old = true }) (record { way = move late refl refl stop; arrives = refl }) stop (inl refl));
}
