-- Base and step of a property of degree 0 hold with one of degree 2 assumed, and it is not true everywhere.
use Rattle.std.proofs.Common.{◌≡◌, Bool, true, false, List, [], ◌∷◌, length, refl, inl, arith}
use Rattle.std.proofs.lemmas.Bool.{false≢true, both_ways, and_parts}
use Rattle.evaluate.specs.Positions.{Game}
use Rattle.property.specs.Trees.{Property, degree}
use Rattle.play.specs.declared.part.Part.TheVariants.{Step}
use Rattle.play.specs.Sequences.{stop, move, Reachable}
use Rattle.play.specs.Truth.{satisfied, TrueEverywhere}
use Rattle.play.specs.Parts.{run, run_legal, BreaksBeside}
use Rattle.play.specs.Stranded.{Only, onward, stranded, restless, fluent, vacuous, cut_short, Unsound, UnsoundWhenStuck, UnsoundWhenCut}
use Rattle.play.proofs.Prefixes.{all_moves}

-- A step of the fluent has one level. Where an assumed property fails on each run of one move, no play breaks it.
one_level : (G : Game Bool Only) (q : Property) → ((S : Bool) (A : Only) → satisfied G q S (run G S (A ∷ [])) ≡ false)
    → (S : Bool) (μ : List Only) → ¬ BreaksBeside G Step (q ∷ []) fluent (record { start = S; joints = μ })
one_level G q fails S [] b = omega (arith, b.is_play.levels)
one_level G q fails S (A ∷ []) b = both_ways _ (fails S A) b.against.1.0
one_level G q fails S (A ∷ B ∷ μ) b = omega (arith, b.is_play.levels)

-- no sequence has two moves
vacuous_true : TrueEverywhere stranded vacuous
vacuous_true S r stop c = absurd (omega (arith, all_moves stranded (degree vacuous) (stop {S = S}) refl c))
vacuous_true S r (move A t l stop) c = absurd (omega (arith, all_moves stranded (degree vacuous) (move {S = S} A t l stop) refl c))
vacuous_true S r (move A t l (move B u m σ)) c = absurd (false≢true m)

one_move : Reachable stranded false
one_move = record { way = move onward refl refl stop; arrives = refl }

stranded_unsound : Unsound stranded vacuous fluent
stranded_unsound = record {
  too_deep = refl;
  assumption = vacuous_true;
  base_holds = λ play b. both_ways play.start b.against b.is_play.starts;
  step_holds = λ play. one_level stranded vacuous (λ S A. refl) play.start play.joints;
  untrue = λ h. false≢true (h false one_move stop (inl refl));
  caught = record { is_play = record { starts = tt; levels = refl }; legally = refl; against = (refl, tt, refl) };
}

no_longer : (S : Bool) (μ : List Only) → length μ ≡ degree vacuous → run_legal stranded S μ ≡ true → ⊥
no_longer S [] e l = omega arith
no_longer S (A ∷ []) e l = omega arith
no_longer S (A ∷ B ∷ μ) e l = false≢true (and_parts S false l).1

pub unsound_when_stuck : UnsoundWhenStuck
unsound_when_stuck = record {
  unsound = stranded_unsound;
  reaches = one_move;
  stuck = record { going = refl; no_move = λ A. refl };
  no_longer = no_longer;
}

cut_short_true : TrueEverywhere restless cut_short
cut_short_true S r stop c = absurd (omega (arith, all_moves restless (degree cut_short) (stop {S = S}) refl c))
cut_short_true S r (move A t l stop) c = absurd (omega (arith, all_moves restless (degree cut_short) (move {S = S} A t l stop) refl c))
cut_short_true S r (move A t l (move B u m σ)) c = refl

pub unsound_when_cut : UnsoundWhenCut
unsound_when_cut = record {
  too_deep = refl;
  assumption = cut_short_true;
  base_holds = λ play b. both_ways play.start b.against b.is_play.starts;
  step_holds = λ play. one_level restless cut_short (λ S A. refl) play.start play.joints;
  untrue = λ h. false≢true (h false (record { way = move onward refl refl stop; arrives = refl }) stop (inl refl));
  caught = record { is_play = record { starts = tt; levels = refl }; legally = refl; against = (refl, tt, refl) };
}
