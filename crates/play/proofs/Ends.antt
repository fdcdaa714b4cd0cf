-- Following where play has ended, and truth where play is stuck.
use Rattle.std.proofs.Common.{◌≡◌, ◌<◌, true, false, [], sym, refl, inl, inr, arith}
use Rattle.std.proofs.lemmas.Bool.{both_ways, false≢true}
use Rattle.evaluate.specs.Positions.{Game}
use Rattle.property.specs.Trees.{Property, isn't, following, degree}
use Rattle.play.specs.Sequences.{ended, stop, move, Stuck}
use Rattle.play.specs.Truth.{satisfied, TrueAt}
use Rattle.play.specs.Claims.{NegationsOfFollowing, StuckPositionsCount}
use Rattle.play.proofs.Prefixes.{all_moves}

module _ {Pos Joint : Type 0} (G : Game Pos Joint) where
  following_at_end : (p : Property) (S : Pos) → ended G S ≡ true → TrueAt G (following p) S
  following_at_end p S e stop c = refl
  following_at_end p S e (move A t l σ) c = absurd (both_ways (ended G S) t e)

  not_following_at_end : (p : Property) (S : Pos) → ended G S ≡ true → ¬ TrueAt G (isn't (following p)) S
  not_following_at_end p S e true_here = false≢true (true_here stop (inr (omega arith, e)))

  not_out : (p : Property) (S : Pos) → ended G S ≡ false → TrueAt G (isn't (following p)) S → TrueAt G (following (isn't p)) S
  not_out p S e h stop c = refl
  not_out p S e h (move A t l σ) c = h (move A t l σ) c

  not_in : (p : Property) (S : Pos) → ended G S ≡ false → TrueAt G (following (isn't p)) S → TrueAt G (isn't (following p)) S
  not_in p S e h stop c = absurd (omega (arith, all_moves G (degree (following p)) stop e c))
  not_in p S e h (move A t l σ) c = h (move A t l σ) c

  pub negations_of_following : NegationsOfFollowing G
  negations_of_following p S = record {
    at_end = λ e. (following_at_end p S e, following_at_end (isn't p) S e, not_following_at_end p S e);
    elsewhere = λ e. (not_out p S e, not_in p S e);
  }

  here_out : (p : Property) (S : Pos) → degree p ≡ 0 → satisfied G p S [] ≡ true → TrueAt G p S
  here_out p S z h stop c = h
  here_out p S z h (move A t l σ) c = absurd (omega arith)

  ahead_true : (p : Property) (S : Pos) → 0 < degree p → Stuck G S → TrueAt G p S
  ahead_true p S h s stop c = absurd (omega (arith, all_moves G (degree p) stop s.going c))
  ahead_true p S h s (move A t l σ) c = absurd (both_ways (G.legal S A) (s.no_move A) l)

  pub stuck_positions_count : StuckPositionsCount G
  stuck_positions_count p S = record {
    here = λ z. (λ h. h stop (inl (sym z)), here_out p S z);
    ahead = ahead_true p S;
  }
