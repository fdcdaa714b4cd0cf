-- A property looks no further ahead than its degree: what is true at a position is satisfied by longer complete sequences.
use Rattle.std.proofs.Common.{◌≡◌, ℕ, zero, suc, ◌+◌, ◌≤◌, true, false, not, ◌&&◌, List, [], ◌∷◌, take, sym, refl, ap, ◌∙◌, ap₂, inl, inr, arith}
use Rattle.std.proofs.lemmas.Bool.{both_ways}
use Rattle.evaluate.specs.Positions.{Game}
use Rattle.property.specs.Trees.{Properties, atom, isn't, all, following, none, more, degree, degrees}
use Rattle.play.specs.Sequences.{ended, Sequence, stop, move, moves, reached, behind, Complete}
use Rattle.play.specs.Truth.{satisfied, all_satisfied}
use Rattle.play.specs.Claims.{PrefixesDecide, LongerSequencesSatisfy}

module _ {Pos Joint : Type 0} (G : Game Pos Joint) where
  mutual
    pub prefixes_decide : PrefixesDecide G
    prefixes_decide (atom a) d h S rest = refl
    prefixes_decide (isn't p) d h S rest = ap not (prefixes_decide p d h S rest)
    prefixes_decide (all ps) d h S rest = all_prefixes ps d h S rest
    prefixes_decide (following p) zero h S rest = absurd (omega arith)
    prefixes_decide (following p) (suc d) h S [] = refl
    prefixes_decide (following p) (suc d) h S (T ∷ rest) = prefixes_decide p d (omega arith) T rest

    all_prefixes : (ps : Properties) (d : ℕ) → degrees ps ≤ d → (S : Pos) (rest : List Pos) → all_satisfied G ps S (take d rest) ≡ all_satisfied G ps S rest
    all_prefixes none d h S rest = refl
    all_prefixes (more p ps) d h S rest = ap₂ ◌&&◌ (prefixes_decide p d (omega arith) S rest) (all_prefixes ps d (omega arith) S rest)

  -- complete sequences with one move more, or less
  module _ {S : Pos} (A : Joint) (t : ended G S ≡ false) (l : G.legal S A ≡ true) (σ : Sequence G (G.next S A)) (n m : ℕ) (e : m ≡ n + 1) where
    pub complete_on : Complete G n σ → Complete G m (move A t l σ)
    complete_on (inl c) = inl (omega arith)
    complete_on (inr c) = inr (omega arith, c.1)

    pub complete_back : Complete G m (move A t l σ) → Complete G n σ
    complete_back (inl c) = inl (omega arith)
    complete_back (inr c) = inr (omega arith, c.1)

  -- a complete sequence that ends where play has not ended has all its moves
  pub all_moves : {S : Pos} (n : ℕ) (σ : Sequence G S) → ended G (reached G σ) ≡ false → Complete G n σ → moves G σ ≡ n
  all_moves n σ e (inl c) = c
  all_moves n σ e (inr c) = absurd (both_ways (ended G (reached G σ)) e c.1)

  -- the first d moves of a sequence
  cut : ℕ → {S : Pos} → Sequence G S → Sequence G S
  cut zero σ = stop
  cut (suc d) stop = stop
  cut (suc d) (move A t l σ) = move A t l (cut d σ)

  cut_behind : (d : ℕ) {S : Pos} (σ : Sequence G S) → behind G (cut d σ) ≡ take d (behind G σ)
  unfolding cut
  cut_behind zero σ = refl
  cut_behind (suc d) stop = refl
  cut_behind (suc d) (move {S = S} A t l σ) = ap (λ x. G.next S A ∷ x) (cut_behind d σ)

  cut_complete : (d n : ℕ) {S : Pos} (σ : Sequence G S) → d ≤ n → Complete G n σ → Complete G d (cut d σ)
  unfolding cut
  cut_complete zero n σ h c = inl refl
  cut_complete (suc d) n stop h (inl e) = absurd (omega arith)
  cut_complete (suc d) n stop h (inr e) = inr (omega arith, e.1)
  cut_complete (suc d) zero (move A t l σ) h c = absurd (omega arith)
  cut_complete (suc d) (suc n) (move A t l σ) h c =
      complete_on A t l (cut d σ) d (suc d) (omega arith) (cut_complete d n σ (omega arith) (complete_back A t l σ n (suc n) (omega arith) c))

  pub longer_sequences_satisfy : LongerSequencesSatisfy G
  longer_sequences_satisfy p S true_here m h σ c =
      sym (prefixes_decide p (degree p) (omega arith) S (behind G σ)) ∙ sym (ap (satisfied G p S) (cut_behind (degree p) σ)) ∙
      true_here (cut (degree p) σ) (cut_complete (degree p) m σ h c)
