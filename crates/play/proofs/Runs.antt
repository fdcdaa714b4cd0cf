-- The runs of plays with legal moves are the complete sequences.
use Rattle.std.proofs.Common.{◌≡◌, ℕ, zero, suc, true, List, [], ◌∷◌, length, replicate, refl, ap, inl, inr, arith}
use Rattle.std.proofs.lemmas.List.{length-replicate}
use Rattle.std.proofs.lemmas.Bool.{cases_Bool, and_parts}
use Rattle.evaluate.specs.Positions.{Game}
use Rattle.play.specs.Sequences.{ended, Sequence, stop, move, behind, Complete}
use Rattle.play.specs.Parts.{run, run_legal}
use Rattle.play.proofs.Prefixes.{complete_on, complete_back}

module _ {Pos Joint : Type 0} (G : Game Pos Joint) where
  -- joint moves for n levels whose run is the sequence
  pub record Played {S : Pos} (n : ℕ) (σ : Sequence G S) : Type 0 where
    pub joints : List Joint
    pub levels : length joints ≡ n
    pub legally : run_legal G S joints ≡ true
    pub runs : run G S joints ≡ behind G σ

  -- levels past the end of play are filled with any joint move
  pub played : Joint → (n : ℕ) {S : Pos} (σ : Sequence G S) → Complete G n σ → Played n σ
  played any zero stop c = record { joints = []; levels = refl; legally = refl; runs = refl }
  played any zero (move A t l σ) c = absurd (omega arith)
  played any (suc n) stop (inl e) = absurd (omega arith)
  played any (suc n) stop (inr h) = record {
    joints = any ∷ replicate n any;
    levels = ap suc (length-replicate n any);
    legally = rw h.1 refl;
    runs = rw h.1 refl;
  }
  played any (suc n) (move {S = S} A t l σ) c =
      let r = played any n σ (complete_back G A t l σ n (suc n) (omega arith) c) in
      record {
        joints = A ∷ r.joints;
        levels = ap suc r.levels;
        legally = rw (t, l) r.legally;
        runs = rw t (ap (λ x. G.next S A ∷ x) r.runs);
      }

  -- a complete sequence that passes the positions of the run
  pub record Passed (S : Pos) (μ : List Joint) : Type 0 where
    pub way : Sequence G S
    pub whole : Complete G (length μ) way
    pub runs : behind G way ≡ run G S μ

  pub passed : (μ : List Joint) (S : Pos) → run_legal G S μ ≡ true → Passed S μ
  passed [] S l = record { way = stop; whole = inl refl; runs = refl }
  passed (A ∷ μ) S l =
      elim (cases_Bool (ended G S)) [
        | inl e ↦ record { way = stop; whole = inr (omega arith, e); runs = rw e refl }
        | inr e ↦
            let h = and_parts (G.legal S A) (run_legal G (G.next S A) μ) (rw e at l) in
            let r = passed μ (G.next S A) h.1 in
            record {
              way = move A e h.0 r.way;
              whole = complete_on G A e h.0 r.way (length μ) (suc (length μ)) (omega arith) r.whole;
              runs = rw e (ap (λ x. G.next S A ∷ x) r.runs);
            }
      ]
