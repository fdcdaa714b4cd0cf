-- What a property means: on a sequence, at a position, and everywhere.
use Rattle.std.specs.Prelude.{◌≡◌, Bool, true, not, ◌&&◌, List, [], ◌∷◌}
use Rattle.evaluate.specs.Positions.{Game}
use Rattle.property.specs.Trees.{Property, Properties, atom, isn't, all, following, none, more, degree}
use Rattle.play.specs.Sequences.{Sequence, behind, Complete, Reachable}

module _ {Pos Joint : Type 0} (G : Game Pos Joint) where
  abbrev mutual
    -- on a first position and the positions behind it, of a sequence or of a run
    pub satisfied : Property → Pos → List Pos → Bool
    satisfied (atom a) S rest = G.holds S a
    satisfied (isn't p) S rest = not (satisfied p S rest)
    satisfied (all ps) S rest = all_satisfied ps S rest
    satisfied (following p) S [] = true
    satisfied (following p) S (T ∷ rest) = satisfied p T rest

    pub all_satisfied : Properties → Pos → List Pos → Bool
    all_satisfied none S rest = true
    all_satisfied (more p ps) S rest = satisfied p S rest && all_satisfied ps S rest

  -- A property of degree n is true at a position if every n-complete sequence from there satisfies it.
  abbrev pub TrueAt : Property → Pos → Type 0
  TrueAt p S = (σ : Sequence G S) → Complete G (degree p) σ → satisfied p S (behind G σ) ≡ true

  abbrev pub TrueEverywhere : Property → Type 0
  TrueEverywhere p = (S : Pos) → Reachable G S → TrueAt p S
