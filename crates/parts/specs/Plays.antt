-- What a play gives of each level, and properties whose atoms are still.
use Rattle.std.specs.Prelude.{ℕ, zero, suc, ◌-◌, Bool, false, List, [], ◌∷◌}
use Rattle.rules.specs.declared.opened.Rules.{Rules}
use Rattle.rules.specs.Opens.{moves_of}
use Rattle.evaluate.specs.Evaluate.{bool_ops}
use Rattle.evaluate.specs.Levels.{at_level}
use Rattle.evaluate.specs.Positions.{Position, holds_in, Joint, does, Game}
use Rattle.property.specs.Taken.{StillAtom}
use Rattle.property.specs.Trees.{Property, Properties, atom, isn't, all, following, none, more}
use Rattle.play.specs.Parts.{Play}

-- The does atoms of level j. At the last level no move is made.
abbrev pub made : {ns : List ℕ} → List (Joint ns) → ℕ → ℕ → Bool
made [] j c = false
made (A ∷ μ) zero c = does A c
made (A ∷ μ) (suc j) c = made μ j c

abbrev pub played : (R : Rules) → Play Position (Joint (moves_of R)) → ℕ → List Bool
played R play = at_level bool_ops R (holds_in play.start) (made play.joints)

-- Properties name atoms by number, from 1: the same game, read so.
abbrev pub by_number : {Pos Joint : Type 0} → Game Pos Joint → Game Pos Joint
by_number G = record {
  initial = G.initial;
  terminal = G.terminal;
  legal = G.legal;
  next = G.next;
  holds = λ S a. G.holds S (a - 1);
}

-- each atom in a property is one to which moves do not matter
abbrev mutual
  pub StillIn : Rules → Property → Type 0
  StillIn R (atom a) = StillAtom R a
  StillIn R (isn't p) = StillIn R p
  StillIn R (all ps) = EachStillIn R ps
  StillIn R (following p) = StillIn R p

  pub EachStillIn : Rules → Properties → Type 0
  EachStillIn R none = Unit {0}
  EachStillIn R (more p ps) = StillIn R p × EachStillIn R ps
