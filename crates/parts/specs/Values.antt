-- The value of 'this play breaks the part', over any values: one text for every truth form. Every all is folded from yes and every
-- or from no, those of two operands too, from the left and in the order written.
use Rattle.std.specs.Prelude.{ℕ, zero, suc, ◌+◌, ◌-◌, List, [], ◌∷◌}
use Rattle.std.specs.List.{range_with_len}
use Rattle.rules.specs.declared.opened.Rules.{Rules}
use Rattle.evaluate.specs.Evaluate.{Ops, look}
use Rattle.evaluate.specs.Positions.{choices, does_at, legal_at, terminal_at}
use Rattle.property.specs.Trees.{Property, Properties, atom, isn't, all, following, none, more, degree}
use Rattle.play.specs.declared.part.Part.{Part}
use Rattle.play.specs.declared.part.Part.TheVariants.{Base, Step}
use Rattle.play.specs.Parts.{horizon_of, assumed}

module _ {V : Type 0} (o : Ops V) (R : Rules) (levels : ℕ → List V) where
  -- of an atom, counted from 0, at a level
  abbrev pub at : ℕ → ℕ → V
  at level a = look o (levels level) a

  abbrev pub ended : ℕ → V
  ended level = at level (terminal_at R)

  -- terminal here, or the operand a level later
  abbrev pub ended_or : ℕ → V → V
  ended_or level later = o.or' (o.or' o.no' (ended level)) later

  -- Of a property at a level, where so many levels are left up to the horizon. Atoms are named by number, from 1. With no level
  -- left a following is not read if the degree fits; it is fixed as yes.
  abbrev mutual
    pub value : Property → (level left : ℕ) → V
    value (atom a) level left = at level (a - 1)
    value (isn't p) level left = o.not' (value p level left)
    value (all ps) level left = all_value o.yes' ps level left
    value (following p) level zero = o.yes'
    value (following p) level (suc left) = ended_or level (value p (level + 1) left)

    pub all_value : V → Properties → (level left : ℕ) → V
    all_value v none level left = v
    all_value v (more p ps) level left = all_value (o.and' v (value p level left)) ps level left

  -- a move, counted from 0 by role and then by move: not done or legal
  abbrev pub undone_or_legal : ℕ → ℕ → V
  undone_or_legal level c = o.or' (o.or' o.no' (o.not' (at level (does_at R c)))) (at level (legal_at R c))

  abbrev pub each_move : V → ℕ → List ℕ → V
  each_move v level [] = v
  each_move v level (c ∷ cs) = each_move (o.and' v (undone_or_legal level c)) level cs

  abbrev pub every_move : ℕ → V
  every_move level = each_move o.yes' level (range_with_len 0 (choices R))

  -- at so many levels from this one on: terminal at some level up to there, or every move; over is the or of the terminals before
  abbrev pub legality_from : (v over : V) → (level left : ℕ) → V
  legality_from v over level zero = v
  legality_from v over level (suc left) =
      legality_from (o.and' v (o.or' (o.or' over (ended level)) (every_move level))) (o.or' over (ended level)) (level + 1) left

  abbrev pub legality : ℕ → V
  legality horizon = legality_from o.yes' o.no' 0 horizon

  abbrev pub each_value : V → List Property → ℕ → V
  each_value v [] horizon = v
  each_value v (q ∷ qs) horizon = each_value (o.and' v (value q 0 horizon)) qs horizon

  -- over a horizon, with just the properties qs assumed
  abbrev pub broken : Part → List Property → Property → ℕ → V
  broken Base qs p horizon = o.and' (o.and' o.yes' (legality horizon)) (o.not' (value p 0 horizon))
  broken Step qs p horizon =
      o.and' (each_value (o.and' (o.and' o.yes' (legality horizon)) (value p 0 horizon)) qs horizon) (o.not' (value (following p) 0 horizon))

  -- of 'this play breaks the part'
  abbrev pub part_value : Part → List Property → Property → V
  part_value part docket p = broken part (assumed p docket) p (horizon_of part (degree p))
