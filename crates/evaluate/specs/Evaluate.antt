-- The rules evaluated by rounds, over any values with yes, no, not, and, or. One text for every truth form.
use Rattle.std.specs.Prelude.{ℕ, zero, suc, Bool, true, false, cond, not, ◌&&◌, ◌||◌, List, [], ◌∷◌, map, ◌==◌, slice_index_or}
use Rattle.std.specs.List.{range_with_len}
use Rattle.evaluate.specs.Lists.{tally}
use Rattle.evaluate.specs.Program.{Part, Program}

pub record Ops (V : Type 0) : Type 0 where
  pub yes' : V
  pub no' : V
  pub not' : V → V
  pub and' : V → V → V
  pub or' : V → V → V

abbrev pub bool_ops : Ops Bool
bool_ops = record { yes' = true; no' = false; not' = not; and' = ◌&&◌; or' = ◌||◌ }

module _ {V : Type 0} (o : Ops V) where
  -- the value of an atom in a list of values
  abbrev pub look : List V → ℕ → V
  look vs a = slice_index_or vs a o.no'

  abbrev pub signed : Bool → V → V
  signed true v = v
  signed false v = o.not' v

  abbrev pub part : (ℕ → V) → Part → V
  part M l = signed l.plain (M l.atom)

  -- a body, from yes, in the chain's order
  abbrev pub body : (ℕ → V) → V → List Part → V
  body M v [] = v
  body M v (l ∷ ls) = body M (o.and' v (part M l)) ls

  -- an atom's bodies, from no, in the chain's order
  abbrev pub any_of : (ℕ → V) → V → List (List Part) → V
  any_of M v [] = v
  any_of M v (b ∷ bs) = any_of M (o.or' v (body M o.yes' b)) bs

  module _ (P : Program) where
    abbrev pub in_stratum : ℕ → ℕ → Bool
    in_stratum s a = P.stratum a == s

    -- the atoms of stratum s as f says, the others as they are
    unfoldable pub put_stratum : ℕ → (ℕ → V) → List V → List V
    put_stratum s f vs = map (λ a. cond (in_stratum s a) (f a) (look vs a)) (range_with_len 0 P.atoms)

    -- what an atom's rules give
    abbrev pub head : List V → ℕ → V
    head vs a = any_of (look vs) o.no' (P.bodies a)

    -- one round of stratum s, on the last round's values
    abbrev pub round : ℕ → List V → List V
    round s vs = put_stratum s (head vs) vs

    -- stratum s at its start
    abbrev pub cleared : ℕ → List V → List V
    cleared s vs = put_stratum s (λ _. o.no') vs

    unfoldable pub rounds : ℕ → ℕ → List V → List V
    rounds s zero vs = vs
    rounds s (suc n) vs = round s (rounds s n vs)

    -- a stratum: from no, as many rounds as it has atoms
    unfoldable pub stratum_done : ℕ → List V → List V
    stratum_done s vs = rounds s (tally P.atoms (in_stratum s)) (cleared s vs)

    -- the strata from 1 up to s
    unfoldable pub up_to : ℕ → List V → List V
    up_to zero vs = vs
    up_to (suc s) vs = stratum_done (suc s) (up_to s vs)

    unfoldable pub evaluated : List V → List V
    evaluated vs = up_to P.strata vs
