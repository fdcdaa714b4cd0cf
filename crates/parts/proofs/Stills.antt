-- The property of records that name only still atoms.
use Rattle.std.proofs.Common.{◌≡◌, ℕ, zero, suc, ◌+◌, ◌-◌, ◌<◌, List, [], ◌∷◌, length, get_or, refl, arith}
use Rattle.rules.specs.declared.opened.Rules.{Rules}
use Rattle.property.specs.declared.records.Formula.{Formula}
use Rattle.property.specs.declared.records.Formula.TheVariants.{Atom, Not, All, Following}
use Rattle.property.specs.declared.records.Record.{Record}
use Rattle.property.specs.Readings.{at_link, readings}
use Rattle.property.specs.Taken.{StillAtom}
use Rattle.property.specs.Trees.{Reading, nothing, tree_by, reading_by}
use Rattle.property.specs.Typed.{unused, operand_of}
use Rattle.parts.specs.Claims.{RecordsAreStill}
use Rattle.parts.specs.Plays.{StillIn, EachStillIn}

module _ (R : Rules) where
  abbrev Fine : Reading → Type 0
  Fine x = StillIn R x.whole × EachStillIn R x.operands

  tree_fine : (f : Formula) (x : Reading) → Fine x → ((a : ℕ) → f ≡ Atom a → StillAtom R a) → StillIn R (tree_by f x)
  tree_fine (Atom a) x h s = s a refl
  tree_fine (Not i) x h s = h.0
  tree_fine (All i) x h s = h.1
  tree_fine (Following i) x h s = h.0

  abbrev Named : List Record → Type 0
  Named rs = (k a : ℕ) → k < length rs → (get_or rs k unused).formula ≡ Atom a → StillAtom R a

  link_fine : (xs : List Reading) → ((k : ℕ) → Fine (get_or xs k nothing)) → (i k : ℕ) → Fine (at_link nothing reading_by xs i k)
  link_fine xs h i zero = (tt, tt)
  link_fine xs h i (suc k) = h (k - i)

  readings_fine : (i : ℕ) (rs : List Record) → Named rs → (k : ℕ) → Fine (get_or (readings nothing reading_by i rs) k nothing)
  unfolding readings
  readings_fine i [] h k = (tt, tt)
  readings_fine i (r ∷ rs) h zero =
      let later = readings_fine (suc i) rs (λ k a l e. h (suc k) a (omega arith) e) in
      let own = tree_fine r.formula _ (link_fine (readings nothing reading_by (suc i) rs) later i (operand_of r.formula)) (λ a e. h 0 a (omega arith) e) in
      (own, (own, (link_fine (readings nothing reading_by (suc i) rs) later i r.next).1))
  readings_fine i (r ∷ rs) h (suc k) = readings_fine (suc i) rs (λ k a l e. h (suc k) a (omega arith) e) k

pub records_are_still : RecordsAreStill
records_are_still R rs fits =
    (link_fine R (readings nothing reading_by 1 rs) (readings_fine R 1 rs (λ k a l e. fits (k + 1) a (omega arith) (omega arith) (placed k a e))) 0 1).0
  where
    placed : (k a : ℕ) → (get_or rs k unused).formula ≡ Atom a → (get_or rs (k + 1 - 1) unused).formula ≡ Atom a
    placed k a e = let i : k + 1 - 1 ≡ k = omega arith in rw i e
