-- The property that records stand for, as a tree. A record that is an operand more than once is in the tree as often.
use Rattle.std.specs.Prelude.{◌≡◌, ℕ, ◌+◌, ◌<◌, max, List}
use Rattle.property.specs.declared.records.Formula.{Formula}
use Rattle.property.specs.declared.records.Formula.TheVariants.{Atom, Not, All, Following}
use Rattle.property.specs.declared.records.Record.{Record}
use Rattle.property.specs.Paths.{formula_at, next_of}
use Rattle.property.specs.Readings.{reading}

mutual
  pub data Property : Type 0 where
    atom : ℕ → Property
    isn't : Property → Property
    all : Properties → Property
    following : Property → Property

  pub data Properties : Type 0 where
    none : Properties
    more : Property → Properties → Properties

abbrev mutual
  -- the most followings from the root to a leaf
  pub degree : Property → ℕ
  degree (atom a) = 0
  degree (isn't p) = degree p
  degree (all ps) = degrees ps
  degree (following p) = degree p + 1

  pub degrees : Properties → ℕ
  degrees none = 0
  degrees (more p ps) = max (degree p) (degrees ps)

-- a record as a property, and the operands on the chain from it
pub record Reading : Type 0 where
  pub whole : Property
  pub operands : Properties

abbrev pub nothing : Reading
nothing = record { whole = all none; operands = none }

-- by the reading where its value leads
abbrev pub tree_by : Formula → Reading → Property
tree_by (Atom a) x = atom a
tree_by (Not k) x = isn't x.whole
tree_by (All k) x = all x.operands
tree_by (Following k) x = following x.whole

abbrev pub reading_by : Record → Reading → Reading → Reading
reading_by r operand next = record { whole = tree_by r.formula operand; operands = more (tree_by r.formula operand) next.operands }

abbrev pub reading_at : List Record → ℕ → Reading
reading_at rs k = reading nothing reading_by rs k

-- the whole is record 1
abbrev pub property_of : List Record → Property
property_of rs = (reading_at rs 1).whole

-- The same as a relation: record k stands for a property, and the chain from record k on for operands.
mutual
  pub data Stands (rs : List Record) : ℕ → Property → Type 0 where
    an_atom : {k a : ℕ} → formula_at rs k ≡ Atom a → Stands rs k (atom a)
    a_not : {k i : ℕ} {p : Property} → formula_at rs k ≡ Not i → Stands rs i p → Stands rs k (isn't p)
    an_all : {k i : ℕ} {ps : Properties} → formula_at rs k ≡ All i → ChainStands rs i ps → Stands rs k (all ps)
    a_following : {k i : ℕ} {p : Property} → formula_at rs k ≡ Following i → Stands rs i p → Stands rs k (following p)

  pub data ChainStands (rs : List Record) : ℕ → Properties → Type 0 where
    ended : ChainStands rs 0 none
    goes_on : {k : ℕ} {p : Property} {ps : Properties} → 0 < k → Stands rs k p → ChainStands rs (next_of rs k) ps → ChainStands rs k (more p ps)

-- record 1 stands for this property and no other
pub record StandsFor (rs : List Record) (p : Property) : Type 0 where
  pub this : Stands rs 1 p
  pub only : (q : Property) → Stands rs 1 q → q ≡ p
