-- The program of a rule file: the bodies of each atom. Atoms are counted from 0 here; records are numbered from 1.
use Rattle.std.specs.Prelude.{◌≡◌, ℕ, ◌-◌, ◌<◌, ◌≤◌, Bool, true, false, List, map, length, slice_index_or}
use Rattle.rules.specs.declared.records.Atom.{Atom}
use Rattle.rules.specs.declared.records.Rule.{Rule}
use Rattle.rules.specs.declared.records.Literal.{Literal}
use Rattle.rules.specs.declared.records.Mark.{Mark}
use Rattle.rules.specs.declared.records.Mark.TheVariants.{Still, Dependent, Initial}
use Rattle.rules.specs.declared.records.Sign.{Sign}
use Rattle.rules.specs.declared.records.Sign.TheVariants.{Plain, Negated}
use Rattle.rules.specs.declared.opened.Rules.{Rules}
use Rattle.rules.specs.Chains.{chain}
use Rattle.rules.specs.Opens.{atoms_of, rules_of, literals_of, tables_of}
use Rattle.rules.specs.Typed.{no_atom, no_rule, no_literal}
use Rattle.evaluate.specs.Lists.{Each}

-- A literal of a body: its atom, and whether it is plain (and not negated).
pub record Part : Type 0 where
  pub atom : ℕ
  pub plain : Bool

-- What the meaning of rules rests on: how many atoms there are, their strata, and the bodies of each.
pub record Program : Type 0 where
  pub atoms : ℕ
  pub strata : ℕ
  pub stratum : ℕ → ℕ
  pub bodies : ℕ → List (List Part)

abbrev pub is_plain : Sign → Bool
is_plain Plain = true
is_plain Negated = false

-- moves do not matter to an atom with this mark
abbrev pub is_still : Mark → Bool
is_still Still = true
is_still Dependent = false
is_still Initial = true

abbrev pub is_initial : Mark → Bool
is_initial Still = false
is_initial Dependent = false
is_initial Initial = true

-- atoms by their place, rules and literals by their number
abbrev pub atom_at : Rules → ℕ → Atom
atom_at R a = slice_index_or (atoms_of R) a no_atom

abbrev pub rule_at : Rules → ℕ → Rule
rule_at R r = slice_index_or (rules_of R) (r - 1) no_rule

abbrev pub literal_at : Rules → ℕ → Literal
literal_at R l = slice_index_or (literals_of R) (l - 1) no_literal

abbrev pub part_of : Literal → Part
part_of l = record { atom = l.atom - 1; plain = is_plain l.sign }

-- the body that the chain from literal l on makes
unfoldable pub body_from : Rules → ℕ → List Part
body_from R l = map (λ k. part_of (literal_at R k)) (chain (tables_of R).next_literal R.layout.literals l)

-- the bodies of the chain from rule r on
unfoldable pub bodies_from : Rules → ℕ → List (List Part)
bodies_from R r = map (λ k. body_from R (rule_at R k).first) (chain (tables_of R).next_rule R.layout.rules r)

abbrev pub program_of : Rules → Program
program_of R = record {
  atoms = length (atoms_of R);
  strata = 31;
  stratum = λ a. (atom_at R a).stratum;
  bodies = λ a. bodies_from R (atom_at R a).first;
}

-- A plain body atom's stratum t is at most the head's, s; a negated one's is lower.
abbrev pub Lower : Bool → ℕ → ℕ → Type 0
Lower true t s = t ≤ s
Lower false t s = t < s

pub record PartFits (P : Program) (s : ℕ) (l : Part) : Type 0 where
  pub known : l.atom < P.atoms
  pub lower : Lower l.plain (P.stratum l.atom) s

pub record Stratified (P : Program) : Type 0 where
  pub within : (a : ℕ) → a < P.atoms → P.stratum a ≤ P.strata
  pub ordered : (a : ℕ) → a < P.atoms → Each (Each (PartFits P (P.stratum a))) (P.bodies a)

-- a set of atoms whose bodies name no others
abbrev pub ShutOff : Program → (ℕ → Bool) → Type 0
ShutOff P K = (a : ℕ) → a < P.atoms → K a ≡ true → Each (Each (λ (l : Part). K l.atom ≡ true)) (P.bodies a)
