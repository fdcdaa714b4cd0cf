-- The standard model, as a relation.
use Rattle.std.specs.Prelude.{◌≡◌, ℕ, ◌<◌, Bool, true, false}
use Rattle.evaluate.specs.Lists.{Each, Some}
use Rattle.evaluate.specs.Program.{Part, Program}

-- A literal while the true atoms X of stratum s are looked for, M has the lower strata, and negation is read in N: a plain
-- literal of the stratum is in X, one of a lower stratum is true in M; a negated literal is false in N.
abbrev pub MetBy : Bool → Program → (M N : ℕ → Bool) → ℕ → (X : ℕ → Bool) → ℕ → Type 0
MetBy true P M N s X b = (P.stratum b ≡ s → X b ≡ true) × (P.stratum b < s → M b ≡ true)
MetBy false P M N s X b = N b ≡ false

abbrev pub Met : Program → (M N : ℕ → Bool) → ℕ → (X : ℕ → Bool) → Part → Type 0
Met P M N s X l = MetBy l.plain P M N s X l.atom

-- X contains every atom of stratum s with a rule whose literals are all met.
abbrev pub Closed : Program → (M N : ℕ → Bool) → ℕ → (X : ℕ → Bool) → Type 0
Closed P M N s X = (a : ℕ) → a < P.atoms → P.stratum a ≡ s → Some (Each (Met P M N s X)) (P.bodies a) → X a ≡ true

-- The true atoms of M, of stratum s, are the least such set.
pub record Least (P : Program) (M N : ℕ → Bool) (s : ℕ) : Type 0 where
  pub closed : Closed P M N s M
  pub least : (X : ℕ → Bool) → Closed P M N s X → (a : ℕ) → a < P.atoms → P.stratum a ≡ s → M a ≡ true → X a ≡ true

-- M is the standard model over the values given of stratum 0: in each higher stratum its true atoms are the least set that
-- contains every atom with a rule whose plain literals are true and negated ones false.
pub record StandardModel (P : Program) (given : ℕ → Bool) (M : ℕ → Bool) : Type 0 where
  pub bottom : (a : ℕ) → a < P.atoms → P.stratum a ≡ 0 → M a ≡ given a
  pub strata : (s : ℕ) → 0 < s → Least P M M s
