-- Paths from record to operand, and how many followings are on them.
use Rattle.std.specs.Prelude.{◌≡◌, ℕ, suc, ◌≤◌, List}
use Rattle.rules.specs.Chains.{On}
use Rattle.property.specs.declared.records.Formula.{Formula}
use Rattle.property.specs.declared.records.Formula.TheVariants.{Not, All, Following}
use Rattle.property.specs.declared.records.Record.{Record}
use Rattle.property.specs.Typed.{record_at}

abbrev pub formula_at : List Record → ℕ → Formula
formula_at rs k = (record_at rs k).formula

abbrev pub next_of : List Record → ℕ → ℕ
next_of rs k = (record_at rs k).next

-- from record k, a path with so many followings
pub data Path (rs : List Record) : ℕ → ℕ → Type 0 where
  stop : {k : ℕ} → Path rs k 0
  through_not : {k i n : ℕ} → formula_at rs k ≡ Not i → Path rs i n → Path rs k n
  through_all : {k i j n : ℕ} → formula_at rs k ≡ All i → On (next_of rs) i j → Path rs j n → Path rs k n
  through_following : {k i n : ℕ} → formula_at rs k ≡ Following i → Path rs i n → Path rs k (suc n)

-- d is the most followings on a path from record k
pub record MostFollowings (rs : List Record) (k d : ℕ) : Type 0 where
  pub reached : Path rs k d
  pub never_more : (n : ℕ) → Path rs k n → n ≤ d
