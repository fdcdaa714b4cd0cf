-- Entries of the table, where some are written and others stay.
use Rattle.std.proofs.Common.{◌≡◌, ℕ, zero, suc, ◌+◌, ◌-◌, ◌*◌, ◌<◌, ◌≤◌, ◌⊎◌, List, [], ◌∷◌, map, length, get_or, set, sym, ap, ◌∙◌, subst, inl, inr, arith}
use Rattle.std.proofs.lemmas.List.{get_or-set_same, get_or-set_other, length-map, map-set}
use Rattle.std.proofs.lemmas.Bool.{cases_eq, cases_order}
use Rattle.rules.specs.declared.opened.Rules.{Rules}
use Rattle.rules.specs.Opens.{atoms_of}
use Rattle.evaluate.specs.Evaluate.{Ops, look}
use Rattle.evaluate.specs.Grids.{place}
use Rattle.evaluate.proofs.Chains.{few_atoms}
use Rattle.evaluate.proofs.Rows.{row_same}
use Rattle.property.specs.declared.records.Record.{Record}
use Rattle.property.specs.Trees.{reading_at}
use Rattle.parts.specs.Tables.{place_in_table, table_start, Spacious, KeptBesideTable, KeptBesideLevel, LevelIn, LevelsIn, FilledBehind, FilledFrom}
use Rattle.parts.specs.Values.{value}

-- a place that stays, stays in what is meant
pub same_place : {X V : Type 0} (m : X → V) (e : V) (xs ys : List X) (i : ℕ) → i < length xs → i < length ys → ((d : X) → get_or ys i d ≡ get_or xs i d) → get_or (map m ys) i e ≡ get_or (map m xs) i e
same_place m e [] ys i h h' s = absurd (omega arith)
same_place m e (x ∷ xs) [] i h h' s = absurd (omega arith)
same_place m e (x ∷ xs) (y ∷ ys) zero h h' s = ap m (s x)
same_place m e (x ∷ xs) (y ∷ ys) (suc i) h h' s = same_place m e xs ys i (omega arith) (omega arith) s

-- a slice that is kept beside its table keeps its levels
module _ {X V : Type 0} (means : X → V) (R : Rules) (L : ℕ → List V) (xs ys : List X) (len : length ys ≡ length xs) (room : Spacious xs) where
  pub level_kept : ((i : ℕ) (d : X) → i < table_start → get_or ys i d ≡ get_or xs i d) → (level : ℕ) → level < 5 → LevelIn means R xs L level → LevelIn means R ys L level
  level_kept kept level h is =
      let n = length (atoms_of R) in
      let long : level * 512 + n ≤ length xs = omega (arith, few_atoms R) in
      ap (map means) (row_same n xs ys level len long (λ a d l. kept (place level a) d (omega (arith, few_atoms R)))) ∙ is

  pub levels_kept : KeptBesideTable xs ys → (horizon : ℕ) → horizon < 5 → LevelsIn means R xs L horizon → LevelsIn means R ys L horizon
  levels_kept kept horizon h is level l = level_kept (λ i d u. kept i d (inl u)) level (omega arith) (is level l)

module _ {X V : Type 0} (o : Ops V) (means : X → V) (R : Rules) (rs : List Record) (L : ℕ → List V) (few : length rs ≤ 64) (xs ys : List X) (whole : length xs ≡ 320) (still_whole : length ys ≡ 320) where
  pub filled_kept : (level left i : ℕ) → level < 5 → ((k : ℕ) (d : X) → 0 < k → k ≤ 64 → get_or ys (place_in_table level k) d ≡ get_or xs (place_in_table level k) d)
      → FilledBehind o means R rs L xs level left i → FilledBehind o means R rs L ys level left i
  filled_kept level left i h same filled k l u =
      same_place means o.no' xs ys (place_in_table level k) (omega arith) (omega arith) (λ d. same k d (omega arith) (omega arith)) ∙ filled k l u

  -- the entries of other levels stay
  pub other_level : (level j left i : ℕ) → j < 5 → (j ≡ level → ⊥) → KeptBesideLevel level xs ys → FilledBehind o means R rs L xs j left i → FilledBehind o means R rs L ys j left i
  other_level level j left i h ne kept = filled_kept j left i h (λ k d p u. kept (place_in_table j k) d (apart k p u (cases_order j level)))
    where
      apart : (k : ℕ) → 0 < k → k ≤ 64 → (j ≡ level) ⊎ ((j < level) ⊎ (level < j)) → (place_in_table j k < place_in_table level 1) ⊎ (place_in_table (level + 1) 1 ≤ place_in_table j k)
      apart k p u (inl e) = absurd (ne e)
      apart k p u (inr (inl l)) = inl (omega arith)
      apart k p u (inr (inr l)) = inr (omega arith)

  -- a level is filled, above the levels that are
  pub filled_down : (k horizon : ℕ) → horizon < 5 → k ≤ horizon → KeptBesideLevel k xs ys
      → ((0 < horizon - k → FilledBehind o means R rs L xs (k + 1) (horizon - k - 1) 0) → FilledBehind o means R rs L ys k (horizon - k) 0)
      → FilledFrom o means R rs L xs (k + 1) horizon → FilledFrom o means R rs L ys k horizon
  filled_down k horizon h low kept own filled j l u =
      elim (cases_eq j k) [
        | inl same ↦
            let left : horizon - (k + 1) ≡ horizon - k - 1 = omega arith in
            subst (λ a. FilledBehind o means R rs L ys a (horizon - a) 0) (sym same)
            (own (λ p. subst (λ a. FilledBehind o means R rs L xs (k + 1) a 0) left (filled (k + 1) (omega arith) (omega arith))))
        | inr other ↦ other_level k j (horizon - j) 0 (omega arith) other kept (filled j (omega arith) u)
      ]

-- record m is entered
module _ {X : Type 0} (xs ys : List X) (level m : ℕ) (v : X) (above : 0 < m) (within : m ≤ 64) (is : ys ≡ set xs (place_in_table level m) v) where
  pub enter_kept : KeptBesideLevel level xs ys
  enter_kept i d out = ap (λ zs. get_or zs i d) is ∙ get_or-set_other xs (place_in_table level m) i v d (away out)
    where
      away : (i < place_in_table level 1) ⊎ (place_in_table (level + 1) 1 ≤ i) → i ≡ place_in_table level m → ⊥
      away (inl l) e = omega arith
      away (inr l) e = omega arith

  pub enter_filled : {V : Type 0} (o : Ops V) (means : X → V) (R : Rules) (rs : List Record) (L : ℕ → List V) (left : ℕ) → length rs ≤ 64 → level < 5 → 320 ≤ length xs
      → means v ≡ value o R L (reading_at rs m).whole level left → FilledBehind o means R rs L xs level left m → FilledBehind o means R rs L ys level left (m - 1)
  enter_filled o means R rs L left few h room made filled k l u =
      let inside : place_in_table level m < length (map means xs) = omega (arith, length-map xs means) in
      ap (λ zs. look o (map means zs) (place_in_table level k)) is ∙ ap (λ zs. look o zs (place_in_table level k)) (map-set means xs (place_in_table level m) v)
      ∙ elim (cases_eq k m) [
        | inl e ↦ ap (λ n. look o (set (map means xs) (place_in_table level m) (means v)) (place_in_table level n)) e
            ∙ get_or-set_same (map means xs) (place_in_table level m) (means v) o.no' inside ∙ made ∙ ap (λ n. value o R L (reading_at rs n).whole level left) (sym e)
        | inr ne ↦ get_or-set_other (map means xs) (place_in_table level m) (place_in_table level k) (means v) o.no' (λ e. omega arith) ∙ filled k (omega arith) u
      ]
