-- Links that lead later, as numbers.
use Rattle.std.proofs.Common.{◌≡◌, ℕ, ◌+◌, ◌<◌, ◌≤◌, true, eqb, leb, List, length, sym, subst, inl, inr, arith}
use Rattle.std.proofs.lemmas.Bool.{and_parts, or_cases, leb-true, eqb-true}
use Rattle.rules.specs.Chains.{Later}
use Rattle.rules.specs.First.{within, next_fits}
use Rattle.property.specs.declared.records.Formula.{Formula}
use Rattle.property.specs.declared.records.Formula.TheVariants.{Atom, Not, All, Following}
use Rattle.property.specs.declared.records.Record.{Record}
use Rattle.property.specs.Linked.{operand_leads, record_leads, Linked}
use Rattle.property.specs.Typed.{operand_of, record_at}

-- 0, or later than k and at most n
abbrev pub Leads : ℕ → ℕ → ℕ → Type 0
Leads n k i = (0 < i → k < i) × (i ≤ n)

pub within_bounds : (low high n : ℕ) → within low high n ≡ true → (low ≤ n) × (n ≤ high)
within_bounds low high n e = let p = and_parts (leb low n) (leb n high) e in (leb-true low n p.0, leb-true n high p.1)

pub link_leads : (n k i : ℕ) → next_fits k n i ≡ true → Leads n k i
link_leads n k i e =
    elim (or_cases (eqb i 0) (within (k + 1) n i) e) [
      | inl q ↦ (let z = eqb-true i 0 q in ((λ h. omega arith), omega arith))
      | inr q ↦ (let p = within_bounds (k + 1) n i q in ((λ h. omega arith), omega arith))
    ]

operand_parts : (n k : ℕ) (f : Formula) → operand_leads n k f ≡ true → Leads n k (operand_of f)
operand_parts n k (Atom a) e = ((λ h. omega arith), omega arith)
operand_parts n k (Not i) e = let p = within_bounds (k + 1) n i e in ((λ h. omega arith), omega arith)
operand_parts n k (All i) e = link_leads n k i e
operand_parts n k (Following i) e = let p = within_bounds (k + 1) n i e in ((λ h. omega arith), omega arith)

module _ (n k : ℕ) (r : Record) (e : record_leads n k r ≡ true) where
  pub operand_link : Leads n k (operand_of r.formula)
  operand_link = operand_parts n k r.formula (and_parts (operand_leads n k r.formula) (next_fits k n r.next) e).0

  pub next_link : Leads n k r.next
  next_link = link_leads n k r.next (and_parts (operand_leads n k r.formula) (next_fits k n r.next) e).1

-- the links of record k, under any name
module _ (rs : List Record) (linked : Linked rs) (k at : ℕ) (above : 0 < k) (inside : k ≤ length rs) where
  pub operand_at : at ≡ operand_of (record_at rs k).formula → Leads (length rs) k at
  operand_at e = subst (λ i. Leads (length rs) k i) (sym e) (operand_link (length rs) k (record_at rs k) (linked k above inside))

  pub next_at : at ≡ (record_at rs k).next → Leads (length rs) k at
  next_at e = subst (λ i. Leads (length rs) k i) (sym e) (next_link (length rs) k (record_at rs k) (linked k above inside))

module _ (rs : List Record) (linked : Linked rs) where
  formula_fits : (k : ℕ) (f : Formula) → 0 < k → k ≤ length rs → (record_at rs k).formula ≡ f → operand_leads (length rs) k f ≡ true
  formula_fits k f p h e =
      let r = record_at rs k in
      subst (λ g. operand_leads (length rs) k g ≡ true) e (and_parts (operand_leads (length rs) k r.formula) (next_fits k (length rs) r.next) (linked k p h)).0

  -- where a record's formula leads
  pub formula_leads : (k : ℕ) (f : Formula) → 0 < k → k ≤ length rs → (record_at rs k).formula ≡ f → Leads (length rs) k (operand_of f)
  formula_leads k f p h e = operand_parts (length rs) k f (formula_fits k f p h e)

  -- formulas that have an operand
  abbrev pub OneOperand : Formula → Type 0
  OneOperand (Atom a) = ⊥
  OneOperand (Not i) = Unit {0}
  OneOperand (All i) = ⊥
  OneOperand (Following i) = Unit {0}

  pub some_operand : (k : ℕ) (f : Formula) → 0 < k → k ≤ length rs → (record_at rs k).formula ≡ f → OneOperand f → (k < operand_of f) × (operand_of f ≤ length rs)
  some_operand k (Atom a) p h e o = absurd o
  some_operand k (Not i) p h e o = let b = within_bounds (k + 1) (length rs) i (formula_fits k (Not i) p h e) in (omega arith, b.1)
  some_operand k (All i) p h e o = absurd o
  some_operand k (Following i) p h e o = let b = within_bounds (k + 1) (length rs) i (formula_fits k (Following i) p h e) in (omega arith, b.1)

  pub chains_later : Later (λ k. (record_at rs k).next) (length rs)
  chains_later k p h = next_link (length rs) k (record_at rs k) (linked k p h)
