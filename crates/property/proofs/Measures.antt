-- The degrees of records whose links lead later.
use Rattle.std.proofs.Common.{◌≡◌, ℕ, zero, suc, ◌+◌, ◌<◌, ◌≤◌, true, List, length, ap, inl, inr, arith}
use Rattle.std.proofs.lemmas.Bool.{cases_eq, and_parts}
use Rattle.rules.specs.First.{next_fits}
use Rattle.property.specs.declared.degrees.Degrees.{Degrees}
use Rattle.property.specs.declared.records.Formula.{Formula}
use Rattle.property.specs.declared.records.Formula.TheVariants.{Atom, Not, All, Following}
use Rattle.property.specs.declared.records.Record.{Record}
use Rattle.property.specs.Degrees.{no_degrees, own_degree, degrees_by, degrees_at}
use Rattle.property.specs.Linked.{operand_leads, record_leads, Linked}
use Rattle.property.specs.Typed.{operand_of, record_at}
use Rattle.property.proofs.Links.{within_bounds, operand_link, next_link}
use Rattle.property.proofs.Stepping.{reading_step}

module _ (rs : List Record) (linked : Linked rs) where
  pub degrees_step : (k : ℕ) → 0 < k → k ≤ length rs →
      degrees_at rs k ≡ degrees_by (record_at rs k) (degrees_at rs (operand_of (record_at rs k).formula)) (degrees_at rs (record_at rs k).next)
  degrees_step k p h = reading_step no_degrees degrees_by rs linked k p h

  -- at most the followings of as many records as stand after the one
  abbrev Small : ℕ → Type 0
  Small k = ((degrees_at rs k).own + k ≤ length rs) × ((degrees_at rs k).chain + k ≤ length rs)

  own_small : (k : ℕ) (f : Formula) (d : Degrees) → k ≤ length rs → operand_leads (length rs) k f ≡ true →
      (0 < operand_of f → (d.own + operand_of f ≤ length rs) × (d.chain + operand_of f ≤ length rs)) → (operand_of f ≡ 0 → d.chain ≡ 0) → own_degree f d + k ≤ length rs
  own_small k (Atom a) d h e s z = omega arith
  own_small k (Not i) d h e s z = let p = within_bounds (k + 1) (length rs) i e in omega (arith, s (omega arith))
  own_small k (All i) d h e s z =
      elim (cases_eq i 0) [
        | inl q ↦ omega (arith, z q)
        | inr q ↦ (let l = operand_link (length rs) k (record { formula = All i; next = 0 }) (all_alone e) in omega (arith, s (omega arith), l.0 (omega arith)))
      ]
    where
      all_alone : next_fits k (length rs) i ≡ true → record_leads (length rs) k (record { formula = All i; next = 0 }) ≡ true
      all_alone e = rw e
  own_small k (Following i) d h e s z = let p = within_bounds (k + 1) (length rs) i e in omega (arith, s (omega arith))

  small : (fuel k : ℕ) → length rs < fuel + k → 0 < k → k ≤ length rs → Small k
  small zero k u p h = absurd (omega arith)
  small (suc fuel) k u p h =
      let r = record_at rs k in
      let n = length rs in
      let i = operand_of r.formula in
      let op = operand_link n k r (linked k p h) in
      let nx = next_link n k r (linked k p h) in
      let e = degrees_step k p h in
      let own : own_degree r.formula (degrees_at rs i) + k ≤ n =
      own_small k r.formula (degrees_at rs i) h (and_parts (operand_leads n k r.formula) (next_fits k n r.next) (linked k p h)).0
      (λ z. let l = op.0 z in small fuel i (omega arith) z op.1) (λ z. ap (λ m. (degrees_at rs m).chain) z) in
      let rest : (degrees_at rs r.next).chain + k ≤ n =
      elim (cases_eq r.next 0) [
        | inl q ↦ omega (arith, ap (λ m. (degrees_at rs m).chain) q)
        | inr q ↦ (let l = nx.0 (omega arith) in omega (arith, small fuel r.next (omega arith) (omega arith) nx.1))
      ] in
      (rw e own, rw e (omega arith))

  pub own_within : (k : ℕ) → k ≤ length rs → (degrees_at rs k).own ≤ length rs
  own_within zero h = omega arith
  own_within (suc k) h = let s = small (suc (length rs)) (suc k) (omega arith) (omega arith) h in omega arith
