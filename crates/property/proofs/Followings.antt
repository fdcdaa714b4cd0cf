-- The degree is the most followings on a path.
use Rattle.std.proofs.Common.{◌≡◌, ℕ, zero, suc, ◌+◌, ◌<◌, ◌≤◌, max, List, length, sym, refl, ap, ◌∙◌, subst, inl, inr, arith}
use Rattle.std.proofs.lemmas.Bool.{cases_eq, cases_lt}
use Rattle.rules.specs.Chains.{On, here, further}
use Rattle.rules.proofs.Passed.{on_within}
use Rattle.property.specs.declared.degrees.Degrees.{Degrees}
use Rattle.property.specs.declared.records.Formula.{Formula}
use Rattle.property.specs.declared.records.Formula.TheVariants.{Atom, Not, All, Following}
use Rattle.property.specs.declared.records.Record.{Record}
use Rattle.property.specs.Degrees.{own_degree, degrees_at}
use Rattle.property.specs.Linked.{Linked}
use Rattle.property.specs.Paths.{formula_at, next_of, Path, stop, through_not, through_all, through_following, MostFollowings}
use Rattle.property.specs.Typed.{operand_of}
use Rattle.property.proofs.Links.{formula_leads, some_operand, chains_later}
use Rattle.property.proofs.Measures.{degrees_step}

module _ (rs : List Record) (linked : Linked rs) where
  abbrev own : ℕ → ℕ
  own k = (degrees_at rs k).own

  abbrev chain : ℕ → ℕ
  chain k = (degrees_at rs k).chain

  -- the degree of a record by its formula
  own_by : (k : ℕ) (f : Formula) → 0 < k → k ≤ length rs → formula_at rs k ≡ f → own k ≡ own_degree f (degrees_at rs (operand_of f))
  own_by k f p h e = ap (λ (d : Degrees). d.own) (degrees_step rs linked k p h) ∙ ap (λ g. own_degree g (degrees_at rs (operand_of g))) e

  chain_step : (k : ℕ) → 0 < k → k ≤ length rs → chain k ≡ max (own k) (chain (next_of rs k))
  chain_step k p h =
      let e = degrees_step rs linked k p h in
      ap (λ (d : Degrees). d.chain) e ∙ ap (λ o. max o (chain (next_of rs k))) (sym (ap (λ (d : Degrees). d.own) e))

  -- no operand on a chain has a greater degree
  on_chain : {i j : ℕ} → i ≤ length rs → On (next_of rs) i j → own j ≤ chain i
  on_chain {i = zero} h o = elim o [ ]
  on_chain {i = suc i} h here = omega (arith, chain_step (suc i) (omega arith) h)
  on_chain {i = suc i} h (further o) =
      omega (arith, chain_step (suc i) (omega arith) h, on_chain (chains_later rs linked (suc i) (omega arith) h).1 o)

  never : {k n : ℕ} → 0 < k → k ≤ length rs → Path rs k n → n ≤ own k
  never p h stop = omega arith
  never {k} p h (through_not {i = i} e w) =
      let l = some_operand rs linked k (Not i) p h e tt in
      omega (arith, own_by k (Not i) p h e, never (omega arith) l.1 w)
  never {k} p h (through_all {i = i} e o w) =
      let l = formula_leads rs linked k (All i) p h e in
      let j = on_within (next_of rs) (length rs) (chains_later rs linked) l.1 o in
      omega (arith, own_by k (All i) p h e, on_chain l.1 o, never j.0 j.1 w)
  never {k} p h (through_following {i = i} e w) =
      let l = some_operand rs linked k (Following i) p h e tt in
      omega (arith, own_by k (Following i) p h e, never (omega arith) l.1 w)

  -- some operand on a chain has the greatest degree
  pub record Best (i : ℕ) : Type 0 where
    pub operand : ℕ
    pub on : On (next_of rs) i operand
    pub same : own operand ≡ chain i
    pub after : i ≤ operand
    pub inside : operand ≤ length rs

  best : (fuel i : ℕ) → length rs < fuel + i → 0 < i → i ≤ length rs → Best i
  best zero i u p h = absurd (omega arith)
  best (suc fuel) zero u p h = absurd (omega arith)
  best (suc fuel) (suc i) u p h =
      let k = suc i in
      let s = chain_step k p h in
      let l = chains_later rs linked k p h in
      elim (cases_lt (own k) (chain (next_of rs k))) [
        | inl less ↦
            let some : 0 < next_of rs k = elim (cases_eq (next_of rs k) 0) [ inl z ↦ absurd (omega (arith, ap chain z)) | inr z ↦ omega arith ] in
            let b = best fuel (next_of rs k) (omega (arith, l.0 some)) some l.1 in
            record { operand = b.operand; on = further b.on; same = b.same ∙ (let e : chain (next_of rs k) ≡ chain k = omega arith in e); after = omega (arith, l.0 some, b.after); inside = b.inside }
        | inr more ↦ record { operand = k; on = here; same = omega arith; after = omega arith; inside = h }
      ]

  reach : (fuel k : ℕ) → length rs < fuel + k → 0 < k → k ≤ length rs → (f : Formula) → formula_at rs k ≡ f → Path rs k (own k)
  reach zero k u p h f e = absurd (omega arith)
  reach (suc fuel) k u p h (Atom a) e = subst (Path rs k) (sym (own_by k (Atom a) p h e)) stop
  reach (suc fuel) k u p h (Not i) e =
      let l = some_operand rs linked k (Not i) p h e tt in
      subst (Path rs k) (sym (own_by k (Not i) p h e)) (through_not e (reach fuel i (omega arith) (omega arith) l.1 (formula_at rs i) refl))
  reach (suc fuel) k u p h (All i) e =
      let l = formula_leads rs linked k (All i) p h e in
      let is = own_by k (All i) p h e in
      elim (cases_eq i 0) [
        | inl z ↦ subst (Path rs k) (sym (is ∙ ap chain z)) stop
        | inr z ↦
            let some : 0 < i = omega arith in
            let b = best (suc (length rs)) i (omega arith) some l.1 in
            let later : k < b.operand = omega (arith, l.0 some, b.after) in
            subst (Path rs k) (b.same ∙ sym is) (through_all e b.on (reach fuel b.operand (omega arith) (omega arith) b.inside (formula_at rs b.operand) refl))
      ]
  reach (suc fuel) k u p h (Following i) e =
      let l = some_operand rs linked k (Following i) p h e tt in
      let is : suc (own i) ≡ own k = omega (arith, own_by k (Following i) p h e) in
      subst (Path rs k) is (through_following e (reach fuel i (omega arith) (omega arith) l.1 (formula_at rs i) refl))

  pub most : (k : ℕ) → 0 < k → k ≤ length rs → MostFollowings rs k (degrees_at rs k).own
  most k p h = record {
    reached = reach (suc (length rs)) k (omega arith) p h (formula_at rs k) refl;
    never_more = λ n w. never p h w;
  }
