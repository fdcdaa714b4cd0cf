-- The tree that records stand for, and its degree.
use Rattle.std.proofs.Common.{◌≡◌, ℕ, zero, suc, ◌+◌, ◌<◌, ◌≤◌, max, List, length, sym, refl, ap, ◌∙◌, subst, ap₂, inl, inr, arith}
use Rattle.std.proofs.lemmas.Bool.{cases_eq}
use Rattle.property.specs.declared.degrees.Degrees.{Degrees}
use Rattle.property.specs.declared.records.Formula.{Formula}
use Rattle.property.specs.declared.records.Formula.TheVariants.{Atom, Not, All, Following}
use Rattle.property.specs.declared.records.Record.{Record}
use Rattle.property.specs.Degrees.{no_degrees, own_degree, degrees_by, degree_of}
use Rattle.property.specs.Linked.{Linked}
use Rattle.property.specs.Paths.{formula_at, next_of}
use Rattle.property.specs.Trees.{Property, Properties, isn't, all, following, more, degree, degrees, Reading, nothing, tree_by, reading_by, reading_at, property_of, Stands, an_atom, a_not, an_all, a_following, ChainStands, ended, goes_on, StandsFor}
use Rattle.property.specs.Typed.{operand_of}
use Rattle.property.proofs.Links.{formula_leads, some_operand, chains_later}
use Rattle.property.proofs.Stepping.{reading_step, mapped_reading}

-- the degrees of a reading
abbrev measured : Reading → Degrees
measured x = record { own = degree x.whole; chain = degrees x.operands }

measured_tree : (f : Formula) (x : Reading) → degree (tree_by f x) ≡ own_degree f (measured x)
measured_tree (Atom a) x = refl
measured_tree (Not i) x = refl
measured_tree (All i) x = refl
measured_tree (Following i) x = refl

pub tree_degree : (rs : List Record) → degree (property_of rs) ≡ degree_of rs
tree_degree rs =
    ap (λ (d : Degrees). d.own)
    (mapped_reading measured nothing reading_by no_degrees degrees_by refl
    (λ r x y. ap (λ n. record { own = n; chain = max n (degrees y.operands) }) (measured_tree r.formula x)) rs 1)

module _ (rs : List Record) (linked : Linked rs) where
  abbrev whole : ℕ → Property
  whole k = (reading_at rs k).whole

  abbrev operands : ℕ → Properties
  operands k = (reading_at rs k).operands

  pub whole_by : (k : ℕ) (f : Formula) → 0 < k → k ≤ length rs → formula_at rs k ≡ f → (reading_at rs k).whole ≡ tree_by f (reading_at rs (operand_of f))
  whole_by k f p h e = ap (λ (x : Reading). x.whole) (reading_step nothing reading_by rs linked k p h) ∙ ap (λ g. tree_by g (reading_at rs (operand_of g))) e

  pub operands_step : (k : ℕ) → 0 < k → k ≤ length rs → (reading_at rs k).operands ≡ more (reading_at rs k).whole (reading_at rs (next_of rs k)).operands
  operands_step k p h =
      let e = reading_step nothing reading_by rs linked k p h in
      ap (λ (x : Reading). x.operands) e ∙ ap (λ q. more q (operands (next_of rs k))) (sym (ap (λ (x : Reading). x.whole) e))

  Both : ℕ → Type 0
  Both k = Stands rs k (whole k) × ChainStands rs k (operands k)

  -- a record, by the readings of later ones
  module _ (k : ℕ) (p : 0 < k) (h : k ≤ length rs) (later : (i : ℕ) → k < i → i ≤ length rs → Both i) where
    chain_at : (i : ℕ) → (0 < i → k < i) → i ≤ length rs → ChainStands rs i (operands i)
    unfolding Both
    chain_at i l m =
        elim (cases_eq i 0) [
          | inl z ↦ subst (λ j. ChainStands rs j (operands j)) (sym z) ended
          | inr z ↦ (later i (l (omega arith)) m).1
        ]

    itself : (f : Formula) → formula_at rs k ≡ f → Stands rs k (whole k)
    unfolding Both
    itself (Atom a) e = subst (Stands rs k) (sym (whole_by k (Atom a) p h e)) (an_atom e)
    itself (Not i) e =
        let l = some_operand rs linked k (Not i) p h e tt in
        subst (Stands rs k) (sym (whole_by k (Not i) p h e)) (a_not e (later i l.0 l.1).0)
    itself (All i) e =
        let l = formula_leads rs linked k (All i) p h e in
        subst (Stands rs k) (sym (whole_by k (All i) p h e)) (an_all e (chain_at i l.0 l.1))
    itself (Following i) e =
        let l = some_operand rs linked k (Following i) p h e tt in
        subst (Stands rs k) (sym (whole_by k (Following i) p h e)) (a_following e (later i l.0 l.1).0)

    along : ChainStands rs k (operands k)
    along =
        let l = chains_later rs linked k p h in
        subst (ChainStands rs k) (sym (operands_step k p h)) (goes_on p (itself (formula_at rs k) refl) (chain_at (next_of rs k) l.0 l.1))

  both : (fuel k : ℕ) → length rs < fuel + k → 0 < k → k ≤ length rs → Both k
  unfolding Both
  both zero k u p h = absurd (omega arith)
  both (suc fuel) k u p h =
      let later : (i : ℕ) → k < i → i ≤ length rs → Both i = λ i l m. both fuel i (omega arith) (omega arith) m in
      (itself k p h later (formula_at rs k) refl, along k p h later)

  mutual
    only : {k : ℕ} {q : Property} → 0 < k → k ≤ length rs → Stands rs k q → q ≡ whole k
    only {k} p h (an_atom {a = a} e) = sym (whole_by k (Atom a) p h e)
    only {k} p h (a_not {i = i} e s) =
        let l = some_operand rs linked k (Not i) p h e tt in
        ap isn't (only (omega arith) l.1 s) ∙ sym (whole_by k (Not i) p h e)
    only {k} p h (an_all {i = i} e s) =
        let l = formula_leads rs linked k (All i) p h e in
        ap all (only_chain l.1 s) ∙ sym (whole_by k (All i) p h e)
    only {k} p h (a_following {i = i} e s) =
        let l = some_operand rs linked k (Following i) p h e tt in
        ap following (only (omega arith) l.1 s) ∙ sym (whole_by k (Following i) p h e)

    only_chain : {k : ℕ} {qs : Properties} → k ≤ length rs → ChainStands rs k qs → qs ≡ operands k
    only_chain h ended = refl
    only_chain {k} h (goes_on p s r) =
        let l = chains_later rs linked k p h in
        ap₂ more (only p h s) (only_chain l.1 r) ∙ sym (operands_step k p h)

  pub stands : 0 < length rs → StandsFor rs (property_of rs)
  unfolding Both
  stands some = record { this = (both (length rs) 1 (omega arith) (omega arith) (omega arith)).0; only = λ q s. only (omega arith) (omega arith) s }
