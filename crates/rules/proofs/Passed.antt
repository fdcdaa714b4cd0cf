-- Checks that find nothing, and what their words then are.
use Rattle.std.proofs.Common.{◌≡◌, ℕ, zero, suc, ◌+◌, ◌<◌, ◌≤◌, Bool, true, false, eqb, Some, None, Option, sym, refl, ap, ◌∙◌, ap₂, inl, inr, arith}
use Rattle.std.specs.List.{range_with_len}
use Rattle.std.proofs.lemmas.Bool.{and_parts, or_cases, leb-true, le-leb, eqb-true, cases_eq}
use Rattle.rules.specs.declared.kinds.Kind.{Kind}
use Rattle.rules.specs.declared.kinds.Kind.TheVariants.{Fluent, Next, Does, Legal, Terminal, Further}
use Rattle.rules.specs.declared.layout.Layout.{Layout}
use Rattle.rules.specs.Chains.{chain, On, here, further, Later}
use Rattle.rules.specs.First.{unless, or_else, first, within, first_rule_fits, next_fits, name_fits, atom_fault, rule_fault, literal_fault, literal_fault_under, body_fault, head_fault, records_fault}
use Rattle.rules.specs.Kinds.{kind_of}
use Rattle.rules.specs.Linked.{Linked}
use Rattle.rules.specs.Tables.{Tables}
use Rattle.rules.specs.Taken.{AtomWords, RuleWords, LiteralWords, RecordsFit}
use Rattle.rules.proofs.Chains.{chain_step}

pub unless_none : {X : Type 0} (b : Bool) (x : X) → unless b x ≡ None → b ≡ true
unless_none true x e = refl
unless_none false x e = cc

pub unless_true : {X : Type 0} (b : Bool) (x : X) → b ≡ true → unless b x ≡ None
unless_true b x e = ap (λ t. unless t x) e

pub both_none : {X : Type 0} (o p : Option X) → or_else o p ≡ None → (o ≡ None) × (p ≡ None)
both_none None p e = (refl, e)
both_none (Some x) p e = cc

pub none_both : {X : Type 0} (o p : Option X) → o ≡ None → p ≡ None → or_else o p ≡ None
none_both o p d e = ap₂ or_else d e

module _ {X : Type 0} (f : ℕ → Option X) where
  -- along numbers in a row
  pub first_each : (n a : ℕ) → first f (range_with_len a n) ≡ None → (k : ℕ) → a ≤ k → k < a + n → f k ≡ None
  first_each zero a e k l h = absurd (omega arith)
  first_each (suc n) a e k l h =
      let p = both_none (f a) (first f (range_with_len (a + 1) n)) e in
      elim (cases_eq k a) [ inl q ↦ ap f q ∙ p.0 | inr q ↦ first_each n (a + 1) p.1 k (omega arith) (omega arith) ]

  pub each_first : (n a : ℕ) → ((k : ℕ) → a ≤ k → k < a + n → f k ≡ None) → first f (range_with_len a n) ≡ None
  each_first zero a e = refl
  each_first (suc n) a e = none_both (f a) _ (e a (omega arith) (omega arith)) (each_first n (a + 1) (λ k l h. e k (omega arith) (omega arith)))

  -- along a chain
  module _ (next : ℕ → ℕ) where
    pub first_on : (n : ℕ) → Later next n → {k m : ℕ} → k ≤ n → first f (chain next n k) ≡ None → On next k m → f m ≡ None
    first_on n later {k = zero} h e o = elim o [ ]
    first_on n later {k = suc k} h e here = (both_none (f (suc k)) _ (sym (ap (first f) (chain_step next n later (suc k) (omega arith) h)) ∙ e)).0
    first_on n later {k = suc k} h e (further o) =
        first_on n later (later (suc k) (omega arith) h).1 (both_none (f (suc k)) _ (sym (ap (first f) (chain_step next n later (suc k) (omega arith) h)) ∙ e)).1 o

    pub on_first : (n k : ℕ) → ((m : ℕ) → On next k m → f m ≡ None) → first f (chain next n k) ≡ None
    unfolding chain
    on_first zero k e = refl
    on_first (suc n) zero e = refl
    on_first (suc n) (suc k) e = none_both (f (suc k)) _ (e (suc k) here) (on_first n (next (suc k)) (λ m o. e m (further o)))

-- a record on a chain is one of the n records
pub on_within : (next : ℕ → ℕ) (n : ℕ) → Later next n → {k m : ℕ} → k ≤ n → On next k m → (0 < m) × (m ≤ n)
on_within next n later {k = zero} h o = elim o [ ]
on_within next n later {k = suc k} h here = (omega arith, h)
on_within next n later {k = suc k} h (further o) = on_within next n later (later (suc k) (omega arith) h).1 o

-- The words of each kind of record, and back.
module _ (y : Layout) (T : Tables) where
  pub atom_passes : (a : ℕ) → atom_fault y T a ≡ None → AtomWords y T a
  atom_passes a e =
      let p = both_none _ _ e in
      let q = both_none _ _ p.1 in
      record { stratum = unless_none _ _ p.0; mark = unless_none _ _ q.0; first_rule = unless_none _ _ q.1 }

  pub passes_atom : (a : ℕ) → AtomWords y T a → atom_fault y T a ≡ None
  passes_atom a w = none_both _ _ (unless_true _ _ w.stratum) (none_both _ _ (unless_true _ _ w.mark) (unless_true _ _ w.first_rule))

  pub rule_passes : (r : ℕ) → rule_fault y T r ≡ None → RuleWords y T r
  rule_passes r e =
      let p = both_none _ _ e in
      record { next_rule = unless_none _ _ p.0; first_literal = leb-true (T.first_literal r) y.literals (unless_none _ _ p.1) }

  pub passes_rule : (r : ℕ) → RuleWords y T r → rule_fault y T r ≡ None
  passes_rule r w = none_both _ _ (unless_true _ _ w.next_rule) (unless_true _ _ (le-leb (T.first_literal r) y.literals w.first_literal))

  pub literal_passes : (l : ℕ) → literal_fault y T l ≡ None → LiteralWords y T l
  literal_passes l e =
      let p = both_none _ _ e in
      let q = both_none _ _ p.1 in
      record { names = unless_none _ _ p.0; sign = leb-true (T.sign l) 1 (unless_none _ _ q.0); next_literal = unless_none _ _ q.1 }

  pub passes_literal : (l : ℕ) → LiteralWords y T l → literal_fault y T l ≡ None
  passes_literal l w = none_both _ _ (unless_true _ _ w.names) (none_both _ _ (unless_true _ _ (le-leb (T.sign l) 1 w.sign)) (unless_true _ _ w.next_literal))

  first_within : (k : Kind) (Q n : ℕ) → first_rule_fits k Q n ≡ true → n ≤ Q
  first_within Fluent Q n e = omega (arith, eqb-true n 0 e)
  first_within Does Q n e = omega (arith, eqb-true n 0 e)
  first_within Next Q n e = leb-true n Q e
  first_within Legal Q n e = leb-true n Q e
  first_within Terminal Q n e = leb-true n Q e
  first_within Further Q n e = leb-true n Q e

  next_later : (k n i : ℕ) → next_fits k n i ≡ true → (0 < i → k < i) × (i ≤ n)
  next_later k n i e =
      elim (or_cases (eqb i 0) (within (k + 1) n i) e) [
        | inl q ↦ (let z = eqb-true i 0 q in ((λ h. omega arith), omega arith))
        | inr q ↦ (let p = and_parts _ _ q in let a = leb-true (k + 1) i p.0 in ((λ h. omega arith), leb-true i n p.1))
      ]

  name_within : (a : ℕ) → name_fits y a ≡ true → (0 < a) × (a ≤ y.atoms)
  name_within a e =
      let p = and_parts _ _ (and_parts (within 1 y.atoms a) _ e).0 in
      let l = leb-true 1 a p.0 in
      (omega arith, leb-true a y.atoms p.1)

  module _ (atoms : (a : ℕ) → 0 < a → a ≤ y.atoms → AtomWords y T a)
      (rules : (r : ℕ) → 0 < r → r ≤ y.rules → RuleWords y T r)
      (literals : (l : ℕ) → 0 < l → l ≤ y.literals → LiteralWords y T l) where
    pub words_linked : Linked y T
    words_linked = record {
      first_rules = λ a p h. first_within (kind_of y.fluents y.moves a) y.rules (T.first_rule a) (atoms a p h).first_rule;
      next_rules = λ r p h. next_later r y.rules (T.next_rule r) (rules r p h).next_rule;
      first_literals = λ r p h. (rules r p h).first_literal;
      next_literals = λ l p h. next_later l y.literals (T.next_literal l) (literals l p h).next_literal;
      named = λ l p h. name_within (T.names l) (literals l p h).names;
      signed = λ l p h. (literals l p h).sign;
    }

  pub passed_linked : first (atom_fault y T) (range_with_len 1 y.atoms) ≡ None → first (rule_fault y T) (range_with_len 1 y.rules) ≡ None → first (literal_fault y T) (range_with_len 1 y.literals) ≡ None → Linked y T
  passed_linked as' rs ls =
      words_linked
      (λ a p h. atom_passes a (first_each (atom_fault y T) y.atoms 1 as' a (omega arith) (omega arith)))
      (λ r p h. rule_passes r (first_each (rule_fault y T) y.rules 1 rs r (omega arith) (omega arith)))
      (λ l p h. literal_passes l (first_each (literal_fault y T) y.literals 1 ls l (omega arith) (omega arith)))

  -- no fault in the records, and their fit
  pub records_pass : records_fault y T ≡ None → RecordsFit y T
  records_pass e =
      let p = both_none (first (atom_fault y T) (range_with_len 1 y.atoms)) _ e in
      let q = both_none (first (rule_fault y T) (range_with_len 1 y.rules)) _ p.1 in
      let s = both_none (first (literal_fault y T) (range_with_len 1 y.literals)) _ q.1 in
      let t = both_none (first (head_fault y T) (range_with_len 1 y.atoms)) None s.1 in
      let linked = passed_linked p.0 q.0 s.0 in
      record {
        atoms = λ a z h. atom_passes a (first_each (atom_fault y T) y.atoms 1 p.0 a (omega arith) (omega arith));
        rules = λ r z h. rule_passes r (first_each (rule_fault y T) y.rules 1 q.0 r (omega arith) (omega arith));
        literals = λ l z h. literal_passes l (first_each (literal_fault y T) y.literals 1 s.0 l (omega arith) (omega arith));
        conditions = λ a r l z h onr onl.
            let under = first_each (head_fault y T) y.atoms 1 t.0 a (omega arith) (omega arith) in
            let body = first_on (body_fault y T a) T.next_rule y.rules linked.next_rules (linked.first_rules a z h) under onr in
            let at = on_within T.next_rule y.rules linked.next_rules (linked.first_rules a z h) onr in
            unless_none _ _ (first_on (literal_fault_under y T a) T.next_literal y.literals linked.next_literals (linked.first_literals r at.0 at.1) body onl);
      }

  pub fit_faultless : RecordsFit y T → records_fault y T ≡ None
  fit_faultless f =
      none_both (first (atom_fault y T) (range_with_len 1 y.atoms)) _ (each_first (atom_fault y T) y.atoms 1 (λ a p h. passes_atom a (f.atoms a (omega arith) (omega arith))))
      (none_both (first (rule_fault y T) (range_with_len 1 y.rules)) _ (each_first (rule_fault y T) y.rules 1 (λ r p h. passes_rule r (f.rules r (omega arith) (omega arith))))
      (none_both (first (literal_fault y T) (range_with_len 1 y.literals)) _ (each_first (literal_fault y T) y.literals 1 (λ l p h. passes_literal l (f.literals l (omega arith) (omega arith))))
      (none_both (first (head_fault y T) (range_with_len 1 y.atoms)) None
      (each_first (head_fault y T) y.atoms 1 (λ a p h.
      on_first (body_fault y T a) T.next_rule y.rules (T.first_rule a) (λ r onr.
      on_first (literal_fault_under y T a) T.next_literal y.literals (T.first_literal r) (λ l onl.
      unless_true _ _ (f.conditions a r l (omega arith) (omega arith) onr onl)))))
      refl)))
