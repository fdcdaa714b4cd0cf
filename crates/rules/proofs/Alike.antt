-- Tables that agree at every record have the same fit; and the tables of typed records agree with the words that they came from.
use Rattle.std.proofs.Common.{◌≡◌, ℕ, zero, suc, ◌-◌, ◌<◌, ◌≤◌, true, eqb, map, get_or, sym, refl, ap, ◌∙◌, subst, inl, inr, arith}
use Rattle.std.specs.List.{range_with_len}
use Rattle.std.proofs.lemmas.List.FromFn.{get_or-map-range_with_len}
use Rattle.std.proofs.lemmas.Bool.{eqb-true, leb-true, or_cases}
use Rattle.rules.specs.declared.kinds.Kind.{Kind}
use Rattle.rules.specs.declared.kinds.Kind.TheVariants.{Fluent, Next, Does, Legal, Terminal, Further}
use Rattle.rules.specs.declared.layout.Layout.{Layout}
use Rattle.rules.specs.Chains.{On, here, further, Later}
use Rattle.rules.specs.First.{stratum_fits, mark_fits, first_rule_fits, next_fits, name_fits, literal_fits}
use Rattle.rules.specs.Kinds.{kind_of}
use Rattle.rules.specs.Tables.{Tables}
use Rattle.rules.specs.Taken.{RecordsFit}
use Rattle.rules.specs.Typed.{mark_word, sign_word, mark_of, sign_of, atom_in, rule_in, literal_in, no_atom, no_rule, no_literal, tables_from}
use Rattle.rules.proofs.Passed.{words_linked, on_within}

pub record Agree (y : Layout) (T U : Tables) : Type 0 where
  pub stratum : (a : ℕ) → 0 < a → a ≤ y.atoms → U.stratum a ≡ T.stratum a
  pub mark : (a : ℕ) → 0 < a → a ≤ y.atoms → U.mark a ≡ T.mark a
  pub first_rule : (a : ℕ) → 0 < a → a ≤ y.atoms → U.first_rule a ≡ T.first_rule a
  pub next_rule : (r : ℕ) → 0 < r → r ≤ y.rules → U.next_rule r ≡ T.next_rule r
  pub first_literal : (r : ℕ) → 0 < r → r ≤ y.rules → U.first_literal r ≡ T.first_literal r
  pub names : (l : ℕ) → 0 < l → l ≤ y.literals → U.names l ≡ T.names l
  pub sign : (l : ℕ) → 0 < l → l ≤ y.literals → U.sign l ≡ T.sign l
  pub next_literal : (l : ℕ) → 0 < l → l ≤ y.literals → U.next_literal l ≡ T.next_literal l

-- links that agree have the same records on a chain
on_alike : (next other : ℕ → ℕ) (n : ℕ) → Later next n → ((k : ℕ) → 0 < k → k ≤ n → other k ≡ next k) → {k m : ℕ} → On other k m → (j : ℕ) → j ≡ k → j ≤ n → On next j m
on_alike next other n later same {k = zero} o j e h = elim o [ ]
on_alike next other n later same {k = suc k} here j e h = subst (λ i. On next i (suc k)) (sym e) here
on_alike next other n later same {k = suc k} {m} (further o) j e h =
    let in' : suc k ≤ n = omega arith in
    subst (λ i. On next i m) (sym e)
    (further (on_alike next other n later same o (next (suc k)) (sym (same (suc k) (omega arith) in')) (later (suc k) (omega arith) in').1))

module _ (y : Layout) (T U : Tables) (fit : RecordsFit y T) (agree : Agree y T U) where
  literal_alike : (a l : ℕ) → 0 < a → a ≤ y.atoms → 0 < l → l ≤ y.literals → literal_fits T a l ≡ true → literal_fits U a l ≡ true
  literal_alike a l pa ha pl hl e =
      let linked = words_linked y T fit.atoms fit.rules fit.literals in
      let n = linked.named l pl hl in
      let names = agree.names l pl hl in
      let e1 : U.mark a ≡ T.mark a = agree.mark a pa ha in
      let e2 : U.stratum a ≡ T.stratum a = agree.stratum a pa ha in
      let e3 : U.sign l ≡ T.sign l = agree.sign l pl hl in
      let e4 : U.mark (U.names l) ≡ T.mark (T.names l) = ap U.mark names ∙ agree.mark (T.names l) n.0 n.1 in
      let e5 : U.stratum (U.names l) ≡ T.stratum (T.names l) = ap U.stratum names ∙ agree.stratum (T.names l) n.0 n.1 in
      rw (e1, e2, e3, e4, e5) e

  pub fit_alike : RecordsFit y U
  fit_alike =
      let linked = words_linked y T fit.atoms fit.rules fit.literals in
      record {
        atoms = λ a p h. record {
          stratum = ap (stratum_fits (kind_of y.fluents y.moves a)) (agree.stratum a p h) ∙ (fit.atoms a p h).stratum;
          mark = ap (mark_fits (kind_of y.fluents y.moves a)) (agree.mark a p h) ∙ (fit.atoms a p h).mark;
          first_rule = ap (first_rule_fits (kind_of y.fluents y.moves a) y.rules) (agree.first_rule a p h) ∙ (fit.atoms a p h).first_rule;
        };
        rules = λ r p h. record {
          next_rule = ap (next_fits r y.rules) (agree.next_rule r p h) ∙ (fit.rules r p h).next_rule;
          first_literal = rw (agree.first_literal r p h) (fit.rules r p h).first_literal;
        };
        literals = λ l p h. record {
          names = ap (name_fits y) (agree.names l p h) ∙ (fit.literals l p h).names;
          sign = rw (agree.sign l p h) (fit.literals l p h).sign;
          next_literal = ap (next_fits l y.literals) (agree.next_literal l p h) ∙ (fit.literals l p h).next_literal;
        };
        conditions = λ a r l p h onr onl.
            let onr' : On T.next_rule (T.first_rule a) r = on_alike T.next_rule U.next_rule y.rules linked.next_rules agree.next_rule onr (T.first_rule a) (sym (agree.first_rule a p h)) (linked.first_rules a p h) in
            let inr' = on_within T.next_rule y.rules linked.next_rules (linked.first_rules a p h) onr' in
            let low = linked.first_literals r inr'.0 inr'.1 in
            let onl' : On T.next_literal (T.first_literal r) l = on_alike T.next_literal U.next_literal y.literals linked.next_literals agree.next_literal onl (T.first_literal r) (sym (agree.first_literal r inr'.0 inr'.1)) low in
            let inl' = on_within T.next_literal y.literals linked.next_literals low onl' in
            literal_alike a l p h inl'.0 inl'.1 (fit.conditions a r l p h onr' onl');
      }

mark_small : (k : Kind) (n : ℕ) → mark_fits k n ≡ true → n ≤ 2
mark_small Fluent n e = elim (or_cases (eqb n 0) (eqb n 2) e) [ inl q ↦ omega (arith, eqb-true n 0 q) | inr q ↦ omega (arith, eqb-true n 2 q) ]
mark_small Next n e = omega (arith, eqb-true n 1 e)
mark_small Does n e = omega (arith, eqb-true n 1 e)
mark_small Legal n e = omega (arith, eqb-true n 0 e)
mark_small Terminal n e = omega (arith, eqb-true n 0 e)
mark_small Further n e = omega (arith, leb-true n 1 e)

mark_back : (n : ℕ) → n ≤ 2 → mark_word (mark_of n) ≡ n
mark_back zero h = refl
mark_back (suc zero) h = refl
mark_back (suc (suc zero)) h = refl
mark_back (suc (suc (suc n))) h = absurd (omega arith)

sign_back : (n : ℕ) → n ≤ 1 → sign_word (sign_of n) ≡ n
sign_back zero h = refl
sign_back (suc zero) h = refl
sign_back (suc (suc n)) h = absurd (omega arith)

-- record n of a list made by number
at_number : {X : Type 0} (f : ℕ → X) (n k : ℕ) (d : X) → 0 < k → k ≤ n → get_or (map f (range_with_len 1 n)) (k - 1) d ≡ f k
at_number f n k d p h = get_or-map-range_with_len f 1 n (k - 1) k d (omega arith) (omega arith)

module _ (y : Layout) (T : Tables) (fit : RecordsFit y T) where
  abbrev pub typed : Tables
  typed = tables_from (map (atom_in T) (range_with_len 1 y.atoms)) (map (rule_in T) (range_with_len 1 y.rules)) (map (literal_in T) (range_with_len 1 y.literals))

  typed_agrees : Agree y T typed
  typed_agrees = record {
    stratum = λ a p h. ap (λ r. r.stratum) (at_number (atom_in T) y.atoms a no_atom p h);
    mark = λ a p h. ap (λ r. mark_word r.mark) (at_number (atom_in T) y.atoms a no_atom p h) ∙ mark_back (T.mark a) (mark_small (kind_of y.fluents y.moves a) (T.mark a) (fit.atoms a p h).mark);
    first_rule = λ a p h. ap (λ r. r.first) (at_number (atom_in T) y.atoms a no_atom p h);
    next_rule = λ r p h. ap (λ q. q.next) (at_number (rule_in T) y.rules r no_rule p h);
    first_literal = λ r p h. ap (λ q. q.first) (at_number (rule_in T) y.rules r no_rule p h);
    names = λ l p h. ap (λ q. q.atom) (at_number (literal_in T) y.literals l no_literal p h);
    sign = λ l p h. ap (λ q. sign_word q.sign) (at_number (literal_in T) y.literals l no_literal p h) ∙ sign_back (T.sign l) (fit.literals l p h).sign;
    next_literal = λ l p h. ap (λ q. q.next) (at_number (literal_in T) y.literals l no_literal p h);
  }

  pub typed_fits : RecordsFit y typed
  typed_fits = fit_alike y T typed fit typed_agrees
