-- A summary that fits a head, and the literals that it sums up.
use Rattle.std.proofs.Common.{◌≡◌, ℕ, zero, suc, ◌+◌, ◌≤◌, max, Bool, true, false, cond, not, ◌&&◌, ◌||◌, eqb, ltb, leb, List, [], ◌∷◌, None, refl, ap, ◌∙◌, arith}
use Rattle.std.proofs.lemmas.Bool.{and_parts, and_from, leb-true, le-leb, ne_eqb, cond-false}
use Rattle.rules.specs.declared.layout.Layout.{Layout}
use Rattle.rules.specs.declared.summaries.Summary.{Summary}
use Rattle.rules.specs.First.{first, dependent, literal_fits, literal_fault_under, body_fault, body_of}
use Rattle.rules.specs.Summaries.{joined, literal_summary, body_summary, rules_summary, fits_head}
use Rattle.rules.specs.Tables.{Tables}

neither : (d s t : Bool) → (d || not (s || t)) ≡ true → ((d || not s) ≡ true) × ((d || not t) ≡ true)
neither true s t e = (refl, refl)
neither false false false e = (refl, refl)
neither false false true e = cc
neither false true t e = cc

module _ (T : Tables) (a : ℕ) where
  fits_parts : (s t : Summary) → fits_head T a (joined s t) ≡ true → (fits_head T a s ≡ true) × (fits_head T a t ≡ true)
  fits_parts s t e =
      let p = and_parts _ _ e in
      let m = neither (dependent (T.mark a)) s.dependent t.dependent p.0 in
      let le : max s.stratum t.stratum ≤ T.stratum a = leb-true (max s.stratum t.stratum) (T.stratum a) p.1 in (
        and_from _ _ m.0 (le-leb s.stratum (T.stratum a) (omega arith)),
        and_from _ _ m.1 (le-leb t.stratum (T.stratum a) (omega arith)),
      )

  by_sign : (n s t : ℕ) → leb (s + n) t ≡ true → cond (eqb n 0) (leb s t) (ltb s t) ≡ true
  by_sign zero s t e = le-leb s t (omega (arith, leb-true (s + 0) t e))
  by_sign (suc n) s t e = cond-false (eqb (suc n) 0) (leb s t) (ltb s t) (ne_eqb (suc n) 0 (λ z. omega arith)) ∙ le-leb (suc s) t (omega (arith, leb-true (s + suc n) t e))

  literal_by_summary : (l : ℕ) → fits_head T a (literal_summary T l) ≡ true → literal_fits T a l ≡ true
  literal_by_summary l e =
      let p = and_parts _ _ e in
      and_from _ _ p.0 (by_sign (T.sign l) (T.stratum (T.names l)) (T.stratum a) p.1)

  same_by_sign : (n s t : ℕ) → n ≤ 1 → leb (s + n) t ≡ cond (eqb n 0) (leb s t) (ltb s t)
  same_by_sign zero s t h = let e : s + 0 ≡ s = omega arith in ap (λ k. leb k t) e
  same_by_sign (suc zero) s t h = let e : s + 1 ≡ suc s = omega arith in ap (λ k. leb k t) e
  same_by_sign (suc (suc n)) s t h = absurd (omega arith)

  pub literal_same : (l : ℕ) → T.sign l ≤ 1 → fits_head T a (literal_summary T l) ≡ literal_fits T a l
  literal_same l h = ap (λ b. (dependent (T.mark a) || not (dependent (T.mark (T.names l)))) && b) (same_by_sign (T.sign l) (T.stratum (T.names l)) (T.stratum a) h)

  module _ (y : Layout) where
    pub body_passes : (ls : List ℕ) → fits_head T a (body_summary T ls) ≡ true → first (literal_fault_under y T a) ls ≡ None
    body_passes [] e = refl
    body_passes (l ∷ ls) e =
        let p = fits_parts (literal_summary T l) (body_summary T ls) e in
        rw (literal_by_summary l p.0, body_passes ls p.1)

    pub rules_pass : (rs : List ℕ) → fits_head T a (rules_summary y T rs) ≡ true → first (body_fault y T a) rs ≡ None
    rules_pass [] e = refl
    rules_pass (r ∷ rs) e =
        let p = fits_parts (body_summary T (body_of y T r)) (rules_summary y T rs) e in
        rw (body_passes (body_of y T r) p.0, rules_pass rs p.1)
