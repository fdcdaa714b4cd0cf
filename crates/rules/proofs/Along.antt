-- Chains of typed records, a record at a time.
use Rattle.std.proofs.Common.{◌≡◌, ℕ, zero, suc, ◌-◌, ◌<◌, ◌≤◌, List, [], ◌∷◌, map, length, slice_index_or, get_or, drop, sym, refl, ap, ◌∙◌, subst, ap₂, arith}
use Rattle.std.proofs.lemmas.List.{get_or_default}
use Rattle.rules.specs.declared.opened.Rules.{Rules}
use Rattle.rules.specs.declared.records.Rule.{Rule}
use Rattle.rules.specs.declared.records.Literal.{Literal}
use Rattle.rules.specs.Chains.{Later}
use Rattle.rules.specs.Opens.{rules_of, literals_of}
use Rattle.rules.specs.Typed.{no_rule, no_literal}
use Rattle.rules.specs.Walks.{links, walk}
use Rattle.rules.proofs.Chains.{chain_none, chain_step}
use Rattle.rules.proofs.Invariant.{rules_linked}

module _ {X : Type 0} (next : X → ℕ) (none : X) (xs : List X) where
  abbrev numbered : ℕ → ℕ × X
  numbered j = (j, slice_index_or xs (j - 1) none)

  pub walk_none : walk next none xs 0 ≡ []
  unfolding walk
  walk_none = ap (map numbered) (chain_none (links next none xs) (length xs))

  module _ (later : Later (links next none xs) (length xs)) where
    pub walk_step : (k : ℕ) → 0 < k → k ≤ length xs → walk next none xs k ≡ (k, slice_index_or xs (k - 1) none) ∷ walk next none xs (links next none xs k)
    unfolding walk
    walk_step k p h = ap (map numbered) (chain_step (links next none xs) (length xs) later k p h)

    -- the record read at index i - 1, whatever is read behind the last, and its link j
    pub walk_step_to : (k i j : ℕ) (d : X) → 0 < k → k ≤ length xs → i ≡ k → j ≡ next (slice_index_or xs (i - 1) d) → walk next none xs k ≡ (k, slice_index_or xs (i - 1) d) ∷ walk next none xs j
    walk_step_to k i j d p h e to =
        let read : slice_index_or xs (i - 1) d ≡ slice_index_or xs (k - 1) none = get_or_default xs (i - 1) d none (omega arith) ∙ ap (λ n. slice_index_or xs (n - 1) none) e in
        walk_step k p h ∙ ap₂ (λ y n. (k, y) ∷ walk next none xs n) (sym read) (sym (to ∙ ap next read))

    -- what a walk that goes on, or is over, says of where it stands
    pub walk_first : (k : ℕ) (p : ℕ × X) (ps : List (ℕ × X)) → k ≤ length xs → walk next none xs k ≡ p ∷ ps → (0 < k) × (p.0 ≡ k) × (ps ≡ walk next none xs (links next none xs k))
    walk_first zero p ps h e = absurd (let n = walk_none in cc)
    walk_first (suc k) p ps h e =
        let s = sym (walk_step (suc k) (omega arith) h) ∙ e in
        (omega arith, sym (ap (λ qs. (get_or qs 0 p).0) s), sym (ap (drop 1) s))

    pub walk_over : (k : ℕ) → k ≤ length xs → walk next none xs k ≡ [] → k ≡ 0
    walk_over zero h e = refl
    walk_over (suc k) h e = absurd (let s = walk_step (suc k) (omega arith) h in cc)

module _ (R : Rules) where
  pub rules_later : Later (links (λ (r : Rule). r.next) no_rule (rules_of R)) (length (rules_of R))
  rules_later = subst (λ n. Later (links (λ (r : Rule). r.next) no_rule (rules_of R)) n) R.shaped.3 (rules_linked R).next_rules

  pub literals_later : Later (links (λ (l : Literal). l.next) no_literal (literals_of R)) (length (literals_of R))
  literals_later = subst (λ n. Later (links (λ (l : Literal). l.next) no_literal (literals_of R)) n) R.shaped.4 (rules_linked R).next_literals
