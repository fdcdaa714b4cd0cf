-- A table that is filled from its last entry down, where each entry reads later ones; entry 0 stays.
use Rattle.std.proofs.Common.{◌≡◌, ℕ, ◌+◌, ◌-◌, ◌<◌, ◌≤◌, ◌≢◌, List, length, get_or, set, sym, ap, ◌∙◌, inl, inr, arith}
use Rattle.std.proofs.lemmas.List.{length-set, get_or-set_same, get_or-set_other}
use Rattle.std.proofs.lemmas.Bool.{cases_eq}

-- of the entries up to n, those above i are as g says
abbrev pub FilledDown : {S : Type 0} → S → (ℕ → S) → ℕ → ℕ → ℕ → List S → Type 0
FilledDown e g n size i ss = (length ss ≡ size) × (get_or ss 0 e ≡ e) × ((k : ℕ) → i < k → k ≤ n → get_or ss k e ≡ g k)

module _ {S : Type 0} (e : S) (g : ℕ → S) (n size : ℕ) (ss : List S) where
  -- an entry that is filled already
  pub down_read : (i : ℕ) → FilledDown e g n size i ss → g 0 ≡ e → (k : ℕ) → (0 < k → i < k) → k ≤ n → get_or ss k e ≡ g k
  down_read i f z k later h =
      elim (cases_eq k 0) [
        | inl q ↦ ap (λ j. get_or ss j e) q ∙ f.1 ∙ sym z ∙ ap g (sym q)
        | inr q ↦ f.2 k (later (omega arith)) h
      ]

  pub down_step : (i j : ℕ) (v : S) → FilledDown e g n size i ss → 0 < i → i ≤ n → n < size → j ≡ i - 1 + 1 → v ≡ g i → FilledDown e g n size (i - 1) (set ss j v)
  down_step i j v f above h room at is =
      let ji : j ≡ i = omega arith in
      let lt : j < length ss = omega (arith, f.0) in
      let z : 0 ≢ j = omega arith in (
        length-set ss j v ∙ f.0,
        get_or-set_other ss j 0 v e z ∙ f.1,
        λ k l m. elim (cases_eq k j) [
          | inl q ↦ ap (λ i. get_or (set ss j v) i e) q ∙ get_or-set_same ss j v e lt ∙ is ∙ ap g (sym (q ∙ ji))
          | inr q ↦ get_or-set_other ss j k v e q ∙ f.2 k (omega arith) m
        ],
      )
