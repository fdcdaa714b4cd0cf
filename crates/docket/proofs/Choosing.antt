-- The moves of all roles, counted by role and then by move.
use Rattle.std.proofs.Common.{◌≡◌, ℕ, suc, ◌+◌, ◌-◌, ◌<◌, eqb, List, [], ◌∷◌, length, get_or, sym, ap, ◌∙◌, inl, inr, arith}
use Rattle.std.proofs.lemmas.Bool.{cases_eq, cases_lt, lt-ltb, le-ltb, eq-eqb, ne_eqb}
use Rattle.rules.specs.Tables.{total}
use Rattle.evaluate.specs.Showing.{chosen}
use Rattle.docket.specs.Choices.{choice_from}

pub role_within : (ns : List ℕ) (r c : ℕ) → c < total ns → (choice_from r ns c).role < r + length ns
role_within [] r c h = absurd (omega arith)
role_within (n ∷ ns) r c h =
    elim (cases_lt c n) [
      | inl l ↦ rw (lt-ltb c n l) (omega arith)
      | inr l ↦ let e = role_within ns (r + 1) (c - n) (omega arith) in rw (le-ltb c n l) (omega arith)
    ]

eqb_turned : (a b : ℕ) → eqb a b ≡ eqb b a
eqb_turned a b = elim (cases_eq a b) [ inl e ↦ eq-eqb a b e ∙ sym (eq-eqb b a (sym e)) | inr e ↦ ne_eqb a b e ∙ sym (ne_eqb b a (λ q. e (sym q))) ]

-- whether a move is chosen is whether its role's number is its own
pub chosen_number : (g : ℕ → ℕ) (ns ms : List ℕ) (r c : ℕ) → length ns ≡ length ms → ((i : ℕ) → i < length ms → get_or ms i 0 ≡ g (r + i)) → c < total ns
    → chosen ns ms c ≡ eqb (g (choice_from r ns c).role) (choice_from r ns c).number
chosen_number g [] ms r c e at h = absurd (omega arith)
chosen_number g (n ∷ ns) [] r c e at h = absurd (omega arith)
chosen_number g (n ∷ ns) (m ∷ ms) r c e at h =
    elim (cases_lt c n) [
      | inl l ↦
          let z : r + 0 ≡ r = omega arith in
          rw (lt-ltb c n l) (eqb_turned (c + 1) m ∙ ap (λ x. eqb x (c + 1)) (at 0 (omega arith) ∙ ap g z))
      | inr l ↦ rw (le-ltb c n l) (chosen_number g ns ms (r + 1) (c - n) (omega arith) (λ i k. at (suc i) (omega arith) ∙ ap g (omega arith)) (omega arith))
    ]
