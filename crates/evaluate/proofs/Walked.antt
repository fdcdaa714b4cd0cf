-- Bodies by the typed records on their chains.
use Rattle.std.proofs.Common.{◌≡◌, ℕ, ◌<◌, ◌≤◌, List, map, length, sym, ap, ◌∙◌, arith}
use Rattle.std.proofs.lemmas.Simd.{map-map}
use Rattle.rules.specs.Chains.{chain}
use Rattle.rules.specs.declared.opened.Rules.{Rules}
use Rattle.rules.specs.declared.records.Literal.{Literal}
use Rattle.rules.specs.declared.records.Rule.{Rule}
use Rattle.rules.specs.Opens.{atoms_of, rules_of, literals_of, tables_of}
use Rattle.rules.specs.Typed.{no_rule, no_literal}
use Rattle.rules.specs.Walks.{walk}
use Rattle.rules.proofs.Invariant.{rules_linked}
use Rattle.rules.proofs.Passed.{on_within}
use Rattle.evaluate.specs.Lists.{Each}
use Rattle.evaluate.specs.Program.{Part, part_of, literal_at, rule_at, body_from, bodies_from}
use Rattle.evaluate.proofs.Chains.{atoms_are}
use Rattle.evaluate.proofs.Fitting.{on_each}

abbrev pub literals_along : List Literal → ℕ → List (ℕ × Literal)
literals_along = walk (λ (l : Literal). l.next) no_literal

abbrev pub rules_along : List Rule → ℕ → List (ℕ × Rule)
rules_along = walk (λ (r : Rule). r.next) no_rule

abbrev pub parts : ℕ × Literal → Part
parts p = part_of p.1

abbrev pub bodies : Rules → ℕ × Rule → List Part
bodies R p = body_from R p.1.first

module _ (R : Rules) where
  -- a literal's atom, and a rule's first literal
  abbrev pub Named : ℕ × Literal → Type 0
  Named p = (0 < p.1.atom) × (p.1.atom ≤ length (atoms_of R))

  abbrev pub Begins : ℕ × Rule → Type 0
  Begins p = p.1.first ≤ R.layout.literals

  pub along_named : (k : ℕ) → k ≤ R.layout.literals → Each Named (literals_along (literals_of R) k)
  unfolding walk
  along_named k h =
      on_each Named (λ j. (j, literal_at R j)) (tables_of R).next_literal (length (literals_of R)) k (λ m on.
      let i = on_within (tables_of R).next_literal R.layout.literals (rules_linked R).next_literals h on in
      let n = (rules_linked R).named m i.0 i.1 in (n.0, omega (arith, n.1, atoms_are R)))

  pub along_begins : (k : ℕ) → k ≤ R.layout.rules → Each Begins (rules_along (rules_of R) k)
  unfolding walk
  along_begins k h =
      on_each Begins (λ j. (j, rule_at R j)) (tables_of R).next_rule (length (rules_of R)) k (λ m on.
      let i = on_within (tables_of R).next_rule R.layout.rules (rules_linked R).next_rules h on in
      (rules_linked R).first_literals m i.0 i.1)

  pub along_body : (k : ℕ) → map parts (literals_along (literals_of R) k) ≡ body_from R k
  unfolding walk body_from
  along_body k =
      map-map parts (λ (j : ℕ). (j, literal_at R j)) (chain (tables_of R).next_literal (length (literals_of R)) k)
      ∙ ap (λ n. map (λ j. part_of (literal_at R j)) (chain (tables_of R).next_literal n k)) (sym R.shaped.4)

  pub along_bodies : (k : ℕ) → map (bodies R) (rules_along (rules_of R) k) ≡ bodies_from R k
  unfolding walk bodies_from
  along_bodies k =
      map-map (bodies R) (λ (j : ℕ). (j, rule_at R j)) (chain (tables_of R).next_rule (length (rules_of R)) k)
      ∙ ap (λ n. map (λ j. body_from R (rule_at R j).first) (chain (tables_of R).next_rule n k)) (sym R.shaped.3)
