-- The value of a file that is taken meets its invariant.
use Rattle.std.proofs.Common.{◌≡◌, ℕ, ◌+◌, ◌<◌, List, map, is_some, sym, refl, ap, ◌∙◌, subst, arith}
use Rattle.std.specs.List.{range_with_len}
use Rattle.std.proofs.lemmas.List.FromFn.{length-map-range_with_len, get_or-map-range_with_len}
use Rattle.std.proofs.lemmas.Bool.{leb-true}
use Rattle.rules.specs.declared.layout.Layout.{Layout}
use Rattle.rules.specs.declared.records.Atom.{Atom}
use Rattle.rules.specs.declared.records.Rule.{Rule}
use Rattle.rules.specs.declared.records.Literal.{Literal}
use Rattle.rules.specs.First.{Faultless, within}
use Rattle.rules.specs.Linked.{Limited}
use Rattle.rules.specs.Tables.{tables, layout_of, move_counts, roles_in, atoms_in, rules_in, literals_in}
use Rattle.rules.specs.Taken.{Taken}
use Rattle.rules.specs.Typed.{atom_in, rule_in, literal_in, tables_from, Shaped, Counted, Enough, Moving}
use Rattle.rules.specs.Words.{word}
use Rattle.rules.proofs.Alike.{typed_fits}
use Rattle.rules.proofs.Passed.{fit_faultless}

abbrev pub Holds : Layout → List ℕ → List Atom → List Rule → List Literal → Type 0
Holds y ms ats rs ls = Shaped y ms ats rs ls × (Counted y × (Moving ms × (Enough y × (Faultless y (tables_from ats rs ls) × Unit {0}))))

-- each list is made by number from the file's words
abbrev pub Made : Layout → List ℕ → List ℕ → List Atom → List Rule → List Literal → Type 0
Made y bs ms ats rs ls =
    (ms ≡ map (λ r. word bs (6 + r)) (range_with_len 0 y.roles))
    × (ats ≡ map (atom_in (tables y bs)) (range_with_len 1 y.atoms))
    × (rs ≡ map (rule_in (tables y bs)) (range_with_len 1 y.rules))
    × (ls ≡ map (literal_in (tables y bs)) (range_with_len 1 y.literals))

module _ (bs : List ℕ) (t : Taken bs) where
  moving : Moving (move_counts bs)
  moving r h =
      let n = length-map-range_with_len (λ r. word bs (6 + r)) 0 (roles_in bs) in
      let l : r < roles_in bs = omega arith in
      ap (within 1 32) (get_or-map-range_with_len (λ r. word bs (6 + r)) 0 (roles_in bs) r r 0 l (omega arith)) ∙ t.moves r l

  holds_at : Holds (layout_of bs) (move_counts bs) (map (atom_in (tables (layout_of bs) bs)) (range_with_len 1 (atoms_in bs)))
      (map (rule_in (tables (layout_of bs) bs)) (range_with_len 1 (rules_in bs))) (map (literal_in (tables (layout_of bs) bs)) (range_with_len 1 (literals_in bs)))
  holds_at = (
    (
      sym (length-map-range_with_len (λ r. word bs (6 + r)) 0 (roles_in bs)),
      refl,
      sym (length-map-range_with_len (atom_in (tables (layout_of bs) bs)) 1 (atoms_in bs)),
      sym (length-map-range_with_len (rule_in (tables (layout_of bs) bs)) 1 (rules_in bs)),
      sym (length-map-range_with_len (literal_in (tables (layout_of bs) bs)) 1 (literals_in bs)),
    ),
    (
      t.counts,
      (
        moving,
        (
          t.enough,
          (ap is_some (fit_faultless (layout_of bs) _ (typed_fits (layout_of bs) (tables (layout_of bs) bs) t.records)), tt),
        ),
      ),
    ),
  )

  pub made_holds : (y : Layout) → y ≡ layout_of bs → (ms : List ℕ) (ats : List Atom) (rs : List Rule) (ls : List Literal) → Made y bs ms ats rs ls → Holds y ms ats rs ls
  made_holds y e =
      subst (λ z. (ms : List ℕ) (ats : List Atom) (rs : List Rule) (ls : List Literal) → Made z bs ms ats rs ls → Holds z ms ats rs ls) (sym e)
      (λ ms ats rs ls m. rw (m.0, m.1, m.2, m.3) holds_at)

  pub taken_limited : Limited (layout_of bs)
  taken_limited = (leb-true (rules_in bs) 2048 t.counts.3, leb-true (literals_in bs) 8000 t.counts.4)
