-- Where chains of bodies end, and how many records of each kind rules have.
use Rattle.std.proofs.Common.{◌≡◌, ℕ, ◌+◌, ◌-◌, ◌<◌, ◌≤◌, [], map, length, ap, subst, arith}
use Rattle.std.proofs.lemmas.Bool.{and_parts, leb-true}
use Rattle.rules.specs.declared.opened.Rules.{Rules}
use Rattle.rules.specs.Opens.{atoms_of, tables_of}
use Rattle.rules.proofs.Chains.{chain_none}
use Rattle.rules.proofs.Invariant.{rules_linked}
use Rattle.evaluate.specs.Program.{atom_at, part_of, literal_at, rule_at, body_from, bodies_from}

pub body_ends : (R : Rules) → body_from R 0 ≡ []
unfolding body_from
body_ends R = ap (map (λ k. part_of (literal_at R k))) (chain_none (tables_of R).next_literal R.layout.literals)

pub bodies_end : (R : Rules) → bodies_from R 0 ≡ []
unfolding bodies_from
bodies_end R = ap (map (λ k. body_from R (rule_at R k).first)) (chain_none (tables_of R).next_rule R.layout.rules)

pub atoms_are : (R : Rules) → R.layout.atoms ≡ length (atoms_of R)
atoms_are R = R.shaped.2

pub few_atoms : (R : Rules) → length (atoms_of R) ≤ 512
few_atoms R = omega (arith, atoms_are R, leb-true R.layout.atoms 512 (and_parts _ _ R.counted.2).1)

pub first_within : (R : Rules) (a : ℕ) → a < length (atoms_of R) → (atom_at R a).first ≤ R.layout.rules
first_within R a h =
    let e : a + 1 - 1 ≡ a = omega arith in
    let l : a + 1 ≤ R.layout.atoms = omega (arith, atoms_are R) in
    subst (λ (k : ℕ). (atom_at R k).first ≤ R.layout.rules) e ((rules_linked R).first_rules (a + 1) (omega arith) l)
