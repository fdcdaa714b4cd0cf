use Rattle.std.proofs.Common.{◌≡◌, ℕ, ◌≤◌, get_or, sym, ap, ◌∙◌, subst}
use Rattle.rules.specs.Typed.{no_atom}
use Rattle.evaluate.specs.Program.{atom_at}
use Rattle.evaluate.specs.Indexing.{indexed_rules}
use Rattle.evaluate.proofs.Chains.{first_within}
use Rattle.evaluate.proofs.indexed.Indexed.head.Goals as goal

pub any_body-requires-clause-first : goal.any_body-requires-clause-first
any_body-requires-clause-first g c =
    let R = indexed_rules c.args.self in
    let same : (get_or c.atoms.result.now c.from.result no_atom).first ≡ (atom_at R c.args.atom).first =
    ap (λ l. (get_or l c.from.result no_atom).first) c.atoms.ensures ∙ ap (λ k. (atom_at R k).first) c.from.ensures in
    subst (λ (k : ℕ). k ≤ R.layout.rules) (sym same) (first_within R c.args.atom c.requires.atom)
