use Rattle.std.proofs.Common.{◌≡◌, ℕ, [], eqb, get_or, vec_items, sym, ap, ◌∙◌}
use Rattle.std.proofs.lemmas.Bool.{eq-eqb, ne_eqb}
use Rattle.rules.specs.Typed.{no_atom}
use Rattle.evaluate.specs.Program.{atom_at}
use Rattle.evaluate.proofs.Passings.{passing_none, passing_more, passing_same}
use Rattle.evaluate.proofs.index.gather.Goals as goal
use Rattle.evaluate.proofs.index.gather.Goals.{then-record-s+in_ok-push, else-record-s}

pub loop-atom-init : goal.loop-atom-init
loop-atom-init c = c.new-members.ensures.items ∙ sym (passing_none _)

pub loop-atom-preserved : goal.loop-atom-preserved
loop-atom-preserved c =
    let R = c.args.rules.now in
    let p = λ (a : ℕ). eqb (atom_at R a).stratum c.args.s in
    let a = c.loop-atom.atom in
    let read : (atom_at R a).stratum ≡ (get_or c.atoms-record-items.result.now a no_atom).stratum = ap (λ l. (get_or l a no_atom).stratum) (sym c.atoms-record-items.ensures) in
    elim c.if-record-s.branch [
      | then-record-s+in_ok-push w ↦ passing_more p a [] _ c.loop-atom.invariant _ (eq-eqb _ _ (read ∙ w.if-record-s.true)) (ap vec_items w.members-is ∙ w.in_ok-push.ensures.items)
      | else-record-s w ↦ ap vec_items w.members-is ∙ passing_same p a [] _ c.loop-atom.invariant (ne_eqb _ _ (λ e. w.if-record-s.false (sym read ∙ e)))
    ]
