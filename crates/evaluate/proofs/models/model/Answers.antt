use Rattle.std.proofs.Common.{◌≡◌, ℕ, ◌+◌, ◌*◌, ◌<◌, ◌≤◌, ltb, length, get_or, sym, ap, ◌∙◌, arith, rules}
use Rattle.std.proofs.lemmas.Bool.{cond-true, lt-ltb}
use Rattle.truth.specs.declared.three.Three.TheVariants.{No}
use Rattle.rules.specs.Opens.{moves_of}
use Rattle.evaluate.specs.Grids.{row}
use Rattle.evaluate.specs.Indexing.{indexed_rules, size}
use Rattle.evaluate.specs.Positions.{fluents, choices, does_at, does, holds_in}
use Rattle.truth.specs.Three.{answer}
use Rattle.evaluate.specs.Showing.{chosen, moves_fit}
use Rattle.evaluate.proofs.Chains.{few_atoms}
use Rattle.evaluate.proofs.Fitting.{enough}
use Rattle.evaluate.proofs.Rows.{row_at, row_length}
use Rattle.evaluate.proofs.Shown.{fit_length, chosen_does, row_shows}
use Rattle.evaluate.proofs.models.model.Goals as goal

pub put_moves-requires-clause-each : goal.put_moves-requires-clause-each
put_moves-requires-clause-each c =
    let R = indexed_rules c.args.rules in
    fit_length (moves_of R) c.args.joint.now (ap (λ l. moves_fit l c.args.joint.now) (sym c.moves.ensures) ∙ sym c.if-not-moves_fit.ensures)

pub returns-clause-standard : goal.returns-clause-standard
returns-clause-standard c =
    let I = c.args.rules in
    let R = indexed_rules I in
    let n = size I in
    let S = c.args.position.now in
    let js = c.args.joint.now in
    let ws = c.put_moves.new.values in
    let xs = c.evaluate.new.self.values.now in
    let F : length S ≡ fluents R = c.if-position-fluents.false ∙ c.from-fluents.ensures ∙ ap (λ y. y.fluents) c.layout.ensures in
    let long : 0 * 512 + n ≤ length ws = omega (arith, few_atoms R) in
    let long' : 0 * 512 + n ≤ length xs = omega (arith, few_atoms R) in
    λ _ A made M m a h.
    let start : (k : ℕ) → k < fluents R → get_or (row n ws 0) k No ≡ answer (holds_in S k) = λ k l.
    let i : k < n = omega (arith, enough R) in
    let e : 0 * 512 + k ≡ k = omega arith in
    row_at n ws 0 k No i ∙ ap (λ j. get_or ws j No) e ∙ c.put_moves.ensures.below k No l ∙ c.put_position.ensures k No
    ∙ cond-true (ltb k (length S)) (answer (holds_in S k)) (get_or c.args.values.now k No) (lt-ltb k (length S) (omega arith)) in
    let doing : (k : ℕ) → k < choices R → get_or (row n ws 0) (does_at R k) No ≡ answer (does A k) = λ k l.
    let i : does_at R k < n = omega (arith, enough R) in
    let e : 0 * 512 + does_at R k ≡ does_at R k = omega arith in
    row_at n ws 0 (does_at R k) No i ∙ ap (λ j. get_or ws j No) e ∙ c.put_moves.ensures.does k No l
    ∙ ap answer (ap (λ ms. chosen (moves_of R) ms k) (sym made) ∙ chosen_does A k) in
    let e : 0 * 512 + a ≡ a = omega arith in
    let same : c.values-3-1.given.0 ≡ xs = search rules in
    ap (λ l. get_or l a No) same ∙ ap (λ j. get_or xs j No) (sym e) ∙ sym (row_at n xs 0 a No h)
    ∙ row_shows R S A M m (row n ws 0) (row n xs 0) (row_length n ws 0 long) (row_length n xs 0 long') start doing c.evaluate.ensures.values a h
