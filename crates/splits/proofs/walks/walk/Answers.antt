use Rattle.std.proofs.Common.{◌+◌, ◌∷◌, set, Ok, sym, refl, ap, ◌∙◌, arith}
use Rattle.std.proofs.lemmas.Result.{err_from_is_err_and}
use Rattle.splits.specs.Stacks.{splits}
use Rattle.splits.proofs.Counts.{branch_some}
use Rattle.splits.proofs.Shapings.{proper}
use Rattle.splits.proofs.Walkings.{walking_same, walking_past, walking_fault, walking_open, walking_close, walking_room, walking_split, walking_wrong, walking_turn, none_left}
use Rattle.splits.proofs.walks.walk.Goals.{in-Some-split, in_default+then-is_closed}
use Rattle.splits.proofs.walks.walk.Goals as goal

pub returns-then-at-records-clause-answer : goal.returns-then-at-records-clause-answer
returns-then-at-records-clause-answer g c = walking_past (walking_same c.loop-over.invariant.walking refl refl c.in-None.is) c.if-at-records.true

pub returns-in_err-split-in-None-clause-answer : goal.returns-in_err-split-in-None-clause-answer
returns-in_err-split-in-None-clause-answer g c =
    let p = err_from_is_err_and c.from_residual.result c.from_residual.ensures.1 in
    rw (p.1, p.2) (walking_fault (walking_same c.loop-over.invariant.walking refl refl c.in-None.is) _ c.if-at-records.false (sym c.in_err-split-in-None.was ∙ c.read_input.ensures))

pub enter-requires-clause-room : goal.enter-requires-clause-room
enter-requires-clause-room g c =
    let r = walking_room (walking_same c.loop-over.invariant.walking refl refl c.in-None.is) c.in-Some-split.input (omega arith) (ap Ok (sym c.in-Some-split.is) ∙ c.in_ok-split-in-None.ensures) in
    omega (arith, r.1, c.loop-over.invariant.room)

pub enter-requires-clause-input : goal.enter-requires-clause-input
enter-requires-clause-input g c =
    let r = walking_room (walking_same c.loop-over.invariant.walking refl refl c.in-None.is) c.in-Some-split.input (omega arith) (ap Ok (sym c.in-Some-split.is) ∙ c.in_ok-split-in-None.ensures) in
    rw c.first.ensures (omega (arith, r.0))

pub returns-else-is_closed-clause-answer : goal.returns-else-is_closed-clause-answer
returns-else-is_closed-clause-answer g c =
    walking_open (walking_same c.loop-over.invariant.walking refl refl c.in-None.is) c.if-at-records.false (ap Ok (sym c.in_default.is) ∙ c.in_ok-split-in-None.ensures)
    (ap (λ f. f c.loop-over.settings) (sym c.loop-over.invariant.same_judge) ∙ sym c.if-is_closed.ensures.says)

pub loop-over-preserved-in-None : goal.loop-over-preserved-in-None
loop-over-preserved-in-None g c =
    let v = walking_same c.loop-over.invariant.walking refl refl c.in-None.is in
    elim c.match-split.branch [
      | in-Some-split w ↦
          let n = walking_split v w.in-Some-split.input (omega arith) (λ m _. branch_some _ (proper c.args.shape) m) c.if-at-records.false (ap Ok (sym w.in-Some-split.is) ∙ c.in_ok-split-in-None.ensures) in
          let e = w.enter.ensures.settled ∙ ap (λ o. set c.loop-over.settings o.input (o.branch + 1)) w.first.ensures in
          let f = w.enter.ensures.pushed ∙ ap (λ o. o ∷ splits c.loop-over.splits) w.first.ensures in
          rw (w.settings-is, w.judge-is, w.splits-is, w.over-is) (record { same_judge = c.loop-over.invariant.same_judge; room = omega (arith, w.enter.ensures.room, c.loop-over.invariant.room); walking = walking_same n (sym e) (sym f) (sym c.in-None.is) })
      | in_default+then-is_closed w ↦
          let n = walking_close v c.if-at-records.false (ap Ok (sym w.in_default.is) ∙ c.in_ok-split-in-None.ensures) (ap (λ f. f c.loop-over.settings) (sym c.loop-over.invariant.same_judge) ∙ sym w.if-is_closed.ensures.says) in
          rw (w.settings-is, w.judge-is, w.splits-is, w.over-is) (record { same_judge = w.is_closed.ensures.same ∙ c.loop-over.invariant.same_judge; room = c.loop-over.invariant.room; walking = n })
    ]

pub returns-in_err-check_next-in-Some-clause-answer : goal.returns-in_err-check_next-in-Some-clause-answer
returns-in_err-check_next-in-Some-clause-answer g c =
    let p = err_from_is_err_and c.from_residual-in_err-check_next-in-Some.result c.from_residual-in_err-check_next-in-Some.ensures.1 in
    let w = walking_same c.loop-over.invariant.walking refl c.in-Some-pop.ensures.popped c.in-Some.is in
    rw (p.1, p.2) (walking_wrong w c.is_last-last.result _ (none_left _ _ ∙ sym c.is_last-last.ensures) (sym c.in_err-check_next-in-Some.was ∙ c.check_next.ensures))

pub loop-over-preserved : goal.loop-over-preserved
loop-over-preserved g c =
    let w = walking_same c.loop-over.invariant.walking refl c.in-Some-pop.ensures.popped c.in-Some.is in
    let n = walking_turn w c.is_last-last.result (omega arith) c.is_last-last.ensures c.in_ok-check_next-in-Some.ensures in
    let t = c.turn-over.ensures in
    record { same_judge = c.loop-over.invariant.same_judge; room = omega (arith, t.room, c.pop.ensures.room, c.loop-over.invariant.room); walking = walking_same n (sym t.settled) (sym t.turned) (sym t.over) }
