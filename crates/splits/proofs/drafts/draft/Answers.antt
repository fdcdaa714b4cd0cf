use Rattle.std.proofs.Common.{◌≡◌, ◌+◌, ◌*◌, cond, ltb, ◌∷◌, length, set, sym, refl, ap, ◌∙◌, ⊎_elim, arith}
use Rattle.std.proofs.lemmas.Bool.{false≢true}
use Rattle.splits.specs.Plain.{put}
use Rattle.splits.specs.Shapes.{inputs}
use Rattle.splits.specs.Stacks.{splits}
use Rattle.splits.proofs.Counts.{branch_some}
use Rattle.splits.proofs.Shapings.{proper}
use Rattle.splits.proofs.Draftings.{drafting_same, drafting_before, drafting_close, full_closed, full_split, drafting_shows, drafting_split, drafting_turn, places_fit, exit_small, exit_play}
use Rattle.splits.proofs.drafts.draft.Goals.{then-closed, else-closed, then-not-last, else-not-last}
use Rattle.splits.proofs.drafts.draft.Goals as goal

pub returns-then-input-end : goal.returns-then-input-end
returns-then-input-end g c =
    let f = places_fit c.args.area.now _ c.room_of-room.ensures in
    let v = drafting_same c.loop-over.invariant.drafting refl refl c.in-None.is in
    let j = ap (λ f. f c.loop-over.settings) (sym c.loop-over.invariant.same_judge) ∙ sym c.is_closed-closed.ensures.says in
    let s = drafting_shows f.0 v (j ∙ c.if-not-closed.true) (omega (arith, c.if-input-end.true, c.entries-end.ensures, c.first_input-first.ensures, c.len.ensures)) in
    let x = exit_play (inputs c.args.shape) (length c.args.area.now) _ _ c.room_of-room.ensures _ _ _ c.args.settings.now _ _ s v.within (omega arith) (c.fill-then-input-end.ensures.after (λ y e. e)) in
    record { answer = x.0; written = x.1; shown = λ e. x.2; same = c.is_closed-closed.ensures.same ∙ c.loop-over.invariant.same_judge }

pub returns-then-at-room : goal.returns-then-at-room
returns-then-at-room g c =
    let f = places_fit c.args.area.now _ c.room_of-room.ensures in
    let v = drafting_same c.loop-over.invariant.drafting refl refl c.in-None.is in
    let j = ap (λ f. f c.loop-over.settings) (sym c.loop-over.invariant.same_judge) ∙ sym c.is_closed-closed.ensures.says in
    let w = ⊎_elim
    (λ h. full_split f.0 v (j ∙ h.0) (omega (arith, h.1, c.entries-end.ensures, c.first_input-first.ensures, c.len.ensures)) c.if-at-room.true)
    (λ h. full_closed f.0 v (j ∙ h) c.if-at-room.true)
    c.else-not-closed.either in
    let x = exit_small (inputs c.args.shape) (length c.args.area.now) _ _ c.room_of-room.ensures _ _ _ w (omega arith) (c.fill-then-at-room.ensures.after (λ y e. e)) in
    record { answer = x.0; written = x.1; shown = λ e. absurd (false≢true e); same = c.is_closed-closed.ensures.same ∙ c.loop-over.invariant.same_judge }

pub loop-over-preserved-in-None : goal.loop-over-preserved-in-None
loop-over-preserved-in-None g c =
    let f = places_fit c.args.area.now _ c.room_of-room.ensures in
    let v = drafting_same c.loop-over.invariant.drafting refl refl c.in-None.is in
    let j = ap (λ f. f c.loop-over.settings) (sym c.loop-over.invariant.same_judge) ∙ sym c.is_closed-closed.ensures.says in
    let same = c.is_closed-closed.ensures.same ∙ c.loop-over.invariant.same_judge in
    elim c.if-closed.branch [
      | then-closed w ↦
          rw (w.settings-is, w.area-is, w.splits-is, w.over-is) (record { same_judge = same; room = c.loop-over.invariant.room; drafting = drafting_close f.0 v (j ∙ w.if-closed.true) c.if-at-room.false })
      | else-closed w ↦
          let k = ⊎_elim (λ h. h.1) (λ h. absurd (false≢true (sym w.if-closed.false ∙ h))) c.else-not-closed.either in
          let n = drafting_split f.0 v (c.first_input-first.result + c.len.result) w.split_record.result _ (omega (arith, c.first_input-first.ensures, c.len.ensures)) w.split_record.ensures (omega arith) (branch_some _ (proper c.args.shape)) c.requires.open (j ∙ w.if-closed.false) (omega (arith, k, c.entries-end.ensures)) c.if-at-room.false w.put_split.ensures in
          let e = w.enter.ensures.settled ∙ ap (λ o. set c.loop-over.settings o.input (o.branch + 1)) w.first.ensures in
          let h = w.enter.ensures.pushed ∙ ap (λ o. o ∷ splits c.loop-over.splits) w.first.ensures in
          rw (w.settings-is, w.area-is, w.splits-is, w.over-is) (record { same_judge = same; room = omega (arith, w.enter.ensures.room, c.loop-over.invariant.room); drafting = drafting_same n (sym e) (sym h) (sym c.in-None.is) })
    ]

pub link-requires-clause-within : goal.link-requires-clause-within
link-requires-clause-within g c =
    let f = places_fit c.args.area.now _ c.room_of-room.ensures in
    drafting_before f.0 (drafting_same c.loop-over.invariant.drafting refl c.in-Some-pop.ensures.popped c.in-Some.is)

pub loop-over-preserved : goal.loop-over-preserved
loop-over-preserved g c =
    let f = places_fit c.args.area.now _ c.room_of-room.ensures in
    let v = drafting_same c.loop-over.invariant.drafting refl c.in-Some-pop.ensures.popped c.in-Some.is in
    let a : c.if-not-last.area ≡ cond c.is_last-last.result c.loop-over.area (cond (ltb c.loop-over.at c.room_of-room.result) (put c.loop-over.area (8 * c.in-Some.i + 6) (c.loop-over.at + 1)) c.loop-over.area) =
    elim c.if-not-last.branch [ then-not-last w ↦ rw (w.area-is, w.if-not-last.true) w.link.ensures | else-not-last w ↦ rw (w.area-is, w.if-not-last.false) refl ] in
    let n = drafting_turn f.0 v c.is_last-last.result c.if-not-last.area (omega arith) c.is_last-last.ensures a in
    let t = c.turn-over.ensures in
    record { same_judge = c.loop-over.invariant.same_judge; room = omega (arith, t.room, c.pop.ensures.room, c.loop-over.invariant.room); drafting = drafting_same n (sym t.settled) (sym t.turned) (sym t.over) }
