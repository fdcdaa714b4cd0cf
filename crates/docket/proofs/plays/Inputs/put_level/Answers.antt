use Rattle.std.proofs.Common.{◌≡◌, ◌+◌, ◌*◌, ◌-◌, ◌<◌, ◌≤◌, ◌&&◌, ltb, length, take, drop, length-take, length-drop, get_or, ap, ◌∙◌, arith}
use Rattle.truth.specs.Wide.{means}
use Rattle.rules.specs.Opens.{moves_of}
use Rattle.evaluate.specs.Grids.{place}
use Rattle.evaluate.specs.Positions.{fluents, choices, does_at}
use Rattle.evaluate.proofs.Chains.{few_atoms}
use Rattle.docket.specs.declared.choices.Choice.{Choice}
use Rattle.docket.specs.Choices.{choice_of}
use Rattle.docket.specs.Inputs.{doing, move_byte}
use Rattle.docket.specs.Plays.{byte_is}
use Rattle.docket.proofs.Choosing.{role_within}
use Rattle.docket.proofs.Inputs.{few_fluents, few_roles, roles_are, choices_are, mask_means, put_starts, put_goes, move_inside}
use Rattle.evaluate.proofs.Fitting.{enough}
use Rattle.docket.proofs.Parts.{part_inside, part_outside}
use borrow.Rule.Slice.PartMut.{put_mid}
use Rattle.docket.proofs.plays.Inputs.put_level.Goals as goal

pub loop-c-init : goal.loop-c-init
loop-c-init c = put_starts means (doing c.args.self.rules.now c.args.self.plays.bytes.now c.args.self.plays.count c.args.level) (λ k. k) _

-- the does atoms of a level are within the values
within : (c : goal.After-valueitems-in-loop-c-1) → c.args.level * 512 + 2 * c.from-fluents.result + c.from-moves.result ≤ length c.args.values.now
within c =
    let R = c.args.self.rules.now in
    let F : c.from-fluents.result ≡ fluents R = c.from-fluents.ensures ∙ ap (λ y. y.fluents) c.layout-layout.ensures in
    let D : c.from-moves.result ≡ choices R = c.from-moves.ensures ∙ ap (λ y. y.moves) c.layout-layout.ensures in
    omega (arith, few_atoms R, enough R, c.requires.room, c.requires.level)

inside : (c : goal.After-struct_known-1) → c.from-fluents.result + c.from.result * c.args.level + c.choice_at-choice.result.role < 96
inside c =
    let R = c.args.self.rules.now in
    let k = c.loop-c.c in
    let F : c.from-fluents.result ≡ fluents R = c.from-fluents.ensures ∙ ap (λ y. y.fluents) c.layout-layout.ensures in
    let r : c.from.result ≡ R.layout.roles = c.from.ensures ∙ ap (λ y. y.roles) c.layout-layout.ensures in
    let D : c.from-moves.result ≡ choices R = c.from-moves.ensures ∙ ap (λ y. y.moves) c.layout-layout.ensures in
    let e : c.choice_at-choice.result.role ≡ (choice_of (moves_of R) k).role = ap (λ (x : Choice). x.role) (c.choice_at-choice.ensures ∙ ap (λ l. choice_of l k) c.moves.ensures) in
    let w = role_within (moves_of R) 0 k (omega (arith, choices_are R, c.loop-c-test.true)) in
    move_inside c.from-fluents.result c.from.result c.args.level c.choice_at-choice.result.role
    (omega (arith, few_fluents R)) (omega (arith, few_roles R)) c.requires.level (omega (arith, roles_are R))

pub plays_with-makers-requires : goal.plays_with-makers-requires
plays_with-makers-requires c = inside c

pub overflow_add-first-in-loop-c : goal.overflow_add-first-in-loop-c
overflow_add-first-in-loop-c c = let h = inside c in omega arith

pub loop-c-preserved : goal.loop-c-preserved
loop-c-preserved c =
    let R = c.args.self.rules.now in
    let bs = c.args.self.plays.bytes.now in
    let n = c.args.self.plays.count in
    let j = c.args.level in
    let k = c.loop-c.c in
    let F : c.from-fluents.result ≡ fluents R = c.from-fluents.ensures ∙ ap (λ y. y.fluents) c.layout-layout.ensures in
    let r : c.from.result ≡ R.layout.roles = c.from.ensures ∙ ap (λ y. y.roles) c.layout-layout.ensures in
    let ch : c.choice_at-choice.result ≡ choice_of (moves_of R) k = c.choice_at-choice.ensures ∙ ap (λ l. choice_of l k) c.moves.ensures in
    let at : c.from-fluents.result + c.from.result * j + c.choice_at-choice.result.role ≡ move_byte R j (choice_of (moves_of R) k).role =
    ap (λ x. x + c.from.result * j + c.choice_at-choice.result.role) F ∙ ap (λ x. fluents R + x * j + c.choice_at-choice.result.role) r ∙ ap (λ (x : Choice). move_byte R j x.role) ch in
    put_goes means (doing R bs n j) (λ i. i) _ k c.loop-c.value-items c.settled.result (omega (arith, c.loop-c.auto.value-items)) (λ i l q. omega arith)
    (c.settled.ensures.exact ∙ mask_means c.plays_with-makers.result (λ i. ltb i n && byte_is bs (move_byte R j (choice_of (moves_of R) k).role) (choice_of (moves_of R) k).number i)
    (λ i. c.plays_with-makers.ensures i ∙ ap (λ x. ltb i n && byte_is bs x c.choice_at-choice.result.number i) at ∙ ap (λ (x : Choice). ltb i n && byte_is bs (move_byte R j (choice_of (moves_of R) k).role) x.number i) ch)) c.loop-c.invariant

pub returns-clause-moves : goal.returns-clause-moves
returns-clause-moves c =
    let R = c.args.self.rules.now in
    let a = c.args.level * 512 + 2 * c.from-fluents.result in
    let k = a + c.from-moves.result - a in
    let vs = c.args.values.now in
    let F : c.from-fluents.result ≡ fluents R = c.from-fluents.ensures ∙ ap (λ y. y.fluents) c.layout-layout.ensures in
    let D : c.from-moves.result ≡ choices R = c.from-moves.ensures ∙ ap (λ y. y.moves) c.layout-layout.ensures in
    let h : a + k ≤ length vs = omega (arith, within c) in
    let n : length (take k (drop a vs)) ≡ k = omega (arith, h, length-take k (drop a vs), length-drop a vs) in
    let e : length c.loop-c.value-items ≡ k = omega (arith, n, c.loop-c.auto.value-items) in
    λ j d l.
    let at : place c.args.level (does_at R j) ≡ a + j = omega (arith, F) in
    ap (λ i. means (get_or (put_mid a k vs c.loop-c.value-items) i d)) at
    ∙ ap means (part_inside a k vs c.loop-c.value-items j d h e (omega (arith, D, l)))
    ∙ c.loop-c.invariant.done j d (omega (arith, n, D, l, c.loop-c-test.false))

pub returns-clause-kept : goal.returns-clause-kept
returns-clause-kept c =
    let R = c.args.self.rules.now in
    let a = c.args.level * 512 + 2 * c.from-fluents.result in
    let k = a + c.from-moves.result - a in
    let vs = c.args.values.now in
    let F : c.from-fluents.result ≡ fluents R = c.from-fluents.ensures ∙ ap (λ y. y.fluents) c.layout-layout.ensures in
    let D : c.from-moves.result ≡ choices R = c.from-moves.ensures ∙ ap (λ y. y.moves) c.layout-layout.ensures in
    let h : a + k ≤ length vs = omega (arith, within c) in
    let e : length c.loop-c.value-items ≡ k = omega (arith, h, c.loop-c.auto.value-items, length-take k (drop a vs), length-drop a vs) in
    λ i d out. part_outside a k vs c.loop-c.value-items i d h e (λ j l q. out j (omega (arith, D, l)) (q ∙ omega (arith, F)))
