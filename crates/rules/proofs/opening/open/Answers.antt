use Rattle.std.proofs.Common.{◌≡◌, ◌*◌, length, sym, ◌∙◌, subst}
use Rattle.std.proofs.lemmas.Result.{err_from_is_err_and}
use Rattle.rules.specs.declared.layout.Layout.{Layout}
use Rattle.rules.specs.Linked.{Limited}
use Rattle.rules.specs.Tables.{words_of}
use Rattle.rules.proofs.Holds.{taken_limited}
use Rattle.rules.proofs.Takings.{accepted, refused}
use Rattle.rules.proofs.opening.open.Goals as goal

pub returns-in_err-layout : goal.returns-in_err-layout
returns-in_err-layout c =
    let p = err_from_is_err_and c.from_residual.result c.from_residual.ensures.1 in
    rw (p.1, p.2) (refused c.args.bytes.now _ (sym c.check.ensures ∙ c.in_err-layout.was))

pub invariant_of-file-clause-sized : goal.invariant_of-file-clause-sized
invariant_of-file-clause-sized c =
    let a = accepted c.args.bytes.now _ (sym c.check.ensures ∙ c.in_ok-layout.was) in
    subst (λ (y : Layout). length c.args.bytes.now ≡ 2 * words_of y) a.2 a.1.sized

pub invariant_of-file-clause-limited : goal.invariant_of-file-clause-limited
invariant_of-file-clause-limited c =
    let a = accepted c.args.bytes.now _ (sym c.check.ensures ∙ c.in_ok-layout.was) in
    subst Limited a.2 (taken_limited c.args.bytes.now a.1)

pub build-requires : goal.build-requires
build-requires c =
    let a = accepted c.args.bytes.now _ (sym c.check.ensures ∙ c.in_ok-layout.was) in
    record { passed = a.1; read = sym a.2 }

pub returns-in_err-build : goal.returns-in_err-build
returns-in_err-build c =
    let p = err_from_is_err_and c.from_residual-in_err-build.result c.from_residual-in_err-build.ensures.1 in
    let a = accepted c.args.bytes.now _ (sym c.check.ensures ∙ c.in_ok-layout.was) in
    rw (p.1, p.2) (a.0, a.1)

pub returns : goal.returns
returns c =
    let a = accepted c.args.bytes.now _ (sym c.check.ensures ∙ c.in_ok-layout.was) in
    (a.1, c.in_ok-build.ensures)
