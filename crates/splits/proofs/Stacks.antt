-- The lent cases as a stack, the innermost split first.
use Rattle.std.proofs.Common.{◌≡◌, ℕ, zero, suc, ◌+◌, ◌<◌, ◌≤◌, ◌≢◌, List, ◌∷◌, length, set, refl, ap, ◌∙◌, arith}
use Rattle.std.proofs.lemmas.List.{get_or-set_same, get_or-set_other}
use Rattle.splits.specs.declared.cases.Case.{Case}
use Rattle.splits.specs.Stacks.{none, stack}

pub length_stack : (d : ℕ) (cs : List Case) → length (stack d cs) ≡ d
length_stack zero cs = refl
length_stack (suc d) cs = ap suc (length_stack d cs)

stack_same : (d : ℕ) (cs : List Case) (k : ℕ) (o : Case) → d ≤ k → stack d (set cs k o) ≡ stack d cs
stack_same zero cs k o h = refl
stack_same (suc d) cs k o h =
    let ne : d ≢ k = omega arith in
    let e = get_or-set_other cs k d o none ne in
    let r = stack_same d cs k o (omega arith) in
    cc

pub stack_push : (d : ℕ) (cs : List Case) (o : Case) → d < length cs → stack (d + 1) (set cs d o) ≡ o ∷ stack d cs
stack_push d cs o h =
    let s : d + 1 ≡ suc d = omega arith in
    let e = get_or-set_same cs d o none h in
    let r = stack_same d cs d o (omega arith) in
    let t : stack (d + 1) (set cs d o) ≡ stack (suc d) (set cs d o) = ap (λ n. stack n (set cs d o)) s in
    t ∙ (cc)
