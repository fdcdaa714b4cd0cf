use Rattle.std.proofs.Common.{rules, ◌≡◌, ℕ, ◌<◌, ◌≤◌, true, false, Option, Some, None, arith}
use Rattle.std.specs.Option.{MatchOption}
use Rattle.std.proofs.lemmas.Iterator.{first_from_Range}
use Rattle.truth.specs.Bit.{bit}
use Rattle.docket.specs.Trials.{FirstMarked}
use Rattle.docket.proofs.marking.first_marked.Goals as goal

found : (marks : ℕ) (r : Option ℕ) → MatchOption r ((k : ℕ) → 0 ≤ k → k < 64 → bit marks k ≡ false) (λ i. (0 ≤ i) × (i < 64) × (bit marks i ≡ true) × ((k : ℕ) → 0 ≤ k → k < i → bit marks k ≡ false)) → FirstMarked marks r
found marks None h = λ k l. h k (omega arith) l
found marks (Some i) h = (h.2, λ k l. h.3 k (omega arith) l)

pub returns : goal.returns
returns c =
    let m = c.args.marks in
    found m c.find.result
    (first_from_Range _ _ _ _ (λ k. bit m k ≡ true) (λ k. bit m k ≡ false) c.find.ensures.ran (λ x q k. search rules) (λ x q k. search rules))
