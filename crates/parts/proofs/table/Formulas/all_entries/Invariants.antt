use Rattle.std.proofs.Common.{◌≡◌, ℕ, ◌<◌, ◌≤◌, List, length}
use Rattle.truth.specs.Forms.{Answers}
use Rattle.rules.specs.Walks.{walk}
use Rattle.evaluate.specs.Meanings.{meanings}
use Rattle.property.specs.declared.records.Record.{Record}
use Rattle.property.specs.Trees.{reading_at}
use Rattle.property.specs.Typed.{unused}
use Rattle.parts.specs.Tables.{FilledBehind}
use Rattle.parts.specs.Values.{all_value}
use Rattle.parts.proofs.table.Formulas.all_entries.Given as goal

-- the walk stands at some record k
abbrev pub invariant-loop-number : goal.invariant-loop-number
invariant-loop-number g l =
    let t = g.T.TruthForm in
    let o = meanings t.neg t.conj t.disj in
    let R = l.self.run.now.rules.now in
    let rs = l.self.records.now in
    let it = l.number-iterator in
    (k : ℕ) × (walk (λ (r : Record). r.next) unused it.records.now it.at ≡ walk (λ (r : Record). r.next) unused rs k) × (k ≤ length rs)
    × ((L : ℕ → List (t.World → Answers)) (left i : ℕ) → (0 < l.first → i < l.first)
    → FilledBehind o t.means R rs L l.table l.level left i
    → (0 < k → i < k)
    × (all_value o R L (t.means l.all) (reading_at rs k).operands l.level left
    ≡ all_value o R L o.yes' (reading_at rs l.first).operands l.level left))
