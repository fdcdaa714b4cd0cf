-- Links that lead later: each is 0 or names a later record, and a not and a following have an operand.
use Rattle.std.specs.Prelude.{◌≡◌, ℕ, ◌+◌, ◌<◌, ◌≤◌, Bool, true, ◌&&◌, List, length}
use Rattle.rules.specs.First.{within, next_fits}
use Rattle.property.specs.declared.records.Formula.{Formula}
use Rattle.property.specs.declared.records.Formula.TheVariants.{Atom, Not, All, Following}
use Rattle.property.specs.declared.records.Record.{Record}
use Rattle.property.specs.Typed.{record_at}

-- in record k of n
abbrev pub operand_leads : ℕ → ℕ → Formula → Bool
operand_leads n k (Atom a) = true
operand_leads n k (Not i) = within (k + 1) n i
operand_leads n k (All i) = next_fits k n i
operand_leads n k (Following i) = within (k + 1) n i

abbrev pub record_leads : ℕ → ℕ → Record → Bool
record_leads n k r = operand_leads n k r.formula && next_fits k n r.next

abbrev pub Linked : List Record → Type 0
Linked rs = (k : ℕ) → 0 < k → k ≤ length rs → record_leads (length rs) k (record_at rs k) ≡ true
