use Rattle.property.proofs.Collected.{Collected}
use Rattle.property.proofs.text.Text.records.Given as goal

abbrev pub invariant-loop-number : goal.invariant-loop-number
invariant-loop-number l = Collected l.rules l.self.bytes.now l.number l.records.items
