use Rattle.std.proofs.Common.{◌≡◌, List, ◌++◌, length}
use Rattle.rules.proofs.Downs.{FilledDown}
use Rattle.property.specs.declared.records.Record.{Record}
use Rattle.property.specs.Degrees.{no_degrees, degrees_at}
use Rattle.property.proofs.degrees.whole_degree.Given as goal

abbrev pub invariant-loop-i : goal.invariant-loop-i
invariant-loop-i l =
    let left = l.i-iterator.iter.iter.rest.now in
    (l.i-iterator.iter.count ≡ 0)
    × FilledDown no_degrees (degrees_at l.records) (length l.records) 65 (length left) l.degrees
    × (done : List Record)
    × (l.records ≡ left ++ done)
