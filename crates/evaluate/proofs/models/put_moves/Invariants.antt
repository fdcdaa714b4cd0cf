use Rattle.std.proofs.Common.{◌≡◌, ℕ, ◌<◌, get_or}
use Rattle.truth.specs.declared.three.Three.{Three}
use Rattle.rules.specs.Opens.{moves_of}
use Rattle.truth.specs.Three.{answer}
use Rattle.evaluate.specs.Indexing.{indexed_rules}
use Rattle.evaluate.specs.Showing.{chosen}
use Rattle.evaluate.proofs.models.put_moves.Given as goal

abbrev pub invariant-loop-k : goal.invariant-loop-k
invariant-loop-k l =
    (k : ℕ) (d : Three) → k < l.k → get_or l.value-items k d ≡ answer (chosen (moves_of (indexed_rules l.rules)) l.joint k)
