use Rattle.std.proofs.Common.{◌≡◌, ℕ, ◌<◌, false, get_or}
use Rattle.truth.specs.Three.{answer}
use Rattle.truth.specs.declared.three.Three.{Three}
use Rattle.evaluate.proofs.models.put_position.Given as goal

abbrev pub invariant-loop-f : goal.invariant-loop-f
invariant-loop-f l = (a : ℕ) (d : Three) → a < l.f → get_or l.value-items a d ≡ answer (get_or l.position a false)
