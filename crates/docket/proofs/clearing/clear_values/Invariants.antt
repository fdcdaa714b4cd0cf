use Rattle.std.proofs.Common.{◌≡◌, ℕ, ◌<◌, get_or}
use Rattle.truth.specs.Forms.{only_no}
use Rattle.docket.proofs.clearing.clear_values.Given as goal

abbrev pub invariant-loop-value : goal.invariant-loop-value
invariant-loop-value g l = (k : ℕ) → k < l.value-index → (d : g.row.T.Denot) (w : g.T.TruthForm.World) → g.T.TruthForm.means (get_or l.values k d) w ≡ only_no
