use Rattle.std.proofs.Common.{◌≡◌, ℕ, ◌<◌, Bool}
use Rattle.docket.proofs.Bitmaps.{Small, Masked}
use Rattle.docket.proofs.masks.mask_of.Given as goal

abbrev pub invariant-loop-k : goal.invariant-loop-k
invariant-loop-k g l =
    Small l.count l.k l.mask
    × ((p : ℕ → Bool) → ((k : ℕ) (r : Bool) → k < l.count → goal.F-post g l.test k r → r ≡ p k) → Masked p l.count l.k l.mask)
