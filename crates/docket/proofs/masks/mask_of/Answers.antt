use Rattle.std.proofs.Common.{◌≡◌, ℕ, ◌+◌, ◌-◌, ◌*◌, sym, ap, ◌∙◌, subst, arith}
use Rattle.docket.specs.Plays.{flag}
use Rattle.docket.proofs.Bitmaps.{Masked, small_goes, masked_goes, masked_ends}
use Rattle.docket.proofs.masks.mask_of.Goals as goal

pub loop-k-preserved : goal.loop-k-preserved
loop-k-preserved g c =
    let n = c.loop-k.k - 1 in
    let m = c.loop-k.mask in
    let e : c.loop-k.k ≡ n + 1 = omega arith in (
      small_goes c.args.count n m c.test.result c.with_bit-mask.result c.loop-k.k (omega arith) e c.with_bit-mask.ensures c.loop-k.invariant.0,
      λ p all.
          let r = all n c.test.result (omega arith) c.test.ensures in
          subst (λ (x : ℕ). Masked p c.args.count n x) (sym (c.with_bit-mask.ensures ∙ ap (λ b. 2 * m + flag b) r))
          (masked_goes p c.args.count n m (omega arith) (subst (λ (j : ℕ). Masked p c.args.count j m) e (c.loop-k.invariant.1 p all))),
    )

pub returns : goal.returns
returns g c = λ p all. masked_ends p c.args.count c.loop-k.k c.loop-k.mask (omega arith) (c.loop-k.invariant.1 p all)
