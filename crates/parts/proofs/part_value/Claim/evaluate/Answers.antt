use Rattle.std.proofs.Common.{◌≡◌, ℕ, ◌<◌, ◌≤◌, sym, ap, ◌∙◌, subst, inr, arith}
use Rattle.evaluate.proofs.Chains.{few_atoms}
use Rattle.property.specs.Trees.{degree}
use Rattle.play.specs.Parts.{horizon_of}
use Rattle.parts.specs.Tables.{tree_of}
use Rattle.parts.proofs.Tables.{horizon_low}
use Rattle.parts.proofs.part_value.Claim.evaluate.Goals as goal

pub play-requires : goal.play-requires
play-requires g c =
    record {
      horizon = omega (arith, c.from-horizon.ensures, c.horizon.ensures, horizon_low c.args.self.part c.degree.result c.degree.ensures.bound);
      room = omega (arith, c.requires.room);
    }

pub returns : goal.returns
returns g c =
    let R = c.args.self.rules.now in
    let e = c.play.ensures in
    let f = c.part_value.ensures in
    let n : c.from-horizon.result ≡ horizon_of c.args.self.part (degree (tree_of c.args.self.property.now)) =
    c.from-horizon.ensures ∙ c.horizon.ensures ∙ ap (horizon_of c.args.self.part) c.degree.ensures.tree in
    let low : c.from-horizon.result < 5 =
    omega (arith, c.from-horizon.ensures, c.horizon.ensures, horizon_low c.args.self.part c.degree.result c.degree.ensures.bound) in
    record {
      value = f.value _ (λ k l. e.values k (subst (λ (m : ℕ). k ≤ m) (sym n) l));
      kept = λ i d h. f.kept i d (inr h) ∙ e.kept i d (λ k l a u p. omega (arith, few_atoms R)) (λ a u p. omega (arith, few_atoms R));
      len = c.part_value.auto.values ∙ e.len;
      lender = e.lender;
    }
