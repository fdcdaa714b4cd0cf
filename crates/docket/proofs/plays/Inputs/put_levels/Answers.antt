use Rattle.std.proofs.Common.{get_or, sym, refl, ap, ◌∙◌, inl, inr, arith}
use Rattle.std.proofs.lemmas.Bool.{cases_eq}
use Rattle.truth.specs.Wide.{means}
use Rattle.evaluate.specs.Grids.{place}
use Rattle.evaluate.specs.Positions.{does_at}
use Rattle.evaluate.proofs.Chains.{few_atoms}
use Rattle.evaluate.proofs.Rows.{rows_apart}
use Rattle.docket.specs.Inputs.{doing}
use Rattle.docket.proofs.Inputs.{does_small}
use Rattle.docket.proofs.plays.Inputs.put_levels.Goals as goal

pub loop-level-init : goal.loop-level-init
loop-level-init c = ((λ j k d h l. absurd (omega arith)), λ i d out. refl)

pub loop-level-preserved : goal.loop-level-preserved
loop-level-preserved c =
    let R = c.args.self.rules.now in
    let n = c.loop-level.level in
    let ys = c.put_level.new.values in (
      (λ j k d h l. elim (cases_eq j n) [
        | inl e ↦ ap (λ i. means (get_or ys (place i (does_at R k)) d)) e ∙ c.put_level.ensures.moves k d l ∙ ap (λ i. doing R c.args.self.plays.bytes.now c.args.self.plays.count i k) (sym e)
        | inr e ↦
            ap means (c.put_level.ensures.kept (place j (does_at R k)) d (λ i m. rows_apart j n (does_at R k) (does_at R i) (omega (arith, few_atoms R, does_small R k l)) (omega (arith, few_atoms R, does_small R i m)) e))
            ∙ c.loop-level.invariant.0 j k d (omega arith) l
      ]),
      λ i d out. c.put_level.ensures.kept i d (out n (omega arith)) ∙ c.loop-level.invariant.1 i d (λ j l. out j (omega arith)),
    )

pub returns : goal.returns
returns c = record {
  moves = λ j k d h l. c.loop-level.invariant.0 j k d (omega arith) l;
  kept = λ i d out. c.loop-level.invariant.1 i d (λ j l. out j (omega arith));
}
