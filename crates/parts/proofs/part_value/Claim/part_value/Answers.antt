use Rattle.std.proofs.Common.{◌<◌, map, length, drop, ◌++◌, get_or, ap, ◌∙◌, ap₂, arith}
use Rattle.rules.specs.Opens.{atoms_of}
use Rattle.evaluate.specs.Grids.{row}
use Rattle.evaluate.proofs.Chains.{few_atoms}
use Rattle.property.specs.Trees.{degree}
use Rattle.parts.specs.Tables.{tree_of}
use Rattle.parts.proofs.Tables.{row_before, beside, low_degree, horizon_low}
use Rattle.parts.proofs.part_value.Claim.part_value.Goals as goal

pub returns : goal.returns
returns g c =
    let t = g.T.TruthForm in
    let R = c.args.self.rules.now in
    let n = length (atoms_of R) in
    let xs = c.args.values.now in
    let ts = c.value_on.new.behind in
    let f = c.split_at_mut-rows.ensures in
    let b = c.split_at_mut-table.ensures in
    let p = tree_of c.args.self.property.now in
    record {
      value = λ L levels.
          c.value_on.ensures.value L (λ level l.
          let low : level < 5 = omega (arith, horizon_low c.args.self.part (degree p) (low_degree c.args.self.property.now)) in
          ap (λ r. map t.means (row n r level)) f.front ∙ ap (map t.means) (row_before xs n level (few_atoms R) low) ∙ levels level l);
      kept = λ i d h.
          ap₂ (λ a r. get_or (a ++ (ts ++ r)) i d) (c.value_on.ensures.kept ∙ f.front) (b.back ∙ ap (drop 320) f.back)
          ∙ beside xs ts c.requires (c.value_on.auto.behind ∙ b.front_len) i d h;
    }
