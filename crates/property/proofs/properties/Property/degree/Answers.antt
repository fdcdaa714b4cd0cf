use Rattle.std.proofs.Common.{sym, ◌∙◌, subst, arith}
use Rattle.property.specs.Paths.{MostFollowings}
use Rattle.property.specs.Reads.{records_of}
use Rattle.property.proofs.Followings.{most}
use Rattle.property.proofs.Standing.{tree_degree}
use Rattle.property.proofs.properties.Property.degree.Goals as goal

pub returns-clause-most : goal.returns-clause-most
returns-clause-most c =
    let p = c.args.self.now in
    subst (MostFollowings (records_of p) 1) (sym p.measured) (most (records_of p) p.linked 1 (omega arith) p.some)

pub returns-clause-tree : goal.returns-clause-tree
returns-clause-tree c = let p = c.args.self.now in p.measured ∙ sym (tree_degree (records_of p))
