use Rattle.std.proofs.Common.{rules, arith}
use Rattle.property.proofs.Nothings.{is_property}
use Rattle.property.proofs.defaults.PropertyDefault.default.Goals as goal

pub invariant_of-result : goal.invariant_of-result
invariant_of-result c =
    let p = is_property c.push.new.self.items (search rules) in
    record { some = p.some; few = p.few; linked = p.linked; measured = p.measured; low = omega arith }
