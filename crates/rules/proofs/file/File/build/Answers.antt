use Rattle.std.proofs.Common.{vec_items}
use Rattle.rules.proofs.Holds.{made_holds}
use Rattle.rules.proofs.file.File.build.Goals as goal

pub invariant_of-result : goal.invariant_of-result
invariant_of-result c =
    let h =
    made_holds c.args.self.bytes.now c.requires.passed c.args.self.layout c.requires.read
    (vec_items c.in_ok-moves.moves) (vec_items c.in_ok-atoms.atoms) (vec_items c.in_ok-rules.rules) (vec_items c.in_ok-literals.literals)
    (c.in_ok-moves.ensures, c.in_ok-atoms.ensures, c.in_ok-rules.ensures, c.in_ok-literals.ensures) in
    record { shaped = h.0; counted = h.1.0; moving = h.1.1.0; enough = h.1.1.1.0; faultless = h.1.1.1.1.0 }
