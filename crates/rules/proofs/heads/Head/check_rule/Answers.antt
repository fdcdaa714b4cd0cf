use Rattle.std.proofs.Common.{sym, ap, ◌∙◌}
use Rattle.rules.specs.Files.{held}
use Rattle.rules.specs.First.{verdict, body_of}
use Rattle.rules.specs.Summaries.{fits_head}
use Rattle.rules.proofs.Fits.{body_passes}
use Rattle.rules.proofs.heads.Head.check_rule.Goals as goal

pub returns-then-fits : goal.returns-then-fits
returns-then-fits c =
    let head = c.args.self in
    let y = head.links.file.layout in
    let T = held head.links.file in
    let fits = rw (c.from.ensures, c.word-body.ensures, c.row.ensures.file, c.row.ensures.number) at c.if-fits.ensures in
    let sum = head.summed (T.first_literal c.args.rule) (head.links.linked.first_literals c.args.rule c.requires.above c.requires.within) in
    ap (λ o. verdict o tt) (sym (body_passes T head.number y (body_of y T c.args.rule) (ap (fits_head T head.number) (sym sum) ∙ sym fits)))
