use Rattle.std.proofs.Common.{sym, ap, ◌∙◌}
use Rattle.rules.specs.Files.{held}
use Rattle.rules.specs.First.{verdict, rules_under}
use Rattle.rules.specs.Summaries.{fits_head}
use Rattle.rules.proofs.Fits.{rules_pass}
use Rattle.rules.proofs.heads.Head.check.Goals as goal

pub returns-then-fits : goal.returns-then-fits
returns-then-fits c =
    let head = c.args.self in
    let y = head.links.file.layout in
    let T = held head.links.file in
    let fits = rw (c.from.ensures, c.word-first.ensures, c.row.ensures.file, c.row.ensures.number) at c.if-fits.ensures in
    let sum = head.summed_rules (T.first_rule head.number) (head.links.linked.first_rules head.number head.above head.within) in
    ap (λ o. verdict o tt) (sym (rules_pass T head.number y (rules_under y T head.number) (ap (fits_head T head.number) (sym sum) ∙ sym fits)))
