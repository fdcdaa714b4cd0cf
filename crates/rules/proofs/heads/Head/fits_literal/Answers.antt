use Rattle.std.proofs.Common.{ap, ◌∙◌}
use Rattle.rules.specs.Files.{held}
use Rattle.rules.specs.Summaries.{fits_head}
use Rattle.rules.proofs.Fits.{literal_same}
use Rattle.rules.proofs.heads.Head.fits_literal.Goals as goal

pub returns : goal.returns
returns c =
    let head = c.args.self in
    let T = held head.links.file in
    c.fits.ensures ∙ ap (fits_head T head.number) c.literal_summary.ensures ∙ literal_same T head.number c.args.literal (head.links.linked.signed c.args.literal c.requires.above c.requires.within)
