-- The summary of a chain from each record on, and how a table of them is filled from its last entry down.
use Rattle.std.proofs.Common.{◌≡◌, ℕ, ◌<◌, ◌≤◌, List, get_or, sym, ap, ◌∙◌, ap₂}
use Rattle.rules.specs.declared.layout.Layout.{Layout}
use Rattle.rules.specs.declared.summaries.Summary.{Summary}
use Rattle.rules.specs.Chains.{chain}
use Rattle.rules.specs.Linked.{Linked}
use Rattle.rules.specs.Summaries.{empty, joined, literal_summary, body_summary, rules_summary, Bodies}
use Rattle.rules.specs.Tables.{Tables}
use Rattle.rules.proofs.Chains.{chain_none, chain_step}
use Rattle.rules.proofs.Downs.{FilledDown, down_read}

module _ (y : Layout) (T : Tables) where
  abbrev pub body_from : ℕ → Summary
  body_from l = body_summary T (chain T.next_literal y.literals l)

  abbrev pub head_from : ℕ → Summary
  head_from r = rules_summary y T (chain T.next_rule y.rules r)

  pub body_from_none : body_from 0 ≡ empty
  body_from_none = ap (body_summary T) (chain_none T.next_literal y.literals)

  pub head_from_none : head_from 0 ≡ empty
  head_from_none = ap (rules_summary y T) (chain_none T.next_rule y.rules)

  module _ (linked : Linked y T) (size : ℕ) (ss : List Summary) (i : ℕ) (above : 0 < i) where
    pub body_entry : FilledDown empty body_from y.literals size i ss → i ≤ y.literals → joined (literal_summary T i) (get_or ss (T.next_literal i) empty) ≡ body_from i
    body_entry f h =
        let on = linked.next_literals i above h in
        ap (joined (literal_summary T i)) (down_read empty body_from y.literals size ss i f body_from_none (T.next_literal i) on.0 on.1)
        ∙ sym (ap (body_summary T) (chain_step T.next_literal y.literals linked.next_literals i above h))

    pub head_entry : (bodies : List Summary) → Bodies y T bodies → FilledDown empty head_from y.rules size i ss → i ≤ y.rules → joined (get_or bodies (T.first_literal i) empty) (get_or ss (T.next_rule i) empty) ≡ head_from i
    head_entry bodies summed f h =
        let on = linked.next_rules i above h in
        ap₂ joined (summed (T.first_literal i) (linked.first_literals i above h)) (down_read empty head_from y.rules size ss i f head_from_none (T.next_rule i) on.0 on.1)
        ∙ sym (ap (rules_summary y T) (chain_step T.next_rule y.rules linked.next_rules i above h))
