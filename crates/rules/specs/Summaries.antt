-- Summaries of chains: what a head must have so that every literal of a chain fits it. An aid to the check, so that shared chains
-- are looked at once and not once for each head.
use Rattle.std.specs.Prelude.{◌≡◌, ℕ, ◌+◌, ◌≤◌, max, Bool, false, not, ◌&&◌, ◌||◌, List, [], ◌∷◌, nat_le, slice_index_or}
use Rattle.rules.specs.declared.layout.Layout.{Layout}
use Rattle.rules.specs.declared.summaries.Summary.{Summary}
use Rattle.rules.specs.Tables.{Tables}
use Rattle.rules.specs.Chains.{chain}
use Rattle.rules.specs.First.{dependent, body_of}

abbrev pub empty : Summary
empty = record { stratum = 0; dependent = false }

abbrev pub joined : Summary → Summary → Summary
joined s t = record { stratum = max s.stratum t.stratum; dependent = s.dependent || t.dependent }

-- the least stratum of a head, and whether moves must matter to it
abbrev pub literal_summary : Tables → ℕ → Summary
literal_summary T l = record { stratum = T.stratum (T.names l) + T.sign l; dependent = dependent (T.mark (T.names l)) }

abbrev pub body_summary : Tables → List ℕ → Summary
body_summary T [] = empty
body_summary T (l ∷ ls) = joined (literal_summary T l) (body_summary T ls)

abbrev pub rules_summary : Layout → Tables → List ℕ → Summary
rules_summary y T [] = empty
rules_summary y T (r ∷ rs) = joined (body_summary T (body_of y T r)) (rules_summary y T rs)

-- whether every literal that was summed up fits the head a
abbrev pub fits_head : Tables → ℕ → Summary → Bool
fits_head T a s = (dependent (T.mark a) || not s.dependent) && nat_le s.stratum (T.stratum a)

-- entry k sums up the chain from literal k on, or from rule k on
abbrev pub Bodies : Layout → Tables → List Summary → Type 0
Bodies y T ss = (l : ℕ) → l ≤ y.literals → slice_index_or ss l empty ≡ body_summary T (chain T.next_literal y.literals l)

abbrev pub Heads : Layout → Tables → List Summary → Type 0
Heads y T ss = (r : ℕ) → r ≤ y.rules → slice_index_or ss r empty ≡ rules_summary y T (chain T.next_rule y.rules r)
