-- A rule file beside its index.
use Rattle.std.specs.Prelude.{ℕ, length}
use Rattle.rules.specs.declared.opened.Rules.{Rules}
use Rattle.rules.specs.Opens.{atoms_of}
use Rattle.evaluate.specs.declared.indexed.Indexed.{Indexed}

abbrev pub indexed_rules : Indexed → Rules
indexed_rules I = I.rules.now

-- how many atoms there are
abbrev pub size : Indexed → ℕ
size I = length (atoms_of (indexed_rules I))
