-- When a rule file is taken: what each of its words must be.
use Rattle.std.specs.Prelude.{◌≡◌, ℕ, ◌+◌, ◌*◌, ◌<◌, ◌≤◌, true, List, length}
use Rattle.rules.specs.declared.layout.Layout.{Layout}
use Rattle.rules.specs.Chains.{On}
use Rattle.rules.specs.First.{within, stratum_fits, mark_fits, first_rule_fits, next_fits, name_fits, literal_fits}
use Rattle.rules.specs.Kinds.{kind_of}
use Rattle.rules.specs.Tables.{Tables, tables, layout_of, words_of}
use Rattle.rules.specs.Typed.{Counted, Enough}
use Rattle.rules.specs.Words.{word}

-- the words of an atom record, a rule record and a literal record
pub record AtomWords (y : Layout) (T : Tables) (a : ℕ) : Type 0 where
  pub stratum : stratum_fits (kind_of y.fluents y.moves a) (T.stratum a) ≡ true
  pub mark : mark_fits (kind_of y.fluents y.moves a) (T.mark a) ≡ true
  pub first_rule : first_rule_fits (kind_of y.fluents y.moves a) y.rules (T.first_rule a) ≡ true

pub record RuleWords (y : Layout) (T : Tables) (r : ℕ) : Type 0 where
  pub next_rule : next_fits r y.rules (T.next_rule r) ≡ true
  pub first_literal : T.first_literal r ≤ y.literals

pub record LiteralWords (y : Layout) (T : Tables) (l : ℕ) : Type 0 where
  pub names : name_fits y (T.names l) ≡ true
  pub sign : T.sign l ≤ 1
  pub next_literal : next_fits l y.literals (T.next_literal l) ≡ true

-- Of records numbered from 1: their words, and the condition on each literal of each rule of each head.
pub record RecordsFit (y : Layout) (T : Tables) : Type 0 where
  pub atoms : (a : ℕ) → 0 < a → a ≤ y.atoms → AtomWords y T a
  pub rules : (r : ℕ) → 0 < r → r ≤ y.rules → RuleWords y T r
  pub literals : (l : ℕ) → 0 < l → l ≤ y.literals → LiteralWords y T l
  pub conditions :
      (a r l : ℕ) → 0 < a → a ≤ y.atoms → On T.next_rule (T.first_rule a) r → On T.next_literal (T.first_literal r) l →
      literal_fits T a l ≡ true

pub record Taken (bs : List ℕ) : Type 0 where
  pub long : 12 ≤ length bs
  pub version : word bs 0 ≡ 1
  pub counts : Counted (layout_of bs)
  pub sized : length bs ≡ 2 * words_of (layout_of bs)
  pub moves : (r : ℕ) → r < (layout_of bs).roles → within 1 32 (word bs (6 + r)) ≡ true
  pub enough : Enough (layout_of bs)
  pub records : RecordsFit (layout_of bs) (tables (layout_of bs) bs)
