-- When a rule file is refused: the checks in their order, each with the fault that it finds, or none.
use Rattle.std.specs.Prelude.{◌≡◌, ℕ, ◌+◌, ◌*◌, Bool, true, false, cond, not, ◌&&◌, ◌||◌, List, [], ◌∷◌, length, is_some, Some, None, Ok, Err, Option, Result, ◌==◌, nat_le, nat_lt}
use Rattle.std.specs.List.{range_with_len}
use Rattle.rules.specs.declared.layout.Layout.{Layout}
use Rattle.rules.specs.declared.kinds.Kind.{Kind}
use Rattle.rules.specs.declared.kinds.Kind.TheVariants.{Fluent, Next, Does, Legal, Terminal, Further}
use Rattle.rules.specs.declared.faults.Fault.{Fault}
use Rattle.rules.specs.declared.faults.Fault.TheVariants.{TooShort, Version, Count, Length, MoveCount, FewAtoms, AtomWord, RuleWord, LiteralWord, Condition}
use Rattle.rules.specs.Words.{word}
use Rattle.rules.specs.Kinds.{kind_of}
use Rattle.rules.specs.Chains.{chain}
use Rattle.rules.specs.Tables.{Tables, tables, layout_of, words_of, atom_word, rule_word, literal_word, fluents_in, roles_in, atoms_in, moves_in}

-- a fault, unless a test passes
abbrev pub unless : {X : Type 0} → Bool → X → Option X
unless true x = None
unless false x = Some x

abbrev pub or_else : {X : Type 0} → Option X → Option X → Option X
or_else None o = o
or_else (Some x) o = Some x

-- the first thing that f finds along a list
abbrev pub first : {A X : Type 0} → (A → Option X) → List A → Option X
first f [] = None
first f (x ∷ xs) = or_else (f x) (first f xs)

abbrev pub within : ℕ → ℕ → ℕ → Bool
within low high n = nat_le low n && nat_le n high

-- What each word must be.

-- the limits of the five counts of the header: fluents, roles, atoms, rules, literals
abbrev pub count_fits : ℕ → ℕ → Bool
count_fits i n =
    cond (i == 1) (within 1 64 n)
    (cond (i == 2) (within 1 8 n)
    (cond (i == 3) (within 1 512 n)
    (cond (i == 4) (nat_le n 2048)
    (nat_le n 8000))))

-- given values have stratum 0; all others 1 to 31
abbrev pub stratum_fits : Kind → ℕ → Bool
stratum_fits Fluent n = n == 0
stratum_fits Does n = n == 0
stratum_fits Next n = within 1 31 n
stratum_fits Legal n = within 1 31 n
stratum_fits Terminal n = within 1 31 n
stratum_fits Further n = within 1 31 n

-- 0 for a still atom, 1 where moves matter, 2 for a fluent that is true at the start
abbrev pub mark_fits : Kind → ℕ → Bool
mark_fits Fluent n = n == 0 || n == 2
mark_fits Next n = n == 1
mark_fits Does n = n == 1
mark_fits Legal n = n == 0
mark_fits Terminal n = n == 0
mark_fits Further n = nat_le n 1

-- given values have no rules; a first rule is 0 or one of the Q rules
abbrev pub first_rule_fits : Kind → ℕ → ℕ → Bool
first_rule_fits Fluent Q n = n == 0
first_rule_fits Does Q n = n == 0
first_rule_fits Next Q n = nat_le n Q
first_rule_fits Legal Q n = nat_le n Q
first_rule_fits Terminal Q n = nat_le n Q
first_rule_fits Further Q n = nat_le n Q

-- the next of record k, of n records, is 0 or a later record
abbrev pub next_fits : ℕ → ℕ → ℕ → Bool
next_fits k n i = i == 0 || within (k + 1) n i

abbrev pub is_next : Kind → Bool
is_next Fluent = false
is_next Next = true
is_next Does = false
is_next Legal = false
is_next Terminal = false
is_next Further = false

-- a literal names one of the A atoms that is no next atom
abbrev pub name_fits : Layout → ℕ → Bool
name_fits y a = within 1 y.atoms a && not (is_next (kind_of y.fluents y.moves a))

-- moves matter to an atom that is marked 1
abbrev pub dependent : ℕ → Bool
dependent m = m == 1

-- Under the head a the literal l: a still head has only still atoms in its bodies; a plain atom's stratum is at most the head's,
-- a negated one's is lower.
abbrev pub literal_fits : Tables → ℕ → ℕ → Bool
literal_fits T a l =
    (dependent (T.mark a) || not (dependent (T.mark (T.names l))))
    && cond (T.sign l == 0) (nat_le (T.stratum (T.names l)) (T.stratum a)) (nat_lt (T.stratum (T.names l)) (T.stratum a))

-- The checks.

abbrev pub too_short : List ℕ → Option Fault
too_short bs = unless (nat_le 12 (length bs)) (TooShort (length bs))

abbrev pub wrong_version : List ℕ → Option Fault
wrong_version bs = unless (word bs 0 == 1) Version

abbrev pub wrong_count : List ℕ → Option Fault
wrong_count bs = first (λ i. unless (count_fits i (word bs i)) (Count (2 * i))) (range_with_len 1 5)

abbrev pub wrong_length : List ℕ → Option Fault
wrong_length bs = unless (length bs == 2 * words_of (layout_of bs)) (Length (length bs))

abbrev pub wrong_moves : List ℕ → Option Fault
wrong_moves bs = first (λ r. unless (within 1 32 (word bs (6 + r))) (MoveCount (2 * (6 + r)))) (range_with_len 0 (roles_in bs))

abbrev pub few_atoms : List ℕ → Option Fault
few_atoms bs = unless (nat_le (2 * fluents_in bs + 2 * moves_in bs + 1) (atoms_in bs)) FewAtoms

-- the words of a record in their order
abbrev pub atom_fault : Layout → Tables → ℕ → Option Fault
atom_fault y T a =
    or_else (unless (stratum_fits (kind_of y.fluents y.moves a) (T.stratum a)) (AtomWord (2 * atom_word y a 0)))
    (or_else (unless (mark_fits (kind_of y.fluents y.moves a) (T.mark a)) (AtomWord (2 * atom_word y a 1)))
    (unless (first_rule_fits (kind_of y.fluents y.moves a) y.rules (T.first_rule a)) (AtomWord (2 * atom_word y a 2))))

abbrev pub rule_fault : Layout → Tables → ℕ → Option Fault
rule_fault y T r =
    or_else (unless (next_fits r y.rules (T.next_rule r)) (RuleWord (2 * rule_word y r 0)))
    (unless (nat_le (T.first_literal r) y.literals) (RuleWord (2 * rule_word y r 1)))

abbrev pub literal_fault : Layout → Tables → ℕ → Option Fault
literal_fault y T l =
    or_else (unless (name_fits y (T.names l)) (LiteralWord (2 * literal_word y l 0)))
    (or_else (unless (nat_le (T.sign l) 1) (LiteralWord (2 * literal_word y l 1)))
    (unless (next_fits l y.literals (T.next_literal l)) (LiteralWord (2 * literal_word y l 2))))

-- the rules of a head and the literals of a rule, by their chains
abbrev pub rules_under : Layout → Tables → ℕ → List ℕ
rules_under y T a = chain T.next_rule y.rules (T.first_rule a)

abbrev pub body_of : Layout → Tables → ℕ → List ℕ
body_of y T r = chain T.next_literal y.literals (T.first_literal r)

abbrev pub literal_fault_under : Layout → Tables → ℕ → ℕ → Option Fault
literal_fault_under y T a l = unless (literal_fits T a l) (Condition a (2 * literal_word y l 0))

abbrev pub body_fault : Layout → Tables → ℕ → ℕ → Option Fault
body_fault y T a r = first (literal_fault_under y T a) (body_of y T r)

abbrev pub head_fault : Layout → Tables → ℕ → Option Fault
head_fault y T a = first (body_fault y T a) (rules_under y T a)

-- The records of a file: the words of atoms, rules and literals, then the condition on marks and strata, heads ascending.
abbrev pub records_fault : Layout → Tables → Option Fault
records_fault y T =
    first (λ fault. fault)
    (first (atom_fault y T) (range_with_len 1 y.atoms) ∷ first (rule_fault y T) (range_with_len 1 y.rules)
    ∷ first (literal_fault y T) (range_with_len 1 y.literals) ∷ first (head_fault y T) (range_with_len 1 y.atoms) ∷ [])

-- The first fault of a file in checking order, or none.
abbrev pub first_fault : List ℕ → Option Fault
first_fault bs =
    first (λ fault. fault)
    (too_short bs ∷ wrong_version bs ∷ wrong_count bs ∷ wrong_length bs ∷ wrong_moves bs ∷ few_atoms bs
    ∷ records_fault (layout_of bs) (tables (layout_of bs) bs) ∷ [])

-- no check finds a fault in the records
abbrev pub Faultless : Layout → Tables → Type 0
Faultless y T = is_some (records_fault y T) ≡ false

-- what a check answers: a fault, or else a value
abbrev pub verdict : {X F : Type 0} → Option F → X → Result X F
verdict None x = Ok x
verdict (Some f) x = Err f
