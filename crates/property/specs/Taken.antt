-- When a property file is taken: what each of its words must be, and how many followings a path may have.
use Rattle.std.specs.Prelude.{◌≡◌, ℕ, ◌-◌, ◌%◌, ◌<◌, ◌≤◌, List, length, ◌≢◌, slice_index_or}
use Rattle.rules.specs.declared.opened.Rules.{Rules}
use Rattle.rules.specs.declared.records.Mark.TheVariants.{Dependent}
use Rattle.rules.specs.Opens.{atoms_of}
use Rattle.rules.specs.Typed.{no_atom}
use Rattle.property.specs.Paths.{Path}
use Rattle.property.specs.Typed.{records_in}
use Rattle.property.specs.Words.{Words, words_in, count_in}

-- an atom of the rule file to which moves do not matter
abbrev pub StillAtom : Rules → ℕ → Type 0
StillAtom R a = (0 < a) × (a ≤ R.layout.atoms) × ((slice_index_or (atoms_of R) (a - 1) no_atom).mark ≢ Dependent)

-- of n records, one that is later than record k
abbrev pub LaterRecord : ℕ → ℕ → ℕ → Type 0
LaterRecord n k i = (k < i) × (i ≤ n)

-- the words of record k of n
pub record RecordWords (R : Rules) (n : ℕ) (W : Words) (k : ℕ) : Type 0 where
  pub kind : (1 ≤ W.kind k) × (W.kind k ≤ 4)
  pub atom : W.kind k ≡ 1 → StillAtom R (W.value k)
  pub negation : W.kind k ≡ 2 → LaterRecord n k (W.value k)
  pub all : W.kind k ≡ 3 → 0 < W.value k → LaterRecord n k (W.value k)
  pub following : W.kind k ≡ 4 → LaterRecord n k (W.value k)
  pub next : 0 < W.next k → LaterRecord n k (W.next k)

pub record Taken (R : Rules) (bs : List ℕ) : Type 0 where
  pub long : 6 ≤ length bs
  pub short : length bs ≤ 384
  pub whole : length bs % 6 ≡ 0
  pub words : (k : ℕ) → 0 < k → k ≤ count_in bs → RecordWords R (count_in bs) (words_in bs) k
  pub followings : (n : ℕ) → Path (records_in bs) 1 n → n ≤ 3
