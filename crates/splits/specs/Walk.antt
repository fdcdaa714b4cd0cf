-- The walk over a split file: the answer is the first fault in the order of the records, or none.
use Rattle.std.specs.Prelude.{ℕ, zero, suc, ◌+◌, ◌*◌, ◌/◌, ◌%◌, Bool, true, cond, not, ◌&&◌, ◌||◌, List, length, Some, None, Ok, Err, Option, Result, ◌==◌, nat_lt, slice_set}
use Rattle.splits.specs.Inputs.{Inputs, entries, branch_count}
use Rattle.rules.specs.Words.{word_from as word}
use Rattle.splits.specs.Records.{record_at, split_input}
use Rattle.splits.specs.declared.records.RecordFault.{RecordFault}
use Rattle.splits.specs.declared.faults.WalkFault.{WalkFault}
use Rattle.splits.specs.declared.faults.WalkFault.TheVariants.{Length, PastEnd, OfRecord, NotClosed, Next, LeftOver}

abbrev pub then_on : {A B E : Type 0} → Result A E → (A → Result B E) → Result B E
then_on (Ok a) next = next a
then_on (Err e) next = Err e

-- The subtree of record i ended before record e: its next is the number of record e (records are numbered from 1), or 0 at a last branch and at the root.
abbrev pub next_checked : List ℕ → ℕ → ℕ → Bool → Result Unit WalkFault
next_checked bs i e last = cond (word bs (8 * i + 6) == cond last 0 (e + 1)) (Ok tt) (Err (Next (8 * i + 6)))

-- what record i splits in the case c, if it is a split
abbrev pub input_at : Inputs → List ℕ → List ℕ → ℕ → Result (Option ℕ) RecordFault
input_at s bs c i = then_on (record_at s bs c i) (λ r. Ok (split_input s r))

module _ (closed : List ℕ → Bool) (s : Inputs) (bs : List ℕ) where
  -- The answer for a subtree: the record behind it, or the first fault. Here the subtree of record i, but for its next, ended before record e.
  abbrev pub ended : ℕ → Bool → ℕ → Result ℕ WalkFault
  ended i last e = then_on (next_checked bs i e last) (λ _. Ok e)

  -- What record i says in the case c. A closing record's case is closed; below a split come the branches of its input.
  abbrev pub taken : ℕ → List ℕ → (ℕ → Result ℕ WalkFault) → Result (Option ℕ) RecordFault → Result ℕ WalkFault
  taken i c below (Err e) = Err (OfRecord e)
  taken i c below (Ok None) = cond (closed c) (Ok (i + 1)) (Err (NotClosed (8 * i)))
  taken i c below (Ok (Some k)) = below k

  abbrev pub node : (ℕ → Result ℕ WalkFault) → ℕ → List ℕ → Bool → Result ℕ WalkFault
  node below i c last =
      cond (nat_lt i (length bs / 8))
      (then_on (taken i c below (input_at s bs c i)) (ended i last))
      (Err (PastEnd (length bs)))

  -- The branches of the input k from branch b on, so many of them, the first at record i. The last one is told.
  abbrev pub branches : (ℕ → List ℕ → Bool → Result ℕ WalkFault) → List ℕ → ℕ → ℕ → ℕ → ℕ → Result ℕ WalkFault
  branches sub c k zero b i = Ok i
  branches sub c k (suc more) b i = then_on (sub i (slice_set c k (b + 1)) (more == 0)) (branches sub c k more (b + 1))

  -- The subtree at record i of the case c; a last branch or the root is told. At most d splits stand on a way down, since each settles one more input.
  abbrev pub subtree : ℕ → ℕ → List ℕ → Bool → Result ℕ WalkFault
  subtree zero i c last = node (λ k. Err (PastEnd (length bs))) i c last
  subtree (suc d) i c last = node (λ k. branches (subtree d) c k (branch_count s k) 0 (i + 1)) i c last

  -- no record is left over behind the root's subtree
  abbrev pub finished : ℕ → Result Unit WalkFault
  finished e = cond (nat_lt e (length bs / 8)) (Err (LeftOver (8 * e))) (Ok tt)

  -- 1 to 65,535 records
  abbrev pub sized : Bool
  sized = not (nat_lt (length bs) 8 || nat_lt 524280 (length bs)) && length bs % 8 == 0

  abbrev pub walked : List ℕ → Result Unit WalkFault
  walked c = cond sized (then_on (subtree (entries s) 0 c true) finished) (Err (Length (length bs)))
