-- The header: each count by itself, and the moves of the roles together.
use Rattle.std.proofs.Common.{◌≡◌, ℕ, ◌+◌, ◌*◌, List, [], ◌∷◌, ◌++◌, map, Option, sym, ap, ◌∙◌, add_assoc, arith}
use Rattle.std.specs.List.{range_with_len}
use Rattle.std.proofs.lemmas.List.FromFn.{map-range_with_len_more}
use Rattle.rules.specs.declared.faults.Fault.{Fault}
use Rattle.rules.specs.declared.faults.Fault.TheVariants.{Count, MoveCount}
use Rattle.rules.specs.First.{unless, within, count_fits}
use Rattle.rules.specs.Tables.{total}
use Rattle.rules.specs.Words.{word}

abbrev pub count_fault : List ℕ → ℕ → Option Fault
count_fault bs i = unless (count_fits i (word bs i)) (Count (2 * i))

abbrev pub move_fault : List ℕ → ℕ → Option Fault
move_fault bs r = unless (within 1 32 (word bs (6 + r))) (MoveCount (2 * (6 + r)))

total_push : (ns : List ℕ) (n : ℕ) → total (ns ++ n ∷ []) ≡ total ns + n
total_push [] n = omega arith
total_push (m ∷ ns) n = ap (λ k. m + k) (total_push ns n) ∙ sym (add_assoc m (total ns) n)

pub total_more : (f : ℕ → ℕ) (i : ℕ) → total (map f (range_with_len 0 (i + 1))) ≡ total (map f (range_with_len 0 i)) + f i
total_more f i = ap total (map-range_with_len_more f 0 i i (omega arith)) ∙ total_push (map f (range_with_len 0 i)) (f i)
