-- What a value read from the slice means.
use Rattle.std.proofs.Common.{◌≡◌, ℕ, suc, ◌+◌, ◌-◌, ◌*◌, ◌<◌, ◌≤◌, List, [], ◌∷◌, length, get_or, sym, ap, ◌∙◌, arith}
use Rattle.std.specs.List.{range_with_len}
use Rattle.std.proofs.lemmas.List.{get_or-map}
use Rattle.rules.specs.declared.opened.Rules.{Rules}
use Rattle.rules.specs.Opens.{atoms_of}
use Rattle.evaluate.specs.Evaluate.{Ops, look}
use Rattle.evaluate.specs.Grids.{place, row, Roomy}
use Rattle.evaluate.proofs.Chains.{few_atoms}
use Rattle.evaluate.proofs.Rows.{row_at, row_length}
use Rattle.parts.specs.Tables.{LevelIn}

-- in the row of a level
pub cell : {X V : Type 0} (o : Ops V) (means : X → V) (R : Rules) (xs : List X) (L : ℕ → List V) (level a : ℕ) (d : X) → LevelIn means R xs L level
    → level < 5 → a < length (atoms_of R) → Roomy xs → means (get_or xs (place level a) d) ≡ look o (L level) a
cell o means R xs L level a d is h i room =
    let n = length (atoms_of R) in
    let long : level * 512 + n ≤ length xs = omega (arith, few_atoms R) in
    let inside : a < length (row n xs level) = omega (arith, row_length n xs level long) in
    ap means (sym (row_at n xs level a d i)) ∙ sym (get_or-map means (row n xs level) a d o.no' inside) ∙ ap (λ v. look o v a) is

-- the first of the numbers that are left
pub counting_goes : (i n : ℕ) → i < n → range_with_len i (n - i) ≡ i ∷ range_with_len (i + 1) (n - (i + 1))
counting_goes i n h = let e : n - i ≡ suc (n - (i + 1)) = omega arith in ap (range_with_len i) e

pub counting_ends : (i n : ℕ) → n ≤ i → range_with_len i (n - i) ≡ []
counting_ends i n h = let e : n - i ≡ 0 = omega arith in ap (range_with_len i) e
