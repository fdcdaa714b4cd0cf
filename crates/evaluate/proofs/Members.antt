-- The atoms of a stratum as the index lists them, and loops over them.
use Rattle.std.proofs.Common.{◌≡◌, ℕ, ◌+◌, ◌*◌, ◌<◌, ◌≤◌, eqb, List, map, length, get_or, ap, arith}
use Rattle.evaluate.specs.Evaluate.{Ops, in_stratum, put_stratum}
use Rattle.evaluate.specs.Grids.{Roomy}
use Rattle.evaluate.specs.Index.{members}
use Rattle.evaluate.specs.Indexing.{indexed_rules, size}
use Rattle.evaluate.specs.Program.{atom_at, program_of}
use Rattle.evaluate.specs.declared.indexed.Indexed.{Indexed}
use Rattle.evaluate.proofs.Chains.{few_atoms}
use Rattle.evaluate.proofs.Filling.{Filled, filled_all}
use Rattle.evaluate.proofs.Passings.{passing_below}

-- a row has room for all atoms
pub row_within : {X : Type 0} (I : Indexed) (xs : List X) (r : ℕ) → r < 6 → Roomy xs → r * 512 + size I ≤ length xs
row_within I xs r h room = omega (arith, few_atoms (indexed_rules I))

module _ (I : Indexed) (s : ℕ) (ks : List ℕ) (is : ks ≡ members (indexed_rules I) s) where
  pub member_below : (i : ℕ) → i < length ks → get_or ks i 0 < size I
  member_below i h =
      omega (arith, ap (λ z. get_or z i 0) is, passing_below (λ a. eqb (atom_at (indexed_rules I) a).stratum s) (size I) i (omega (arith, ap length is)))

  -- the end of a loop that writes f at the atoms of the stratum
  pub stratum_filled : {X V : Type 0} (m : X → V) (o : Ops V) (f : ℕ → V) (was xs : List X) (i : ℕ) → Filled m f ks was xs i → length ks ≤ i → length was ≡ size I → map m xs ≡ put_stratum o (program_of (indexed_rules I)) s f (map m was)
  unfolding put_stratum
  stratum_filled m o f was xs i filled end long =
      filled_all m f ks was xs i (size I) filled end (in_stratum o (program_of (indexed_rules I)) s) o.no' is long
