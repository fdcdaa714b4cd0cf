-- Records that a loop goes through from the last one to the first: what is left, and what is done.
use Rattle.std.proofs.Common.{◌≡◌, ℕ, ◌+◌, ◌-◌, ◌≤◌, List, [], ◌∷◌, ◌++◌, length, get_or, ap, ◌∙◌, append_assoc, arith}
use Rattle.std.proofs.Math.Seq.{get_or-append_seam}
use Rattle.std.proofs.lemmas.List.{length-append}
use Rattle.property.specs.declared.records.Record.{Record}
use Rattle.property.specs.Typed.{record_at, unused}

-- of so many that are left, the last one is r, record i + 1
pub record Turn (rs before done : List Record) (left i : ℕ) (r : Record) : Type 0 where
  pub all : rs ≡ before ++ r ∷ done
  pub number : left ≡ i + 1
  pub inside : i + 1 ≤ length rs
  pub there : record_at rs (i + 1) ≡ r

pub turn : (rs left before done : List Record) (r : Record) (i : ℕ) → rs ≡ left ++ done → left ≡ before ++ r ∷ [] → i ≡ length before → Turn rs before done (length left) i r
turn rs left before done r i all last at =
    let now : rs ≡ before ++ r ∷ done = all ∙ ap (λ xs. xs ++ done) last ∙ append_assoc before (r ∷ []) done in
    let place : i + 1 - 1 ≡ length before = omega arith in
    record {
      all = now;
      number = omega (arith, ap length last, length-append before (r ∷ []));
      inside = omega (arith, ap length now, length-append before (r ∷ done));
      there = ap (λ j. get_or rs j unused) place ∙ ap (λ xs. get_or xs (length before) unused) now ∙ get_or-append_seam before r done unused;
    }
