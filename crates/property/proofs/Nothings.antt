-- All of nothing is a property.
use Rattle.std.proofs.Common.{◌≡◌, ℕ, ◌<◌, ◌≤◌, true, List, length, refl, sym, subst, arith}
use Rattle.property.specs.declared.records.Record.{Record}
use Rattle.property.specs.Degrees.{degree_of}
use Rattle.property.specs.Linked.{Linked, record_leads}
use Rattle.property.specs.Readings.{readings}
use Rattle.property.specs.Reads.{all_of_nothing}
use Rattle.property.specs.Typed.{record_at}

nothing_linked : Linked all_of_nothing
nothing_linked k a b =
    let one : k ≡ 1 = omega arith in
    subst (λ (i : ℕ). record_leads 1 i (record_at all_of_nothing i) ≡ true) (sym one) refl

nothing_degree : degree_of all_of_nothing ≡ 0
unfolding readings
nothing_degree = refl

pub record IsProperty (rs : List Record) : Type 0 where
  pub some : 0 < length rs
  pub few : length rs ≤ 64
  pub linked : Linked rs
  pub measured : 0 ≡ degree_of rs

nothing_is : IsProperty all_of_nothing
nothing_is = record { some = omega arith; few = omega arith; linked = nothing_linked; measured = sym nothing_degree }

pub is_property : (rs : List Record) → rs ≡ all_of_nothing → IsProperty rs
is_property rs e = subst IsProperty (sym e) nothing_is
