-- The degree of each record, read from the last record to the first.
use Rattle.std.specs.Prelude.{ℕ, ◌+◌, max, List}
use Rattle.property.specs.declared.degrees.Degrees.{Degrees}
use Rattle.property.specs.declared.records.Formula.{Formula}
use Rattle.property.specs.declared.records.Formula.TheVariants.{Atom, Not, All, Following}
use Rattle.property.specs.declared.records.Record.{Record}
use Rattle.property.specs.Readings.{reading}

abbrev pub no_degrees : Degrees
no_degrees = record { own = 0; chain = 0 }

-- by the degrees where its value leads
abbrev pub own_degree : Formula → Degrees → ℕ
own_degree (Atom a) d = 0
own_degree (Not k) d = d.own
own_degree (All k) d = d.chain
own_degree (Following k) d = d.own + 1

abbrev pub degrees_by : Record → Degrees → Degrees → Degrees
degrees_by r operand next = record {
  own = own_degree r.formula operand;
  chain = max (own_degree r.formula operand) next.chain;
}

abbrev pub degrees_at : List Record → ℕ → Degrees
degrees_at rs k = reading no_degrees degrees_by rs k

-- the degree of the whole is that of record 1
abbrev pub degree_of : List Record → ℕ
degree_of rs = (degrees_at rs 1).own
