-- The docket, a property at a time; and the rows and the table of one slice.
use Rattle.std.proofs.Common.{◌≡◌, ℕ, zero, suc, ◌+◌, ◌-◌, ◌*◌, ◌<◌, ◌≤◌, Bool, true, false, List, [], ◌∷◌, map, length, get_or, take, drop, ◌++◌, filter, sym, ap, ◌∙◌, inl, inr, arith}
use Rattle.std.specs.List.{AllByRecursion}
use Rattle.std.proofs.lemmas.List.{drop_more, drop_all, drop-take, take-take, length-take-le, get_or_append_left, get_or-append_right, get_or-take, get_or-drop}
use Rattle.std.proofs.lemmas.Bool.{cond-true, cond-false}
use Rattle.rules.specs.declared.opened.Rules.{Rules}
use Rattle.evaluate.specs.Evaluate.{Ops}
use Rattle.evaluate.specs.Grids.{row}
use Rattle.property.specs.declared.properties.Property.{Property}
use Rattle.property.specs.Reads.{records_of}
use Rattle.property.specs.Trees.{Property as Tree, degree}
use Rattle.property.proofs.Standing.{tree_degree}
use Rattle.play.specs.declared.part.Part.{Part}
use Rattle.play.specs.declared.part.Part.TheVariants.{Base, Step}
use Rattle.play.specs.Parts.{horizon_of}
use Rattle.parts.specs.Tables.{tree_of, table_start, Spacious, KeptBesideTable}
use Rattle.parts.specs.Values.{value, each_value}

-- what holds of each holds of the one at a place
pub all_at : {X : Type 0} (P : X → Type 0) (xs : List X) (i : ℕ) (d : X) → i < length xs → AllByRecursion P xs → P (get_or xs i d)
all_at P [] i d h a = absurd (omega arith)
all_at P (x ∷ xs) zero d h a = a.0
all_at P (x ∷ xs) (suc i) d h a = all_at P xs i d (omega arith) a.1

-- what is left of the docket
module _ {V : Type 0} (o : Ops V) (R : Rules) (L : ℕ → List V) (test : Tree → Bool) (docket : List Property) (horizon : ℕ) where
  abbrev pub rest_value : V → ℕ → V
  rest_value v i = each_value o R L v (filter test (map tree_of (drop i docket))) horizon

  module _ (i : ℕ) (q : Property) (h : i < length docket) (is : q ≡ get_or docket i q) where
    next_is : drop i docket ≡ q ∷ drop (i + 1) docket
    next_is = drop_more docket i q h ∙ ap (λ x. x ∷ drop (i + 1) docket) (sym is)

    pub rest_taken : (v : V) → test (tree_of q) ≡ true → rest_value (o.and' v (value o R L (tree_of q) 0 horizon)) (i + 1) ≡ rest_value v i
    rest_taken v e =
        sym (ap (λ l. each_value o R L v (filter test (map tree_of l)) horizon) next_is
        ∙ ap (λ l. each_value o R L v l horizon) (cond-true (test (tree_of q)) _ _ e))

    pub rest_passed : (v : V) → test (tree_of q) ≡ false → rest_value v (i + 1) ≡ rest_value v i
    rest_passed v e =
        sym (ap (λ l. each_value o R L v (filter test (map tree_of l)) horizon) next_is
        ∙ ap (λ l. each_value o R L v l horizon) (cond-false (test (tree_of q)) _ _ e))

  pub rest_ends : (i : ℕ) (v : V) → length docket ≤ i → v ≡ rest_value v i
  rest_ends i v h = sym (ap (λ l. each_value o R L v (filter test (map tree_of l)) horizon) (drop_all i docket h))

-- the rows before the table
pub row_before : {X : Type 0} (xs : List X) (n level : ℕ) → n ≤ 512 → level < 5 → row n (take table_start xs) level ≡ row n xs level
unfolding row
row_before xs n level h l =
    let left = table_start - level * 512 in
    let e : table_start ≡ level * 512 + left = omega arith in
    ap (λ k. take n (drop (level * 512) (take k xs))) e ∙ ap (take n) (drop-take (level * 512) left xs) ∙ take-take n left (drop (level * 512) xs) (omega arith)

-- what stands beside the table, where the table is written
pub beside : {X : Type 0} (xs ts : List X) → Spacious xs → length ts ≡ 320 → KeptBesideTable xs (take table_start xs ++ (ts ++ drop 320 (drop table_start xs)))
beside xs ts long whole i d (inl h) =
    get_or_append_left (take table_start xs) _ d i (omega (arith, length-take-le table_start xs (omega arith))) ∙ get_or-take table_start xs i d h
beside xs ts long whole i d (inr h) =
    let e : 3072 + (320 + (i - 3072 - 320)) ≡ i = omega arith in
    get_or-append_right (take table_start xs) _ 3072 i d (length-take-le table_start xs (omega arith)) (omega arith)
    ∙ get_or-append_right ts _ 320 (i - 3072) d whole (omega arith)
    ∙ get_or-drop 320 (drop table_start xs) (i - 3072 - 320) d ∙ get_or-drop 3072 xs (320 + (i - 3072 - 320)) d ∙ ap (λ j. get_or xs j d) e

pub low_degree : (p : Property) → degree (tree_of p) ≤ 3
low_degree p = omega (arith, tree_degree (records_of p), p.measured, p.low)

-- at most four levels lie ahead
pub horizon_low : (part : Part) (n : ℕ) → n ≤ 3 → horizon_of part n < 5
horizon_low Base n h = omega arith
horizon_low Step n h = omega arith
