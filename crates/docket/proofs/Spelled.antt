-- Bytes that pass the check spell one play at each place.
use Rattle.std.proofs.Common.{◌≡◌, ℕ, zero, suc, ◌+◌, ◌-◌, ◌*◌, ◌/◌, ◌%◌, ◌<◌, ◌≤◌, true, false, eqb, leb, List, [], ◌∷◌, ◌++◌, map, length, get_or, take, drop, replicate, None, sym, refl, ap, ◌∙◌, subst, ap₂, inl, inr, mod-eq_of_lt, mul-le-mul, mul-suc, arith}
use native.Mathlib.Bridge.{le_prop}
use native.Mathlib.Nat.{add-mod_left}
use Rattle.std.specs.List.{range_with_len}
use Rattle.std.proofs.lemmas.List.FromFn.{length-map-range_with_len, get_or-map-range_with_len}
use Rattle.std.proofs.lemmas.List.{length-append, length-map, length-take-le, length-drop, length-replicate, get_or_append_left, get_or-append_right, get_or-append-add, get_or-take, get_or-drop, get_or-map, get_or-replicate, ext_get_or}
use Rattle.std.proofs.lemmas.Bool.{cases_lt, lt-ltb, le-ltb, leb-true, eqb-true, and_parts}
use Rattle.rules.specs.declared.opened.Rules.{Rules}
use Rattle.rules.specs.declared.records.Mark.{Mark}
use Rattle.rules.specs.declared.records.Mark.TheVariants.{Still, Dependent, Initial}
use Rattle.rules.specs.First.{within}
use Rattle.rules.specs.Opens.{moves_of, atoms_of}
use Rattle.rules.specs.Typed.{no_atom}
use Rattle.rules.proofs.Passed.{unless_none, both_none, first_each}
use Rattle.evaluate.specs.Positions.{fluents, Position, Joint, done, pick}
use Rattle.evaluate.specs.Showing.{numbers}
use Rattle.play.specs.declared.part.Part.{Part}
use Rattle.play.specs.declared.part.Part.TheVariants.{Base, Step}
use Rattle.play.specs.Bytes.{start_fits, byte_fits, byte_fault, first_fault}
use Rattle.play.specs.Parts.{Play}
use Rattle.docket.specs.Claims.{PlaysAreSpelled}
use Rattle.docket.specs.Plays.{flag, play_byte, all_numbers, written, padded, Spells}
use Rattle.docket.proofs.Inputs.{few_fluents, few_roles, roles_are}
use Rattle.docket.proofs.Spelling.{numbers_length, all_length, spelled_start, spelled_rest}

-- a joint move by its numbers
low : (n x : ℕ) → within 1 n x ≡ true → 1 ≤ x
low n x e = leb-true 1 x (and_parts (leb 1 x) (leb x n) e).0

high : (n x : ℕ) → within 1 n x ≡ true → x ≤ n
high n x e = leb-true x n (and_parts (leb 1 x) (leb x n) e).1

abbrev joint_of : (ns : List ℕ) (h : ℕ → ℕ) → ((i : ℕ) → i < length ns → within 1 (get_or ns i 0) (h i) ≡ true) → Joint ns
joint_of [] h f = done
joint_of (n ∷ ns) h f =
    pick (h 0 - 1) (omega (arith, low n (h 0) (f 0 (omega arith)), high n (h 0) (f 0 (omega arith)))) (joint_of ns (λ i. h (suc i)) (λ i l. f (suc i) (omega arith)))

joint_at : (ns : List ℕ) (h : ℕ → ℕ) (f : (i : ℕ) → i < length ns → within 1 (get_or ns i 0) (h i) ≡ true) (i : ℕ) → i < length ns → get_or (numbers (joint_of ns h f)) i 0 ≡ h i
joint_at [] h f i l = absurd (omega arith)
joint_at (n ∷ ns) h f zero l = omega (arith, low n (h 0) (f 0 (omega arith)))
joint_at (n ∷ ns) h f (suc i) l = let q : i < length ns = omega arith in joint_at ns (λ j. h (suc j)) _ i q

-- joint moves by their numbers, level by level
module _ (ns : List ℕ) where
  abbrev joints_of : (m : ℕ) (h : ℕ → ℕ) → ((i : ℕ) → i < length ns * m → within 1 (get_or ns (i % length ns) 0) (h i) ≡ true) → List (Joint ns)
  joints_of zero h f = []
  joints_of (suc m) h f =
      joint_of ns h (λ i l. subst (λ (x : ℕ). within 1 (get_or ns x 0) (h i) ≡ true) (mod-eq_of_lt l) (f i (omega (arith, mul-suc (length ns) m))))
      ∷ joints_of m (λ i. h (length ns + i)) (λ i l. subst (λ (x : ℕ). within 1 (get_or ns x 0) (h (length ns + i)) ≡ true) (add-mod_left (length ns) i) (f (length ns + i) (omega (arith, mul-suc (length ns) m))))

  joints_length : (m : ℕ) (h : ℕ → ℕ) (f : (i : ℕ) → i < length ns * m → within 1 (get_or ns (i % length ns) 0) (h i) ≡ true) → length (joints_of m h f) ≡ m
  joints_length zero h f = refl
  joints_length (suc m) h f = ap suc (joints_length m _ _)

  joints_at : (m : ℕ) (h : ℕ → ℕ) (f : (i : ℕ) → i < length ns * m → within 1 (get_or ns (i % length ns) 0) (h i) ≡ true) (i : ℕ) → i < length ns * m → get_or (all_numbers (joints_of m h f)) i 0 ≡ h i
  joints_at zero h f i l = absurd (omega arith)
  joints_at (suc m) h f i l =
      let A = joint_of ns h _ in
      let n = numbers_length A in
      let s = mul-suc (length ns) m in
      elim (cases_lt i (length ns)) [
        | inl k ↦ get_or_append_left (numbers A) _ 0 i (omega arith) ∙ joint_at ns h _ i k
        | inr k ↦
            let e : length ns + (i - length ns) ≡ i = omega arith in
            get_or-append_right (numbers A) _ (length ns) i 0 n k ∙ joints_at m (λ j. h (length ns + j)) _ (i - length ns) (omega arith) ∙ ap h e
      ]

-- the moves of a play are known by their numbers
numbers_tell : {ns : List ℕ} (A B : Joint ns) → numbers A ≡ numbers B → A ≡ B
numbers_tell done done e = refl
numbers_tell (pick {n = N} m h j) (pick n k l) e =
    let z : m + 1 ≡ n + 1 = cc in
    let p : m ≡ n = omega arith in
    let r : numbers j ≡ numbers l = cc in
    subst (λ (x : ℕ). (g : x < N) → pick m h j ≡ pick x g l) p (λ g. ap₂ (λ a b. pick m a b) (le_prop h g) (numbers_tell j l r)) k

all_tell : {ns : List ℕ} (μ ν : List (Joint ns)) → length μ ≡ length ν → all_numbers μ ≡ all_numbers ν → μ ≡ ν
all_tell [] [] l e = refl
all_tell [] (B ∷ ν) l e = absurd (omega arith)
all_tell (A ∷ μ) [] l e = absurd (omega arith)
all_tell {ns = ns} (A ∷ μ) (B ∷ ν) l e =
    let a = numbers_length A in
    let b = numbers_length B in
    let m : length μ ≡ length ν = omega arith in
    let same : length (numbers A) ≡ length (numbers B) = omega arith in
    ap₂ ◌∷◌
    (numbers_tell A B (ext_get_or 0 (numbers A) (numbers B) same
    (λ i h. sym (get_or_append_left (numbers A) (all_numbers μ) 0 i h) ∙ ap (λ x. get_or x i 0) e ∙ get_or_append_left (numbers B) (all_numbers ν) 0 i (omega arith))))
    (all_tell μ ν m (ext_get_or 0 (all_numbers μ) (all_numbers ν) (all_length μ ∙ ap (λ x. length ns * x) m ∙ sym (all_length ν))
    (λ i h. sym (get_or-append-add (numbers A) (all_numbers μ) i 0) ∙ ap (λ x. get_or x (length (numbers A) + i) 0) e ∙ ap (λ x. get_or (numbers B ++ all_numbers ν) (x + i) 0) same ∙ get_or-append-add (numbers B) (all_numbers ν) i 0)))

flag_of : (x : ℕ) → x ≤ 1 → flag (eqb x 1) ≡ x
flag_of zero h = refl
flag_of (suc zero) h = refl
flag_of (suc (suc x)) h = absurd (omega arith)

small : (part : Part) (m : Mark) (x : ℕ) → start_fits part m x ≡ true → x ≤ 1
small Base Still x e = let q = eqb-true x 0 e in omega arith
small Base Dependent x e = let q = eqb-true x 0 e in omega arith
small Base Initial x e = let q = eqb-true x 1 e in omega arith
small Step m x e = leb-true x 1 e

module _ (R : Rules) (part : Part) (H : ℕ) (bs : List ℕ) (few : H ≤ 4) (passed : first_fault R part H bs ≡ None) (k : ℕ) (here : k < length bs / 96) where
  room : 96 * k + 96 ≤ length bs
  room = omega arith

  fits : (i : ℕ) → i < 96 → byte_fits R part H i (play_byte bs k i) ≡ true
  fits i h =
      let m : (96 * k + i) % 96 ≡ i = omega arith in
      let r = room in
      let l : 96 * k + i < 0 + length bs = omega arith in
      let z : 0 ≤ 96 * k + i = omega arith in
      let e = (both_none _ _ (both_none _ _ passed).1).0 in
      subst (λ (x : ℕ). byte_fits R part H x (play_byte bs k i) ≡ true) m
      (unless_none (byte_fits R part H ((96 * k + i) % 96) (play_byte bs k i)) _ (first_each (byte_fault R part H bs) (length bs) 0 e (96 * k + i) z l))

  width : fluents R + R.layout.roles * H ≤ 96
  width = let p : R.layout.roles * H ≤ 8 * 4 = mul-le-mul (few_roles R) few in omega (arith, few_fluents R)

  start_byte : (f : ℕ) → f < fluents R → play_byte bs k f ≤ 1
  start_byte f h =
      small part (get_or (atoms_of R) f no_atom).mark (play_byte bs k f)
      (rw (lt-ltb f (fluents R) h) at (fits f (omega (arith, few_fluents R))))

  move_fits : (i : ℕ) → i < length (moves_of R) * H → within 1 (get_or (moves_of R) (i % length (moves_of R)) 0) (play_byte bs k (fluents R + i)) ≡ true
  move_fits i h =
      let F = fluents R in
      let w = width in
      let p : R.layout.roles * H ≡ length (moves_of R) * H = ap (λ x. x * H) (roles_are R) in
      let z : F + i - F ≡ i = omega arith in
      subst (λ (x : ℕ). within 1 (get_or (moves_of R) x 0) (play_byte bs k (F + i)) ≡ true) (ap₂ ◌%◌ z (roles_are R))
      (rw (le-ltb (F + i) F (omega arith), lt-ltb (F + i) (F + R.layout.roles * H) (omega arith)) at (fits (F + i) (omega arith)))

  zero_byte : (i : ℕ) → fluents R + R.layout.roles * H ≤ i → i < 96 → play_byte bs k i ≡ 0
  zero_byte i h l = eqb-true (play_byte bs k i) 0 (rw (le-ltb i (fluents R) (omega arith), le-ltb i (fluents R + R.layout.roles * H) h) at (fits i l))

  abbrev begin : Position
  begin = map (λ f. eqb (play_byte bs k f) 1) (range_with_len 0 (fluents R))

  abbrev going : List (Joint (moves_of R))
  going = joints_of (moves_of R) H (λ i. play_byte bs k (fluents R + i)) move_fits

  abbrev found : Play Position (Joint (moves_of R))
  found = record { start = begin; joints = going }

  begin_length : length (map flag begin) ≡ fluents R
  begin_length = length-map begin flag ∙ length-map-range_with_len (λ f. eqb (play_byte bs k f) 1) 0 (fluents R)

  going_length : length (all_numbers going) ≡ R.layout.roles * H
  going_length = all_length going ∙ ap₂ ◌*◌ (sym (roles_are R)) (joints_length (moves_of R) H (λ i. play_byte bs k (fluents R + i)) move_fits)

  written_length : length (written found) ≡ fluents R + R.layout.roles * H
  written_length = length-append (map flag begin) (all_numbers going) ∙ ap₂ ◌+◌ begin_length going_length

  found_byte : (i : ℕ) → i < 96 → play_byte bs k i ≡ get_or (padded (written found)) i 0
  found_byte i h = sym (elim (cases_lt i (length (written found))) [ inl l ↦ get_or_append_left (written found) _ 0 i l ∙ inner l | inr l ↦ outer l ])
    where
      inner : i < length (written found) → get_or (written found) i 0 ≡ play_byte bs k i
      inner l =
          let b = begin_length in
          let w = written_length in
          elim (cases_lt i (fluents R)) [
            | inl f ↦
                get_or_append_left (map flag begin) (all_numbers going) 0 i (omega arith)
                ∙ get_or-map flag begin i false 0 (omega (arith, length-map begin flag)) ∙ ap flag (get_or-map-range_with_len (λ f. eqb (play_byte bs k f) 1) 0 (fluents R) i i false f (omega arith))
                ∙ flag_of (play_byte bs k i) (start_byte i f)
            | inr f ↦
                let e : fluents R + (i - fluents R) ≡ i = omega arith in
                let p : R.layout.roles * H ≡ length (moves_of R) * H = ap (λ x. x * H) (roles_are R) in
                get_or-append_right (map flag begin) (all_numbers going) (fluents R) i 0 b f
                ∙ joints_at (moves_of R) H (λ j. play_byte bs k (fluents R + j)) move_fits (i - fluents R) (omega arith) ∙ ap (play_byte bs k) e
          ]

      outer : length (written found) ≤ i → get_or (padded (written found)) i 0 ≡ play_byte bs k i
      outer l =
          let w = written_length in
          get_or-append_right (written found) (replicate (96 - length (written found)) 0) (length (written found)) i 0 refl l
          ∙ get_or-replicate (96 - length (written found)) (i - length (written found)) 0 0 (omega arith) ∙ sym (zero_byte i (omega arith) h)

  front_length : length (take 96 (drop (96 * k) bs)) ≡ 96
  front_length = length-take-le 96 (drop (96 * k) bs) (omega (arith, length-drop (96 * k) bs, room))

  padded_length : length (padded (written found)) ≡ 96
  padded_length =
      let w = written_length in
      let v = width in
      length-append (written found) (replicate (96 - length (written found)) 0) ∙ ap (λ x. length (written found) + x) (length-replicate (96 - length (written found)) 0) ∙ omega arith

  spelled : Spells R H bs k found
  spelled = record {
    fluents_each = length-map-range_with_len (λ f. eqb (play_byte bs k f) 1) 0 (fluents R);
    levels = joints_length (moves_of R) H (λ i. play_byte bs k (fluents R + i)) move_fits;
    bytes = ext_get_or 0 (take 96 (drop (96 * k) bs)) (padded (written found)) (front_length ∙ sym padded_length)
        (λ i h. let f = front_length in let l : i < 96 = omega arith in get_or-take 96 (drop (96 * k) bs) i 0 l ∙ get_or-drop (96 * k) bs i 0 ∙ found_byte i l);
  }

  only_one : (q : Play Position (Joint (moves_of R))) → Spells R H bs k q → q ≡ found
  only_one q S =
      ap₂ (λ (s : Position) (μ : List (Joint (moves_of R))). record { start = s; joints = μ })
      (ext_get_or false q.start begin (S.fluents_each ∙ sym spelled.fluents_each)
      (λ f h. let l : f < fluents R = omega (arith, S.fluents_each) in sym (spelled_start R H bs k q S few f l) ∙ spelled_start R H bs k found spelled few f l))
      (all_tell q.joints going (S.levels ∙ sym spelled.levels)
      (ext_get_or 0 (all_numbers q.joints) (all_numbers going) (all_length q.joints ∙ ap (λ x. length (moves_of R) * x) (S.levels ∙ sym spelled.levels) ∙ sym (all_length going))
      (λ i h. let l : i < length (moves_of R) * H = subst (λ (x : ℕ). i < x) (all_length q.joints ∙ ap (λ x. length (moves_of R) * x) S.levels) h in
      spelled_rest R H bs k q S few i l ∙ sym (spelled_rest R H bs k found spelled few i l))))

pub plays_are_spelled : PlaysAreSpelled
plays_are_spelled R part H bs few passed k here = record {
  play = found R part H bs few passed k here;
  this = spelled R part H bs few passed k here;
  only = only_one R part H bs few passed k here;
}
