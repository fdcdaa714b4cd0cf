-- The bytes of a play, and what the play they spell does.
use Rattle.std.proofs.Common.{◌≡◌, ℕ, zero, suc, ◌+◌, ◌-◌, ◌*◌, ◌<◌, ◌≤◌, Bool, true, false, eqb, List, [], ◌∷◌, ◌++◌, map, length, get_or, drop, replicate, sym, refl, ap, ◌∙◌, ap₂, mul-le-mul, mul-suc, arith}
use Rattle.std.proofs.lemmas.List.{length-append, length-map, get_or_append_left, get_or-append-add, get_or-take, get_or-drop, get_or-map}
use Rattle.rules.specs.declared.opened.Rules.{Rules}
use Rattle.rules.specs.Opens.{moves_of}
use Rattle.rules.specs.Tables.{total}
use Rattle.evaluate.specs.Positions.{fluents, choices, Position, holds_in, Joint, done, pick}
use Rattle.evaluate.specs.Showing.{numbers}
use Rattle.evaluate.proofs.Shown.{chosen_does}
use Rattle.play.specs.Parts.{Play}
use Rattle.parts.specs.Plays.{made}
use Rattle.docket.specs.Choices.{choice_of}
use Rattle.docket.specs.Inputs.{move_byte}
use Rattle.docket.specs.Plays.{flag, play_byte, byte_is, all_numbers, written, Spells}
use Rattle.docket.proofs.Choosing.{chosen_number, role_within}
use Rattle.docket.proofs.Inputs.{few_fluents, few_roles, roles_are, choices_are}

pub numbers_length : {ns : List ℕ} (A : Joint ns) → length (numbers A) ≡ length ns
numbers_length done = refl
numbers_length (pick m h j) = ap suc (numbers_length j)

pub all_length : {ns : List ℕ} (μ : List (Joint ns)) → length (all_numbers μ) ≡ length ns * length μ
all_length {ns = ns} [] = omega arith
all_length {ns = ns} (A ∷ μ) = length-append (numbers A) (all_numbers μ) ∙ ap₂ ◌+◌ (numbers_length A) (all_length μ) ∙ let e = mul-suc (length ns) (length μ) in omega arith

pub number_at : {ns : List ℕ} (μ : List (Joint ns)) (j c : ℕ) → j < length μ → c < total ns
    → eqb (get_or (all_numbers μ) (length ns * j + (choice_of ns c).role) 0) (choice_of ns c).number ≡ made μ j c
number_at [] j c h l = absurd (omega arith)
number_at {ns = ns} (A ∷ μ) zero c h l =
    sym (chosen_number (λ i. get_or (numbers A ++ all_numbers μ) (length ns * 0 + i) 0) ns (numbers A) 0 c (sym (numbers_length A))
    (λ i k. let e : length ns * 0 + (0 + i) ≡ i = omega arith in sym (ap (λ x. get_or (numbers A ++ all_numbers μ) x 0) e ∙ get_or_append_left (numbers A) (all_numbers μ) 0 i k)) l)
    ∙ chosen_does A c
number_at {ns = ns} (A ∷ μ) (suc j) c h l =
    let r = (choice_of ns c).role in
    let m = mul-suc (length ns) j in
    let n = numbers_length A in
    let e : length ns * suc j + r ≡ length (numbers A) + (length ns * j + r) = omega arith in
    ap (λ x. eqb x (choice_of ns c).number) (ap (λ i. get_or (numbers A ++ all_numbers μ) i 0) e ∙ get_or-append-add (numbers A) (all_numbers μ) (length ns * j + r) 0)
    ∙ number_at μ j c (omega arith) l

flag_is : (b : Bool) → eqb (flag b) 1 ≡ b
flag_is true = refl
flag_is false = refl

below_product : (r j H role : ℕ) → j < H → role < r → r * j + role < r * H
below_product r j H role h k =
    let e : r ≤ r = omega arith in
    let q : suc j ≤ H = omega arith in
    let p : r * suc j ≤ r * H = mul-le-mul e q in
    let m = mul-suc r j in
    omega arith

module _ (R : Rules) (H : ℕ) (bs : List ℕ) (k : ℕ) (play : Play Position (Joint (moves_of R))) (S : Spells R H bs k play) (few : H ≤ 4) where
  start_length : length (map flag play.start) ≡ fluents R
  start_length = length-map play.start flag ∙ S.fluents_each

  rest_length : length (all_numbers play.joints) ≡ length (moves_of R) * H
  rest_length = all_length play.joints ∙ ap (λ n. length (moves_of R) * n) S.levels

  at_byte : (i : ℕ) → i < fluents R + length (moves_of R) * H → play_byte bs k i ≡ get_or (written play) i 0
  at_byte i h =
      let r = few_roles R in
      let e = roles_are R in
      let q : length (moves_of R) ≤ 8 = omega arith in
      let p : length (moves_of R) * H ≤ 8 * 4 = mul-le-mul q few in
      let f = few_fluents R in
      let s = start_length in
      let t = rest_length in
      let w : i < length (written play) = omega (arith, length-append (map flag play.start) (all_numbers play.joints)) in
      sym (get_or-drop (96 * k) bs i 0) ∙ sym (get_or-take 96 (drop (96 * k) bs) i 0 (omega arith)) ∙ ap (λ l. get_or l i 0) S.bytes
      ∙ get_or_append_left (written play) (replicate (96 - length (written play)) 0) 0 i w

  pub spelled_start : (f : ℕ) → f < fluents R → byte_is bs f 1 k ≡ holds_in play.start f
  spelled_start f h =
      let s = start_length in
      ap (λ x. eqb x 1)
      (at_byte f (omega arith) ∙ get_or_append_left (map flag play.start) (all_numbers play.joints) 0 f (omega arith)
      ∙ get_or-map flag play.start f false 0 (omega (arith, S.fluents_each)))
      ∙ flag_is (holds_in play.start f)

  pub spelled_move : (j c : ℕ) → j < H → c < choices R
      → byte_is bs (move_byte R j (choice_of (moves_of R) c).role) (choice_of (moves_of R) c).number k ≡ made play.joints j c
  spelled_move j c h l =
      let ns = moves_of R in
      let r = (choice_of ns c).role in
      let t : c < total ns = omega (arith, choices_are R) in
      let w = role_within ns 0 c t in
      let b = below_product (length ns) j H r h (omega arith) in
      let s = start_length in
      let e : move_byte R j r ≡ length (map flag play.start) + (length ns * j + r) = ap (λ n. fluents R + n * j + r) (roles_are R) ∙ omega arith in
      ap (λ x. eqb x (choice_of ns c).number)
      (ap (play_byte bs k) e ∙ at_byte (length (map flag play.start) + (length ns * j + r)) (omega arith)
      ∙ get_or-append-add (map flag play.start) (all_numbers play.joints) (length ns * j + r) 0)
      ∙ number_at play.joints j c (omega (arith, S.levels)) t

  pub spelled_rest : (i : ℕ) → i < length (moves_of R) * H → get_or (all_numbers play.joints) i 0 ≡ play_byte bs k (fluents R + i)
  spelled_rest i h =
      let s = start_length in
      let e : fluents R + i ≡ length (map flag play.start) + i = omega arith in
      sym (at_byte (fluents R + i) (omega arith) ∙ ap (λ j. get_or (written play) j 0) e ∙ get_or-append-add (map flag play.start) (all_numbers play.joints) i 0)
