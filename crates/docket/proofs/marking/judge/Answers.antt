use Rattle.std.proofs.Common.{◌≡◌, ℕ, ◌+◌, ◌*◌, ◌<◌, ◌≤◌, true, ◌&&◌, ltb, List, map, length, get_or, sym, ap, ◌∙◌, subst, arith}
use Rattle.std.specs.List.{AllByRecursion}
use Rattle.std.proofs.lemmas.List.{get_or-map}
use Rattle.std.proofs.lemmas.Bool.{lt-ltb}
use Rattle.truth.specs.Forms.{only_no, Meaning}
use Rattle.truth.specs.Wide.{Place, means}
use Rattle.truth.specs.declared.wide.Wide.{Wide}
use Rattle.rules.specs.Opens.{atoms_of, moves_of}
use Rattle.evaluate.specs.Claims.{just}
use Rattle.evaluate.specs.Evaluate.{look}
use Rattle.evaluate.specs.Grids.{row, place}
use Rattle.evaluate.specs.Levels.{at_level}
use Rattle.evaluate.specs.Meanings.{kleene_each}
use Rattle.evaluate.specs.Positions.{fluents, choices, does_at, holds_in}
use Rattle.evaluate.proofs.Chains.{few_atoms}
use Rattle.evaluate.proofs.Fitting.{enough}
use Rattle.evaluate.proofs.Rows.{row_at, row_length}
use Rattle.property.specs.declared.properties.Property.{Property}
use Rattle.property.specs.Reads.{records_of}
use Rattle.property.specs.Trees.{degree}
use Rattle.play.specs.declared.part.Part.{Part}
use Rattle.play.specs.declared.part.Part.TheVariants.{Base, Step}
use Rattle.play.specs.Parts.{horizon_of}
use Rattle.parts.specs.Plays.{made}
use Rattle.parts.specs.Tables.{tree_of}
use Rattle.parts.specs.Values.{part_value}
use Rattle.parts.proofs.Lawful.{exact}
use Rattle.parts.proofs.Stills.{records_are_still}
use Rattle.parts.proofs.Tables.{all_at}
use Rattle.docket.specs.Choices.{choice_of}
use Rattle.docket.specs.Dockets.{trees_of}
use Rattle.docket.specs.Inputs.{move_byte}
use Rattle.docket.specs.Plays.{byte_is}
use Rattle.docket.specs.Truths.{Fitting}
use Rattle.docket.proofs.Inputs.{does_small}
use Rattle.docket.proofs.Lawful.{kleene_laws, just_allows, just_settled}
use Rattle.docket.proofs.Spelling.{spelled_start, spelled_move}
use Rattle.docket.proofs.Standing.{all_fit, all_still}
use Rattle.docket.proofs.marking.judge.Goals as goal

pub invariant_of-claim : goal.invariant_of-claim
invariant_of-claim c =
    let D = c.args.docket.now in
    let all = subst (λ (l : List Property). AllByRecursion (Fitting D.rules) l) (sym c.properties.ensures) (all_fit D) in
    record { fits = c.requires.fits; all = λ i q h. all_at (Fitting D.rules) c.properties.result.now i q h all }

few_levels : (part : Part) (n : ℕ) → n ≤ 3 → horizon_of part n ≤ 4
few_levels Base n h = omega arith
few_levels Step n h = omega arith

look_row : (vs : List Wide) (n j a : ℕ) (d : Wide) → a < n → j * 512 + n ≤ length vs → look (kleene_each Place) (map means (row n vs j)) a ≡ means (get_or vs (place j a) d)
look_row vs n j a d h long =
    let e = row_length n vs j long in
    get_or-map means (row n vs j) a d (λ _. only_no) (omega arith) ∙ ap means (row_at n vs j a d h)

pub returns : goal.returns
returns c G reads w lt play S =
    let D = c.args.docket.now in
    let R = D.rules in
    let part = c.args.part in
    let p = tree_of c.args.property.now in
    let H = horizon_of part (degree p) in
    let bs = c.args.plays.bytes.now in
    let count = c.args.plays.count in
    let vs = c.put.new.values in
    let n = length (atoms_of R) in
    let d = c.evaluate.result in
    let start = look (kleene_each Place) (map means (row n vs 0)) in
    let does = λ (j k : ℕ). look (kleene_each Place) (map means (row n vs j)) (does_at R k) in
    let e : c.from-horizon.result ≡ H = c.from-horizon.ensures ∙ c.horizon.ensures ∙ ap (horizon_of part) c.degree.ensures.tree in
    let few : H ≤ 4 = omega (arith, few_levels part c.degree.result c.degree.ensures.bound, c.horizon.ensures, c.from-horizon.ensures) in
    let room : 3392 ≤ length vs = omega arith in
    let starts : (f : ℕ) → f < fluents R → (u : Place) → start f u ≡ just (ltb u.at count && byte_is bs f 1 u.at) = λ f h u.
    ap (λ (m : Meaning Place). m u) (look_row vs n 0 f d (omega (arith, enough R)) (omega (arith, few_atoms R)) ∙ c.put.ensures.start f d h) in
    let moves : (j k : ℕ) → j < H → k < choices R → (u : Place) → does j k u ≡ just (ltb u.at count && byte_is bs (move_byte R j (choice_of (moves_of R) k).role) (choice_of (moves_of R) k).number u.at) = λ j k h l u.
    ap (λ (m : Meaning Place). m u) (look_row vs n j (does_at R k) d (does_small R k l) (omega (arith, few_atoms R)) ∙ c.put.ensures.moves j k d (omega arith) l) in
    let here : ltb w.at count ≡ true = lt-ltb w.at count lt in
    ap (λ (m : Meaning Place). m w) (c.evaluate.ensures.value ∙ ap (λ l. part_value (kleene_each Place) R (at_level (kleene_each Place) R start does) part (map tree_of l) p) c.properties.ensures)
    ∙ exact kleene_laws R G reads w start does part (trees_of D) p (all_still D) (records_are_still R (records_of c.args.property.now) c.requires.fits) play S.levels (
      (λ f h. just_allows (start f w) (holds_in play.start f) (starts f h w ∙ ap (λ b. just (b && byte_is bs f 1 w.at)) here ∙ ap just (spelled_start R H bs w.at play S few f h))),
      (λ j k h l. just_allows (does j k w) (made play.joints j k)
          (moves j k h l w ∙ ap (λ b. just (b && byte_is bs (move_byte R j (choice_of (moves_of R) k).role) (choice_of (moves_of R) k).number w.at)) here ∙ ap just (spelled_move R H bs w.at play S few j k h l))),
    ) (
      (λ f h u. just_settled (start f u) _ (starts f h u)),
      (λ j k h l u. just_settled (does j k u) _ (moves j k h l u)),
    )
