-- Over yes and no, the value of a part on the levels of a play is the play's mark.
use Rattle.std.proofs.Common.{◌≡◌, ℕ, zero, suc, ◌+◌, ◌-◌, ◌<◌, ◌≤◌, Bool, true, false, cond, not, ◌&&◌, ◌||◌, eqb, ltb, leb, List, [], ◌∷◌, length, sym, refl, ap, ◌∙◌, subst, ap₂, inl, inr, add-one, arith}
use Rattle.std.specs.List.{range_with_len, AllByRecursion}
use Rattle.std.proofs.lemmas.Bool.{cases_lt, cases_eq, both_ways, and_parts, and_from, cond-true, cond-false, lt-ltb, le-ltb, eq-eqb, eqb-true, leb-true}
use Rattle.rules.specs.declared.opened.Rules.{Rules}
use Rattle.rules.specs.Opens.{atoms_of, moves_of}
use Rattle.rules.specs.Tables.{total}
use Rattle.rules.specs.Typed.{Moving}
use Rattle.evaluate.specs.Evaluate.{bool_ops, look}
use Rattle.evaluate.specs.Levels.{level_of, from_first}
use Rattle.evaluate.specs.Positions.{choices, next_at, does_at, legal_at, terminal_at, still, Position, holds_in, Joint, done, pick, does, legal_for, Game, ReadOff, ReadsStandardModel}
use Rattle.evaluate.proofs.Chains.{atoms_are}
use Rattle.evaluate.proofs.Fitting.{rules_are_proper, enough}
use Rattle.evaluate.proofs.Games.{level_still}
use Rattle.evaluate.proofs.Givens.{level_same, input_does}
use Rattle.evaluate.proofs.Standing.{level_standard}
use Rattle.property.specs.Trees.{Property, Properties, atom, isn't, all, following, none, more, degree}
use Rattle.play.specs.declared.part.Part.{Part}
use Rattle.play.specs.declared.part.Part.TheVariants.{Base, Step}
use Rattle.play.specs.Truth.{satisfied, all_satisfied}
use Rattle.play.specs.Parts.{assumed, may_assume, Play, run, run_legal}
use Rattle.play.specs.Marks.{each_satisfied, shown}
use Rattle.play.proofs.Marks.{marks_are_right}
use Rattle.parts.specs.Claims.{ValuesAreMarks, ValuesShowBreaks}
use Rattle.parts.specs.Plays.{made, played, by_number, StillIn, EachStillIn}
use Rattle.parts.specs.Values.{at, value, all_value, each_move, every_move, legality_from, each_value, broken}
use Rattle.parts.proofs.Alike.{still_place, all_kept}

both_up : (b c : Bool) → (b ≡ true → c ≡ true) → (c ≡ true → b ≡ true) → b ≡ c
both_up true c f g = sym (f refl)
both_up false true f g = g refl
both_up false false f g = refl

-- one-hot does atoms: a joint move is legal exactly if each move that is made is
pub legal_parts : {ns : List ℕ} (A : Joint ns) (L : ℕ → Bool) → legal_for A L ≡ true → (c : ℕ) → c < total ns → does A c ≡ true → L c ≡ true
legal_parts done L l c h t = absurd (omega arith)
legal_parts (pick {n = n} m h j) L l c u t =
    let p = and_parts (L m) (legal_for j (λ i. L (n + i))) l in
    elim (cases_lt c n) [
      | inl i ↦
          let e : c ≡ m = eqb-true c m (sym (cond-true (ltb c n) (eqb c m) (does j (c - n)) (lt-ltb c n i)) ∙ t) in
          ap L e ∙ p.0
      | inr i ↦
          let e : c ≡ n + (c - n) = omega arith in
          ap L e ∙ legal_parts j (λ i. L (n + i)) p.1 (c - n) (omega arith) (sym (cond-false (ltb c n) (eqb c m) (does j (c - n)) (le-ltb c n i)) ∙ t)
    ]

pub legal_from : {ns : List ℕ} (A : Joint ns) (L : ℕ → Bool) → ((c : ℕ) → c < total ns → does A c ≡ true → L c ≡ true) → legal_for A L ≡ true
legal_from done L h = refl
legal_from (pick {n = n} m u j) L h =
    and_from (L m) (legal_for j (λ i. L (n + i))) (h m (omega arith) (cond-true (ltb m n) (eqb m m) (does j (m - n)) (lt-ltb m n u) ∙ eq-eqb m m refl))
    (legal_from j (λ i. L (n + i)) (λ c l t.
    let e : n + c - n ≡ c = omega arith in
    h (n + c) (omega arith) (cond-false (ltb (n + c) n) (eqb (n + c) m) (does j (n + c - n)) (le-ltb (n + c) n (omega arith)) ∙ ap (does j) e ∙ t)))

module _ (R : Rules) (L : ℕ → List Bool) (level : ℕ) where
  abbrev Lawful : ℕ → Type 0
  Lawful c = at bool_ops R L level (does_at R c) ≡ true → at bool_ops R L level (legal_at R c) ≡ true

  clause_true : (d l : Bool) → (d ≡ true → l ≡ true) → (not d || l) ≡ true
  clause_true true l h = h refl
  clause_true false l h = refl

  true_clause : (d l : Bool) → (not d || l) ≡ true → d ≡ true → l ≡ true
  true_clause true l h e = h
  true_clause false l h e = absurd (both_ways false refl e)

  moves_true : (n b : ℕ) (v : Bool) → v ≡ true → ((c : ℕ) → b ≤ c → c < b + n → Lawful c) → each_move bool_ops R L v level (range_with_len b n) ≡ true
  moves_true zero b v e h = e
  moves_true (suc n) b v e h = moves_true n (b + 1) _ (and_from v _ e (clause_true _ _ (h b (omega arith) (omega arith)))) (λ c l u. h c (omega arith) (omega arith))

  true_first : (n b : ℕ) (v : Bool) → each_move bool_ops R L v level (range_with_len b n) ≡ true → v ≡ true
  true_first zero b v e = e
  true_first (suc n) b v e = (and_parts v _ (true_first n (b + 1) _ e)).0

  true_moves : (n b : ℕ) (v : Bool) → each_move bool_ops R L v level (range_with_len b n) ≡ true → (c : ℕ) → b ≤ c → c < b + n → Lawful c
  true_moves zero b v e c l u = absurd (omega arith)
  true_moves (suc n) b v e c l u =
      elim (cases_eq b c) [
        | inl i ↦ subst Lawful i (true_clause _ _ (and_parts v _ (true_first n (b + 1) _ e)).1)
        | inr i ↦ true_moves n (b + 1) _ e c (omega arith) (omega arith)
      ]

table : (v t e f r : Bool) → (v && ((t || e) || f)) && ((t || e) || r) ≡ v && (t || cond e true (f && r))
table false t e f r = refl
table true true e f r = refl
table true false true f r = refl
table true false false f r = refl

and_or_true : (v t : Bool) → v ≡ v && (t || true)
and_or_true false t = refl
and_or_true true true = refl
and_or_true true false = refl

and_assoc : (a b c : Bool) → (a && b) && c ≡ a && (b && c)
and_assoc true b c = refl
and_assoc false b c = refl

and_true : (a : Bool) → a ≡ a && true
and_true true = refl
and_true false = refl

some_joint : (ns : List ℕ) → Moving ns → Joint ns
some_joint [] h = done
some_joint (n ∷ ns) h = pick 0 (let l = leb-true 1 n (and_parts (leb 1 n) (leb n 32) (h 0 (omega arith))).0 in omega arith) (some_joint ns (λ r l. h (suc r) (omega arith)))

module _ (R : Rules) (G : Game Position (Joint (moves_of R))) (reads : ReadsStandardModel R G) where
  abbrev G' : Game Position (Joint (moves_of R))
  G' = by_number G

  abbrev J : Type 0
  J = Joint (moves_of R)

  abbrev model_at : Position → (ℕ → Bool) → List Bool
  model_at S d = level_of bool_ops R (holds_in S) d

  read : (S : Position) (A : J) → ReadOff R G S A (look bool_ops (model_at S (does A)))
  read S A = reads.reads S A (look bool_ops (model_at S (does A))) (level_standard R (holds_in S) (does A))

  any : J
  any = some_joint (moves_of R) R.moving

  still_is : (S : Position) (d : ℕ → Bool) (a : ℕ) → a < length (atoms_of R) → still R a ≡ true → look bool_ops (model_at S d) a ≡ G.holds S a
  still_is S d a h s = level_still bool_ops R (holds_in S) d (does any) a s ∙ sym ((read S any).holds_is a h s)

  terminal_is : (S : Position) (d : ℕ → Bool) → look bool_ops (model_at S d) (terminal_at R) ≡ G.terminal S
  terminal_is S d = level_still bool_ops R (holds_in S) d (does any) (terminal_at R) (rules_are_proper R).terminal_still ∙ sym (read S any).terminal_is

  does_is : (S : Position) (d : ℕ → Bool) (c : ℕ) → c < choices R → look bool_ops (model_at S d) (does_at R c) ≡ d c
  does_is S d c h =
      (level_standard R (holds_in S) d).bottom (does_at R c) (omega (arith, enough R)) ((rules_are_proper R).does_given c h).0 ∙ input_does bool_ops R (holds_in S) d c h

  -- the levels from this one on are those of the positions
  abbrev Runs : (ℕ → List Bool) → ℕ → Position → List J → Type 0
  Runs L level S [] = L level ≡ model_at S (λ _. false)
  Runs L level S (A ∷ μ) = (L level ≡ model_at S (does A)) × Runs L (level + 1) (G.next S A) μ

  module _ (L : ℕ → List Bool) where
    named_is : (μ : List J) (S : Position) (level : ℕ) → Runs L level S μ → (a : ℕ) → a < length (atoms_of R) → still R a ≡ true → look bool_ops (L level) a ≡ G.holds S a
    named_is [] S level r a h s = ap (λ v. look bool_ops v a) r ∙ still_is S (λ _. false) a h s
    named_is (A ∷ μ) S level r a h s = ap (λ v. look bool_ops v a) r.0 ∙ still_is S (does A) a h s

    every_legal : (S : Position) (A : J) (level : ℕ) → L level ≡ model_at S (does A) → every_move bool_ops R L level ≡ G.legal S A
    every_legal S A level e =
        let size : total (moves_of R) ≡ choices R = sym R.shaped.1 in
        let did : (c : ℕ) → c < choices R → look bool_ops (L level) (does_at R c) ≡ does A c = λ c h. ap (λ v. look bool_ops v (does_at R c)) e ∙ does_is S (does A) c h in
        let lawful : (c : ℕ) → look bool_ops (L level) (legal_at R c) ≡ look bool_ops (model_at S (does A)) (legal_at R c) = λ c. ap (λ v. look bool_ops v (legal_at R c)) e in
        both_up _ _
        (λ t. legal_from A (λ c. look bool_ops (model_at S (does A)) (legal_at R c)) (λ c h u.
        let i : c < choices R = omega arith in
        sym (lawful c) ∙ true_moves R L level (choices R) 0 true t c (omega arith) (omega arith) (did c i ∙ u)))
        (λ t. moves_true R L level (choices R) 0 true refl (λ c l h u.
        let i : c < choices R = omega arith in
        lawful c ∙ legal_parts A (λ c. look bool_ops (model_at S (does A)) (legal_at R c)) t c (omega arith) (sym (did c i) ∙ u)))
        ∙ sym (read S A).legal_is

    legality_reads : (μ : List J) (v over : Bool) (S : Position) (level : ℕ) → Runs L level S μ → legality_from bool_ops R L v over level (length μ) ≡ v && (over || run_legal G' S μ)
    legality_reads [] v over S level r = and_or_true v over
    legality_reads (A ∷ μ) v over S level r =
        legality_reads μ _ _ (G.next S A) (level + 1) r.1
        ∙ rw (ap (λ x. look bool_ops x (terminal_at R)) r.0 ∙ terminal_is S (does A), every_legal S A level r.0) (table v over (G.terminal S) (G.legal S A) (run_legal G' (G.next S A) μ))

    follow_table : (p : Property) (S T : Position) (rest : List Position) (b x : Bool) → x ≡ satisfied G' p T rest → (b || x) ≡ satisfied G' (following p) S (cond b [] (T ∷ rest))
    follow_table p S T rest true x e = refl
    follow_table p S T rest false x e = e

    mutual
      value_reads : (p : Property) → StillIn R p → (μ : List J) (S : Position) (level : ℕ) → Runs L level S μ → value bool_ops R L p level (length μ) ≡ satisfied G' p S (run G' S μ)
      value_reads (atom a) h μ S level r = named_is μ S level r (a - 1) (omega (arith, atoms_are R, h.0, h.1)) (still_place R a h)
      value_reads (isn't p) h μ S level r = ap not (value_reads p h μ S level r)
      value_reads (all ps) h μ S level r = all_reads ps h true μ S level r
      value_reads (following p) h [] S level r = refl
      value_reads (following p) h (A ∷ μ) S level r =
          ap (λ b. b || value bool_ops R L p (level + 1) (length μ)) (ap (λ x. look bool_ops x (terminal_at R)) r.0 ∙ terminal_is S (does A))
          ∙ follow_table p S (G.next S A) (run G' (G.next S A) μ) (G.terminal S) _ (value_reads p h μ (G.next S A) (level + 1) r.1)

      all_reads : (ps : Properties) → EachStillIn R ps → (v : Bool) (μ : List J) (S : Position) (level : ℕ) → Runs L level S μ → all_value bool_ops R L v ps level (length μ) ≡ v && all_satisfied G' ps S (run G' S μ)
      all_reads none h v μ S level r = and_true v
      all_reads (more p ps) h v μ S level r =
          all_reads ps h.1 _ μ S level r ∙ ap (λ b. (v && b) && all_satisfied G' ps S (run G' S μ)) (value_reads p h.0 μ S level r)
          ∙ and_assoc v (satisfied G' p S (run G' S μ)) (all_satisfied G' ps S (run G' S μ))

    each_reads : (qs : List Property) → AllByRecursion (StillIn R) qs → (v : Bool) (μ : List J) (S : Position) → Runs L 0 S μ → each_value bool_ops R L v qs (length μ) ≡ v && each_satisfied G' qs S (run G' S μ)
    each_reads [] h v μ S r = and_true v
    each_reads (p ∷ qs) h v μ S r =
        each_reads qs h.1 _ μ S r ∙ ap (λ b. (v && b) && each_satisfied G' qs S (run G' S μ)) (value_reads p h.0 μ S 0 r)
        ∙ and_assoc v (satisfied G' p S (run G' S μ)) (each_satisfied G' qs S (run G' S μ))

    broken_reads : (part : Part) (qs : List Property) (p : Property) → AllByRecursion (StillIn R) qs → StillIn R p → (μ : List J) (S : Position) → Runs L 0 S μ
        → broken bool_ops R L part qs p (length μ) ≡ run_legal G' S μ && shown G' part qs p S (run G' S μ)
    broken_reads Base qs p hs h μ S r = ap₂ (λ a b. a && not b) (legality_reads μ true false S 0 r) (value_reads p h μ S 0 r)
    broken_reads Step qs p hs h μ S r =
        let l = run_legal G' S μ in
        let x = satisfied G' p S (run G' S μ) in
        let e = each_satisfied G' qs S (run G' S μ) in
        let f = satisfied G' (following p) S (run G' S μ) in
        ap₂ (λ a b. a && not b)
        (each_reads qs hs _ μ S r ∙ ap₂ (λ a b. (a && b) && e) (legality_reads μ true false S 0 r) (value_reads p h μ S 0 r))
        (value_reads (following p) h μ S 0 r)
        ∙ and_assoc (l && x) e (not f) ∙ and_assoc l x (e && not f)

  -- the levels of a play
  runs_from : (L : ℕ → List Bool) (doing : ℕ → ℕ → Bool) → ((j : ℕ) → L (j + 1) ≡ level_of bool_ops R (λ f. look bool_ops (L j) (next_at R f)) (doing (j + 1)))
      → (μ : List J) (S : Position) (level : ℕ) → ((j c : ℕ) → doing (level + j) c ≡ made μ j c) → L level ≡ model_at S (doing level) → Runs L level S μ
  runs_from L doing step [] S level d e =
      let z : level + 0 ≡ level = omega arith in
      e ∙ level_same bool_ops R _ _ _ _ (λ f h. refl) (λ c h. ap (λ j. doing j c) (sym z) ∙ d 0 c)
  runs_from L doing step (A ∷ μ) S level d e =
      let z : level + 0 ≡ level = omega arith in
      let here : L level ≡ model_at S (does A) = e ∙ level_same bool_ops R _ _ _ _ (λ f h. refl) (λ c h. ap (λ j. doing j c) (sym z) ∙ d 0 c) in (
        here,
        runs_from L doing step μ (G.next S A) (level + 1)
            (λ j c. let i : level + 1 + j ≡ level + suc j = omega arith in ap (λ m. doing m c) i ∙ d (suc j) c)
            (step level ∙ level_same bool_ops R _ _ _ _ (λ f h. ap (λ v. look bool_ops v (next_at R f)) here ∙ sym ((read S A).next_is f h)) (λ c h. refl)),
      )

  pub play_runs : (play : Play Position J) → Runs (played R play) 0 play.start play.joints
  unfolding from_first
  play_runs play =
      runs_from (played R play) (made play.joints) (λ j. rw add-one refl) play.joints play.start 0
      (λ j c. let i : 0 + j ≡ j = omega arith in ap (λ m. made play.joints m c) i) refl

pub values_are_marks : ValuesAreMarks
values_are_marks R G reads part docket p hs h play e =
    ap (broken bool_ops R (played R play) part (assumed p docket) p) (sym e)
    ∙ broken_reads R G reads (played R play) part (assumed p docket) p (all_kept (StillIn R) (λ q. may_assume (degree p) (degree q)) docket hs) h play.joints play.start (play_runs R G reads play)

pub values_show_breaks : ValuesShowBreaks
values_show_breaks R G reads part docket p hs h play is =
    let e = values_are_marks R G reads part docket p hs h play is.levels in
    let m = marks_are_right (by_number G) part docket p play is in
    (λ b. e ∙ m.0 b, λ t. m.1 (sym e ∙ t))
