-- Rounds over yes and no give the standard model, and there is only one; the three-way reading.
use Rattle.std.proofs.Common.{◌≡◌, ℕ, zero, suc, ◌<◌, ◌≤◌, Bool, true, false, not, ◌&&◌, ◌||◌, sym, refl, ◌∙◌, subst, inl, inr, arith}
use Rattle.std.proofs.lemmas.Bool.{cases_eq}
use Rattle.truth.specs.Forms.{Answers, only_yes, only_no, both}
use Rattle.truth.specs.Kleene.{flip, meet, join}
use Rattle.evaluate.specs.Lists.{Each}
use Rattle.evaluate.specs.Program.{Part, Program, Lower, PartFits, Stratified}
use Rattle.evaluate.specs.Model.{MetBy, StandardModel}
use Rattle.evaluate.specs.Evaluate.{bool_ops, evaluated, up_to}
use Rattle.evaluate.specs.Meanings.{kleene_each}
use Rattle.evaluate.specs.Claims.{RoundsAreStandard, StandardIsOne, ThreeWay, sure, possible}
use Rattle.evaluate.proofs.Leasts.{each_map₂, some_map₂, up_eq, stays, Half, evaluated_least}

bool_half : Half bool_ops (λ b. b) (λ b. b)
bool_half = record { yes_half = refl; no_half = refl; not_half = λ v. refl; and_half = λ u v. refl; or_half = λ u v. refl }

pub rounds_are_standard : RoundsAreStandard
unfolding evaluated up_to
rounds_are_standard P st given = record {
  bottom = λ a h e. stays bool_ops P given P.strata 0 a (omega arith) h (omega arith);
  strata = evaluated_least bool_ops (λ b. b) (λ b. b) bool_half P st given;
}

-- two standard models agree
module _ (P : Program) (st : Stratified P) (given : ℕ → Bool) where
  moved : (M N : ℕ → Bool) (s : ℕ) → ((b : ℕ) → b < P.atoms → P.stratum b < s → M b ≡ N b) → (X : ℕ → Bool) → (b : Bool) (a : ℕ) → a < P.atoms → Lower b (P.stratum a) s → MetBy b P M M s X a → MetBy b P N N s X a
  moved M N s g X true a h l m = (m.0, λ u. sym (g a h u) ∙ m.1 u)
  moved M N s g X false a h l m = sym (g a h l) ∙ m

  into : (M N : ℕ → Bool) → StandardModel P given M → StandardModel P given N → (s : ℕ) → 0 < s → ((b : ℕ) → b < P.atoms → P.stratum b < s → M b ≡ N b) → (a : ℕ) → a < P.atoms → P.stratum a ≡ s → M a ≡ true → N a ≡ true
  into M N m n s pos g =
      (m.strata s pos).least N (λ a h e some.
      (n.strata s pos).closed a h e (some_map₂ (λ ls. each_map₂ (λ (l : Part) (f : PartFits P s l) k. moved M N s g N l.plain l.atom f.known f.lower k) ls) (subst (λ (t : ℕ). Each (Each (PartFits P t)) (P.bodies a)) e (st.ordered a h)) some))

  one_below : (M N : ℕ → Bool) → StandardModel P given M → StandardModel P given N → (s : ℕ) → (a : ℕ) → a < P.atoms → P.stratum a ≤ s → M a ≡ N a
  one_below M N m n zero a h l = m.bottom a h (omega arith) ∙ sym (n.bottom a h (omega arith))
  one_below M N m n (suc s) a h l =
      elim (cases_eq (P.stratum a) (suc s)) [
        | inl e ↦ up_eq (M a) (N a) (into M N m n (suc s) (omega arith) (λ b k u. one_below M N m n s b k (omega arith)) a h e) (into N M n m (suc s) (omega arith) (λ b k u. sym (one_below M N m n s b k (omega arith))) a h e)
        | inr u ↦ one_below M N m n s a h (omega arith)
      ]

pub standard_is_one : StandardIsOne
standard_is_one P st given M N m n a h = one_below P st given M N m n (P.stratum a) a h (omega arith)

-- sure or possible in one world
sure_not : (v : Answers) → sure (flip v) ≡ not (possible v)
sure_not only_yes = refl
sure_not only_no = refl
sure_not both = refl

sure_and : (u v : Answers) → sure (meet u v) ≡ sure u && sure v
sure_and only_yes v = refl
sure_and only_no v = refl
sure_and both only_yes = refl
sure_and both only_no = refl
sure_and both both = refl

sure_or : (u v : Answers) → sure (join u v) ≡ sure u || sure v
sure_or only_yes v = refl
sure_or only_no v = refl
sure_or both only_yes = refl
sure_or both only_no = refl
sure_or both both = refl

possible_not : (v : Answers) → possible (flip v) ≡ not (sure v)
possible_not only_yes = refl
possible_not only_no = refl
possible_not both = refl

possible_and : (u v : Answers) → possible (meet u v) ≡ possible u && possible v
possible_and only_yes v = refl
possible_and only_no v = refl
possible_and both only_yes = refl
possible_and both only_no = refl
possible_and both both = refl

possible_or : (u v : Answers) → possible (join u v) ≡ possible u || possible v
possible_or only_yes v = refl
possible_or only_no v = refl
possible_or both only_yes = refl
possible_or both only_no = refl
possible_or both both = refl

pub three_way : (World : Type 0) → ThreeWay World
three_way World P st vs w s pos = (
  evaluated_least (kleene_each World) (λ v. sure (v w)) (λ v. possible (v w))
      (record { yes_half = refl; no_half = refl; not_half = λ v. sure_not (v w); and_half = λ u v. sure_and (u w) (v w); or_half = λ u v. sure_or (u w) (v w) }) P st vs s pos,
  evaluated_least (kleene_each World) (λ v. possible (v w)) (λ v. sure (v w))
      (record { yes_half = refl; no_half = refl; not_half = λ v. possible_not (v w); and_half = λ u v. possible_and (u w) (v w); or_half = λ u v. possible_or (u w) (v w) }) P st vs s pos,
)
