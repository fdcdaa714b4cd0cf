use Rattle.std.proofs.Common.{◌≡◌, Bool, true, false, cond, ltb, refl, ap, ◌∙◌, ap₂, arith}
use Rattle.std.proofs.lemmas.Bool.{lt-ltb, le-ltb}
use Rattle.truth.specs.Bit.{bit}
use Rattle.truth.specs.Forms.{Answers, only_yes, only_no, both, Meaning}
use Rattle.truth.specs.Kleene.{meet}
use Rattle.truth.specs.Wide.{Place, means, yes_allowed}
use Rattle.evaluate.specs.Claims.{just}
use Rattle.docket.proofs.marking.mark.Goals as goal

inside : (b : Bool) → yes_allowed (meet (just b) only_yes) ≡ b
inside true = refl
inside false = refl

outside : (v : Answers) → yes_allowed (meet v only_no) ≡ false
outside only_yes = refl
outside only_no = refl
outside both = refl

bits : (c : goal.After-may_be_yes) (w : Place) → bit c.may_be_yes.result w.at ≡ yes_allowed (meet (means c.judge-broken.result w) (cond (ltb w.at c.args.plays.count) only_yes only_no))
bits c w =
    c.may_be_yes.ensures.exact w ∙ ap yes_allowed (c.and.ensures.exact w
    ∙ ap (meet (means c.judge-broken.result w)) (ap (λ (m : Meaning Place). m w) c.settled.ensures.exact ∙ ap (λ (b : Bool). cond b only_yes only_no) (c.all_plays.ensures w.at)))

pub returns : goal.returns
returns c = record {
  each = λ G reads k h play S.
      let w : Place = record { at = k; below = omega arith } in
      bits c w ∙ ap₂ (λ v (b : Bool). yes_allowed (meet v (cond b only_yes only_no))) (c.judge-broken.ensures G reads w h play S) (lt-ltb k c.args.plays.count h) ∙ inside _;
  past = λ k h l.
      let w : Place = record { at = k; below = l } in
      bits c w ∙ ap (λ (b : Bool). yes_allowed (meet (means c.judge-broken.result w) (cond b only_yes only_no))) (le-ltb k c.args.plays.count h) ∙ outside (means c.judge-broken.result w);
}
