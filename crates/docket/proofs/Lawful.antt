-- Kleene's operations keep the laws, and settled answers.
use Rattle.std.proofs.Common.{◌≡◌, Bool, true, false, not, ◌&&◌, ◌||◌, sym, subst}
use Rattle.truth.specs.Forms.{Answers, only_yes, only_no, both, Allows, Settled, Laws}
use Rattle.truth.specs.Kleene.{flip, meet, join, neg, conj, disj}
use Rattle.evaluate.specs.Claims.{just}

flip_sound : (v : Answers) (x : Bool) → Allows v x → Allows (flip v) (not x)
flip_sound only_yes true h = tt
flip_sound only_yes false h = absurd h
flip_sound only_no true h = absurd h
flip_sound only_no false h = tt
flip_sound both x h = tt

meet_sound : (v u : Answers) (x y : Bool) → Allows v x → Allows u y → Allows (meet v u) (x && y)
meet_sound only_no u true y h k = absurd h
meet_sound only_no u false y h k = tt
meet_sound only_yes u true y h k = k
meet_sound only_yes u false y h k = absurd h
meet_sound both only_no x true h k = absurd k
meet_sound both only_no true false h k = tt
meet_sound both only_no false false h k = tt
meet_sound both only_yes x y h k = tt
meet_sound both both x y h k = tt

join_sound : (v u : Answers) (x y : Bool) → Allows v x → Allows u y → Allows (join v u) (x || y)
join_sound only_yes u true y h k = tt
join_sound only_yes u false y h k = absurd h
join_sound only_no u true y h k = absurd h
join_sound only_no u false y h k = k
join_sound both only_yes x false h k = absurd k
join_sound both only_yes true true h k = tt
join_sound both only_yes false true h k = tt
join_sound both only_no x y h k = tt
join_sound both both x y h k = tt

flip_settled : (v : Answers) → Settled v → Settled (flip v)
flip_settled only_yes h = tt
flip_settled only_no h = tt
flip_settled both h = absurd h

meet_settled : (v u : Answers) → Settled v → Settled u → Settled (meet v u)
meet_settled only_yes u h k = k
meet_settled only_no u h k = tt
meet_settled both u h k = absurd h

join_settled : (v u : Answers) → Settled v → Settled u → Settled (join v u)
join_settled only_yes u h k = tt
join_settled only_no u h k = k
join_settled both u h k = absurd h

pub kleene_laws : {World : Type 0} → Laws {World = World} neg conj disj
kleene_laws = record {
  neg_sound = λ a w x h. flip_sound (a w) x h;
  conj_sound = λ a b w x y h k. meet_sound (a w) (b w) x y h k;
  disj_sound = λ a b w x y h k. join_sound (a w) (b w) x y h k;
  neg_settled = λ a h w. flip_settled (a w) (h w);
  conj_settled = λ a b h k w. meet_settled (a w) (b w) (h w) (k w);
  disj_settled = λ a b h k w. join_settled (a w) (b w) (h w) (k w);
}

own : (b : Bool) → Allows (just b) b
own true = tt
own false = tt

one : (b : Bool) → Settled (just b)
one true = tt
one false = tt

pub just_allows : (v : Answers) (b : Bool) → v ≡ just b → Allows v b
just_allows v b e = subst (λ (u : Answers). Allows u b) (sym e) (own b)

pub just_settled : (v : Answers) (b : Bool) → v ≡ just b → Settled v
just_settled v b e = subst (λ (u : Answers). Settled u) (sym e) (one b)
