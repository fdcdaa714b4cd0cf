-- Reads of values and of records.
use Rattle.std.proofs.Common.{◌≡◌, ℕ, ◌<◌, List, [], ◌∷◌, map, length, get_or, sym, ap, ◌∙◌, arith}
use Rattle.std.proofs.lemmas.List.{get_or-map}
use Rattle.evaluate.specs.Evaluate.{Ops, look}

pub look_at : {V X : Type 0} (o : Ops V) (means : X → V) (vs : List X) (k i : ℕ) (v : X) → i < length vs → v ≡ get_or vs i v → i ≡ k → means v ≡ look o (map means vs) k
look_at o means vs k i v h e p = ap means e ∙ sym (get_or-map means vs i v o.no' h) ∙ ap (look o (map means vs)) p

-- two lists' places that hold the same mean the same
pub look_same : {V X : Type 0} (o : Ops V) (means : X → V) (vs ws : List X) (i j : ℕ) → i < length vs → j < length ws → ((d : X) → get_or vs i d ≡ get_or ws j d) → look o (map means vs) i ≡ look o (map means ws) j
look_same o means [] ws i j h k same = absurd (omega arith)
look_same o means (v ∷ vs) ws i j h k same = get_or-map means (v ∷ vs) i v o.no' h ∙ ap means (same v) ∙ sym (get_or-map means ws j v o.no' k)
