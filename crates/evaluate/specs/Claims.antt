-- What holds of programs, of the standard model, and of evaluated values.
use Rattle.std.specs.Prelude.{◌≡◌, ℕ, ◌<◌, Bool, true, false, List, [], ◌∷◌, length}
use Rattle.truth.specs.Forms.{Answers, only_yes, only_no, both, Meaning, Allows, SettledEverywhere}
use Rattle.rules.specs.declared.opened.Rules.{Rules}
use Rattle.rules.specs.Opens.{atoms_of, moves_of}
use Rattle.evaluate.specs.Program.{Program, program_of, Stratified, ShutOff}
use Rattle.evaluate.specs.Model.{Least, StandardModel}
use Rattle.evaluate.specs.Evaluate.{Ops, bool_ops, look, evaluated}
use Rattle.evaluate.specs.Meanings.{kleene_each}
use Rattle.evaluate.specs.Positions.{fluents, choices, does_at, legal_at, terminal_at, still, Position, Joint, input, ReadsStandardModel, ModelOf}
use Rattle.evaluate.specs.Levels.{level_of, model, game}

-- The program of a rule file that was taken: it is stratified, fluents and does atoms are given and have no rules, legal
-- atoms and terminal are still, and the bodies of still atoms name only still ones.
pub record Proper (R : Rules) : Type 0 where
  pub stratified : Stratified (program_of R)
  pub fluents_given : (f : ℕ) → f < fluents R → ((program_of R).stratum f ≡ 0) × ((program_of R).bodies f ≡ []) × (still R f ≡ true)
  pub does_given : (k : ℕ) → k < choices R → ((program_of R).stratum (does_at R k) ≡ 0) × ((program_of R).bodies (does_at R k) ≡ []) × (still R (does_at R k) ≡ false)
  pub legal_still : (k : ℕ) → k < choices R → still R (legal_at R k) ≡ true
  pub terminal_still : still R (terminal_at R) ≡ true
  pub stills : ShutOff (program_of R) (still R)

abbrev pub RulesAreProper : Type 0
RulesAreProper = (R : Rules) → Proper R

-- There is a standard model, namely what the rounds give over yes and no.
abbrev pub RoundsAreStandard : Type 0
RoundsAreStandard =
    (P : Program) → Stratified P → (given : List Bool) → StandardModel P (look bool_ops given) (look bool_ops (evaluated bool_ops P given))

-- There is only one.
abbrev pub StandardIsOne : Type 0
StandardIsOne =
    (P : Program) → Stratified P → (given M N : ℕ → Bool) → StandardModel P given M → StandardModel P given N → (a : ℕ) → a < P.atoms → M a ≡ N a

-- Each position and joint move has a standard model, and there is a game that reads it.
abbrev pub PositionsHaveModels : Type 0
PositionsHaveModels = (R : Rules) (S : Position) (A : Joint (moves_of R)) → ModelOf R S A (look bool_ops (model R S A))

abbrev pub GameReads : Type 0
GameReads = (R : Rules) → ReadsStandardModel R (game R)

-- just the answer b
abbrev pub just : Bool → Answers
just true = only_yes
just false = only_no

-- Over the meanings of a form: f and d are answers to a level's fluents and does atoms, M their standard model.
module _ {World : Type 0} (o : Ops (Meaning World)) where
  -- the values given allow the answers f and d in world w
  abbrev pub GivenAllow : Rules → World → (fluent doing : ℕ → Meaning World) → (f d : ℕ → Bool) → Type 0
  GivenAllow R w fluent doing f d =
      ((k : ℕ) → k < fluents R → Allows (fluent k w) (f k)) × ((k : ℕ) → k < choices R → Allows (doing k w) (d k))

  -- the values given have one answer in every world
  abbrev pub GivenSettled : Rules → (fluent doing : ℕ → Meaning World) → Type 0
  GivenSettled R fluent doing =
      ((k : ℕ) → k < fluents R → SettledEverywhere (fluent k)) × ((k : ℕ) → k < choices R → SettledEverywhere (doing k))

  -- Where what is given allows answers, in a world, each value allows the answer of their standard model there.
  abbrev pub Sound : Type 0
  Sound =
      (R : Rules) (w : World) (fluent doing : ℕ → Meaning World) (f d M : ℕ → Bool) → GivenAllow R w fluent doing f d
      → StandardModel (program_of R) (input bool_ops R f d) M → (a : ℕ) → a < length (atoms_of R) → Allows (look o (level_of o R fluent doing) a w) (M a)

  -- Where what is given is settled, so is each value.
  abbrev pub Settling : Type 0
  Settling =
      (R : Rules) (fluent doing : ℕ → Meaning World) → GivenSettled R fluent doing → (a : ℕ) → SettledEverywhere (look o (level_of o R fluent doing) a)

  -- Both: each value is then just the answer of the standard model, in every world.
  abbrev pub Exact : Type 0
  Exact =
      (R : Rules) (fluent doing : ℕ → Meaning World) → GivenSettled R fluent doing → (w : World) (f d M : ℕ → Bool) → GivenAllow R w fluent doing f d
      → StandardModel (program_of R) (input bool_ops R f d) M → (a : ℕ) → a < length (atoms_of R) → look o (level_of o R fluent doing) a w ≡ just (M a)

  -- An atom whose only rule has the atom itself as body is no in every world, whatever is given.
  abbrev pub UnsupportedIsNo : Type 0
  UnsupportedIsNo =
      (R : Rules) (fluent doing : ℕ → Meaning World) (a : ℕ) → a < length (atoms_of R) → (program_of R).bodies a ≡ (record { atom = a; plain = true } ∷ []) ∷ []
      → (w : World) → look o (level_of o R fluent doing) a w ≡ only_no

-- Moves do not change still atoms, over any values.
abbrev pub StillAtomsStay : {V : Type 0} → Ops V → Type 0
StillAtomsStay {V} o =
    (R : Rules) (fluent doing other : ℕ → V) (a : ℕ) → a < length (atoms_of R) → still R a ≡ true
    → look o (level_of o R fluent doing) a ≡ look o (level_of o R fluent other) a

-- Only what is given of stratum 0 matters, over any values.
abbrev pub OnlyGivenMatters : {V : Type 0} → Ops V → Type 0
OnlyGivenMatters {V} o =
    (P : Program) → Stratified P → (vs ws : List V) → ((a : ℕ) → a < P.atoms → P.stratum a ≡ 0 → look o vs a ≡ look o ws a)
    → (a : ℕ) → a < P.atoms → look o (evaluated o P vs) a ≡ look o (evaluated o P ws) a

-- Yes; yes or open.
abbrev pub sure : Answers → Bool
sure only_yes = true
sure only_no = false
sure both = false

abbrev pub possible : Answers → Bool
possible only_yes = true
possible only_no = false
possible both = true

-- Kleene's operations, stratum by stratum in each world: an atom is yes exactly if it is in the least set using yes literals, and
-- no exactly if it is outside the least set using yes or open ones.
abbrev pub ThreeWay : Type 0 → Type 0
ThreeWay World =
    (P : Program) → Stratified P → (vs : List (Meaning World)) (w : World) (s : ℕ) → 0 < s
    → Least P (λ a. sure (look (kleene_each World) (evaluated (kleene_each World) P vs) a w)) (λ a. possible (look (kleene_each World) (evaluated (kleene_each World) P vs) a w)) s
    × Least P (λ a. possible (look (kleene_each World) (evaluated (kleene_each World) P vs) a w)) (λ a. sure (look (kleene_each World) (evaluated (kleene_each World) P vs) a w)) s
