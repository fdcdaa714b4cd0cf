-- The splits on the way down to the present case, the innermost first.
use Rattle.std.specs.Prelude.{◌≡◌, ℕ, zero, suc, List, [], ◌∷◌, Some, None, Option, slice_index_or}
use Rattle.splits.specs.declared.cases.Case.{Case}
use Rattle.splits.specs.declared.stack.Stack.{Stack}

abbrev pub none : Case
none = record { input = 0; branch = 0; number = 0 }

-- the first so many cases
abbrev pub stack : ℕ → List Case → List Case
stack zero cs = []
stack (suc d) cs = slice_index_or cs d none ∷ stack d cs

abbrev pub splits : Stack → List Case
splits s = stack s.depth s.cases.now

-- the innermost split is taken off, if there is one
abbrev pub Popped : Option Case → List Case → List Case → Type 0
Popped None before after = (before ≡ []) × (after ≡ [])
Popped (Some top) before after = before ≡ top ∷ after
