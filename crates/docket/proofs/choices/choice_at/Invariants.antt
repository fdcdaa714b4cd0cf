use Rattle.std.proofs.Common.{◌≡◌, drop}
use Rattle.docket.specs.Choices.{choice_from, choice_of}
use Rattle.docket.proofs.choices.choice_at.Given as goal

abbrev pub invariant-loop-role : goal.invariant-loop-role
invariant-loop-role l = choice_from l.role (drop l.role l.moves) l.left ≡ choice_of l.moves l.c
