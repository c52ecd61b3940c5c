use Rattle.std.proofs.Common.{ℕ, List}
use Rattle.scripts.specs.declared.script.Step.{Step}
use Rattle.scripts.specs.Parts.{AreUses}
use Rattle.scripts.proofs.uses.note_awaited.Given as goal

-- the uses so far are as good as at first
abbrev pub invariant-loop-at : goal.invariant-loop-at
invariant-loop-at l =
    (all : List Step) (n : ℕ) → AreUses all n l.initial.uses.items → AreUses all n l.uses.items
