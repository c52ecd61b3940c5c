use Rattle.scripts.proofs.UseLemmas.{AreMade}
use Rattle.scripts.proofs.uses.numbered.Given as goal

-- the tasks that the steps so far make
abbrev pub invariant-loop-step : goal.invariant-loop-step
invariant-loop-step l = AreMade l.steps l.step-index l.made.items
