use Rattle.std.proofs.Common.{◌≡◌, take}
use Rattle.std.specs.Prelude.{map}
use Rattle.task_states.proofs.PassLemmas.{state_at_first}
use Rattle.task_states.proofs.progress.Progress.new.Given as goal

-- each task that was gone over has its first state
abbrev pub invariant-loop-nature : goal.invariant-loop-nature
invariant-loop-nature l = l.states.items ≡ map state_at_first (take l.nature-index l.natures)
