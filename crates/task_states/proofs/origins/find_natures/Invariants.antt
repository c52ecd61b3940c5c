use Rattle.std.proofs.Common.{ℕ, ◌≡◌, length, Some}
use Rattle.std.specs.Prelude.{slice_get}
use Rattle.ompt_events.specs.States.{nature_of}
use Rattle.task_states.specs.declared.moves.Nature.{Nature}
use Rattle.task_states.specs.Progress.{the_nature}
use Rattle.task_states.proofs.OriginLemmas.{IsFilled}
use Rattle.task_states.proofs.origins.find_natures.Given as goal

-- it is known what each task is that was gone over
abbrev pub invariant-loop-index : goal.invariant-loop-index
invariant-loop-index l = record {
  count : l.count ≡ length l.run.family.tasks;
  filled : IsFilled
      (λ (i : ℕ) (nature : Nature).
      (task : ℕ) → slice_get l.run.family.tasks i ≡ Some task
      → the_nature nature ≡ nature_of l.run.records task)
      l.index l.natures.items;
}
