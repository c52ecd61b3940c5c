use Rattle.std.proofs.Common.{ℕ, ◌≡◌, length, Some}
use Rattle.std.specs.Prelude.{slice_get}
use Rattle.task_states.specs.declared.homes.Home.{Home}
use Rattle.task_states.specs.Homes.{home_at}
use Rattle.task_states.proofs.OriginLemmas.{IsFilled}
use Rattle.task_states.proofs.origins.find_homes.Given as goal

-- where each task runs that was gone over is known
abbrev pub invariant-loop-index : goal.invariant-loop-index
invariant-loop-index l = record {
  count : l.count ≡ length l.schedules.family.tasks;
  filled : IsFilled
      (λ (i : ℕ) (home : Home).
      (task : ℕ) → slice_get l.schedules.family.tasks i ≡ Some task
      → home ≡ home_at l.schedules.records task)
      l.index l.homes.items;
}
