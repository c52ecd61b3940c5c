use Rattle.std.proofs.Common.{◌≡◌, ◌++◌, length}
use Rattle.task_states.specs.declared.progress.Pass.TheVariants.{Home}
use Rattle.task_states.specs.Progress.{HasCome, moves_before, turned}
use Rattle.task_states.proofs.progress.Progress.read_turns.Given as goal

-- the turns so far were gone over
abbrev pub invariant-loop-turn : goal.invariant-loop-turn
invariant-loop-turn l = record {
  come : HasCome l.origins.records l.origins.family.tasks
      (λ task.
      moves_before Home l.origins.records (length l.origins.records) task
      ++ turned l.origins.records l.turn task)
      l.self;
  marks : length l.self.marks ≡ length l.initial.self.marks;
}
