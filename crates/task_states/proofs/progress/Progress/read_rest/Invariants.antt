use Rattle.std.proofs.Common.{◌≡◌, length, take}
use Rattle.task_states.specs.declared.progress.Pass.TheVariants.{Rest}
use Rattle.task_states.specs.Progress.{HasCome, moves_read}
use Rattle.task_states.proofs.progress.Progress.read_rest.Given as goal

-- the places so far were gone over
abbrev pub invariant-loop-at : goal.invariant-loop-at
invariant-loop-at l = record {
  come : HasCome l.origins.records l.origins.family.tasks
      (moves_read Rest l.origins.records (take l.at-index l.left)) l.self;
  marks : length l.self.marks ≡ length l.initial.self.marks;
}
