use Rattle.std.proofs.Common.{◌≡◌, length}
use Rattle.task_states.specs.declared.progress.Pass.TheVariants.{Early}
use Rattle.task_states.specs.Progress.{HasCome, moves_before}
use Rattle.task_states.proofs.progress.Progress.read_early.Given as goal

-- the records so far that the pass reads were gone over
abbrev pub invariant-loop-at : goal.invariant-loop-at
invariant-loop-at l = record {
  come : HasCome l.origins.records l.origins.family.tasks (moves_before Early l.origins.records l.at) l.self;
  marks : length l.self.marks ≡ length l.initial.self.marks;
}
