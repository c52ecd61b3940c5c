use Rattle.std.proofs.Common.{◌≡◌, length}
use Rattle.task_states.specs.declared.progress.Pass.TheVariants.{Home}
use Rattle.task_states.specs.Progress.{HasCome, AreLeft, moves_before}
use Rattle.task_states.proofs.progress.Progress.read_home.Given as goal

-- the records so far that the pass reads were gone over, and what they leave is noted
abbrev pub invariant-loop-at : goal.invariant-loop-at
invariant-loop-at l = record {
  come : HasCome l.origins.records l.origins.family.tasks (moves_before Home l.origins.records l.at) l.self;
  left : AreLeft l.origins.records l.at l.left.items;
  marks : length l.self.marks ≡ length l.initial.self.marks;
}
