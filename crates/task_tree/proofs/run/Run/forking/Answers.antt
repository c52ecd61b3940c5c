use Rattle.std.proofs.Common.{ℕ}
use Rattle.std.specs.Prelude.{option_map}
use Rattle.ompt_events.specs.Records.{forked}
use Rattle.task_tree.proofs.PackedLemmas.{fork_there}
use Rattle.task_tree.proofs.run.Run.forking.Goals as goal

pub returns : goal.returns
returns c =
    fork_there c.args.self.now c.args.at c.subject_if.result c.requires
    (c.subject_if.ensures (λ body. option_map (λ (f : ℕ × ℕ). f.0) (forked body))
    (λ body is. c.forks.ensures.forked body (c.act.ensures body is)))
