use Rattle.ompt_events.specs.Records.{finish}
use Rattle.std.proofs.Common.{◌∙◌}
use Rattle.task_tree.proofs.PackedLemmas.{some_said_there}
use Rattle.task_tree.proofs.run.Run.is_finishing.Goals as goal

pub returns : goal.returns
returns c =
    some_said_there finish c.args.self.now.records c.args.at c.is_some.result c.requires
    (λ body is. c.is_some.ensures ∙ c.finishes.ensures.any body (c.act.ensures body is))
