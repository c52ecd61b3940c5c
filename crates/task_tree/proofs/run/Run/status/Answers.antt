use Rattle.std.proofs.Common.{sym}
use Rattle.packed_trace.specs.Packed.{schedule_status}
use Rattle.task_tree.proofs.PackedLemmas.{said_there}
use Rattle.task_tree.proofs.run.Run.status.Goals as goal

pub returns : goal.returns
returns c =
    sym
    (said_there schedule_status c.args.self.now.records c.args.at c.status.result c.requires
    (λ body is. sym (c.status.ensures.status body (c.act.ensures body is))))
