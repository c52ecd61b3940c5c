use Rattle.ompt_events.specs.declared.cause.Cause.TheVariants.{LengthBack}
use Rattle.checker.specs.Readings.{by_task}
use Rattle.checker.proofs.ReadingLemmas.{of_tasks}
use Rattle.checker.proofs.MissedLemmas.{missed_by, unfinished_by}
use Rattle.checker.proofs.laws.unfinished_is_missed.Goals as goal

pub returns : goal.returns
returns c =
    λ rs order i task free linear. (
      missed_by (by_task rs) order i task (of_tasks rs) (λ k. free k LengthBack) linear,
      unfinished_by (by_task rs) i task,
    )
