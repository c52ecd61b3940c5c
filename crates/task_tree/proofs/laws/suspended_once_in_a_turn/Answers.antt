use Rattle.task_tree.proofs.SuspendedLemmas.{suspended_once, awaited_once}
use Rattle.task_tree.proofs.laws.suspended_once_in_a_turn.Goals as goal

pub returns-clause-suspended : goal.returns-clause-suspended
returns-clause-suspended c = suspended_once

pub returns-clause-awaited : goal.returns-clause-awaited
returns-clause-awaited c = awaited_once
