use Rattle.online.proofs.WatchLemmas.{watchable_exactly}
use Rattle.online.proofs.AwaitLemmas.{placed_exactly}
use Rattle.online.proofs.ClearLaw.{none_shown}
use Rattle.online.proofs.laws.tests_at_each_record_exclude_all_causes.Goals as goal

pub returns-clause-watchable : goal.returns-clause-watchable
returns-clause-watchable c = watchable_exactly

pub returns-clause-placed : goal.returns-clause-placed
returns-clause-placed c = placed_exactly

pub returns-clause-clear : goal.returns-clause-clear
returns-clause-clear c = none_shown
