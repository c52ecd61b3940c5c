use Rattle.online.proofs.WaitLemmas.{nothing_then}
use Rattle.online.proofs.WaitTeamLemmas.{quiet_teams}
use Rattle.online.proofs.EndLemmas.{at_once_covers}
use Rattle.online.proofs.laws.some_records_need_no_step.Goals as goal

pub returns-clause-kept : goal.returns-clause-kept
returns-clause-kept c = λ table. nothing_then table

pub returns-clause-teams : goal.returns-clause-teams
returns-clause-teams c = λ table teams. quiet_teams table teams

pub returns-clause-empty : goal.returns-clause-empty
returns-clause-empty c = λ rs r task. at_once_covers rs r task
