use Rattle.scripts.proofs.CurrentLaw.{none_off_current}
use Rattle.scripts.proofs.GapLaw.{none_with_gap}
use Rattle.scripts.proofs.MovedParts.{none_without_state}
use Rattle.scripts.proofs.RegionLaw.{none_shows_order}
use Rattle.scripts.proofs.ShareLaw.{none_shows_share}
use Rattle.scripts.proofs.cause_laws.runs_show_no_cause_of_tasks.Goals as goal

pub returns-clause-current : goal.returns-clause-current
returns-clause-current c script trace rules run =
    none_off_current script trace.records (record { rules = rules; accepted = run.accepted }) run.records

pub returns-clause-gapless : goal.returns-clause-gapless
returns-clause-gapless c script trace rules run =
    none_with_gap script trace.records (record { rules = rules; accepted = run.accepted }) run.records

pub returns-clause-ordered : goal.returns-clause-ordered
returns-clause-ordered c script trace rules run =
    none_without_state script trace.records (record { rules = rules; accepted = run.accepted }) run.records

pub returns-clause-closed : goal.returns-clause-closed
returns-clause-closed c script trace rules run =
    none_shows_order script trace.records (record { rules = rules; accepted = run.accepted }) run.records

pub returns-clause-claimed : goal.returns-clause-claimed
returns-clause-claimed c script trace rules run =
    none_shows_share script trace.records (record { rules = rules; accepted = run.accepted }) run.records
