use Rattle.scripts.proofs.CurrentLaw.{none_off_current}
use Rattle.scripts.proofs.GapLaw.{none_with_gap}
use Rattle.scripts.proofs.MovedParts.{none_without_state}
use Rattle.scripts.proofs.RegionLaw.{none_shows_order}
use Rattle.scripts.proofs.ShareLaw.{none_shows_share}
use Rattle.online.specs.Replays.{script_of}
use Rattle.online.proofs.ReplayLaw.{replayed_whole, replayed_records}
use Rattle.online.proofs.laws.replayed_records_show_no_cause_of_tasks.Goals as goal

pub returns-clause-current : goal.returns-clause-current
returns-clause-current c nests rs values replayed =
    none_off_current (script_of nests rs) rs (replayed_whole nests rs values replayed)
    (replayed_records nests rs values replayed)

pub returns-clause-gapless : goal.returns-clause-gapless
returns-clause-gapless c nests rs values replayed =
    none_with_gap (script_of nests rs) rs (replayed_whole nests rs values replayed)
    (replayed_records nests rs values replayed)

pub returns-clause-ordered : goal.returns-clause-ordered
returns-clause-ordered c nests rs values replayed =
    none_without_state (script_of nests rs) rs (replayed_whole nests rs values replayed)
    (replayed_records nests rs values replayed)

pub returns-clause-closed : goal.returns-clause-closed
returns-clause-closed c nests rs values replayed =
    none_shows_order (script_of nests rs) rs (replayed_whole nests rs values replayed)
    (replayed_records nests rs values replayed)

pub returns-clause-claimed : goal.returns-clause-claimed
returns-clause-claimed c nests rs values replayed =
    none_shows_share (script_of nests rs) rs (replayed_whole nests rs values replayed)
    (replayed_records nests rs values replayed)
