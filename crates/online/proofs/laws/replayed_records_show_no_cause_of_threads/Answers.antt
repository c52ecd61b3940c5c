use Rattle.online.proofs.ReplayEnds.{replayed_order, replayed_share}
use Rattle.online.proofs.ReplayRecords.{replayed_numbered, replayed_once}
use Rattle.online.proofs.ReplayThreads.{replayed_unmoved, replayed_flat, replayed_nested, replayed_on_host}
use Rattle.online.proofs.laws.replayed_records_show_no_cause_of_threads.Goals as goal

pub returns-clause-numbered : goal.returns-clause-numbered
returns-clause-numbered c = replayed_numbered

pub returns-clause-once : goal.returns-clause-once
returns-clause-once c = replayed_once

pub returns-clause-unmoved : goal.returns-clause-unmoved
returns-clause-unmoved c = replayed_unmoved

pub returns-clause-flat : goal.returns-clause-flat
returns-clause-flat c = replayed_flat

pub returns-clause-nested : goal.returns-clause-nested
returns-clause-nested c = replayed_nested

pub returns-clause-on_host : goal.returns-clause-on_host
returns-clause-on_host c = replayed_on_host

pub returns-clause-closed : goal.returns-clause-closed
returns-clause-closed c = replayed_order

pub returns-clause-claimed : goal.returns-clause-claimed
returns-clause-claimed c = replayed_share
