use Rattle.online.proofs.KeptLemmas.{children_kept, opened_kept, region_kept, barrier_kept}
use Rattle.online.proofs.CompleteLemmas.{complete_same}
use Rattle.online.proofs.CoverLemmas.{cover_stays}
use Rattle.online.proofs.PrecededLemmas.{preceded_stays}
use Rattle.online.proofs.RequiredLemmas.{dependent_kept}
use Rattle.online.proofs.laws.what_is_read_stays.Goals as goal

pub returns-clause-children : goal.returns-clause-children
returns-clause-children c = children_kept

pub returns-clause-opened : goal.returns-clause-opened
returns-clause-opened c = opened_kept

pub returns-clause-regions : goal.returns-clause-regions
returns-clause-regions c = region_kept

pub returns-clause-barriers : goal.returns-clause-barriers
returns-clause-barriers c = barrier_kept

pub returns-clause-complete : goal.returns-clause-complete
returns-clause-complete c = complete_same

pub returns-clause-dependents : goal.returns-clause-dependents
returns-clause-dependents c = dependent_kept

pub returns-clause-covers : goal.returns-clause-covers
returns-clause-covers c = cover_stays

pub returns-clause-precedes : goal.returns-clause-precedes
returns-clause-precedes c = preceded_stays
