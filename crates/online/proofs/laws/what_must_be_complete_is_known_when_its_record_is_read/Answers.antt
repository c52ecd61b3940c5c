use Rattle.online.proofs.KeptLemmas.{begun_there}
use Rattle.online.proofs.CoverLemmas.{covered_complete, cover_back}
use Rattle.online.proofs.PrecededLemmas.{preceded_complete, preceded_back, listed_there}
use Rattle.online.proofs.RequiredLemmas.{required_same}
use Rattle.online.proofs.laws.what_must_be_complete_is_known_when_its_record_is_read.Goals as goal

pub returns-clause-covered : goal.returns-clause-covered
returns-clause-covered c = covered_complete

pub returns-clause-covers : goal.returns-clause-covers
returns-clause-covers c = cover_back

pub returns-clause-begun : goal.returns-clause-begun
returns-clause-begun c = begun_there

pub returns-clause-preceded : goal.returns-clause-preceded
returns-clause-preceded c = preceded_complete

pub returns-clause-precedes : goal.returns-clause-precedes
returns-clause-precedes c = preceded_back

pub returns-clause-listed : goal.returns-clause-listed
returns-clause-listed c = listed_there

pub returns-clause-required : goal.returns-clause-required
returns-clause-required c = required_same
