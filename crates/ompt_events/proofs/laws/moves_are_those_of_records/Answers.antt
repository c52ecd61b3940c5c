use Rattle.ompt_events.proofs.StateLemmas.{moves_at_place}
use Rattle.ompt_events.proofs.laws.moves_are_those_of_records.Goals as goal

pub returns : goal.returns
returns c = moves_at_place
