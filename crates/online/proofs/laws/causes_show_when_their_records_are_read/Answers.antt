use Rattle.online.proofs.CauseLaw.{shown_at_once, stays_shown}
use Rattle.online.proofs.laws.causes_show_when_their_records_are_read.Goals as goal

pub returns-clause-shown : goal.returns-clause-shown
returns-clause-shown c = shown_at_once

pub returns-clause-stays : goal.returns-clause-stays
returns-clause-stays c = stays_shown
