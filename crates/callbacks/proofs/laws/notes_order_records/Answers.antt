use Rattle.callbacks.proofs.NoteLaw.{ordered, kept_by_call, kept_by_meet}
use Rattle.callbacks.proofs.laws.notes_order_records.Goals as goal

pub returns-clause-ordered : goal.returns-clause-ordered
returns-clause-ordered c = ordered

pub returns-clause-call : goal.returns-clause-call
returns-clause-call c = kept_by_call

pub returns-clause-meeting : goal.returns-clause-meeting
returns-clause-meeting c = kept_by_meet
