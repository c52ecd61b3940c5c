use Rattle.credit_ledger.proofs.RightEntryLemmas.{right_entries, shown_entries, own_shown_entries}
use Rattle.credit_ledger.proofs.trace_laws.entries_are_right.Goals as goal

pub returns-clause-listed : goal.returns-clause-listed
returns-clause-listed c = right_entries

pub returns-clause-shown : goal.returns-clause-shown
returns-clause-shown c = shown_entries

pub returns-clause-run : goal.returns-clause-run
returns-clause-run c = own_shown_entries
