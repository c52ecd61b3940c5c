use Rattle.std.proofs.Common.{◌∙◌, sym, ap}
use Rattle.std.proofs.lemmas.Option.{same_Some}
use Rattle.credit_ledger.specs.Entries.{entry_fault}
use Rattle.credit_ledger.proofs.TraceLedgerLemmas.{possible_fault}
use Rattle.credit_ledger.proofs.trace_ledger.enter.Goals as goal

pub returns-in-Err-clause-memory : goal.returns-in-Err-clause-memory
returns-in-Err-clause-memory c = λ entry is possible.
    let same = same_Some c.in-Some.entry entry (sym c.in-Some.is ∙ c.in-Ok.ensures ∙ is) in
    possible_fault c.args.ledger.now entry c.in-Err.fault possible
    (c.in-Err.ensures.fault ∙ ap (entry_fault c.args.ledger.now) same)
