use Rattle.std.proofs.Common.{◌≡◌, ◌∙◌, Some, sym, ap, arith}
use Rattle.ompt_events.specs.Places.{thread_at}
use Rattle.checker.proofs.BackLemmas.{known_max}
use Rattle.checker.proofs.lengths.falls_on_thread.Goals as goal

pub returns-clause-known : goal.returns-clause-known
returns-clause-known c =
    let rs = c.args.run.now.records in
    let own : thread_at rs c.args.at ≡ Some c.from-thread.result =
    c.thread.ensures ∙ ap Some (sym c.from-thread.ensures) in
    rw c.max.ensures
    (known_max rs c.args.at c.from-thread.result c.known_after.result c.args.known.now own
    (let low = c.from-thread.ensures in omega (arith, low)) c.known_after.ensures c.requires.known)
