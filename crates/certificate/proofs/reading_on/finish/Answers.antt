use Rattle.std.proofs.Common.{sym, ◌∙◌}
use Rattle.certificate.proofs.AheadLemmas.{added_last, front_few}
use Rattle.certificate.proofs.reading_on.finish.Goals as goal

pub returns-clause-after : goal.returns-clause-after
returns-clause-after g c =
    λ known left room waits.
    let front = c.args.front.now.waiting in
    let old = c.args.ahead.now in
    let new = c.add_pieces.new.self in
    let call = c.in_ok-add_pieces.ensures in
    c.end.ensures.after known new.kept front room left
    (added_last known left room front old new c.in_ok-add_pieces.field-0 c.requires.empty call.added
    waits)
    (sym c.len.ensures.count) c.requires.none (front_few known left room front old waits)
    (λ end. waits.end (sym call.source.filled ∙ end))
