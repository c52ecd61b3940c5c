use Rattle.std.proofs.Common.{arith}
use Rattle.std.proofs.lemmas.Result.{err_from_is_err_and}
use Rattle.certificate.proofs.AheadLemmas.{start_waits, waits_memory, waits_parted, with_answer}
use Rattle.certificate.proofs.reading_on.start.Goals as goal

pub returns-in_err-part-clause-after : goal.returns-in_err-part-clause-after
returns-in_err-part-clause-after g c =
    let p = err_from_is_err_and c.from_residual.result c.from_residual.ensures.1 in
    let known = g.S.Source.remaining c.args.source.now in
    let left = g.S.Source.remaining c.fill-ahead.new.source in
    let fill = c.fill-ahead.ensures in
    let old = c.args.ahead.now in
    let first = c.requires.first in
    let filled = with_answer old c.fill-ahead.new.turns c.fill-ahead.result in
    let front = c.fill-ahead.new.block.waiting in
    rw (p.1, p.2) (λ room all.
    rw (c.in_err-part.ensures.fault, c.in_err-part.ensures.lines.line)
    (waits_memory known left room front filled
    (start_waits known left room front filled first.line first.kept first.pieces first.waiting
    (rw c.requires.empty at fill.bytes) (omega (arith, fill.few, fill.limit, all)) fill.end)))

pub returns-clause-after : goal.returns-clause-after
returns-clause-after g c =
    let known = g.S.Source.remaining c.args.source.now in
    let left = g.S.Source.remaining c.fill-ahead.new.source in
    let fill = c.fill-ahead.ensures in
    let old = c.args.ahead.now in
    let first = c.requires.first in
    let filled = with_answer old c.fill-ahead.new.turns c.fill-ahead.result in
    let front = c.fill-ahead.new.block.waiting in
    let part = c.in_ok-part.ensures in
    λ room all.
    c.begin.ensures.after known left room
    (waits_parted known left room front c.part.new.front.waiting filled c.part.new.self first.waiting
    part.parts part.lines part.source.1
    (start_waits known left room front filled first.line first.kept first.pieces first.waiting
    (rw c.requires.empty at fill.bytes) (omega (arith, fill.few, fill.limit, all)) fill.end))
