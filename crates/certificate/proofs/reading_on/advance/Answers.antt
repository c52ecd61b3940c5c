use Rattle.std.proofs.Common.{Ok, Err, sym, refl}
use Rattle.std.proofs.lemmas.Result.{err_from_is_err_and}
use Rattle.certificate.specs.Ahead.{WorkedBeside}
use Rattle.certificate.proofs.AheadLemmas.{added_fault_known, next_waits, next_memory, turned_waits}
use Rattle.certificate.proofs.AheadLemmas.{worked_version, with_pieces}
use Rattle.certificate.proofs.reading_on.advance.Goals as goal

pub returns-in_err-worked-clause-after : goal.returns-in_err-worked-clause-after
returns-in_err-worked-clause-after g c =
    let p = err_from_is_err_and c.from_residual.result c.from_residual.ensures.1 in
    let call = c.side_by_side-judged in
    let left = g.S.Source.remaining c.args.source.now in
    let left' = g.S.Source.remaining call.new.source in
    let worked : WorkedBeside (Err c.in_err-worked.field-0.0) c.args.ahead.now call.new.ahead left left' =
    rw c.in_err-worked.was at call.ensures.worked in
    rw (p.1, p.2) (λ known room all waits.
    added_fault_known known left left' room c.args.front.now.waiting c.args.ahead.now call.new.ahead
    c.in_err-worked.field-0.0 worked waits)

pub returns-in_default-clause-after : goal.returns-in_default-clause-after
returns-in_default-clause-after g c =
    let call = c.side_by_side-judged in
    let left = g.S.Source.remaining c.args.source.now in
    let left' = g.S.Source.remaining call.new.source in
    let front = c.args.front.now.waiting in
    let worked : WorkedBeside (Ok c.in_ok-worked.field-0) c.args.ahead.now call.new.ahead left left' =
    rw c.in_ok-worked.was at call.ensures.worked in
    λ known room all waits.
    next_memory known left' room front call.new.ahead
    (next_waits known left left' room c.args.front.now.limit front c.args.ahead.now call.new.ahead
    c.in_ok-worked.field-0 c.bytes.ensures.few (sym c.requires.ready.limit) all worked waits)

pub returns-clause-after : goal.returns-clause-after
returns-clause-after g c =
    let call = c.side_by_side-judged in
    let left = g.S.Source.remaining c.args.source.now in
    let left' = g.S.Source.remaining call.new.source in
    let front = c.args.front.now.waiting in
    let old = c.args.ahead.now in
    let new = call.new.ahead in
    let last = with_pieces new c.in-Ok.pieces c.swap.new.y in
    let worked : WorkedBeside (Ok c.in_ok-worked.field-0) old new left left' =
    rw c.in_ok-worked.was at call.ensures.worked in
    let judged = rw (c.in-Ok.is, c.bytes.ensures.bytes) at call.ensures.judged in
    λ known room all waits.
    let next =
    next_waits known left left' room c.args.front.now.limit front old new c.in_ok-worked.field-0
    c.bytes.ensures.few (sym c.requires.ready.limit) all worked waits in
    rw c.swap.ensures.x_after
    (turned_waits known left' room front new last next
    (rw (worked_version left left' old new c.in_ok-worked.field-0 worked) judged.judged) refl refl
    (rw c.swap.ensures.y_after c.clear.ensures.waiting) refl)
