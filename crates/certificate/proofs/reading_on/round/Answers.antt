use Rattle.std.proofs.lemmas.Result.{err_from_is_err_and}
use Rattle.certificate.proofs.AheadLemmas.{waits_memory, HasMet-same}
use Rattle.certificate.proofs.reading_on.round.Goals as goal

pub returns-in_err-part-clause-after : goal.returns-in_err-part-clause-after
returns-in_err-part-clause-after g c =
    let p = err_from_is_err_and c.from_residual-in_err-part.result c.from_residual-in_err-part.ensures.1 in
    let left = g.S.Source.remaining c.advance.new.source in
    let part = c.in_err-part.ensures in
    rw (p.1, p.2) (λ known room all waits.
    rw (part.fault, part.lines.line)
    (waits_memory known left room c.advance.new.front.waiting c.advance.new.ahead
    (c.in_ok-advance.ensures.after known room all waits)))

pub returns-in_err-part-clause-met : goal.returns-in_err-part-clause-met
returns-in_err-part-clause-met g c =
    let source = c.in_err-part.ensures.source in
    λ t a b met.
    HasMet-same c.advance.new.ahead c.part.new.self t a b (g.S.Source.agains c.advance.new.source)
    (g.S.Source.breaks c.advance.new.source) source.0 source.1 (c.in_ok-advance.ensures.met t a b met)

pub returns-then-asks-clause-met : goal.returns-then-asks-clause-met
returns-then-asks-clause-met g c =
    let source = c.in_ok-part.ensures.source in
    λ t a b met.
    HasMet-same c.advance.new.ahead c.part.new.self t a b (g.S.Source.agains c.advance.new.source)
    (g.S.Source.breaks c.advance.new.source) source.0 source.1 (c.in_ok-advance.ensures.met t a b met)

pub returns-in_err-finish-clause-after : goal.returns-in_err-finish-clause-after
returns-in_err-finish-clause-after g c =
    let p =
    err_from_is_err_and c.from_residual-in_err-finish.result c.from_residual-in_err-finish.ensures.1 in
    let left = g.S.Source.remaining c.advance.new.source in
    rw (p.1, p.2)
    (λ known room all waits.
    c.in_err-finish.ensures.after known left room
    (c.in_ok-advance.ensures.after known room all waits))

pub returns-in_err-finish-clause-met : goal.returns-in_err-finish-clause-met
returns-in_err-finish-clause-met g c =
    let source = c.in_err-finish.ensures.source in
    λ t a b met.
    HasMet-same c.advance.new.ahead c.finish.new.ahead t a b (g.S.Source.agains c.advance.new.source)
    (g.S.Source.breaks c.advance.new.source) source.turns source.filled
    (c.in_ok-advance.ensures.met t a b met)

pub returns-clause-after : goal.returns-clause-after
returns-clause-after g c =
    let left = g.S.Source.remaining c.advance.new.source in
    λ known room all waits.
    c.in_ok-finish.ensures.after known left room (c.in_ok-advance.ensures.after known room all waits)

pub returns-clause-met : goal.returns-clause-met
returns-clause-met g c =
    let source = c.in_ok-finish.ensures.source in
    λ t a b met.
    HasMet-same c.advance.new.ahead c.finish.new.ahead t a b (g.S.Source.agains c.advance.new.source)
    (g.S.Source.breaks c.advance.new.source) source.turns source.filled
    (c.in_ok-advance.ensures.met t a b met)
