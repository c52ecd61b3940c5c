use Rattle.std.proofs.lemmas.Result.{err_from_is_err_and}
use Rattle.certificate.proofs.TakingLemmas.{begun, told-no_begin, told-no_header}
use Rattle.certificate.proofs.taking.begin.Goals as goal

pub returns-in_err-version-clause-after : goal.returns-in_err-version-clause-after
returns-in_err-version-clause-after g c =
    let p = err_from_is_err_and c.from_residual.result c.from_residual.ensures.1 in
    rw (p.1, p.2) (
    λ known now.
    told-no_header known c.args.reader.now.window c.header.new.self.window
    (g.S.Source.remaining c.args.source.now) (g.S.Source.remaining c.header.new.source) _
    c.in_err-version.ensures.bytes c.in_err-version.ensures.fault now)

pub returns-in-Ok-clause-after : goal.returns-in-Ok-clause-after
returns-in-Ok-clause-after g c =
    rw c.skip.ensures.window (
    λ known now.
    begun known (c.in_ok-version.version, c.in_ok-version.len) c.args.reader.now.window
    c.header.new.self.window (g.S.Source.remaining c.args.source.now)
    (g.S.Source.remaining c.header.new.source) _ c.in_ok-version.ensures.bytes
    c.in_ok-version.ensures.found c.in-Ok.ensures now)

pub returns-in-Err-clause-after : goal.returns-in-Err-clause-after
returns-in-Err-clause-after g c =
    λ known now.
    told-no_begin known (c.in_ok-version.version, c.in_ok-version.len) c.args.reader.now.window
    c.header.new.self.window (g.S.Source.remaining c.args.source.now)
    (g.S.Source.remaining c.header.new.source) c.in_ok-version.ensures.bytes
    c.in_ok-version.ensures.found now
