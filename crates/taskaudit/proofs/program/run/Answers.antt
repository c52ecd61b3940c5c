use Rattle.std.proofs.Common.{rules, Err, refl}
use Rattle.std.specs.Io.KnownBytes.{Keeps}
use Rattle.taskaudit.proofs.VersionLemmas.{version_shown}
use Rattle.taskaudit.proofs.program.run.Goals as goal

pub returns-in-Err-clause-runs : goal.returns-in-Err-clause-runs
returns-in-Err-clause-runs g c =
    let before = g.O.Sink.contents c.args.sink.now in
    let kept : Keeps before before = search rules in
    record {
      ending = Err c.in-Err.refusal;
      served = rw c.in-Err.is (refl, kept);
      ended = c.end-in-Err.ensures;
    }

pub returns-in-Ok-clause-version : goal.returns-in-Ok-clause-version
returns-in-Ok-clause-version g c =
    rw (c.in-Ok.is, ← c.as_slice.ensures.value)
    (
    λ asks.
    version_shown _ _ asks (g.I.Source.remaining c.args.source.now)
    (g.O.Sink.contents c.args.sink.now)
    (g.O.Sink.contents c.serve.new.sink) _ c.serve.ensures.does c.serve.ensures.refused _ c.end.ensures)

pub returns-in-Ok-clause-untouched : goal.returns-in-Ok-clause-untouched
returns-in-Ok-clause-untouched g c =
    rw (c.in-Ok.is, ← c.as_slice.ensures.value) c.serve.ensures.untouched
