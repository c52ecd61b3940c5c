use Rattle.std.proofs.Common.{rules, ◌≡◌, Ok}
use Rattle.std.specs.Io.KnownBytes.{Keeps}
use Rattle.taskaudit.proofs.UpgradingLemmas.{upgrade_leaves}
use Rattle.taskaudit.proofs.upgrading.upgrade.Goals as goal

pub returns-in-Ok-write-clause-upgrades : goal.returns-in-Ok-write-clause-upgrades
returns-in-Ok-write-clause-upgrades g c =
    let trace = c.in_ok-trace.trace in
    let read : c.read.result ≡ Ok trace = search rules in
    record {
      trace = trace;
      upgraded = c.in-Ok.upgraded;
      file = rw read at c.read.ensures.file;
      is_upgraded = c.in-Ok.ensures.upgraded;
      written = c.in-Ok-write.ensures.ok;
    }

pub returns-in-Err-clause-leaves : goal.returns-in-Err-clause-leaves
returns-in-Err-clause-leaves g c =
    let trace = c.in_ok-trace.trace in
    let read : c.read.result ≡ Ok trace = search rules in
    let before = g.O.Sink.contents c.args.sink.now in
    let kept : Keeps before before = search rules in
    rw c.of_upgrade.ensures
    (upgrade_leaves c.args.version (g.I.Source.remaining c.args.source.now) before trace c.in-Err.refusal.1
    (rw read at c.read.ensures.file) c.in-Err.ensures.refused.0 c.in-Err.ensures.refused.1 kept)

pub returns-clause-leaves : goal.returns-clause-leaves
returns-clause-leaves g c =
    let trace = c.in_ok-trace.trace in
    let read : c.read.result ≡ Ok trace = search rules in
    let part = c.in-Err-write.ensures.prefix in
    record {
      trace = trace;
      upgraded = c.in-Ok.upgraded;
      file = rw read at c.read.ensures.file;
      is_upgraded = c.in-Ok.ensures.upgraded;
      count = part.0;
      written = part.1;
    }
