use Rattle.std.proofs.Common.{refl}
use Rattle.taskaudit.proofs.AuditLemmas.{no_turns}
use Rattle.taskaudit.proofs.watching.watch.Goals as goal

pub returns-in_default-clause-devices : goal.returns-in_default-clause-devices
returns-in_default-clause-devices g c = record {
  source_breaks = refl;
  source_turns = (0, no_turns _);
  sink_breaks = refl;
  sink_turns = refl;
}
