use Rattle.std.proofs.Common.{rules, ◌≡◌, Ok}
use Rattle.std.specs.Io.KnownBytes.{Keeps}
use Rattle.taskaudit.proofs.RecordingLemmas.{run_leaves}
use Rattle.taskaudit.proofs.record.record.Goals as goal

pub returns-in-Ok-write-clause-records : goal.returns-in-Ok-write-clause-records
returns-in-Ok-write-clause-records g c =
    let script = c.in_ok-script.script in
    let read : c.read_script.result ≡ Ok script = search rules in
    record {
      script = script;
      trace = c.in-Ok.trace;
      reads = rw read at c.read_script.ensures.file;
      run = c.in-Ok.ensures.trace;
      written = c.in-Ok-write.ensures.ok;
    }

pub returns-in-Err-clause-leaves : goal.returns-in-Err-clause-leaves
returns-in-Err-clause-leaves g c =
    let script = c.in_ok-script.script in
    let read : c.read_script.result ≡ Ok script = search rules in
    let before = g.O.Sink.contents c.args.sink.now in
    let kept : Keeps before before = search rules in
    rw c.of_run.ensures
    (run_leaves (g.I.Source.remaining c.args.source.now) before script c.in-Err.fault
    (rw read at c.read_script.ensures.file) c.in-Err.ensures.fault kept)

pub returns-clause-leaves : goal.returns-clause-leaves
returns-clause-leaves g c =
    let script = c.in_ok-script.script in
    let read : c.read_script.result ≡ Ok script = search rules in
    let part = c.in-Err-write.ensures.prefix in
    record {
      script = script;
      trace = c.in-Ok.trace;
      reads = rw read at c.read_script.ensures.file;
      run = c.in-Ok.ensures.trace;
      count = part.0;
      written = part.1;
    }
