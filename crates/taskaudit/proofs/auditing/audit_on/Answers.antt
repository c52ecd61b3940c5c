use Rattle.std.proofs.Common.{rules, ◌≡◌, List, ℕ, Ok, OnOk, IfErr, refl, take, subst}
use Rattle.std.specs.Io.KnownBytes.{Appends}
use Rattle.taskaudit.specs.Audits.{IsWriteFault, Prints, shown_of}
use Rattle.taskaudit.proofs.AuditLemmas.{reports_of, leaves_on, passed_by, nothing_met, no_read_cause}
use Rattle.taskaudit.proofs.auditing.audit_on.Goals as goal

pub returns-then-crew-eq0-clause-devices : goal.returns-then-crew-eq0-clause-devices
returns-then-crew-eq0-clause-devices g c = record {
  source_met = nothing_met (g.I.Source.agains c.args.source.now) (g.I.Source.breaks c.args.source.now);
  sink_breaks = refl;
  sink_turns = refl;
}

pub returns-clause-reports : goal.returns-clause-reports
returns-clause-reports g c =
    let trace = c.in_ok-recorded.recorded in
    let read : c.read_packed_on.result ≡ Ok trace = search rules in
    let old = g.O.Sink.contents c.args.sink.now in
    let new = g.O.Sink.contents c.put.new.sink in
    let P : List ℕ → Type 0 = λ text. OnOk c.put.result (Appends old new text) in
    reports_of (Prints (shown_of c.args.most)) (g.I.Source.remaining c.args.source.now) old new trace
    c.in_ok-verdict.verdict
    c.in_ok-verdict.text.items
    (record { file = rw read at c.read_packed_on.ensures.file; right = c.in_ok-verdict.ensures.verdict })
    c.in_ok-verdict.ensures.text
    c.put.result c.put.ensures.kind (subst P c.as_slice.ensures.value c.put.ensures.written)

pub returns-clause-leaves : goal.returns-clause-leaves
returns-clause-leaves g c =
    let trace = c.in_ok-recorded.recorded in
    let read : c.read_packed_on.result ≡ Ok trace = search rules in
    let bytes = g.I.Source.remaining c.args.source.now in
    let old = g.O.Sink.contents c.args.sink.now in
    let new = g.O.Sink.contents c.put.new.sink in
    let P : List ℕ → Type 0 =
    λ text. IfErr c.put.result (IsWriteFault (λ n. Appends old new (take n text))) in
    let part : P c.in_ok-verdict.text.items = subst P c.as_slice.ensures.value c.put.ensures.part in
    leaves_on (Prints (shown_of c.args.most)) c.args.crew.workers (g.G.Gate.may_refuse c.args.crew.gate.now)
    (g.G.Gate.passed c.args.crew.gate.now) bytes old new trace c.in_ok-verdict.verdict
    c.in_ok-verdict.text.items
    (record { file = rw read at c.read_packed_on.ensures.file; right = c.in_ok-verdict.ensures.verdict })
    c.in_ok-verdict.ensures.text c.in_ok-verdict.ensures.passed c.put.result part

pub returns-clause-passed : goal.returns-clause-passed
returns-clause-passed g c =
    passed_by (g.G.Gate.passed c.args.crew.gate.now) c.args.crew.workers c.in_ok-verdict.verdict c.put.result
    c.in_ok-verdict.ensures.passed c.put.ensures.kind

pub returns-clause-devices : goal.returns-clause-devices
returns-clause-devices g c =
    let read : c.read_packed_on.result ≡ Ok c.in_ok-recorded.recorded = search rules in
    let met = rw read at c.read_packed_on.ensures.device in
    record {
      source_met = rw (no_read_cause _ c.put.result c.put.ensures.part) met;
      sink_breaks = c.put.ensures.breaks;
      sink_turns = c.put.ensures.turns;
    }
