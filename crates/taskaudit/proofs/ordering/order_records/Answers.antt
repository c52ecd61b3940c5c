use Rattle.std.proofs.Common.{rules, ◌≡◌, List, ℕ, Ok, OnOk, IfErr, refl, take, subst}
use Rattle.std.specs.Io.KnownBytes.{Appends}
use Rattle.ompt_events.specs.Traces.{TraceView}
use Rattle.certificate.specs.TraceTexts.{trace_text}
use Rattle.checker.specs.Verdicts.{IsVerdict}
use Rattle.checker.specs.declared.verdict.Verdict.{Verdict}
use Rattle.checker.specs.declared.verdict.Verdict.TheVariants.{Yes}
use Rattle.taskaudit.specs.declared.work.Outcome.TheVariants as outcome
use Rattle.taskaudit.specs.Audits.{IsJudged, IsWriteFault, WritesRecords}
use Rattle.taskaudit.specs.Orders.{in_order}
use Rattle.taskaudit.proofs.AuditLemmas.{leaves_of, no_read_cause, read_rightly, reports_of}
use Rattle.taskaudit.proofs.OrderingLemmas.{other_shown}
use Rattle.taskaudit.proofs.ordering.order_records.Goals as goal

pub returns-in_default : goal.returns-in_default
returns-in_default g c =
    let trace = c.in_ok-trace.trace in
    let read : c.read.result ≡ Ok trace = search rules in
    let bytes = g.I.Source.remaining c.args.source.now in
    let left = g.I.Source.remaining c.read.new.source in
    let old = g.O.Sink.contents c.args.sink.now in
    let new = g.O.Sink.contents c.put.new.sink in
    let verdict = c.in_ok-verdict.verdict in
    let text = c.in_ok-verdict.text.items in
    let judged : IsJudged bytes trace verdict =
    record { file = rw read at c.read.ensures.file; right = c.in_ok-verdict.ensures.verdict } in
    let shown : WritesRecords trace verdict text =
    other_shown trace verdict text c.in_default.not-Yes c.in_ok-verdict.ensures.text in
    let P : List ℕ → Type 0 = λ it. OnOk c.put.result (Appends old new it) in
    let Q : List ℕ → Type 0 = λ it. IfErr c.put.result (IsWriteFault (λ n. Appends old new (take n it))) in
    let part = c.put.ensures.part in
    record {
      reports =
          reports_of WritesRecords bytes old new trace verdict text judged shown c.put.result
          c.put.ensures.kind (subst P c.as_slice.ensures.value c.put.ensures.written);
      leaves =
          leaves_of WritesRecords bytes old new trace verdict text judged shown c.put.result
          (subst Q c.as_slice.ensures.value part);
      unreadable = read_rightly _ bytes left c.put.result part;
      devices = record {
        source_breaks = rw (no_read_cause _ c.put.result part) (rw read at c.read.ensures.breaks);
        source_turns = rw (no_read_cause _ c.put.result part) (rw read at c.read.ensures.turns);
        sink_breaks = c.put.ensures.breaks;
        sink_turns = c.put.ensures.turns;
      };
    }

pub returns-in-Ok-clause-reports : goal.returns-in-Ok-clause-reports
returns-in-Ok-clause-reports g c =
    let trace = c.in_ok-trace.trace in
    let read : c.read.result ≡ Ok trace = search rules in
    let order = c.in-Yes.order in
    let Q : Verdict → Type 0 = IsVerdict trace.records in
    let W : TraceView → Type 0 =
    λ it. Appends (g.O.Sink.contents c.args.sink.now) (g.O.Sink.contents c.write.new.sink) (trace_text it) in
    reports_of WritesRecords (g.I.Source.remaining c.args.source.now) (g.O.Sink.contents c.args.sink.now)
    (g.O.Sink.contents c.write.new.sink) trace (Yes order) (trace_text (in_order trace order))
    (
    record {
      file = rw read at c.read.ensures.file;
      right = subst Q c.in-Yes.is c.in_ok-verdict.ensures.verdict;
    }
    )
    refl (Ok outcome.Yes) refl (subst W c.in_ok-ordered.ensures.ordered c.in-Ok.ensures.ok)

pub returns-clause-leaves : goal.returns-clause-leaves
returns-clause-leaves g c =
    let trace = c.in_ok-trace.trace in
    let read : c.read.result ≡ Ok trace = search rules in
    let order = c.in-Yes.order in
    let Q : Verdict → Type 0 = IsVerdict trace.records in
    let part = c.in-Err.ensures.prefix in
    let W : TraceView → Type 0 =
    λ it.
    Appends (g.O.Sink.contents c.args.sink.now) (g.O.Sink.contents c.write.new.sink)
    (take part.0 (trace_text it)) in
    record {
      trace = trace;
      verdict = Yes order;
      judged = record {
        file = rw read at c.read.ensures.file;
        right = subst Q c.in-Yes.is c.in_ok-verdict.ensures.verdict;
      };
      text = trace_text (in_order trace order);
      printed = refl;
      count = part.0;
      written = subst W c.in_ok-ordered.ensures.ordered part.1;
    }
