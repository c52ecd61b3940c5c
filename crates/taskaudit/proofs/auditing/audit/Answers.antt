use Rattle.std.proofs.Common.{rules, ◌≡◌, List, ℕ, Ok, OnOk, IfErr, take, subst}
use Rattle.std.specs.Io.KnownBytes.{Appends}
use Rattle.taskaudit.specs.Audits.{IsWriteFault, Prints}
use Rattle.taskaudit.proofs.AuditLemmas.{reports_of, leaves_of}
use Rattle.taskaudit.proofs.auditing.audit.Goals as goal

pub returns-clause-reports : goal.returns-clause-reports
returns-clause-reports g c =
    let trace = c.in_ok-trace.trace in
    let read : c.read_packed.result ≡ Ok trace = search rules in
    let old = g.O.Sink.contents c.args.sink.now in
    let new = g.O.Sink.contents c.put.new.sink in
    let P : List ℕ → Type 0 = λ text. OnOk c.put.result (Appends old new text) in
    reports_of (Prints c.args.shown) (g.I.Source.remaining c.args.source.now) old new trace
    c.in_ok-verdict.verdict c.in_ok-verdict.text.items
    (record { file = rw read at c.read_packed.ensures.file; right = c.in_ok-verdict.ensures.verdict })
    c.in_ok-verdict.ensures.text
    c.put.result c.put.ensures.kind (subst P c.as_slice.ensures.value c.put.ensures.written)

pub returns-clause-leaves : goal.returns-clause-leaves
returns-clause-leaves g c =
    let trace = c.in_ok-trace.trace in
    let read : c.read_packed.result ≡ Ok trace = search rules in
    let old = g.O.Sink.contents c.args.sink.now in
    let new = g.O.Sink.contents c.put.new.sink in
    let P : List ℕ → Type 0 =
    λ text. IfErr c.put.result (IsWriteFault (λ n. Appends old new (take n text))) in
    leaves_of (Prints c.args.shown) (g.I.Source.remaining c.args.source.now) old new trace
    c.in_ok-verdict.verdict c.in_ok-verdict.text.items
    (record { file = rw read at c.read_packed.ensures.file; right = c.in_ok-verdict.ensures.verdict })
    c.in_ok-verdict.ensures.text
    c.put.result (subst P c.as_slice.ensures.value c.put.ensures.part)
