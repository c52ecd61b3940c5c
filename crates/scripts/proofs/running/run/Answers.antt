use Rattle.std.proofs.Common.{◌≡◌, ◌∙◌, ◌⊎◌, Option, ap, sym, subst, ℕ, List}
use Rattle.ompt_events.specs.declared.records.Record.{Record}
use Rattle.ompt_events.specs.Traces.{TraceView}
use Rattle.scripts.specs.Scripts.{ScriptView}
use Rattle.callbacks.specs.Gathered.{gathered, version_of, BelongTogether}
use Rattle.scripts.specs.Runs.{IsRunFault}
use Rattle.scripts.specs.Parts.{HaveAllEnded, IsEarly}
use Rattle.scripts.specs.declared.run_fault.Stop.{Stop}
use Rattle.scripts.proofs.EndLemmas.{AreClosedBy, stop_fault, together, within, run_of, not_stopped}
use Rattle.scripts.proofs.EndLemmas.{none_there}
use Rattle.scripts.proofs.running.run.Goals as goal

abbrev of_version : ℕ → List Record → TraceView
of_version version records = record { version = version; records = records }

pub returns-in-Some-clause-fault : goal.returns-in-Some-clause-fault
returns-in-Some-clause-fault g c =
    let script = c.args.script in
    let had = c.in-Ok-close_all.ensures in
    let recorders = c.in_ok-script.outcomes.recorders.items in
    let by : AreClosedBy recorders c.in-Ok-close_all.closed had.closed.0 = record {
      are = had.are_closed;
      same = had.buffers;
      legal = had.closed.1;
      entries = had.closed.2;
      claims = had.closed.3;
      calls = had.closed.5;
      backed = had.backed;
      counted = had.made;
    } in
    let ended : (o : Option Stop) → Type 0 = λ o.
    IsEarly o ⊎ HaveAllEnded script recorders o in
    subst (IsRunFault script) (sym c.fault.ensures)
    (stop_fault script recorders c.in-Ok-close_all.closed had.closed.0
    c.in-Some.stop c.in_ok-script.ensures.rules c.in_ok-script.ensures.short
    (subst ended c.in-Some.is c.in_ok-script.ensures.run) by)

pub trace_of-requires-clause-together : goal.trace_of-requires-clause-together
trace_of-requires-clause-together g c =
    let script = c.args.script in
    let had = c.in-Ok-close_all.ensures in
    let recorders = c.in_ok-script.outcomes.recorders.items in
    let by : AreClosedBy recorders c.in-Ok-close_all.closed had.closed.0 = record {
      are = had.are_closed;
      same = had.buffers;
      legal = had.closed.1;
      entries = had.closed.2;
      claims = had.closed.3;
      calls = had.closed.5;
      backed = had.backed;
      counted = had.made;
    } in
    let kind : c.nests.result ≡ script.nests =
    c.nests.ensures ∙ ap (λ (s : ScriptView). s.nests) c.in_ok-script.ensures.script in
    subst (λ b. BelongTogether b c.in-Ok-close_all.closed) (sym kind)
    (together script recorders c.in-Ok-close_all.closed had.closed.0
    (not_stopped script recorders c.in_ok-script.outcomes.stop
    (none_there c.in_ok-script.outcomes.stop c.in_default-stop.not-Some) c.in_ok-script.ensures.run) by)

pub trace_of-requires-clause-within : goal.trace_of-requires-clause-within
trace_of-requires-clause-within g c =
    let script = c.args.script in
    let had = c.in-Ok-close_all.ensures in
    let recorders = c.in_ok-script.outcomes.recorders.items in
    let by : AreClosedBy recorders c.in-Ok-close_all.closed had.closed.0 = record {
      are = had.are_closed;
      same = had.buffers;
      legal = had.closed.1;
      entries = had.closed.2;
      claims = had.closed.3;
      calls = had.closed.5;
      backed = had.backed;
      counted = had.made;
    } in
    within script recorders c.in-Ok-close_all.closed had.closed.0 c.in_ok-script.ensures.short
    (not_stopped script recorders c.in_ok-script.outcomes.stop
    (none_there c.in_ok-script.outcomes.stop c.in_default-stop.not-Some) c.in_ok-script.ensures.run) by

pub returns-in-Ok-trace_of-clause-trace : goal.returns-in-Ok-trace_of-clause-trace
returns-in-Ok-trace_of-clause-trace g c =
    let script = c.args.script in
    let had = c.in-Ok-close_all.ensures in
    let recorders = c.in_ok-script.outcomes.recorders.items in
    let by : AreClosedBy recorders c.in-Ok-close_all.closed had.closed.0 = record {
      are = had.are_closed;
      same = had.buffers;
      legal = had.closed.1;
      entries = had.closed.2;
      claims = had.closed.3;
      calls = had.closed.5;
      backed = had.backed;
      counted = had.made;
    } in
    let kind : c.nests.result ≡ script.nests =
    c.nests.ensures ∙ ap (λ (s : ScriptView). s.nests) c.in_ok-script.ensures.script in
    run_of script c.in-Ok-trace_of.trace recorders c.in-Ok-close_all.closed had.closed.0
    c.in_ok-script.ensures.rules
    (not_stopped script recorders c.in_ok-script.outcomes.stop
    (none_there c.in_ok-script.outcomes.stop c.in_default-stop.not-Some) c.in_ok-script.ensures.run) by
    (c.in-Ok-trace_of.ensures.trace
    ∙ ap (λ n. of_version (version_of n) (gathered c.in-Ok-close_all.closed.buffers)) kind)
