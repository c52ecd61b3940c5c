use Rattle.std.proofs.Common.{◌≡◌, ◌∙◌, List, ap, subst, sym}
use Rattle.std.specs.Prelude.{Result, Ok, Err, IfOk}
use Rattle.ompt_events.specs.declared.records.Record.{Record}
use Rattle.task_tree.specs.Families.{IsOwnOf}
use Rattle.std.proofs.lemmas.Result.{on_ok_weaker}
use Rattle.ompt_events.specs.Traces.{TraceView}
use Rattle.ompt_events.specs.declared.cause.Cause.TheVariants.{RegionOrder}
use Rattle.task_tree.specs.Own.{OwnView, of_regions}
use Rattle.task_tree.proofs.ShownLemmas.{own_free}
use Rattle.task_states.proofs.trace_calls.run.Goals as goal

-- what is so of the order is so of that of the states
own_told : {X E : Type 0} (of : X → OwnView) (r : Result X E) (rs : List Record) (own : OwnView) → IsOwnOf rs
    own
    → IfOk r (λ states. of states ≡ own) → IfOk r (λ states. IsOwnOf rs (of states))
own_told of (Err fault) rs own is told = tt
own_told of (Ok states) rs own is told = subst (IsOwnOf rs) (sym told) is

pub returns-clause-closed : goal.returns-clause-closed
returns-clause-closed c =
    let rs = c.args.trace.now.records in
    let own = c.own-own.result in
    on_ok_weaker c.in_run.result (own_free rs own RegionOrder of_regions
    (rw (ap (λ (t : TraceView). t.records) c.trace.ensures ∙ c.requires.trace) at c.own-own.ensures))
    c.in_run.ensures.closed

pub returns-clause-own : goal.returns-clause-own
returns-clause-own c =
    let rs = c.args.trace.now.records in
    let same = ap (λ (t : TraceView). t.records) c.trace.ensures ∙ c.requires.trace in
    own_told (λ states. states.regions.own) c.in_run.result rs c.own-own.result
    (rw same at c.own-own.ensures) c.in_run.ensures.own
