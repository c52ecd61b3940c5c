-- What holds of the records of closed recorders holds of the trace that is made of them.
use Rattle.std.proofs.Common.{◌≡◌, Bool, List, Result, Ok, Err, sym, ap, subst}
use Rattle.std.specs.Prelude.{IfOk, IfErr, OnOk}
use Rattle.ompt_events.specs.declared.records.Record.{Record}
use Rattle.ompt_events.specs.Traces.{TraceView}
use Rattle.callbacks.specs.declared.fault.CallFault.{CallFault}
use Rattle.callbacks.specs.declared.fault.CallFault.TheVariants.{Memory}
use Rattle.callbacks.specs.Closed.{ClosedView, AreClosed}
use Rattle.callbacks.specs.Gathered.{gathered, BelongTogether, IsGatherFault, version_of}

pub of_trace : {E : Type 0} (r : Result TraceView E) (nests : Bool) (closed : ClosedView)
    → (Q : List Record → Type 0)
    → IfOk r (λ trace. trace ≡ record { version = version_of nests; records = gathered closed.buffers })
    → OnOk r (AreClosed closed) → OnOk r (BelongTogether nests closed)
    → (AreClosed closed → BelongTogether nests closed → Q (gathered closed.buffers))
    → IfOk r (λ trace. Q trace.records)
of_trace (Ok trace) nests closed Q is are together holds =
    subst Q (sym (ap (λ (t : TraceView). t.records) is)) (holds are together)
of_trace (Err refused) nests closed Q is are together holds = tt

pub refused_trace : {T A : Type 0} (r : Result T (A × CallFault)) (nests : Bool) (closed : ClosedView)
    → IfErr r (λ refused. refused.1 ≡ Memory)
    → IsGatherFault nests closed Memory → IfErr r (λ refused. IsGatherFault nests closed refused.1)
refused_trace (Ok trace) nests closed is out = tt
refused_trace (Err refused) nests closed is out = subst (IsGatherFault nests closed) (sym is) out
