-- What a run without a trace leaves.
use Rattle.std.proofs.Common.{ℕ, List, Option}
use Rattle.std.specs.Io.KnownBytes.{Keeps}
use Rattle.scripts.specs.Scripts.{ScriptView}
use Rattle.scripts.specs.Runs.{IsRunFault}
use Rattle.scripts.specs.declared.run_fault.RunFault.{RunFault}
use Rattle.scripts.specs.declared.run_fault.RunFault.TheVariants.{Memory, Thread, Call}
use Rattle.taskaudit.specs.Recordings.{ReadsAs, LeavesRecording, fault_of_run}

pub run_leaves : (bytes old : Option (List ℕ)) (script : ScriptView) (fault : RunFault)
    → ReadsAs bytes script → IsRunFault script fault → Keeps old old
    → LeavesRecording bytes old old (fault_of_run fault)
run_leaves bytes old script Memory reads first kept = kept
run_leaves bytes old script Thread reads first kept = kept
run_leaves bytes old script (Call line f) reads first kept =
    (record { script = script; reads = reads; first = first }, kept)
