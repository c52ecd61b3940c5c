-- What a trace that is not upgraded leaves.
use Rattle.std.proofs.Common.{◌≡◌, ℕ, List, Option, refl}
use Rattle.std.specs.Io.KnownBytes.{Keeps}
use Rattle.ompt_events.specs.Traces.{TraceView}
use Rattle.certificate.specs.Upgrading.{IsRefusal, memory, moved}
use Rattle.certificate.specs.declared.faults.UpgradeFault.{UpgradeFault}
use Rattle.taskaudit.specs.Upgradings.{AreFile, LeavesUpgrade, fault_of_upgrade}

pub upgrade_leaves : (version : ℕ) (bytes old : Option (List ℕ)) (trace : TraceView) (fault : UpgradeFault)
    → AreFile bytes trace → trace.version ≡ 1
    → IsRefusal trace.records fault → Keeps old old
    → LeavesUpgrade version bytes old old (fault_of_upgrade fault)
upgrade_leaves version bytes old trace fault file first memory kept = kept
upgrade_leaves version bytes old trace fault file first (moved place it) kept = (
  record {
    trace = trace;
    file = file;
    version = first;
    at = place;
    moves = it;
    told = refl;
    place = refl;
  },
  kept,
)
