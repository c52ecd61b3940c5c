-- When a call fails, and why.
use Rattle.std.specs.Prelude.{ℕ, ◌&&◌, Bool, not, Option, Some, None, if◌then◌else◌}
use Rattle.std.specs.Option.{option_map_or}
use Rattle.ompt_events.specs.Flags as flag
use Rattle.ompt_events.specs.Flags.{cancel_flags, has_flag, are_named}
use Rattle.credit_ledger.specs.declared.fault.LedgerFault.{LedgerFault}
use Rattle.credit_ledger.specs.declared.fault.LedgerFault.TheVariants as ledger
use Rattle.callbacks.specs.declared.fault.CallFault.{CallFault}
use Rattle.callbacks.specs.declared.fault.CallFault.TheVariants.{Memory, Full, WrongState, TooDeep, Overlap}

-- the fault of a call whose entry the ledger refuses
abbrev pub ledger_refusal : LedgerFault → CallFault
ledger_refusal ledger.Memory = Memory
ledger_refusal (ledger.Overlap index) = Overlap
ledger_refusal ledger.Full = Full

-- why a call fails before it needs memory, if it does: it may not come here, the path of its task is too
-- long, or there is no room for a record, a dependence, a child or a turn
abbrev pub refusal : Bool → Bool → Bool → Option CallFault
refusal may deep full =
    if not may then Some WrongState
    else if deep then Some TooDeep
    else if full then Some Full
    else None

-- the fault of a call that fails: if there is no such reason, out of memory
abbrev pub call_fault : Option CallFault → CallFault
call_fault found = option_map_or (λ fault. fault) found Memory

-- the flags are those of a cancellation that discards no task
abbrev pub may_cancel : ℕ → Bool
may_cancel bits = are_named cancel_flags bits && not (has_flag bits flag.discarded_task)
