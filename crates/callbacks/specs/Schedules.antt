-- How tasks start, stop, are fulfilled and discarded, by calls of a recorder.
use Rattle.std.specs.Prelude.{ℕ, ◌&&◌, ◌||◌, ◌⊎◌, ⊤, Bool, true, false, Option, Some, None, is_some, is_none}
use Rattle.std.specs.Prelude.{option_map, if◌then◌else◌}
use Rattle.std.proofs.Common.{inl, inr}
use Rattle.std.specs.Borrow.{MutBor}
use Rattle.std.specs.Option.{option_map_or}
use Rattle.std.specs.Int.RustNames.{bit_or}
use Rattle.ompt_events.specs.declared.records.Body.{Body}
use Rattle.ompt_events.specs.declared.records.Body.TheVariants.{TaskSchedule, Cancel}
use Rattle.ompt_events.specs.declared.records.Claim.{Claim}
use Rattle.ompt_events.specs.declared.records.Part.{Part}
use Rattle.ompt_events.specs.declared.records.Turns.{Turns}
use Rattle.ompt_events.specs.declared.flags.CancelFlags.{CancelFlags}
use Rattle.ompt_events.specs.declared.names.Status.{Status}
use Rattle.ompt_events.specs.declared.names.Status.TheVariants.{Yield, Switch, EarlyFulfill, Detach}
use Rattle.ompt_events.specs.declared.names.Status.TheVariants.{TaskwaitComplete}
use Rattle.ompt_events.specs.Flags as flag
use Rattle.ompt_events.specs.Flags.{cancel_flags, are_named}
use Rattle.ompt_events.specs.Names.{demands_next, status_part}
use Rattle.ompt_events.specs.States as states
use Rattle.ompt_events.specs.States.{is_task}
use Rattle.credit_ledger.specs.declared.entry.Entry.{Entry}
use Rattle.callbacks.specs.declared.fault.CallFault.{CallFault}
use Rattle.callbacks.specs.declared.fault.CallFault.TheVariants.{WrongState}
use Rattle.callbacks.specs.Standing.{standing_of, innermost}
use Rattle.callbacks.specs.Tasks.{TaskView, parent_of, place_of, is_root_on, state_moved, current_turn}
use Rattle.callbacks.specs.Tasks.{turn_begun_next}
use Rattle.callbacks.specs.Tasks.{after_stop, entry_of_part}
use Rattle.callbacks.specs.Recorders.{RecorderView, IsObserved, IsConcluded, refusal_at}

-- a task that stops or is fulfilled with a status, and the task that runs next, if there is one
pub record ScheduleView : Type 0 where
  pub prior : TaskView
  pub status : Status
  pub next : Option TaskView

-- the turn of the prior task, which ends, and that of the next one, which begins
abbrev pub turns_of : TaskView → TaskView → Turns
turns_of prior next = record {
  prior = current_turn prior;
  next = option_map_or (λ turn. turn) (turn_begun_next next) 0;
}

-- its record, with the claim of a task that it finishes
abbrev pub schedule_body : ScheduleView → Option Claim → Body
schedule_body s claimed =
    TaskSchedule s.status (option_map (turns_of s.prior) s.next) s.prior.id
    (option_map (λ (n : TaskView). n.id) s.next)
    claimed

-- ---- when it may come

-- a root runs next only as the innermost open one of the thread on which it began (cause NotCurrent); any
-- task as its state allows it (StatusOrder)
abbrev pub may_start : RecorderView → TaskView → Bool
may_start r next =
    is_some (state_moved next states.Started)
    && (is_none (place_of next.origin)
    || (is_root_on r.thread next && is_task next.id (innermost (standing_of r.records))))

-- a taskwait with dependences is complete while its parent runs (NotCurrent)
abbrev pub is_by_parent : RecorderView → TaskView → Status → Bool
is_by_parent r prior TaskwaitComplete =
    option_map_or (λ parent. is_task parent (standing_of r.records).walk.current) (parent_of prior.origin)
    false
is_by_parent r prior _ = true

-- there is a next task if and only if the status demands one
abbrev pub has_its_next : ScheduleView → Bool
has_its_next s = if demands_next s.status then is_some s.next else is_none s.next

-- the tasks allow the schedule
abbrev pub may_schedule : RecorderView → ScheduleView → Bool
may_schedule r s =
    is_some (state_moved s.prior (states.Stopped s.status))
    && has_its_next s && is_by_parent r s.prior s.status && option_map_or (may_start r) s.next true

-- there is a next task that has no further turn
abbrev pub is_last_turn : ScheduleView → Bool
is_last_turn s = option_map_or (λ n. is_none (turn_begun_next n)) s.next false

-- why it fails before it needs memory
abbrev pub schedule_refusal : RecorderView → ScheduleView → Option CallFault
schedule_refusal r s = refusal_at r (may_schedule r s) false (is_last_turn s) (schedule_body s None)

-- ---- what it does

-- the record names the ledger's length, or the index of the entry that it makes
abbrev pub IsStoppedBy : Option Part → RecorderView → ScheduleView → RecorderView → Type 0
IsStoppedBy None old s new = (seen : ℕ) × IsObserved old seen (schedule_body s None) new
IsStoppedBy (Some part) old s new =
    (index : ℕ) × IsConcluded old (entry_of_part old.thread part s.prior) index
    (schedule_body s (Some s.prior.claim)) new

abbrev pub IsStopped : RecorderView → ScheduleView → RecorderView → Type 0
IsStopped old s new = IsStoppedBy (status_part s.status) old s new

-- the entry that it would make
abbrev pub stopped_entry : RecorderView → ScheduleView → Option Entry
stopped_entry r s = option_map (λ part. entry_of_part r.thread part s.prior) (status_part s.status)

-- the task's value is used again: the task is suspended, waits for its event, or goes on
abbrev pub comes_back : Status → Bool
comes_back Yield = true
comes_back Switch = true
comes_back EarlyFulfill = true
comes_back Detach = true
comes_back _ = false

-- what is left of the prior task
abbrev pub left_of : TaskView → Status → Option TaskView
left_of prior status = if comes_back status then Some (after_stop prior status) else None

-- the schedule of these tasks
abbrev pub schedule_of : TaskView → Status → Option TaskView → ScheduleView
schedule_of prior status next = record { prior = prior; status = status; next = next }

abbrev pub is_pause : Status → Bool
is_pause Yield = true
is_pause Switch = true
is_pause _ = false

-- why a call that only suspends a task fails before it needs memory
abbrev pub switch_refusal : RecorderView → ScheduleView → Option CallFault
switch_refusal r s = if is_pause s.status then schedule_refusal r s else Some WrongState

-- if the call is given a reference to the next task, the condition holds for the value that it leaves there
abbrev pub LeavesNext : Unit {0} ⊎ ((MutBor TaskView × Unit {0}) ⊎ ⊥) → (TaskView → Type 0) → Type 0
LeavesNext (inl absent) P = ⊤
LeavesNext (inr (inl given)) P = P given.0.now
LeavesNext (inr (inr never)) P = ⊤

-- ---- discards

-- the flags of a discard
abbrev pub with_discarded : CancelFlags → CancelFlags
with_discarded given = record { 0 = bit_or given.0 flag.discarded_task }

abbrev pub discard_body : TaskView → CancelFlags → Option Claim → Body
discard_body t given claimed = Cancel (with_discarded given) t.id claimed

-- the task has not begun, and each flag has a name
abbrev pub may_discard : TaskView → CancelFlags → Bool
may_discard t given =
    is_some (state_moved t states.Discarded) && are_named cancel_flags (with_discarded given).0

abbrev pub discard_refusal : RecorderView → TaskView → CancelFlags → Option CallFault
discard_refusal r t given = refusal_at r (may_discard t given) false false (discard_body t given None)
