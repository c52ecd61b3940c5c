-- Who has which share of a root's credit in a run (F. Mattern, Information Processing Letters 30, 1989).
use Rattle.std.specs.Prelude.{ℕ, ◌&&◌, Bool, false, not, List, [], ◌∷◌, ◌++◌, Option, None, Some, zero, suc}
use Rattle.std.specs.Prelude.{is_some, option_map, option_and_then, if◌then◌else◌, slice_get}
use Rattle.std.specs.List.{flat_map}
use Rattle.std.specs.Option.{option_map_or}
use Rattle.ompt_events.specs.declared.records.Record.{Record}
use Rattle.ompt_events.specs.declared.records.Part.{Part}
use Rattle.ompt_events.specs.declared.records.Part.TheVariants as part
use Rattle.ompt_events.specs.Records.{begun_root, ended_root, creation}
use Rattle.ompt_events.specs.States.{is_task}
use Rattle.credit_ledger.specs.Credits.{Credit, Event, Root, Create, Finish, Detach, Fulfil}
use Rattle.credit_ledger.specs.declared.entry.Entry.{Entry}
use Rattle.credit_ledger.specs.TraceEntries.{entry_of}
use Rattle.scripts.specs.declared.script.Step.{Step}
use Rattle.scripts.specs.Scripts.{ScriptView}
use Rattle.callbacks.specs.Tasks.{TaskView, credit_of, entered_credit_of}
use Rattle.scripts.specs.Progress.{Values, progress_to, step_refusal}

-- ---- the events of the machine of credits

-- an entry finishes a task, detaches it, or fulfils its event
abbrev pub entry_event : Part → ℕ → Event
entry_event part.Whole task = Finish task
entry_event part.Body task = Detach task
entry_event part.Event task = Fulfil task

-- what the record says of credit
abbrev pub credit_events : Record → List Event
credit_events r =
    option_map_or (λ task. Root task ∷ []) (begun_root r.body) []
    ++ option_map_or (λ (p : ℕ × ℕ). Create p.0 p.1 ∷ []) (creation r.body) []
    ++ option_map_or (λ (e : Entry). entry_event e.part e.task ∷ []) (entry_of r) []

abbrev pub events_of : List Record → List Event
events_of rs = flat_map credit_events rs

-- ---- who has a share

-- a task, while it lives and, if it is a root, after it has ended; or the record that entered the share
pub data Holder : Type 0 where
  of_task : (task : ℕ) → Holder
  of_record : (at : ℕ) → Holder

-- the step ends this root, and is not refused
abbrev pub ends_root : ScriptView → ℕ → ℕ → Bool
ends_root script at root = option_map_or (λ (s : Step).
    is_task root (ended_root s.body)
    && not (is_some (step_refusal script.capacity script.nests (progress_to script at) s)))
    (slice_get script.steps at) false

-- the value that an ended root had at its end
abbrev pub values_at_end : ScriptView → ℕ → Values
values_at_end script zero root = None
values_at_end script (suc n) root =
    if ends_root script n root then (progress_to script n).values root else values_at_end script n root

abbrev pub value_or : Option TaskView → Option TaskView → Option TaskView
value_or (Some t) other = Some t
value_or None other = other

-- the value of a task, or the one that it had at its end
abbrev pub last_values : ScriptView → ℕ → Values
last_values script n task = value_or ((progress_to script n).values task) (values_at_end script n task)

-- the credit of a holder
abbrev pub held_credit : Values → List Record → Holder → Option Credit
held_credit values rs (of_task task) = option_map credit_of (values task)
held_credit values rs (of_record at) =
    option_map entered_credit_of (option_and_then entry_of (slice_get rs at))

-- the same after the first n steps of a script
abbrev pub credit_held : ScriptView → ℕ → Holder → Option Credit
credit_held script n = held_credit (last_values script n) (progress_to script n).records
