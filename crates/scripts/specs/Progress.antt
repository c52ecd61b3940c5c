-- What a run does, step by step, as the script determines it: the value of each task, the records but for
-- their ledger lengths, and which calls a recorder refuses.
use Rattle.std.specs.Prelude.{ℕ, ◌==◌, ◌++◌, ◌∷◌, Bool, List, [], length, take, fold, filter, slice_get}
use Rattle.std.specs.Prelude.{Option, None, is_some, option_and_then, if◌then◌else◌}
use Rattle.ompt_events.specs.declared.records.Record.{Record}
use Rattle.ompt_events.specs.States.{is_task}
use Rattle.credit_ledger.specs.Seats.{newcomer}
use Rattle.scripts.specs.declared.script.Step.{Step}
use Rattle.scripts.specs.Scripts.{ScriptView}
use Rattle.callbacks.specs.declared.fault.CallFault.{CallFault}
use Rattle.callbacks.specs.Tasks.{TaskView}
use Rattle.callbacks.specs.Recorders.{RecorderView}
use Rattle.packed_trace.specs.Named.{subject, object}
use Rattle.scripts.specs.RunCalls.{first_given, second_given, recorded_body}
use Rattle.scripts.specs.RunCalls.{first_left, second_left, call_refusal}

-- the records of one thread
abbrev pub thread_records : List Record → ℕ → List Record
thread_records rs thread = filter (λ (r : Record). r.thread == thread) rs

-- the value of each task, if it was made and has not ended
abbrev pub Values : Type 0
Values = ℕ → Option TaskView

abbrev pub value : Values → Option ℕ → Option TaskView
value values named = option_and_then values named

-- the values after a step
abbrev pub values_after : Values → Step → Values
values_after values s task =
    if is_task task (subject s.body) then
    first_left s.thread s.body (value values (first_given s.body))
    else if is_task task (object s.body) then
    second_left s.body (value values (first_given s.body)) (value values (second_given s.body))
    else values task

-- what the steps so far leave: the values, and the records in the order of the script, without ledger lengths
pub record Progress : Type 0 where
  pub values : Values
  pub records : List Record

abbrev pub no_progress : Progress
no_progress = record { values = λ task. None; records = [] }

-- the recorder of a thread with these records, which may have so many. Its refusals depend on nothing else,
-- so its ledger is any
abbrev pub recorder_with : ℕ → Bool → ℕ → List Record → RecorderView
recorder_with capacity nests thread own = record {
  thread = thread;
  nests = nests;
  records = own;
  capacity = capacity;
  known = 0;
  ledger = record {
    words = 0;
    slots = 0;
    views_name = 0;
    atom = 0;
    block = 0;
    offset = 0;
    slot_names = [];
  };
  before = [];
  seat = newcomer;
}

-- why the recorder, which may have so many records, refuses a step after the earlier ones, if it does
abbrev pub step_refusal : ℕ → Bool → Progress → Step → Option CallFault
step_refusal capacity nests p s =
    call_refusal (recorder_with capacity nests s.thread (thread_records p.records s.thread)) s.body
    (value p.values (first_given s.body)) (value p.values (second_given s.body))

-- one step more, which its recorder accepts
abbrev pub progress_with : Bool → Progress → Step → Progress
progress_with nests p s = record {
  values = values_after p.values s;
  records = p.records ++ record {
    thread = s.thread;
    nests = nests;
    seq = length (thread_records p.records s.thread);
    seen = 0;
    body = recorded_body s.body (value p.values (first_given s.body)) (value p.values (second_given s.body));
  } ∷ [];
}

-- one step more; a call that is refused changes nothing
abbrev pub progress_after : ℕ → Bool → Progress → Step → Progress
progress_after capacity nests p s =
    if is_some (step_refusal capacity nests p s) then p else progress_with nests p s

abbrev pub progress : ℕ → Bool → List Step → Progress
progress capacity nests steps = fold (progress_after capacity nests) no_progress steps

-- the same of the first n steps of a script
abbrev pub progress_to : ScriptView → ℕ → Progress
progress_to script n = progress script.capacity script.nests (take n script.steps)

-- why the recorder refuses the step at this place of the script, if it does
abbrev pub refused_at : ScriptView → ℕ → Option CallFault
refused_at script at =
    option_and_then (λ s. step_refusal script.capacity script.nests (progress_to script at) s)
    (slice_get script.steps at)

-- the records of a thread without their ledger lengths
abbrev pub without_seen : Record → Record
without_seen r = record r { seen = 0 }

-- the records of a thread that the first n steps make, without their ledger lengths
abbrev pub own_records : ScriptView → ℕ → ℕ → List Record
own_records script n thread = thread_records (progress_to script n).records thread
