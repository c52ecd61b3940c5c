-- What is noted of each task while a trace is upgraded.
use Rattle.std.specs.Prelude.{ℕ, ◌≡◌, ◌≢◌, ◌<◌, ◌≤◌, ◌+◌, ◌-◌, ◌==◌, ◌⊎◌, false, List, length, take, filter}
use Rattle.std.specs.Prelude.{slice_get, Option, Some, None, if◌then◌else◌}
use Rattle.std.specs.Option.{unwrap_or, option_map_or}
use Rattle.std.specs.Ordering.{nat_cmp}
use Rattle.std.specs.BTreeMap.{BTreeMap, get}
use Rattle.ompt_events.specs.declared.records.Record.{Record}
use Rattle.ompt_events.specs.declared.records.Body.{Body}
use Rattle.ompt_events.specs.declared.records.Body.TheVariants.{TaskSchedule}
use Rattle.ompt_events.specs.declared.records.Turns.{Turns}
use Rattle.ompt_events.specs.Records.{begun_root, started}
use Rattle.ompt_events.specs.Places.{at, thread_at}
use Rattle.ompt_events.specs.States.{is_task, is_made_so}
use Rattle.ompt_events.specs.Turns.{turn_in}
use Rattle.ompt_events.specs.Traces.{IsInRange}
use Rattle.ompt_events.specs.Upgrades.{turn_counted, telling, body_upgraded}
use Rattle.certificate.specs.declared.task_turns.TaskTurns.{TaskTurns}

-- the turn that the task begins where it runs next for the first time: 1 where one of the records begins it
-- as an initial or implicit task, since its turn 0 begins there
abbrev pub first_turn : List Record → ℕ → ℕ
first_turn rs task = if is_made_so (λ b. is_task task (begun_root b)) rs then 1 else 0

-- nothing is noted: no record begins the task or runs it
abbrev pub no_turns : TaskTurns
no_turns = record { home = None; next = 0 }

-- what is noted of the task
abbrev pub noted : BTreeMap ℕ TaskTurns → ℕ → TaskTurns
noted table task = unwrap_or (get nat_cmp table task) no_turns

-- with what the record says at which an initial or implicit task begins
abbrev pub with_begin : ℕ → Record → TaskTurns → TaskTurns
with_begin task r t = if is_task task (begun_root r.body) then record { home = t.home; next = 1 } else t

-- with what the record says after which a task runs: on which thread
abbrev pub with_start : ℕ → Record → TaskTurns → TaskTurns
with_start task r t =
    if is_task task (started r.body) then record { home = Some r.thread; next = t.next } else t

-- the task that runs next is noted to run on another thread
pub record IsElsewhere (table : BTreeMap ℕ TaskTurns) (r : Record) : Type 0 where
  pub task : ℕ
  pub home : ℕ
  pub runs : started r.body ≡ Some task
  pub lives : (noted table task).home ≡ Some home
  pub apart : home ≢ r.thread

-- the task that runs next is noted to run on this thread, or on none
abbrev pub IsAtHome : BTreeMap ℕ TaskTurns → Record → Type 0
IsAtHome table r = (task : ℕ) → started r.body ≡ Some task
    → ((noted table task).home ≡ None) ⊎ ((noted table task).home ≡ Some r.thread)

-- of the first n records: the thread of each task that ran, and its first turn
pub record AreHomesNoted (rs : List Record) (n : ℕ) (table : BTreeMap ℕ TaskTurns) : Type 0 where
  pub at_home : (task k : ℕ) → k < n → at started rs k ≡ Some task → thread_at rs k ≡ (noted table task).home
  pub ran : (task home : ℕ) → (noted table task).home ≡ Some home
      → (k : ℕ) × (k < n) × (at started rs k ≡ Some task) × (thread_at rs k ≡ Some home)
  pub first : (task : ℕ) → (noted table task).next ≡ first_turn (take n rs) task

-- of all records: the thread of each task that ran; and the turn that it begins where it runs next at the
-- record at n
pub record AreTurnsNoted (rs : List Record) (n : ℕ) (table : BTreeMap ℕ TaskTurns) : Type 0 where
  pub at_home : (task k : ℕ) → at started rs k ≡ Some task → thread_at rs k ≡ (noted table task).home
  pub next : (task : ℕ) → (noted table task).next ≡ turn_counted rs n task

-- the turn that a task ends which stops running on the thread
abbrev pub turn_ended : TaskTurns → ℕ → ℕ
turn_ended t thread = if option_map_or (λ home. home == thread) t.home false then t.next - 1 else 0

-- what is noted once the task has begun its next turn
abbrev pub one_later : TaskTurns → TaskTurns
one_later t = record { home = t.home; next = t.next + 1 }

-- with what the record says after which a task runs: its next turn has begun
abbrev pub with_turn : ℕ → Record → TaskTurns → TaskTurns
with_turn task r t = if is_task task (started r.body) then one_later t else t

-- the turns that are noted of the tasks of a record, if one runs next
abbrev pub turns_told : BTreeMap ℕ TaskTurns → ℕ → Body → Option Turns
turns_told table thread (TaskSchedule status before prior (Some next) claim) =
    Some (record { prior = turn_ended (noted table prior) thread; next = (noted table next).next })
turns_told table thread body = None

-- the record with the turns that are noted of its tasks
abbrev pub told_by : BTreeMap ℕ TaskTurns → Record → Record
told_by table r =
    option_map_or
    (λ turns. record {
      thread = r.thread;
      nests = r.nests;
      seq = r.seq;
      seen = r.seen;
      body = telling turns r.body;
    })
    (turns_told table r.thread r.body) r

-- the first n records are upgraded, and the others are as they were
pub record IsUpgradedUpTo (old : List Record) (n : ℕ) (now : List Record) : Type 0 where
  pub all : length now ≡ length old
  pub each : (i : ℕ) (r : Record) → i < n → slice_get old i ≡ Some r → slice_get now i ≡ Some (record {
    thread = r.thread;
    nests = r.nests;
    seq = r.seq;
    seen = r.seen;
    body = body_upgraded old now i r.body;
  })
  pub rest : (i : ℕ) → n ≤ i → slice_get now i ≡ slice_get old i
  pub in_range : (i : ℕ) (s : Record) → slice_get now i ≡ Some s → IsInRange s

-- the turn that each task ends which stops running on a thread, by the first n records
abbrev pub AreEnded : List Record → ℕ → BTreeMap ℕ TaskTurns → Type 0
AreEnded now n table = (task thread : ℕ)
    → turn_in task (filter (λ (q : Record). q.thread == thread) (take n now))
    ≡ turn_ended (noted table task) thread
