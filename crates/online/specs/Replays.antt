-- Records that are taken one after another as calls of recorders: what the tasks and the threads are after
-- them.
use Rattle.std.specs.Prelude.{ℕ, ◌≡◌, ◌≢◌, ◌<◌, ◌≤◌, ◌^◌, ◌++◌, ◌∷◌, Bool, true, List, [], Some, None}
use Rattle.std.specs.Prelude.{map, fold}
use Rattle.std.specs.Prelude.{length, set}
use Rattle.std.specs.Prelude.{false, slice_get, is_some, Option, ◌||◌, ◌+◌, if◌then◌else◌}
use Rattle.ompt_events.specs.declared.records.Record.{Record}
use Rattle.ompt_events.specs.declared.records.Body.{Body}
use Rattle.ompt_events.specs.declared.records.Body.TheVariants.{TaskSchedule, Cancel}
use Rattle.ompt_events.specs.States.{is_task}
use Rattle.packed_trace.specs.Named.{subject, object}
use Rattle.callbacks.specs.Standing.{allows}
use Rattle.callbacks.specs.Logs.{IsLeft}
use Rattle.online.specs.Ids.{has}
use Rattle.online.specs.ThreadStates.{IsThreadOf}
use Rattle.online.specs.declared.thread.Thread.{Thread}
use Rattle.online.specs.declared.calls.Place.{Place}
use Rattle.online.specs.declared.tasks.Tasks.{Tasks}
use Rattle.online.specs.Tasks.{value_of}
use Rattle.online.specs.declared.replay.Replay.{Replay}
use Rattle.scripts.specs.declared.script.Step.{Step}
use Rattle.scripts.specs.declared.lives.Life.TheVariants.{Live}
use Rattle.scripts.specs.Scripts.{ScriptView, IsScript, step_of, life}
use Rattle.scripts.specs.Progress.{Values, value, values_after, progress, recorder_with, without_seen}
use Rattle.scripts.specs.Progress.{refused_at, thread_records}
use Rattle.scripts.specs.RunCalls.{first_given, second_given, recorded_body, call_refusal}

-- the call of a record: without the claim and the turns, which the recorder adds
abbrev pub call_of : Body → Body
call_of (TaskSchedule status turns prior next claimed) = TaskSchedule status None prior next None
call_of (Cancel given task claimed) = Cancel given task None
call_of body = body

-- the calls of the records, as a script
abbrev pub and_call : List Step → Record → List Step
and_call steps r = steps ++ step_of steps r.thread None (call_of r.body) ∷ []

abbrev pub calls_of : List Record → List Step
calls_of rs = fold and_call [] rs

-- how many records a thread can number: more than recorders keep
abbrev pub max_replayed : ℕ
max_replayed = 2 ^ 32

abbrev pub script_of : Bool → List Record → ScriptView
script_of nests rs = record { nests = nests; capacity = max_replayed; steps = calls_of rs }

-- recorders with a capacity for all that a thread can number, which are given the calls of these records,
-- make them, but for the ledger lengths, and leave these values of the tasks
pub record IsReplayed (nests : Bool) (rs : List Record) (values : Values) : Type 0 where
  pub rules : IsScript (calls_of rs)
  pub accepted : (at : ℕ) → refused_at (script_of nests rs) at ≡ None
  pub records : (progress max_replayed nests (calls_of rs)).records ≡ map without_seen rs
  pub values_are : (task : ℕ) → values task ≡ (progress max_replayed nests (calls_of rs)).values task

-- a recorder of the thread that has made these records, given the call of a record with this body by these
-- values, makes the record
pub record Makes (nests : Bool) (thread : ℕ) (own : List Record) (values : Values) (body : Body) : Type 0
  where
    pub accepts : call_refusal (recorder_with max_replayed nests thread own) (call_of body)
        (value values (first_given (call_of body))) (value values (second_given (call_of body))) ≡ None
    pub makes : recorded_body (call_of body) (value values (first_given (call_of body)))
        (value values (second_given (call_of body))) ≡ body

-- the step of a call on a thread, of which only these two matter
abbrev pub call_on : ℕ → Body → Step
call_on thread body = record { line = 0; thread = thread; after = None; body = call_of body }

-- the thread at this place has made these records, which let one with this body come next
pub record MayTake (own : List Record) (place : Place) (body : Body) : Type 0 where
  pub left : IsLeft own place.state.now
  pub allowed : allows place.state.now.nests own body ≡ true
  pub few : length own < max_replayed

-- the record with this body is made, and the values of the tasks become those after its call
pub record Takes (nests : Bool) (thread : ℕ) (own : List Record) (body : Body) (old new : Tasks) : Type 0
  where
    pub made : Makes nests thread own (value_of old) body
    pub left : (task : ℕ) → value_of new task ≡ values_after (value_of old) (call_on thread body) task
    -- the tasks that its call is given are live, and it names none twice
    pub first : (task : ℕ) → first_given (call_of body) ≡ Some task → is_some (value_of old task) ≡ true
    pub second : (task : ℕ) → second_given (call_of body) ≡ Some task → is_some (value_of old task) ≡ true
    pub apart : (one other : ℕ) → subject body ≡ Some one → object body ≡ Some other → one ≢ other

-- the records of the thread, without their ledger lengths
abbrev pub own_of : List Record → ℕ → List Record
own_of rs thread = thread_records (map without_seen rs) thread

-- what is kept is what these records leave
pub record IsReplayOf (rs : List Record) (kept : Replay) : Type 0 where
  pub replayed : IsReplayed kept.nests rs (value_of kept.tasks)
  pub threads : (thread : ℕ) (t : Thread) → slice_get kept.threads.items thread ≡ Some t
      → IsThreadOf (own_of rs thread) t
  pub all_nest : (thread : ℕ) (t : Thread) → slice_get kept.threads.items thread ≡ Some t
      → t.state.nests ≡ kept.nests
  pub live : (task : ℕ) → is_some (value_of kept.tasks task) ≡ true → life (calls_of rs) task ≡ Some Live
  pub used : (task : ℕ) → has kept.used task ≡ is_some (life (calls_of rs) task)
  pub count : kept.count ≡ length rs
  pub few : kept.count ≤ 2 ^ 63

-- the id of the task that is made, if one is, is new and is noted, and nothing else
pub record IsNoted (old new : Replay) (made : Option ℕ) : Type 0 where
  pub used : (task : ℕ) → has new.used task
      ≡ (is_task task made || has old.used task)
  pub new_one : (task : ℕ) → made ≡ Some task → has old.used task ≡ false
  pub nests : new.nests ≡ old.nests
  pub threads : new.threads ≡ old.threads
  pub tasks : new.tasks ≡ old.tasks
  pub count : new.count ≡ old.count

-- the record is the next one of the thread, by its number there and by what the thread's records allow
pub record IsNextOf (t : Thread) (r : Record) : Type 0 where
  pub seq : r.seq ≡ t.count
  pub few : t.count < max_replayed
  pub allowed : (own : List Record) → IsLeft own t.state → allows t.state.nests own r.body ≡ true

abbrev pub IsNextThere : Replay → Record → Type 0
IsNextThere kept r = (t : Thread) × (slice_get kept.threads.items r.thread ≡ Some t) × IsNextOf t r

-- the tasks are those after the call of the record, if its thread allows the record
pub record IsCalled (old new : Replay) (r : Record) : Type 0 where
  pub takes : (t : Thread) (own : List Record) → slice_get old.threads.items r.thread ≡ Some t
      → IsLeft own t.state → allows t.state.nests own r.body ≡ true → length own < max_replayed
      → Takes t.state.nests r.thread own r.body old.tasks new.tasks
  pub nests : new.nests ≡ old.nests
  pub threads : new.threads ≡ old.threads
  pub used : new.used ≡ old.used
  pub count : new.count ≡ old.count

-- the record's thread is behind it, and the record counts
pub record IsAdvanced (old new : Replay) (r : Record) : Type 0 where
  pub t : Thread
  pub next : Thread
  pub here : slice_get old.threads.items r.thread ≡ Some t
  pub threads : new.threads.items ≡ set old.threads.items r.thread next
  pub of : (own : List Record) (q : Record) → q.body ≡ r.body → q.nests ≡ t.state.nests → IsThreadOf own t
      → IsThreadOf (own ++ q ∷ []) next
  pub kind : next.state.nests ≡ t.state.nests
  pub nests : new.nests ≡ old.nests
  pub tasks : new.tasks ≡ old.tasks
  pub used : new.used ≡ old.used
  pub count : new.count ≡ old.count + 1
  pub few : old.count < 2 ^ 63
