-- What a trace of version 1 is in version 2, where turns are recorded, and one of version 2 in version 3.
-- Turns are counted along the file, so each task of version 1 must run on one thread alone: where an untied
-- task resumes on another one (OpenMP 5.2, 12.1), the order of the file does not show its turns.
use Rattle.std.specs.Prelude.{ℕ, ◌≡◌, ◌≢◌, ◌<◌, ◌+◌, true, List, length, Some, take, map, count_by}
use Rattle.std.specs.Prelude.{slice_get}
use Rattle.std.specs.Prelude.{if◌then◌else◌}
use Rattle.std.specs.Option.{option_map_or}
use Rattle.ompt_events.specs.declared.records.Record.{Record}
use Rattle.ompt_events.specs.declared.records.Body.{Body}
use Rattle.ompt_events.specs.declared.records.Body.TheVariants.{TaskSchedule}
use Rattle.ompt_events.specs.declared.records.Turns.{Turns}
use Rattle.ompt_events.specs.Records.{started, begun_root}
use Rattle.ompt_events.specs.Places.{at, thread_at}
use Rattle.ompt_events.specs.Turns.{turn_at}
use Rattle.ompt_events.specs.States.{is_task, is_made_so}

-- the task that runs next there ran next earlier in file order on another thread
pub record Moves (rs : List Record) (i : ℕ) : Type 0 where
  pub task : ℕ
  pub next : at started rs i ≡ Some task
  pub earlier : ℕ
  pub before : earlier < i
  pub next_before : at started rs earlier ≡ Some task
  pub elsewhere : thread_at rs earlier ≢ thread_at rs i

-- the first record in file order at which a task has moved
pub record MovesFirst (rs : List Record) (i : ℕ) : Type 0 where
  pub moves : Moves rs i
  pub first : (k : ℕ) → k < i → Moves rs k → ⊥

-- no task moves
abbrev pub MovesNowhere : List Record → Type 0
MovesNowhere rs = (i : ℕ) → Moves rs i → ⊥

-- which turn of the task begins at the place: as many as there are records before it at which the task runs
-- next, and one more for an initial or implicit task, whose turn 0 begins where it does
abbrev pub turn_counted : List Record → ℕ → ℕ → ℕ
turn_counted rs i task =
    count_by (λ (r : Record). is_task task (started r.body)) (take i rs)
    + (if is_made_so (λ b. is_task task (begun_root b)) rs then 1 else 0)

-- the same body, with these turns
abbrev pub telling : Turns → Body → Body
telling told (TaskSchedule status turns prior next claimed) =
    TaskSchedule status (Some told) prior next claimed
telling told body = body

-- what the record at the place says in version 2: where a task runs next, in which turn its prior task is by
-- the records of its thread before it, and which turn of the next task begins
abbrev pub body_upgraded : List Record → List Record → ℕ → Body → Body
body_upgraded rs ss i body =
    option_map_or (λ task. telling (record { prior = turn_at ss i; next = turn_counted rs i task }) body)
    (started body) body

-- the records ss are the records rs, but for turns, which ss has and rs does not
pub record IsUpgrade (rs ss : List Record) : Type 0 where
  pub all : length ss ≡ length rs
  pub each : (i : ℕ) (r : Record) → slice_get rs i ≡ Some r → slice_get ss i ≡ Some (record {
    thread = r.thread;
    nests = r.nests;
    seq = r.seq;
    seen = r.seen;
    body = body_upgraded rs ss i r.body;
  })

-- ---- version 3

-- the record in version 3, where parallel regions may lie inside others
abbrev pub nesting : Record → Record
nesting r = record { thread = r.thread; nests = true; seq = r.seq; seen = r.seen; body = r.body }

-- the records ss are the records rs of version 2 in version 3
abbrev pub IsRelabelled : List Record → List Record → Type 0
IsRelabelled rs ss = ss ≡ map nesting rs
