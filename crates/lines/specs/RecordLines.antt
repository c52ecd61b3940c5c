-- What a single line stands for, in a file of version 1, 2 or 3 of the format.
use Rattle.std.specs.Prelude.{ℕ, ◌≡◌, ◌≢◌, ◌==◌, ◌&&◌, ◌^◌, Bool, true, false, List, length, Option, Some}
use Rattle.std.specs.Prelude.{None, Result, Ok, Err, ok_or, option_map, option_and_then, is_some, nat_lt}
use Rattle.std.specs.Prelude.{nat_le, ltb, codes, if◌then◌else◌}
use Rattle.std.specs.Option.{option_map_or}
use Rattle.std.specs.List.{list_all}
use Rattle.std.specs.Str.{is_utf8, bytes_eq}
use Rattle.serde_json.specs.Data.{Data}
use Rattle.serde_json.specs.Read.{read}
use Rattle.ompt_events.specs.declared.deps.Dep.{Dep}
use Rattle.ompt_events.specs.declared.records.Record.{Record}
use Rattle.ompt_events.specs.declared.records.Claim.{Claim}
use Rattle.ompt_events.specs.declared.records.Turns.{Turns}
use Rattle.ompt_events.specs.declared.names.Status.{Status}
use Rattle.ompt_events.specs.declared.records.Body.{Body}
use Rattle.ompt_events.specs.declared.records.Body.TheVariants.{ThreadBegin, ThreadEnd, ParallelBegin}
use Rattle.ompt_events.specs.declared.records.Body.TheVariants.{ParallelEnd, ImplicitTask, TaskCreate}
use Rattle.ompt_events.specs.declared.records.Body.TheVariants.{Dependences, TaskSchedule, SyncRegion, Cancel}
use Rattle.ompt_events.specs.Limits.{max_threads, max_depth, max_dependences}
use Rattle.ompt_events.specs.Flags as flag
use Rattle.ompt_events.specs.Flags.{has_flag}
use Rattle.ompt_events.specs.Names.{status_part, demands_next}
use Rattle.lines.specs.declared.cause.ReadCause.{ReadCause}
use Rattle.lines.specs.declared.cause.ReadCause.TheVariants.{Memory, Header, NotJson, Field, Limit}
use Rattle.lines.specs.Members.{◌>>=◌, whole, whole_or_null, text, truth, status, endpoint}
use Rattle.lines.specs.Members.{begin_or_end, sync_kind, thread_kind, task_flags_in, next}
use Rattle.lines.specs.Members.{cancel_flags_in, path, deps}
use Rattle.lines.specs.MemberNames as member
use Rattle.lines.specs.CallbackNames as callback

-- the JSON value of a line of UTF-8
abbrev pub value_of : List ℕ → Option Data
value_of line = if is_utf8 line then read line else None

-- ---- the callbacks (OpenMP 5.2, 19.5.2), their numbers without bounds

-- a thread begins
unfoldable pub thread_begin : Data → Option Body
thread_begin d = do
  kind ← thread_kind member.kind d
  Some (ThreadBegin kind)

-- a thread ends
unfoldable pub thread_end : Data → Option Body
thread_end d = Some ThreadEnd

-- a task begins a parallel region
unfoldable pub parallel_begin : Data → Option Body
parallel_begin d = do
  requested ← whole member.requested d
  task ← whole member.task d
  parallel ← whole member.parallel d
  Some (ParallelBegin requested task parallel)

-- a task ends a parallel region
unfoldable pub parallel_end : Data → Option Body
parallel_end d = do
  task ← whole member.task d
  parallel ← whole member.parallel d
  Some (ParallelEnd task parallel)

-- an initial or implicit task begins or ends
unfoldable pub implicit_task : Data → Option Body
implicit_task d = do
  endpoint ← begin_or_end member.endpoint d
  actual ← whole member.actual d
  index ← whole member.index d
  bits ← task_flags_in member.flags d
  parallel ← whole member.parallel d
  task ← whole member.task d
  Some (ImplicitTask endpoint actual index (record { 0 = bits }) parallel task)

-- a task is created
unfoldable pub task_create : Data → Option Body
task_create d = do
  deps ← truth member.deps d
  bits ← task_flags_in member.flags d
  task ← whole member.task d
  child ← whole member.child d
  Some (TaskCreate deps (record { 0 = bits }) task child)

-- what a task depends on
unfoldable pub dependences : Data → Option Body
dependences d = do
  task ← whole member.task d
  list ← deps member.list d
  Some (Dependences task list)

-- what a finishing record claims of its task's place
unfoldable pub claim_said : Data → Option Claim
claim_said d = do
  kept ← whole member.kept d
  root ← whole member.root d
  path ← path member.path d
  Some (record { kept = kept; root = root; path = path })

-- a claim is read where the record finishes a task, and nowhere else
unfoldable pub claim_if : Bool → Data → Option (Option Claim)
claim_if finishes d = if finishes then option_map Some (claim_said d) else Some None

-- which turn of the prior task ends, and which one of the next task begins
unfoldable pub turns_said : Data → Option Turns
turns_said d = do
  prior ← whole member.prior_turn d
  next ← whole member.next_turn d
  Some (record { prior = prior; next = next })

-- from version 2 on there are turns where a task runs next
abbrev pub tells_turns : ℕ → Status → Bool
tells_turns version status = ltb 1 version && demands_next status

-- turns are read where the record has them, and nowhere else
unfoldable pub turns_if : Bool → Data → Option (Option Turns)
turns_if told d = if told then option_map Some (turns_said d) else Some None

-- a task stops running or is fulfilled
unfoldable pub task_schedule : ℕ → Data → Option Body
task_schedule version d = do
  status ← status member.status d
  prior ← whole member.prior d
  next ← next status member.next d
  turns ← turns_if (tells_turns version status) d
  claim ← claim_if (is_some (status_part status)) d
  Some (TaskSchedule status turns prior next claim)

-- a region of synchronisation begins or ends
unfoldable pub sync_region : Data → Option Body
sync_region d = do
  kind ← sync_kind member.kind d
  endpoint ← endpoint member.endpoint d
  parallel ← whole_or_null member.parallel d
  task ← whole member.task d
  Some (SyncRegion kind endpoint parallel task)

-- a task cancels a region or sees it cancelled, or is itself discarded
unfoldable pub cancel : Data → Option Body
cancel d = do
  bits ← cancel_flags_in member.flags d
  task ← whole member.task d
  claim ← claim_if (has_flag bits flag.discarded_task) d
  Some (Cancel (record { 0 = bits }) task claim)

-- the members of a callback, by its name
unfoldable pub body_named : ℕ → List ℕ → Data → Option Body
body_named version name d =
    if bytes_eq name callback.thread_begin then thread_begin d
    else if bytes_eq name callback.thread_end then thread_end d
    else if bytes_eq name callback.parallel_begin then parallel_begin d
    else if bytes_eq name callback.parallel_end then parallel_end d
    else if bytes_eq name callback.implicit_task then implicit_task d
    else if bytes_eq name callback.task_create then task_create d
    else if bytes_eq name callback.dependences then dependences d
    else if bytes_eq name callback.task_schedule then task_schedule version d
    else if bytes_eq name callback.sync_region then sync_region d
    else if bytes_eq name callback.cancel then cancel d
    else None

abbrev pub body : ℕ → Data → Option Body
body version d = text member.cb d >>= λ name. body_named version name d

-- ---- records

-- the record of an object, its numbers without their bounds; regions may lie inside others in version 3
unfoldable pub unbounded : ℕ → Data → Option Record
unbounded version d = do
  thread ← whole member.thread d
  seq ← whole member.seq d
  seen ← whole member.seen d
  body ← body version d
  Some (record { thread = thread; nests = version == 3; seq = seq; seen = seen; body = body })

abbrev pub is_short : ℕ → Bool
is_short n = nat_lt n (2 ^ 32)

abbrev pub path_fits : List ℕ → Bool
path_fits path = nat_le (length path) max_depth && list_all is_short path

abbrev pub deps_fit : List Dep → Bool
deps_fit deps = nat_le (length deps) max_dependences

abbrev pub claim_fits : Claim → Bool
claim_fits c = path_fits c.path && is_short c.kept

abbrev pub claim_if_fits : Option Claim → Bool
claim_if_fits claim = option_map_or claim_fits claim true

abbrev pub turns_if_fit : Option Turns → Bool
turns_if_fit turns = option_map_or (λ (t : Turns). is_short t.prior && is_short t.next) turns true

abbrev pub body_fits : Body → Bool
body_fits (ParallelBegin requested task parallel) = is_short requested
body_fits (ImplicitTask endpoint actual index bits parallel task) = is_short actual && is_short index
body_fits (Dependences task list) = deps_fit list
body_fits (TaskSchedule status turns prior next claim) = claim_if_fits claim && turns_if_fit turns
body_fits (Cancel bits task claim) = claim_if_fits claim
body_fits _ = true

abbrev pub record_fits : Record → Bool
record_fits r = body_fits r.body && nat_lt r.thread max_threads && is_short r.seq && is_short r.seen

-- a value within its bounds; `Field` where there is none, before `Limit`
abbrev pub bounded : {X : Type 0} → (X → Bool) → Option X → Result X ReadCause
bounded fits None = Err Field
bounded fits (Some x) = if fits x then Ok x else Err Limit

-- what one line of a file of this version stands for
abbrev pub said_of : ℕ → Option Data → Result Record ReadCause
said_of version None = Err NotJson
said_of version (Some d) = bounded record_fits (unbounded version d)

abbrev pub line_says : ℕ → List ℕ → Result Record ReadCause
line_says version line = said_of version (value_of line)

-- the value of a line, or the cause for which it has none
abbrev pub value_or_cause : List ℕ → Result Data ReadCause
value_or_cause line = ok_or (value_of line) NotJson

-- what the header says
abbrev pub format_name : List ℕ
format_name = codes "task-credit-audit"

abbrev pub names_format : List ℕ → Data → Bool
names_format format d = option_map_or (λ s. bytes_eq s format) (text member.format d) false

-- the version, if it is one from 1 to the newest that is read
abbrev pub version_read : ℕ → ℕ → Option ℕ
version_read newest version = if nat_le 1 version && nat_le version newest then Some version else None

-- the version that the object of a header of this format names, if it is one that is read
abbrev pub version_in : List ℕ → ℕ → Data → Option ℕ
version_in format newest d =
    if names_format format d then whole member.version d >>= version_read newest else None

-- the version of a file of this format with this header
abbrev pub version_of : List ℕ → ℕ → List ℕ → Result ℕ ReadCause
version_of format newest line = ok_or (option_and_then (version_in format newest) (value_of line)) Header

-- the version of a trace file with this header
abbrev pub header_says : ℕ → List ℕ → Result ℕ ReadCause
header_says newest line = version_of format_name newest line

-- the answer is what the definition says, or that memory ran out
abbrev pub IsSaid : {X : Type 0} → Result X ReadCause → Result X ReadCause → Type 0
IsSaid result said = result ≢ Err Memory → result ≡ said
