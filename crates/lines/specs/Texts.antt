-- The text of each line: a header with its version, and records.
use Rattle.std.specs.Prelude.{codes, decimal, ℕ, ◌≡◌, Bool, true, false, not, ◌&&◌, ◌==◌, nat_lt, nat_le}
use Rattle.std.specs.Prelude.{List, [], ◌∷◌, ◌++◌, map, Option, Some, None, if◌then◌else◌}
use Rattle.json.specs.Print.{quoted}
use Rattle.serde_json.specs.Data.{Data, null, boolean, number, string, array, object, unsigned, Members}
use Rattle.serde_json.specs.Data.{no_members, put}
use Rattle.serde_json.specs.View.{items_of}
use Rattle.serde_json.specs.Written.{compact_text}
use Rattle.ompt_events.specs.declared.records.Record.{Record}
use Rattle.ompt_events.specs.declared.records.Claim.{Claim}
use Rattle.ompt_events.specs.declared.records.Turns.{Turns}
use Rattle.ompt_events.specs.declared.records.Body.{Body}
use Rattle.ompt_events.specs.declared.records.Body.TheVariants.{ThreadBegin, ThreadEnd, ParallelBegin}
use Rattle.ompt_events.specs.declared.records.Body.TheVariants.{ParallelEnd, ImplicitTask, TaskCreate}
use Rattle.ompt_events.specs.declared.records.Body.TheVariants.{Dependences, TaskSchedule, SyncRegion}
use Rattle.ompt_events.specs.declared.records.Body.TheVariants.{Cancel}
use Rattle.ompt_events.specs.declared.deps.Dep.{Dep}
use Rattle.ompt_events.specs.declared.names.Status.{Status}
use Rattle.ompt_events.specs.Flags.{task_flags, cancel_flags, has_flag}
use Rattle.ompt_events.specs.Names.{status_name, endpoint_name, sync_kind_name, dep_kind_name}
use Rattle.ompt_events.specs.Names.{thread_kind_name}
use Rattle.lines.specs.declared.texts.Head.{Head}
use Rattle.lines.specs.MemberNames as member
use Rattle.lines.specs.CallbackNames as callback
use Rattle.lines.specs.RecordLines.{format_name}

-- the members of an object with one more, in the order of their names
unfoldable pub with_member : List ℕ → Data → Members → Members
with_member name d ms = put name d ms

-- the members of an object with each of these
abbrev pub with_members : List (List ℕ × Data) → Members → Members
with_members [] ms = ms
with_members (m ∷ more) ms = with_members more (with_member m.0 m.1 ms)

-- the object of these members
abbrev pub object_of : List (List ℕ × Data) → Data
object_of ms = object (with_members ms no_members)

abbrev pub whole_number : ℕ → Data
whole_number n = number (unsigned n)

abbrev pub number_or_null : Option ℕ → Data
number_or_null None = null
number_or_null (Some n) = whole_number n

-- the names of the flags that are among the bits, in the order of the table
unfoldable pub flag_names : List (List ℕ × ℕ) → ℕ → List (List ℕ)
flag_names [] bits = []
flag_names (row ∷ rows) bits =
    if has_flag bits row.1 then row.0 ∷ flag_names rows bits else flag_names rows bits

abbrev pub names : List (List ℕ) → Data
names texts = array (items_of (map string texts))

-- what a finishing record says of its task's place
abbrev pub claim_members : Option Claim → List (List ℕ × Data)
claim_members None = []
claim_members (Some c) = (member.kept, whole_number c.kept) ∷ (member.root, whole_number c.root) ∷
    (member.path, array (items_of (map whole_number c.path))) ∷ []

-- the turns of a record
abbrev pub turn_members : Option Turns → List (List ℕ × Data)
turn_members None = []
turn_members (Some t) =
    (member.prior_turn, whole_number t.prior) ∷ (member.next_turn, whole_number t.next) ∷ []

-- one dependence
abbrev pub dep_data : Dep → Data
dep_data d = object_of ((member.type, string (dep_kind_name d.kind)) ∷ (member.var, whole_number d.var) ∷ [])

-- the name of the callback, and its arguments
abbrev pub body_members : Body → List (List ℕ × Data)
body_members (ThreadBegin kind) =
    (member.cb, string callback.thread_begin) ∷ (member.kind, string (thread_kind_name kind)) ∷ []
body_members ThreadEnd = (member.cb, string callback.thread_end) ∷ []
body_members (ParallelBegin requested task parallel) =
    (member.cb, string callback.parallel_begin) ∷ (member.requested, whole_number requested) ∷
    (member.task, whole_number task) ∷ (member.parallel, whole_number parallel) ∷ []
body_members (ParallelEnd task parallel) = (member.cb, string callback.parallel_end) ∷
    (member.task, whole_number task) ∷ (member.parallel, whole_number parallel) ∷ []
body_members (ImplicitTask endpoint actual index flags parallel task) =
    (member.cb, string callback.implicit_task) ∷ (member.endpoint, string (endpoint_name endpoint)) ∷
    (member.actual, whole_number actual) ∷ (member.index, whole_number index)
    ∷ (member.flags, names (flag_names task_flags flags.0)) ∷ (member.parallel, whole_number parallel) ∷
    (member.task, whole_number task) ∷ []
body_members (TaskCreate deps flags task child) =
    (member.cb, string callback.task_create) ∷ (member.deps, boolean deps)
    ∷ (member.flags, names (flag_names task_flags flags.0)) ∷ (member.task, whole_number task) ∷
    (member.child, whole_number child) ∷ []
body_members (Dependences task list) = (member.cb, string callback.dependences) ∷
    (member.task, whole_number task) ∷ (member.list, array (items_of (map dep_data list))) ∷ []
body_members (TaskSchedule status turns prior next claim) =
    (member.cb, string callback.task_schedule) ∷ (member.status, string (status_name status)) ∷
    (member.prior, whole_number prior) ∷ (member.next, number_or_null next)
    ∷ turn_members turns ++ claim_members claim
body_members (SyncRegion kind endpoint parallel task) =
    (member.cb, string callback.sync_region) ∷ (member.kind, string (sync_kind_name kind)) ∷
    (member.endpoint, string (endpoint_name endpoint))
    ∷ (member.parallel, number_or_null parallel) ∷ (member.task, whole_number task) ∷ []
body_members (Cancel flags task claim) =
    (member.cb, string callback.cancel) ∷ (member.flags, names (flag_names cancel_flags flags.0)) ∷
    (member.task, whole_number task) ∷ claim_members claim

-- what its thread says of it, and then the callback
abbrev pub record_members : Record → List (List ℕ × Data)
record_members r = (member.thread, whole_number r.thread) ∷ (member.seq, whole_number r.seq) ∷
    (member.seen, whole_number r.seen) ∷ body_members r.body

-- the JSON object of a record
abbrev pub data_of : Record → Data
data_of r = object_of (record_members r)

-- the line of a record
abbrev pub line_of : Record → List ℕ
line_of r = compact_text (data_of r)

-- the header of a file of this version
abbrev pub header_members : ℕ → List (List ℕ × Data)
header_members version =
    (member.format, string format_name) ∷ (member.version, whole_number version) ∷ []

abbrev pub header_data : ℕ → Data
header_data version = object_of (header_members version)

abbrev pub header_line : ℕ → List ℕ
header_line version = compact_text (header_data version)

-- ---- the last members of a line, which several callbacks share

abbrev pub task_tail : ℕ → ℕ → ℕ → ℕ → List ℕ
task_tail seen seq task thread = (codes ",\"seen\":" ++ decimal seen) ++ ((codes ",\"seq\":" ++ decimal seq)
    ++ ((codes ",\"task\":" ++ decimal task) ++ ((codes ",\"thread\":" ++ decimal thread) ++ codes "}")))

abbrev pub status_tail : ℕ → ℕ → Status → ℕ → List ℕ
status_tail seen seq status thread =
    (codes ",\"seen\":" ++ decimal seen)
    ++ ((codes ",\"seq\":" ++ decimal seq)
    ++ ((codes ",\"status\":" ++ quoted (status_name status))
    ++ ((codes ",\"thread\":" ++ decimal thread) ++ codes "}")))

-- what a thread records: its numbers, and the callback. No line says whether regions may lie inside others
abbrev pub record_of : Head → Body → Record
record_of head body =
    record { thread = head.thread; nests = false; seq = head.seq; seen = head.seen; body = body }

-- the bytes were appended
pub record Puts (old new bytes : List ℕ) : Type 0 where
  pub is : new ≡ old ++ bytes

-- the byte stands for itself in a string of JSON
abbrev pub is_plain_byte : ℕ → Bool
is_plain_byte b = nat_le 32 b && nat_lt b 127 && not (b == 34) && not (b == 92)

abbrev pub is_plain_text : List ℕ → Bool
is_plain_text [] = true
is_plain_text (b ∷ bs) = is_plain_byte b && is_plain_text bs

-- the part is in front, and then this follows
pub record Takes (rest part behind : List ℕ) : Type 0 where
  pub is : rest ≡ part ++ behind
