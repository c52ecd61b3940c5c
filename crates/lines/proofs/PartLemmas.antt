-- The line of each record, part by part: a text that is the same for all, and a value.
use Rattle.std.proofs.Common.{◌≡◌, ℕ, Bool, Option, None, Some, List, ◌++◌, map, codes, decimal, refl}
use Rattle.json.specs.Print.{escape_byte, quoted}
use Rattle.serde_json.specs.Data.{boolean, array}
use Rattle.serde_json.specs.View.{items_of}
use Rattle.serde_json.specs.Written.{compact_text}
use Rattle.ompt_events.specs.declared.records.Claim.{Claim}
use Rattle.ompt_events.specs.declared.records.Turns.{Turns}
use Rattle.ompt_events.specs.declared.records.Body.TheVariants.{ThreadBegin, ThreadEnd, ParallelBegin}
use Rattle.ompt_events.specs.declared.records.Body.TheVariants.{ParallelEnd, ImplicitTask, TaskCreate}
use Rattle.ompt_events.specs.declared.records.Body.TheVariants.{Dependences, TaskSchedule, SyncRegion}
use Rattle.ompt_events.specs.declared.records.Body.TheVariants as body
use Rattle.ompt_events.specs.declared.deps.Dep.{Dep}
use Rattle.ompt_events.specs.declared.flags.TaskFlags.{TaskFlags}
use Rattle.ompt_events.specs.declared.flags.CancelFlags.{CancelFlags}
use Rattle.ompt_events.specs.declared.names.Status.{Status}
use Rattle.ompt_events.specs.declared.names.Endpoint.{Endpoint}
use Rattle.ompt_events.specs.declared.names.SyncKind.{SyncKind}
use Rattle.ompt_events.specs.declared.names.ThreadKind.{ThreadKind}
use Rattle.ompt_events.specs.Flags.{task_flags, cancel_flags}
use Rattle.ompt_events.specs.Names.{status_name, endpoint_name, sync_kind_name, dep_kind_name}
use Rattle.ompt_events.specs.Names.{thread_kind_name}
use Rattle.lines.specs.declared.texts.Head.{Head}
use Rattle.lines.specs.Texts.{with_member, record_of, whole_number, number_or_null, names, flag_names}
use Rattle.lines.specs.Texts.{dep_data, line_of, header_line}

pub line-thread_begin : (head : Head) (kind : ThreadKind) → line_of (record_of head (ThreadBegin kind))
    ≡ (codes "{\"cb\":\"thread_begin\",\"kind\":" ++ quoted (thread_kind_name kind))
    ++ ((codes ",\"seen\":" ++ decimal head.seen)
    ++ ((codes ",\"seq\":" ++ decimal head.seq)
    ++ ((codes ",\"thread\":" ++ decimal head.thread)
    ++ (codes "}"))))
unfolding with_member escape_byte
line-thread_begin head kind = refl

pub line-thread_end : (head : Head) → line_of (record_of head ThreadEnd)
    ≡ (codes "{\"cb\":\"thread_end\",\"seen\":" ++ decimal head.seen)
    ++ ((codes ",\"seq\":" ++ decimal head.seq)
    ++ ((codes ",\"thread\":" ++ decimal head.thread)
    ++ (codes "}")))
unfolding with_member escape_byte
line-thread_end head = refl

pub line-parallel_begin : (head : Head) (requested : ℕ) (task : ℕ) (parallel : ℕ)
    → line_of (record_of head (ParallelBegin requested task parallel))
    ≡ (codes "{\"cb\":\"parallel_begin\",\"parallel\":" ++ decimal parallel)
    ++ ((codes ",\"requested\":" ++ decimal requested)
    ++ ((codes ",\"seen\":" ++ decimal head.seen)
    ++ ((codes ",\"seq\":" ++ decimal head.seq)
    ++ ((codes ",\"task\":" ++ decimal task)
    ++ ((codes ",\"thread\":" ++ decimal head.thread)
    ++ (codes "}"))))))
unfolding with_member escape_byte
line-parallel_begin head requested task parallel = refl

pub line-parallel_end : (head : Head) (task : ℕ) (parallel : ℕ)
    → line_of (record_of head (ParallelEnd task parallel))
    ≡ (codes "{\"cb\":\"parallel_end\",\"parallel\":" ++ decimal parallel)
    ++ ((codes ",\"seen\":" ++ decimal head.seen)
    ++ ((codes ",\"seq\":" ++ decimal head.seq)
    ++ ((codes ",\"task\":" ++ decimal task)
    ++ ((codes ",\"thread\":" ++ decimal head.thread)
    ++ (codes "}")))))
unfolding with_member escape_byte
line-parallel_end head task parallel = refl

pub line-implicit_task : (head : Head) (endpoint : Endpoint) (actual : ℕ) (index : ℕ) (flags : TaskFlags)
    (parallel : ℕ) (task : ℕ)
    → line_of (record_of head (ImplicitTask endpoint actual index flags parallel task))
    ≡ (codes "{\"actual\":" ++ decimal actual)
    ++ ((codes ",\"cb\":\"implicit_task\",\"endpoint\":" ++ quoted (endpoint_name endpoint))
    ++ ((codes ",\"flags\":" ++ compact_text (names (flag_names task_flags flags.0)))
    ++ ((codes ",\"index\":" ++ decimal index)
    ++ ((codes ",\"parallel\":" ++ decimal parallel)
    ++ ((codes ",\"seen\":" ++ decimal head.seen)
    ++ ((codes ",\"seq\":" ++ decimal head.seq)
    ++ ((codes ",\"task\":" ++ decimal task)
    ++ ((codes ",\"thread\":" ++ decimal head.thread)
    ++ (codes "}")))))))))
unfolding with_member escape_byte
line-implicit_task head endpoint actual index flags parallel task = refl

pub line-task_create : (head : Head) (deps : Bool) (flags : TaskFlags) (task : ℕ) (child : ℕ)
    → line_of (record_of head (TaskCreate deps flags task child))
    ≡ (codes "{\"cb\":\"task_create\",\"child\":" ++ decimal child)
    ++ ((codes ",\"deps\":" ++ compact_text (boolean deps))
    ++ ((codes ",\"flags\":" ++ compact_text (names (flag_names task_flags flags.0)))
    ++ ((codes ",\"seen\":" ++ decimal head.seen)
    ++ ((codes ",\"seq\":" ++ decimal head.seq)
    ++ ((codes ",\"task\":" ++ decimal task)
    ++ ((codes ",\"thread\":" ++ decimal head.thread)
    ++ (codes "}")))))))
unfolding with_member escape_byte
line-task_create head deps flags task child = refl

pub line-dependences : (head : Head) (task : ℕ) (list : List Dep)
    → line_of (record_of head (Dependences task list))
    ≡ (codes "{\"cb\":\"dependences\",\"list\":" ++ compact_text (array (items_of (map dep_data list))))
    ++ ((codes ",\"seen\":" ++ decimal head.seen)
    ++ ((codes ",\"seq\":" ++ decimal head.seq)
    ++ ((codes ",\"task\":" ++ decimal task)
    ++ ((codes ",\"thread\":" ++ decimal head.thread)
    ++ (codes "}")))))
unfolding with_member escape_byte
line-dependences head task list = refl

pub line-switching : (head : Head) (status : Status) (prior : ℕ) (next : Option ℕ)
    → line_of (record_of head (TaskSchedule status None prior next None))
    ≡ (codes "{\"cb\":\"task_schedule\",\"next\":" ++ compact_text (number_or_null next))
    ++ ((codes ",\"prior\":" ++ decimal prior)
    ++ ((codes ",\"seen\":" ++ decimal head.seen)
    ++ ((codes ",\"seq\":" ++ decimal head.seq)
    ++ ((codes ",\"status\":" ++ quoted (status_name status))
    ++ ((codes ",\"thread\":" ++ decimal head.thread)
    ++ (codes "}"))))))
unfolding with_member escape_byte
line-switching head status prior next = refl

pub line-finishing : (head : Head) (status : Status) (prior : ℕ) (next : Option ℕ) (c : Claim)
    → line_of (record_of head (TaskSchedule status None prior next (Some c)))
    ≡ (codes "{\"cb\":\"task_schedule\",\"kept\":" ++ decimal c.kept)
    ++ ((codes ",\"next\":" ++ compact_text (number_or_null next))
    ++ ((codes ",\"path\":" ++ compact_text (array (items_of (map whole_number c.path))))
    ++ ((codes ",\"prior\":" ++ decimal prior)
    ++ ((codes ",\"root\":" ++ decimal c.root)
    ++ ((codes ",\"seen\":" ++ decimal head.seen)
    ++ ((codes ",\"seq\":" ++ decimal head.seq)
    ++ ((codes ",\"status\":" ++ quoted (status_name status))
    ++ ((codes ",\"thread\":" ++ decimal head.thread)
    ++ (codes "}")))))))))
unfolding with_member escape_byte
line-finishing head status prior next c = refl

pub line-switching_in_turn : (head : Head) (status : Status) (turns : Turns) (prior : ℕ) (next : Option ℕ)
    → line_of (record_of head (TaskSchedule status (Some turns) prior next None))
    ≡ (codes "{\"cb\":\"task_schedule\",\"next\":" ++ compact_text (number_or_null next))
    ++ ((codes ",\"next_turn\":" ++ decimal turns.next)
    ++ ((codes ",\"prior\":" ++ decimal prior)
    ++ ((codes ",\"prior_turn\":" ++ decimal turns.prior)
    ++ ((codes ",\"seen\":" ++ decimal head.seen)
    ++ ((codes ",\"seq\":" ++ decimal head.seq)
    ++ ((codes ",\"status\":" ++ quoted (status_name status))
    ++ ((codes ",\"thread\":" ++ decimal head.thread)
    ++ (codes "}"))))))))
unfolding with_member escape_byte
line-switching_in_turn head status turns prior next = refl

pub line-finishing_in_turn : (head : Head) (status : Status) (turns : Turns) (prior : ℕ) (next : Option ℕ)
    (c : Claim)
    → line_of (record_of head (TaskSchedule status (Some turns) prior next (Some c)))
    ≡ (codes "{\"cb\":\"task_schedule\",\"kept\":" ++ decimal c.kept)
    ++ ((codes ",\"next\":" ++ compact_text (number_or_null next))
    ++ ((codes ",\"next_turn\":" ++ decimal turns.next)
    ++ ((codes ",\"path\":" ++ compact_text (array (items_of (map whole_number c.path))))
    ++ ((codes ",\"prior\":" ++ decimal prior)
    ++ ((codes ",\"prior_turn\":" ++ decimal turns.prior)
    ++ ((codes ",\"root\":" ++ decimal c.root)
    ++ ((codes ",\"seen\":" ++ decimal head.seen)
    ++ ((codes ",\"seq\":" ++ decimal head.seq)
    ++ ((codes ",\"status\":" ++ quoted (status_name status))
    ++ ((codes ",\"thread\":" ++ decimal head.thread)
    ++ (codes "}")))))))))))
unfolding with_member escape_byte
line-finishing_in_turn head status turns prior next c = refl

pub line-sync_region : (head : Head) (kind : SyncKind) (endpoint : Endpoint) (parallel : Option ℕ) (task : ℕ)
    → line_of (record_of head (SyncRegion kind endpoint parallel task))
    ≡ (codes "{\"cb\":\"sync_region\",\"endpoint\":" ++ quoted (endpoint_name endpoint))
    ++ ((codes ",\"kind\":" ++ quoted (sync_kind_name kind))
    ++ ((codes ",\"parallel\":" ++ compact_text (number_or_null parallel))
    ++ ((codes ",\"seen\":" ++ decimal head.seen)
    ++ ((codes ",\"seq\":" ++ decimal head.seq)
    ++ ((codes ",\"task\":" ++ decimal task)
    ++ ((codes ",\"thread\":" ++ decimal head.thread)
    ++ (codes "}")))))))
unfolding with_member escape_byte
line-sync_region head kind endpoint parallel task = refl

pub line-cancelling : (head : Head) (flags : CancelFlags) (task : ℕ)
    → line_of (record_of head (body.Cancel flags task None))
    ≡ (codes "{\"cb\":\"cancel\",\"flags\":" ++ compact_text (names (flag_names cancel_flags flags.0)))
    ++ ((codes ",\"seen\":" ++ decimal head.seen)
    ++ ((codes ",\"seq\":" ++ decimal head.seq)
    ++ ((codes ",\"task\":" ++ decimal task)
    ++ ((codes ",\"thread\":" ++ decimal head.thread)
    ++ (codes "}")))))
unfolding with_member escape_byte
line-cancelling head flags task = refl

pub line-discarding : (head : Head) (flags : CancelFlags) (task : ℕ) (c : Claim)
    → line_of (record_of head (body.Cancel flags task (Some c)))
    ≡ (codes "{\"cb\":\"cancel\",\"flags\":" ++ compact_text (names (flag_names cancel_flags flags.0)))
    ++ ((codes ",\"kept\":" ++ decimal c.kept)
    ++ ((codes ",\"path\":" ++ compact_text (array (items_of (map whole_number c.path))))
    ++ ((codes ",\"root\":" ++ decimal c.root)
    ++ ((codes ",\"seen\":" ++ decimal head.seen)
    ++ ((codes ",\"seq\":" ++ decimal head.seq)
    ++ ((codes ",\"task\":" ++ decimal task)
    ++ ((codes ",\"thread\":" ++ decimal head.thread)
    ++ (codes "}"))))))))
unfolding with_member escape_byte
line-discarding head flags task c = refl

pub text-dep : (d : Dep) → compact_text (dep_data d)
    ≡ (codes "{\"type\":" ++ quoted (dep_kind_name d.kind))
    ++ ((codes ",\"var\":" ++ decimal d.var)
    ++ (codes "}"))
unfolding with_member escape_byte
text-dep d = refl

pub text-header : (version : ℕ)
    → header_line version
    ≡ (codes "{\"format\":\"task-credit-audit\",\"version\":" ++ decimal version) ++ codes "}"
unfolding with_member escape_byte
text-header version = refl
