-- What a single line of a script stands for: a callback, without what a recorder adds to it.
use Rattle.std.specs.Prelude.{ℕ, List, [], ◌∷◌, Option, Some, None, Result, Err, option_map, option_and_then}
use Rattle.std.specs.Prelude.{ok_or, if◌then◌else◌}
use Rattle.std.specs.Str.{bytes_eq}
use Rattle.serde_json.specs.Data.{Data}
use Rattle.serde_json.specs.Find.{get, as_array}
use Rattle.ompt_events.specs.declared.records.Body.{Body}
use Rattle.ompt_events.specs.declared.records.Body.TheVariants.{TaskSchedule, Cancel}
use Rattle.lines.specs.declared.cause.ReadCause.{ReadCause}
use Rattle.lines.specs.declared.cause.ReadCause.TheVariants.{Field, NotJson}
use Rattle.lines.specs.declared.step_lines.SaidStep.{SaidStep}
use Rattle.lines.specs.Members.{◌>>=◌, each, whole, whole_of, text, status, cancel_flags_in, next}
use Rattle.lines.specs.MemberNames as member
use Rattle.lines.specs.CallbackNames as callback
use Rattle.lines.specs.RecordLines as recorded
use Rattle.lines.specs.LooseBodies.{loose_body}

-- a task stops running or is fulfilled: a script has no turns and no claims
unfoldable pub task_schedule : Data → Option Body
task_schedule d = do
  status ← status member.status d
  prior ← whole member.prior d
  next ← next status member.next d
  Some (TaskSchedule status None prior next None)

-- a task cancels a region or sees it cancelled, or is itself discarded
unfoldable pub cancel : Data → Option Body
cancel d = do
  bits ← cancel_flags_in member.flags d
  task ← whole member.task d
  Some (Cancel (record { 0 = bits }) task None)

-- the members of a callback, by its name
unfoldable pub body_named : List ℕ → Data → Option Body
body_named name d =
    if bytes_eq name callback.thread_begin then recorded.thread_begin d
    else if bytes_eq name callback.thread_end then recorded.thread_end d
    else if bytes_eq name callback.parallel_begin then recorded.parallel_begin d
    else if bytes_eq name callback.parallel_end then recorded.parallel_end d
    else if bytes_eq name callback.implicit_task then recorded.implicit_task d
    else if bytes_eq name callback.task_create then recorded.task_create d
    else if bytes_eq name callback.dependences then recorded.dependences d
    else if bytes_eq name callback.task_schedule then task_schedule d
    else if bytes_eq name callback.sync_region then recorded.sync_region d
    else if bytes_eq name callback.cancel then cancel d
    else None

abbrev pub body : Data → Option Body
body d = text member.cb d >>= λ name. body_named name d

-- two numbers, and no more
abbrev pub two : List ℕ → Option (ℕ × ℕ)
two (first ∷ second ∷ []) = Some (first, second)
two _ = None

-- the step that must be done before: where the member is there, a list of a thread and the number of a step
abbrev pub pair_in : Option Data → Option (Option (ℕ × ℕ))
pair_in None = Some None
pair_in (Some d) = option_map Some (option_and_then (each whole_of) (as_array d) >>= two)

abbrev pub after : Data → Option (Option (ℕ × ℕ))
after d = pair_in (get member.after d)

-- the step of an object: its members, and whether they keep within their limits
unfoldable pub step : Data → Option SaidStep
step d = do
  thread ← whole member.thread d
  after ← after d
  body ← body d
  Some (record { thread = thread; after = after; loose = loose_body body })

-- what a line of a script stands for
abbrev pub step_said : Option Data → Result SaidStep ReadCause
step_said None = Err NotJson
step_said (Some d) = ok_or (step d) Field
