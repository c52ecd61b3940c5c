-- What the members of a line's object say, looked up by name.
use Rattle.std.specs.Prelude.{ℕ, Bool, List, [], ◌∷◌, Option, Some, None, option_map, option_and_then}
use Rattle.std.specs.Prelude.{if◌then◌else◌}
use Rattle.std.specs.Int.RustNames.{bit_or}
use Rattle.bitflags.specs.Sets.{find_name}
use Rattle.serde_json.specs.Data.{Data, null, boolean, number, string, array, object, Items, no_items, item}
use Rattle.serde_json.specs.Find.{get, as_number, as_u64, as_str, as_bool, as_array}
use Rattle.ompt_events.specs.declared.deps.Dep.{Dep}
use Rattle.ompt_events.specs.declared.names.Status.{Status}
use Rattle.ompt_events.specs.declared.names.Status.TheVariants.{Complete, Yield, Cancel, Detach, EarlyFulfill}
use Rattle.ompt_events.specs.declared.names.Status.TheVariants.{LateFulfill, Switch, TaskwaitComplete}
use Rattle.ompt_events.specs.declared.names.Endpoint.{Endpoint}
use Rattle.ompt_events.specs.declared.names.Endpoint.TheVariants.{Begin, End, BeginEnd}
use Rattle.ompt_events.specs.declared.names.SyncKind.{SyncKind}
use Rattle.ompt_events.specs.declared.names.SyncKind.TheVariants.{Barrier, BarrierImplicit, BarrierExplicit}
use Rattle.ompt_events.specs.declared.names.SyncKind.TheVariants.{BarrierImplementation, Taskwait, Taskgroup}
use Rattle.ompt_events.specs.declared.names.SyncKind.TheVariants.{Reduction, BarrierImplicitWorkshare}
use Rattle.ompt_events.specs.declared.names.SyncKind.TheVariants.{BarrierImplicitParallel, BarrierTeams}
use Rattle.ompt_events.specs.declared.names.DepKind.{DepKind}
use Rattle.ompt_events.specs.declared.names.DepKind.TheVariants.{In, Out, Inout, Mutexinoutset, Inoutset}
use Rattle.ompt_events.specs.declared.names.ThreadKind.{ThreadKind}
use Rattle.ompt_events.specs.declared.names.ThreadKind.TheVariants.{Initial, Worker, Other, Unknown}
use Rattle.ompt_events.specs.Names.{status_name, endpoint_name, sync_kind_name, dep_kind_name}
use Rattle.ompt_events.specs.Names.{thread_kind_name, demands_next}
use Rattle.ompt_events.specs.Flags as table
use Rattle.std.specs.Str.{bytes_eq}
use Rattle.lines.specs.MemberNames as member

infixl 10 ◌>>=◌
-- what is read of a value, if there is one; a block of such steps is a `do`
abbrev pub ◌>>=◌ : {A B : Type 0} → Option A → (A → Option B) → Option B
o >>= f = option_and_then f o

-- a whole number from 0 to 2^64 - 1
abbrev pub whole_of : Data → Option ℕ
whole_of d = option_and_then as_u64 (as_number d)

abbrev pub whole : List ℕ → Data → Option ℕ
whole name d = option_and_then whole_of (get name d)

-- a whole number, or none where `null` is, or nothing
abbrev pub nullable : Option Data → Option (Option ℕ)
nullable None = Some None
nullable (Some null) = Some None
nullable (Some (boolean b)) = None
nullable (Some (number n)) = option_map Some (as_u64 n)
nullable (Some (string s)) = None
nullable (Some (array ds)) = None
nullable (Some (object ms)) = None

abbrev pub whole_or_null : List ℕ → Data → Option (Option ℕ)
whole_or_null name d = nullable (get name d)

abbrev pub text : List ℕ → Data → Option (List ℕ)
text name d = option_and_then as_str (get name d)

abbrev pub truth : List ℕ → Data → Option Bool
truth name d = option_and_then as_bool (get name d)

abbrev pub list : List ℕ → Data → Option Items
list name d = option_and_then as_array (get name d)

-- what each item says, where every one says something
abbrev pub each : {X : Type 0} → (Data → Option X) → Items → Option (List X)
each says no_items = Some []
each says (item d ds) = option_and_then (λ x. option_map (λ xs. x ∷ xs) (each says ds)) (says d)

-- ---- names

-- the first of these values that has the name
unfoldable pub value_named : {X : Type 0} → (X → List ℕ) → List X → List ℕ → Option X
value_named name_of [] name = None
value_named name_of (x ∷ xs) name = if bytes_eq (name_of x) name then Some x else value_named name_of xs name

abbrev pub status : List ℕ → Data → Option Status
status name d = text name d >>= value_named status_name (Complete ∷ Yield ∷ Cancel ∷ Detach ∷ EarlyFulfill
    ∷ LateFulfill ∷ Switch ∷ TaskwaitComplete ∷ [])

abbrev pub endpoint : List ℕ → Data → Option Endpoint
endpoint name d = text name d >>= value_named endpoint_name (Begin ∷ End ∷ BeginEnd ∷ [])

-- an endpoint where a begin and an end cannot coincide
abbrev pub not_both : Endpoint → Option Endpoint
not_both Begin = Some Begin
not_both End = Some End
not_both BeginEnd = None

abbrev pub begin_or_end : List ℕ → Data → Option Endpoint
begin_or_end name d = endpoint name d >>= not_both

abbrev pub sync_kind : List ℕ → Data → Option SyncKind
sync_kind name d = text name d >>= value_named sync_kind_name
    (Barrier ∷ BarrierImplicit ∷ BarrierExplicit ∷ BarrierImplementation ∷ Taskwait ∷ Taskgroup
    ∷ Reduction ∷ BarrierImplicitWorkshare ∷ BarrierImplicitParallel ∷ BarrierTeams ∷ [])

abbrev pub dep_kind_named : List ℕ → Option DepKind
dep_kind_named = value_named dep_kind_name (In ∷ Out ∷ Inout ∷ Mutexinoutset ∷ Inoutset ∷ [])

abbrev pub dep_kind : List ℕ → Data → Option DepKind
dep_kind name d = text name d >>= dep_kind_named

abbrev pub thread_kind : List ℕ → Data → Option ThreadKind
thread_kind name d = text name d >>= value_named thread_kind_name (Initial ∷ Worker ∷ Other ∷ Unknown ∷ [])

-- ---- flags

-- the bit of the flag that an item names
abbrev pub flag_of : List (List ℕ × ℕ) → Data → Option ℕ
flag_of flags d = option_and_then (find_name flags) (as_str d)

-- the flags that the items name, in any order and with repeats, beside those that were found
abbrev pub flags_from : List (List ℕ × ℕ) → ℕ → Items → Option ℕ
flags_from flags found no_items = Some found
flags_from flags found (item d ds) =
    option_and_then (λ bit. flags_from flags (bit_or found bit) ds) (flag_of flags d)

abbrev pub flags : List (List ℕ × ℕ) → List ℕ → Data → Option ℕ
flags table name d = list name d >>= flags_from table 0

abbrev pub task_flags_in : List ℕ → Data → Option ℕ
task_flags_in = flags table.task_flags

abbrev pub cancel_flags_in : List ℕ → Data → Option ℕ
cancel_flags_in = flags table.cancel_flags

-- ---- what is read under a condition

-- no id is there
abbrev pub no_id : Option ℕ → Option (Option ℕ)
no_id None = Some None
no_id (Some n) = None

-- the task that runs next: an id where the status demands one, elsewhere `null` or nothing
abbrev pub next : Status → List ℕ → Data → Option (Option ℕ)
next status name d =
    whole_or_null name d >>= λ next. if demands_next status then option_map Some next else no_id next

-- ---- lists

-- the numbers of a path
abbrev pub path : List ℕ → Data → Option (List ℕ)
path name d = list name d >>= each whole_of

-- one dependence: how it is used, and the location
abbrev pub dep_of : Data → Option Dep
dep_of d = do
  kind ← dep_kind member.type d
  var ← whole member.var d
  Some (record { var = var; kind = kind })

abbrev pub deps : List ℕ → Data → Option (List Dep)
deps name d = list name d >>= each dep_of
