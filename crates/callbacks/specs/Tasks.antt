-- A tool's own value of one task, and what the events of OMPT do to it and to its credit (F. Mattern,
-- Information Processing Letters 30, 1989).
use Rattle.std.specs.Prelude.{ℕ, ◌^◌, ◌+◌, ◌-◌, ◌==◌, ◌≡◌, ◌&&◌, Bool, true, false, List, [], ◌∷◌, ◌++◌}
use Rattle.std.specs.Prelude.{Option, Some, None, is_some, nat_le, nat_lt, length, slice_get, take}
use Rattle.std.specs.Prelude.{if◌then◌else◌}
use Rattle.std.specs.Option.{option_map_or}
use Rattle.ompt_events.specs.declared.records.Claim.{Claim}
use Rattle.ompt_events.specs.declared.records.Part.{Part}
use Rattle.ompt_events.specs.declared.records.Part.TheVariants.{Whole, Body as BodyPart, Event}
use Rattle.ompt_events.specs.declared.records.Body.{Body}
use Rattle.ompt_events.specs.declared.records.Body.TheVariants.{ImplicitTask}
use Rattle.ompt_events.specs.declared.names.Endpoint.TheVariants.{End}
use Rattle.ompt_events.specs.declared.names.Status.{Status}
use Rattle.ompt_events.specs.declared.names.SyncKind.{SyncKind}
use Rattle.ompt_events.specs.declared.state.State.{State}
use Rattle.ompt_events.specs.declared.state.State.TheVariants.{Created, Running, EarlyRunning, Detached}
use Rattle.ompt_events.specs.declared.state.State.TheVariants.{Done}
use Rattle.ompt_events.specs.declared.flags.TaskFlags.{TaskFlags}
use Rattle.ompt_events.specs.Flags as flag
use Rattle.ompt_events.specs.Flags.{task_flags, has_flag, are_named}
use Rattle.ompt_events.specs.contracts.names.SyncKindPartialEq.TheImpl as kinds
use Rattle.ompt_events.specs.Regions.{is_called_barrier}
use Rattle.ompt_events.specs.States as states
use Rattle.ompt_events.specs.States.{state_after}
use Rattle.credit_ledger.specs.declared.share.Half.{Half}
use Rattle.credit_ledger.specs.Shares.{finish_share, give_half}
use Rattle.credit_ledger.specs.Credits as credits
use Rattle.credit_ledger.specs.Credits.{Credit, Holder, entered_credit, detached_halves}
use Rattle.credit_ledger.specs.declared.entry.Entry.{Entry}
use Rattle.credit_ledger.specs.Entries.{tree_share}
use Rattle.credit_ledger.specs.TraceEntries.{claimed_entry}
use Rattle.callbacks.specs.declared.task.Origin.{Origin}
use Rattle.callbacks.specs.declared.task.Origin.TheVariants.{Root, Explicit}
use Rattle.callbacks.specs.declared.task.TeamPlace.{TeamPlace}

-- the view of a task's value: the task, where it comes from, its flags, the turn that it began last, its
-- state, its root, path and number of children, and its open regions, the innermost last
pub record TaskView : Type 0 where
  pub id : ℕ
  pub origin : Origin
  pub flags : TaskFlags
  pub turn : Option ℕ
  pub state : State
  pub claim : Claim
  pub regions : List SyncKind

-- ---- what a task is

abbrev pub parent_of : Origin → Option ℕ
parent_of (Root place) = None
parent_of (Explicit parent) = Some parent

abbrev pub place_of : Origin → Option TeamPlace
place_of (Root place) = Some place
place_of (Explicit parent) = None

-- an initial task: a root that began with the flag `initial`; any other root is a member of a team
abbrev pub is_initial_task : TaskView → Bool
is_initial_task t = is_some (place_of t.origin) && has_flag t.flags.0 flag.initial

-- a root that began on this thread
abbrev pub is_root_on : ℕ → TaskView → Bool
is_root_on thread t = option_map_or (λ (p : TeamPlace). p.home == thread) (place_of t.origin) false

-- which moves the task can make: a taskwait with dependences was created with the flag `taskwait`
abbrev pub nature_by : Origin → ℕ → states.Nature
nature_by (Root place) bits = states.Root
nature_by (Explicit parent) bits = if has_flag bits flag.taskwait then states.Wait else states.Plain

abbrev pub nature : TaskView → states.Nature
nature t = nature_by t.origin t.flags.0

-- ---- its state

-- the state after the task stops with a status, runs next, or is discarded, if its state and its nature
-- allow that
abbrev pub state_moved : TaskView → states.Move → Option State
state_moved t move = state_after (nature t) (Some t.state) (0, move)

-- a task creates others only while it runs (OpenMP 5.2, 12.5)
abbrev pub is_running : State → Bool
is_running Running = true
is_running EarlyRunning = true
is_running _ = false

-- the task may create one with these flags
abbrev pub may_create : TaskView → TaskFlags → Bool
may_create t given = are_named task_flags given.0 && is_running t.state

-- ---- its turns

-- the turn in which the task is; 0 if it has begun none
abbrev pub current_turn : TaskView → ℕ
current_turn t = option_map_or (λ turn. turn) t.turn 0

-- the turn that it begins next, if it is a number of 32 bits
abbrev pub turn_begun_next : TaskView → Option ℕ
turn_begun_next t =
    option_map_or (λ turn. if nat_lt (turn + 1) (2 ^ 32) then Some (turn + 1) else None) t.turn (Some 0)

-- ---- its regions

-- the kind of the innermost open region
abbrev pub innermost_region : TaskView → Option SyncKind
innermost_region t = slice_get t.regions (length t.regions - 1)

-- the innermost open region is of this kind
abbrev pub is_innermost_region : TaskView → SyncKind → Bool
is_innermost_region t kind = option_map_or (λ found. (kinds.ghosts).eq found kind) (innermost_region t) false

-- the task after it began a region, and after it ended the innermost one
abbrev pub with_region : TaskView → SyncKind → TaskView
with_region t kind = record t { regions = t.regions ++ kind ∷ [] }

abbrev pub without_region : TaskView → TaskView
without_region t = record t { regions = take (length t.regions - 1) t.regions }

-- a region of this kind is called a barrier, and the task is explicit; such a task may have none (OpenMP
-- 5.2, 15.3)
abbrev pub is_barred : TaskView → SyncKind → Bool
is_barred t kind = is_called_barrier kind && is_some (parent_of t.origin)

-- ---- its limits

-- a child of the task would have more than 1,024 numbers in its path
abbrev pub is_deep : TaskView → Bool
is_deep t = nat_le 1024 (length t.claim.path)

-- the task has 2^32 - 1 children
abbrev pub is_crowded : TaskView → Bool
is_crowded t = nat_le (2 ^ 32) (t.claim.kept + 1)

-- ---- what events do to it

-- a root that begins
abbrev pub root_of : ℕ → TeamPlace → TaskFlags → TaskView
root_of id place given = record {
  id = id;
  origin = Root place;
  flags = given;
  turn = Some 0;
  state = Running;
  claim = record { kept = 0; root = id; path = [] };
  regions = [];
}

-- a child that the task creates: its number is how many the task created before
abbrev pub child_of : TaskView → ℕ → TaskFlags → TaskView
child_of t id given = record {
  id = id;
  origin = Explicit t.id;
  flags = given;
  turn = None;
  state = Created;
  claim = record { kept = 0; root = t.claim.root; path = t.claim.path ++ t.claim.kept ∷ [] };
  regions = [];
}

-- the task after it created one more child
abbrev pub with_child : TaskView → TaskView
with_child t = record t { claim = record t.claim { kept = t.claim.kept + 1 } }

-- the task in another state
abbrev pub in_state : TaskView → State → TaskView
in_state t state = record t { state = state }

-- the task after it stopped or was fulfilled with a status, if it may
abbrev pub after_stop : TaskView → Status → TaskView
after_stop t status = option_map_or (in_state t) (state_moved t (states.Stopped status)) t

-- the task, running in this state and turn
abbrev pub running_in : TaskView → State → ℕ → TaskView
running_in t state turn = record t { state = state; turn = Some turn }

abbrev pub started_in : TaskView → Option State → Option ℕ → TaskView
started_in t (Some state) (Some turn) = running_in t state turn
started_in t None turn = t
started_in t (Some state) None = t

-- the task after it ran next, if it may: it begins its next turn
abbrev pub after_start : TaskView → TaskView
after_start t = started_in t (state_moved t states.Started) (turn_begun_next t)

-- the record with which a root ends: its flags and its place in the team are those with which it began
abbrev pub end_of_root : TaskView → ℕ → Body
end_of_root t parallel = ImplicitTask End (option_map_or (λ p. p.actual) (place_of t.origin) 0)
    (option_map_or (λ p. p.index) (place_of t.origin) 0) t.flags parallel t.id

-- ---- its credit

abbrev pub is_detached : State → Bool
is_detached Detached = true
is_detached _ = false

-- who has the task's share: the task; its event, once a detached task's body has ended; and at last nobody
abbrev pub holder_in : State → Holder
holder_in Detached = credits.Awaited
holder_in Done = credits.Entered
holder_in _ = credits.Running

-- the share that the task has left: of its start share it gave half of the rest to each child, and a
-- detached task gave back the half of its body
abbrev pub share_of : TaskView → List Half
share_of t =
    let left : List Half = finish_share t.claim.path t.claim.kept in
    if is_detached t.state then give_half left else left

abbrev pub credit_of : TaskView → Credit
credit_of t = record { root = t.claim.root; task = t.id; holder = holder_in t.state; share = share_of t }

-- the entry that the ledger gets, on this thread, when a part of the task is finished
abbrev pub entry_of_part : ℕ → Part → TaskView → Entry
entry_of_part thread part t = claimed_entry thread (t.id, part) t.claim

-- the credit that comes back with an entry
abbrev pub entered_credit_of : Entry → Credit
entered_credit_of entry =
    record { root = entry.root; task = entry.task; holder = credits.Entered; share = tree_share entry }

-- what an event that finishes a part of the task does to the task's credit: all of it is entered, or a half
-- of it with the body and the rest with the event
abbrev pub MovesCredit : Part → Credit → Credit → Credit → Type 0
MovesCredit Whole before entered after = entered_credit before ≡ entered ∷ []
MovesCredit BodyPart before entered after = detached_halves before ≡ entered ∷ after ∷ []
MovesCredit Event before entered after = entered_credit before ≡ entered ∷ []
