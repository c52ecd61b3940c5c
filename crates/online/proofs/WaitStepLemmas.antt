-- What the step of a record leaves, and what has to be complete at one that ends no region.
use Rattle.std.proofs.Common.{◌≡◌, ◌≢◌, ◌∙◌, ℕ, Bool, true, false, List, [], ◌∷◌, ◌++◌, length}
use Rattle.std.proofs.Common.{Option, Some, None, refl, sym, ap, subst}
use Rattle.std.specs.Prelude.{if◌then◌else◌, OnOk, IfOk, IsTrue, Result, Ok, Err}
use Rattle.std.proofs.lemmas.Bool.{false≢true}
use Rattle.std.proofs.lemmas.Option.{none-some, same_Some}
use Rattle.ompt_events.specs.declared.records.Record.{Record}
use Rattle.ompt_events.specs.declared.records.Body.TheVariants.{ImplicitTask}
use Rattle.ompt_events.specs.declared.flags.TaskFlags.{TaskFlags}
use Rattle.ompt_events.specs.declared.names.SyncKind.{SyncKind}
use Rattle.ompt_events.specs.declared.names.SyncKind.TheVariants.{Taskwait, Taskgroup}
use Rattle.ompt_events.specs.declared.names.Endpoint.{Endpoint}
use Rattle.ompt_events.specs.declared.names.Endpoint.TheVariants.{Begin, End, BeginEnd}
use Rattle.ompt_events.specs.declared.names.WaitKind.{WaitKind}
use Rattle.ompt_events.specs.declared.names.WaitKind.TheVariants.{Taskwait as ForTaskwait}
use Rattle.ompt_events.specs.declared.names.WaitKind.TheVariants.{Taskgroup as ForTaskgroup}
use Rattle.ompt_events.specs.declared.names.WaitKind.TheVariants.{Barrier as ForBarrier}
use Rattle.ompt_events.specs.declared.records.Membership.{Membership}
use Rattle.ompt_events.specs.Flags as flag
use Rattle.ompt_events.specs.Flags.{has_flag}
use Rattle.ompt_events.specs.Records.{made, joined, begun_initial, region}
use Rattle.ompt_events.specs.Regions.{IsRegion, ended, at_once, is_barrier, waits_for_tasks, barrier_begun}
use Rattle.ompt_events.specs.Coverage.{waited, grouped, synchronised}
use Rattle.ompt_events.specs.Waits.{wait_kind}
use Rattle.online.specs.declared.waits.Waits.{Waits}
use Rattle.online.specs.Waits.{IsWaitsOf, MayFollow, IsCoverComplete, Follows, KeepsWaits, ChangesNothing}
use Rattle.online.specs.Waits.{BeginsTaskgroup, EndsTaskgroup, EndsTaskwait}
use Rattle.online.specs.Teams.{AreTeamsBefore, AreTeamsOf, TeamsFollow, BeginsInitial, Joins}
use Rattle.online.specs.Teams.{EndsBarrier, HasBarrierEnded, FindsRoom, TeamsJoin}
use Rattle.online.specs.Kept.{kept_by, teams_by}
use Rattle.online.specs.WaitSteps.{StepsBefore, TakesStep, TakesRecord, IsOfRegion}
use Rattle.online.proofs.OpenGroupLemmas.{at_last}
use Rattle.online.proofs.TaskgroupLemmas.{region_made}
use Rattle.online.proofs.EndLemmas.{at_once_covers}
use Rattle.online.proofs.EndedLemmas.{ends_last}
use Rattle.online.proofs.WaitLemmas.{nothing_then}
use Rattle.online.proofs.WaitTeamLemmas.{quiet_teams}

-- ---- what kinds of region wait for

-- what is known of a kind by what the end of such a region waits for
abbrev pub IsKindOf : Option WaitKind → SyncKind → Type 0
IsKindOf (Some ForTaskwait) kind = kind ≡ Taskwait
IsKindOf (Some ForTaskgroup) kind = kind ≡ Taskgroup
IsKindOf (Some ForBarrier) kind = is_barrier kind ≡ true
IsKindOf None kind = waits_for_tasks kind ≡ false

wait_kind_of : (kind : SyncKind) → IsKindOf (wait_kind kind) kind
wait_kind_of Taskwait = refl
wait_kind_of Taskgroup = refl
wait_kind_of _ = refl

pub kind_of : (kind : SyncKind) (found : Option WaitKind) → found ≡ wait_kind kind → IsKindOf found kind
kind_of kind found is =
    let P : Option WaitKind → Type 0 = λ w. IsKindOf w kind in
    subst P (sym is) (wait_kind_of kind)

-- a kind that waits for no tasks is no barrier
waits_barrier : (kind : SyncKind) → waits_for_tasks kind ≡ false → is_barrier kind ≡ false
waits_barrier Taskwait none = cc
waits_barrier Taskgroup none = cc
waits_barrier _ none = none

-- ---- records that end no region that waits for tasks

abbrev pub EndsNoWait : Record → Type 0
EndsNoWait r =
    (task : ℕ) (kind : SyncKind) (endpoint : Endpoint) → region r.body ≡ Some (task, kind, endpoint)
    → endpoint ≢ Begin → waits_for_tasks kind ≡ false

pub no_region : (r : Record) → region r.body ≡ None → EndsNoWait r
no_region r none task kind endpoint says apart = absurd (none-some (task, kind, endpoint) (sym none ∙ says))

pub only_begins : (r : Record) (task : ℕ) (kind : SyncKind) → region r.body ≡ Some (task, kind, Begin)
    → EndsNoWait r
only_begins r task kind begins own other endpoint says apart =
    let same = same_Some (task, kind, Begin) (own, other, endpoint) (sym begins ∙ says) in
    absurd (apart (sym (ap (λ (e : ℕ × SyncKind × Endpoint). e.2) same)))

other_kind : (r : Record) (task : ℕ) (kind : SyncKind) (endpoint : Endpoint)
    → region r.body ≡ Some (task, kind, endpoint) → waits_for_tasks kind ≡ false → EndsNoWait r
other_kind r task kind endpoint tells none own other end says apart =
    let same = same_Some (task, kind, endpoint) (own, other, end) (sym tells ∙ says) in
    ap waits_for_tasks (sym (ap (λ (e : ℕ × SyncKind × Endpoint). e.1) same)) ∙ none

-- a region that ends there waits for no tasks
ends_other : (rs : List Record) (r : Record) (own : ℕ) (kind : SyncKind) (begin : ℕ) → EndsNoWait r
    → IsRegion (rs ++ r ∷ []) (length rs) own kind begin → waits_for_tasks kind ≡ false
ends_other rs r own kind begin none (ended is) =
    none own kind End (sym (at_last region rs r) ∙ is.ends) apart
  where
    apart : End ≢ Begin
    apart e = cc
ends_other rs r own kind _ none (at_once says) =
    none own kind BeginEnd (sym (at_last region rs r) ∙ says) apart
  where
    apart : BeginEnd ≢ Begin
    apart e = cc

pub covers_nothing : (rs : List Record) (r : Record) → EndsNoWait r → IsCoverComplete rs r
covers_nothing rs r none task (waited {parent = parent} {begin = begin} ends has) =
    absurd (false≢true (sym (ends_other rs r parent Taskwait begin none ends)))
covers_nothing rs r none task (grouped {parent = parent} {begin = begin} ends has family) =
    absurd (false≢true (sym (ends_other rs r parent Taskgroup begin none ends)))
covers_nothing rs r none task
    (synchronised {own = own} {begin = begin} {kind = kind} number ends barrier begins mate starts has
    family) =
    absurd (false≢true (sym (waits_barrier kind (ends_other rs r own kind begin none ends)) ∙ barrier))

-- ---- records that end no barrier

abbrev pub EndsNoBarrier : Record → Type 0
EndsNoBarrier r =
    (own : ℕ) (kind : SyncKind) (endpoint : Endpoint) → region r.body ≡ Some (own, kind, endpoint)
    → is_barrier kind ≡ true → endpoint ≡ Begin

pub none_ends : (r : Record) → region r.body ≡ None → EndsNoBarrier r
none_ends r none own kind endpoint says barrier = absurd (none-some (own, kind, endpoint) (sym none ∙ says))

begin_ends : (r : Record) (task : ℕ) (kind : SyncKind) → region r.body ≡ Some (task, kind, Begin)
    → EndsNoBarrier r
begin_ends r task kind begins own other endpoint says barrier =
    let same = same_Some (task, kind, Begin) (own, other, endpoint) (sym begins ∙ says) in
    sym (ap (λ (e : ℕ × SyncKind × Endpoint). e.2) same)

other_ends : (r : Record) (task : ℕ) (kind : SyncKind) (endpoint : Endpoint)
    → region r.body ≡ Some (task, kind, endpoint) → is_barrier kind ≡ false → EndsNoBarrier r
other_ends r task kind endpoint tells none own other end says barrier =
    let same = same_Some (task, kind, endpoint) (own, other, end) (sym tells ∙ says) in
    absurd
    (false≢true
    (sym none ∙ ap is_barrier (ap (λ (e : ℕ × SyncKind × Endpoint). e.1) same) ∙ barrier))

-- ---- steps

-- the step of a record that says this
by_step : (says : Record → Type 0) (r : Record) (old new : Waits) → says r
    → Follows says (kept_by old) (kept_by new)
    → TeamsFollow says (kept_by old) (teams_by old) (kept_by new) (teams_by new) → StepsBefore r old new
by_step says r old new told tasks teams = record {
  tasks = λ rs follows is. tasks rs r told follows is;
  teams = λ rs follows room waits is. teams rs r told follows waits is;
}

-- where it ends no barrier that is all
step_whole : (r : Record) (old new : Waits) → EndsNoBarrier r → StepsBefore r old new → TakesStep r old new
step_whole r old new none step = record {
  tasks = step.tasks;
  teams = λ rs follows room waits is.
      ends_last rs r (kept_by new) (teams_by new) none (step.teams rs follows room waits is);
}

-- so of one that is of no region
pub step_task : (says : Record → Type 0) (r : Record) (old new : Waits) → region r.body ≡ None → says r
    → Follows says (kept_by old) (kept_by new)
    → TeamsFollow says (kept_by old) (teams_by old) (kept_by new) (teams_by new) → TakesStep r old new
step_task says r old new none told tasks teams =
    step_whole r old new (none_ends r none) (by_step says r old new told tasks teams)

-- the same behind a call that may fail
pub root_on_ok : {T E : Type 0} (result : Result T E) (says : Record → Type 0) (old new : Waits)
    → OnOk result (Follows says (kept_by old) (kept_by new))
    → OnOk result (TeamsFollow says (kept_by old) (teams_by old) (kept_by new) (teams_by new))
    → OnOk result ((r : Record) → region r.body ≡ None → says r → TakesStep r old new)
root_on_ok (Ok value) says old new tasks teams = λ r none told. step_task says r old new none told tasks teams
root_on_ok (Err error) says old new tasks teams = tasks

-- of a member that begins, where it finds room in its team
pub join_on_ok : {T E : Type 0} (result : Result T E) (root parallel size : ℕ) (old new : Waits)
    → OnOk result (Follows (Joins root parallel size) (kept_by old) (kept_by new))
    → OnOk result (TeamsJoin root parallel size (kept_by old) (teams_by old) (kept_by new) (teams_by new))
    → OnOk result ((r : Record) → region r.body ≡ None → Joins root parallel size r → TakesStep r old new)
join_on_ok (Ok value) root parallel size old new tasks teams = λ r none told.
    step_whole r old new (none_ends r none)
    (record {
      tasks = λ rs follows is. tasks rs r told follows is;
      teams = λ rs follows room waits is. teams rs r told follows room waits is;
    })
join_on_ok (Err error) root parallel size old new tasks teams = tasks

-- and behind one that may refuse
pub step_if_ok : {E : Type 0} (result : Result Bool E) (says : Record → Type 0) (r : Record) (old new : Waits)
    → region r.body ≡ None → says r
    → IfOk result (λ taken. IsTrue taken → Follows says (kept_by old) (kept_by new))
    → IfOk result (λ taken.
    IsTrue taken → TeamsFollow says (kept_by old) (teams_by old) (kept_by new) (teams_by new))
    → IfOk result (λ taken. IsTrue taken → TakesStep r old new)
step_if_ok (Ok taken) says r old new none told tasks teams =
    λ yes. step_task says r old new none told (tasks yes) (teams yes)
step_if_ok (Err error) says r old new none told tasks teams = tasks

quiet : (r : Record) (kept : Waits) → ChangesNothing r → barrier_begun (region r.body) ≡ None
    → StepsBefore r kept kept
quiet r kept changes begins = record {
  tasks = λ rs follows is. nothing_then (kept_by kept) rs r changes follows is;
  teams = λ rs follows room waits is.
      quiet_teams (kept_by kept) (teams_by kept) rs r (changes.0, begins) follows waits is;
}

-- a record that makes no task, and is of no region
pub quiet_task : (r : Record) (kept : Waits) → made r.body ≡ None → region r.body ≡ None
    → TakesStep r kept kept
quiet_task r kept unmade none =
    step_whole r kept kept (none_ends r none)
    (quiet r kept (
      unmade,
      λ task says. none-some (task, Taskgroup, Begin) (sym none ∙ says),
      λ task says. none-some (task, Taskgroup, End) (sym none ∙ says),
    )
    (ap barrier_begun none))

-- one of a region, but for the begin or the end of a taskgroup, and the begin of a barrier
quiet_region : (r : Record) (kept : Waits) (task : ℕ) (kind : SyncKind) (endpoint : Endpoint)
    → region r.body ≡ Some (task, kind, endpoint) → (kind ≡ Taskgroup → endpoint ≡ BeginEnd)
    → barrier_begun (Some (task, kind, endpoint)) ≡ None → StepsBefore r kept kept
quiet_region r kept task kind endpoint says once begins =
    quiet r kept (region_made task kind endpoint r.body says, apart Begin (λ e. cc), apart End (λ e. cc))
    (ap barrier_begun says ∙ begins)
  where
    apart : (other : Endpoint) → other ≢ BeginEnd → (own : ℕ) → region r.body ≢ Some (own, Taskgroup, other)
    apart other differs own tells =
        let same = same_Some (task, kind, endpoint) (own, Taskgroup, other) (sym says ∙ tells) in
        differs
        (sym (ap (λ (e : ℕ × SyncKind × Endpoint). e.2) same)
        ∙ once (ap (λ (e : ℕ × SyncKind × Endpoint). e.1) same))

none_begun : (task : ℕ) (kind : SyncKind) (endpoint : Endpoint) → is_barrier kind ≡ false
    → barrier_begun (Some (task, kind, endpoint)) ≡ None
none_begun task kind End other = refl
none_begun task kind Begin other = ap (λ (b : Bool). if b then Some task else None) other
none_begun task kind BeginEnd other = ap (λ (b : Bool). if b then Some task else None) other

-- one that is of no barrier
quiet_other : (r : Record) (kept : Waits) (task : ℕ) (kind : SyncKind) (endpoint : Endpoint)
    → region r.body ≡ Some (task, kind, endpoint) → (kind ≡ Taskgroup → endpoint ≡ BeginEnd)
    → is_barrier kind ≡ false → TakesStep r kept kept
quiet_other r kept task kind endpoint says once other =
    step_whole r kept kept (other_ends r task kind endpoint says other)
    (quiet_region r kept task kind endpoint says once (none_begun task kind endpoint other))

-- an implicit task begins, where the flags have no `initial`
pub joins : (root parallel size index : ℕ) (flags : TaskFlags) (r : Record)
    → has_flag flags.0 flag.initial ≡ false → r.body ≡ ImplicitTask Begin size index flags parallel root
    → Joins root parallel size r
joins root parallel size index flags r off is =
    (member, ap joined is ∙ ap (λ (b : Bool). if b then None else Some member) off, refl, refl, refl)
  where
    member : Membership
    member = record { parallel = parallel; actual = size; index = index; member = root }

-- and an initial task, where they have it
pub begins_initial : (root parallel size index : ℕ) (flags : TaskFlags) (r : Record)
    → has_flag flags.0 flag.initial ≡ true → r.body ≡ ImplicitTask Begin size index flags parallel root
    → BeginsInitial root r
begins_initial root parallel size index flags r on is =
    ap begun_initial is ∙ ap (λ (b : Bool). if b then Some root else None) on

-- ---- a record of a region

pub with_endpoint : (task seen : ℕ) (kind : SyncKind) (endpoint other : Endpoint) (r : Record)
    → IsOfRegion task kind endpoint seen r → endpoint ≡ other → IsOfRegion task kind other seen r
with_endpoint task seen kind endpoint other r is same =
    let P : Endpoint → Type 0 = λ e. IsOfRegion task kind e seen r in subst P same is

-- where it ends no region that waits for tasks
no_end : (r : Record) (old new : Waits) → TakesStep r old new → EndsNoWait r → TakesRecord r old new
no_end r old new step none = record {
  step = step;
  complete = λ rs follows room waits is. covers_nothing rs r none;
}

pub other_region : (task seen : ℕ) (kind : SyncKind) (endpoint : Endpoint) (r : Record) (kept : Waits)
    → waits_for_tasks kind ≡ false → IsOfRegion task kind endpoint seen r → TakesRecord r kept kept
other_region task seen kind endpoint r kept none is =
    no_end r kept kept
    (quiet_other r kept task kind endpoint is.says
    (λ same. absurd (false≢true (sym none ∙ ap waits_for_tasks same))) (waits_barrier kind none))
    (other_kind r task kind endpoint is.says none)

taskwait_step : (task seen : ℕ) (endpoint : Endpoint) (r : Record) (kept : Waits)
    → IsOfRegion task Taskwait endpoint seen r → TakesStep r kept kept
taskwait_step task seen endpoint r kept is =
    quiet_other r kept task Taskwait endpoint is.says apart refl
  where
    apart : Taskwait ≡ Taskgroup → endpoint ≡ BeginEnd
    apart e = cc

pub taskwait_begins : (task seen : ℕ) (r : Record) (kept : Waits) → IsOfRegion task Taskwait Begin seen r
    → TakesRecord r kept kept
taskwait_begins task seen r kept is =
    no_end r kept kept (taskwait_step task seen Begin r kept is) (only_begins r task Taskwait is.says)

pub taskwait_ends : (task seen : ℕ) (endpoint : Endpoint) (r : Record) (kept : Waits)
    → IsOfRegion task Taskwait endpoint seen r
    → ((rs : List Record) (r : Record) → EndsTaskwait task seen r → IsWaitsOf rs (kept_by kept)
    → IsCoverComplete rs r)
    → TakesRecord r kept kept
taskwait_ends task seen endpoint r kept is over = record {
  step = taskwait_step task seen endpoint r kept is;
  complete = λ rs follows room waits teams. over rs r ((endpoint, is.says), is.seen_is) waits;
}

pub taskgroup_begins : (task seen : ℕ) (r : Record) (old new : Waits) → IsOfRegion task Taskgroup Begin seen r
    → Follows (BeginsTaskgroup task) (kept_by old) (kept_by new)
    → TeamsFollow (BeginsTaskgroup task) (kept_by old) (teams_by old) (kept_by new) (teams_by new)
    → TakesRecord r old new
taskgroup_begins task seen r old new is tasks teams =
    no_end r old new
    (step_whole r old new (begin_ends r task Taskgroup is.says)
    (by_step (BeginsTaskgroup task) r old new is.says tasks teams))
    (only_begins r task Taskgroup is.says)

pub taskgroup_ends : (task seen : ℕ) (r : Record) (old new : Waits) → IsOfRegion task Taskgroup End seen r
    → Follows (EndsTaskgroup task seen) (kept_by old) (kept_by new)
    → TeamsFollow (EndsTaskgroup task seen) (kept_by old) (teams_by old) (kept_by new) (teams_by new)
    → ((rs : List Record) (r : Record) → EndsTaskgroup task seen r → MayFollow rs r
    → IsWaitsOf rs (kept_by old) → IsCoverComplete rs r)
    → TakesRecord r old new
taskgroup_ends task seen r old new is tasks teams over = record {
  step =
      step_whole r old new (other_ends r task Taskgroup End is.says refl)
      (by_step (EndsTaskgroup task seen) r old new (is.says, is.seen_is) tasks teams);
  complete = λ rs follows room waits there. over rs r (is.says, is.seen_is) follows waits;
}

pub taskgroup_at_once : (task seen : ℕ) (r : Record) (kept : Waits)
    → IsOfRegion task Taskgroup BeginEnd seen r → TakesRecord r kept kept
taskgroup_at_once task seen r kept is = record {
  step = quiet_other r kept task Taskgroup BeginEnd is.says (λ same. refl) refl;
  complete = λ rs follows room waits there. at_once_covers rs r task is.says;
}

-- ---- a record of a barrier

pub quiet_barrier : (task : ℕ) (kind : SyncKind) (endpoint : Endpoint) (r : Record) (kept : Waits)
    → region r.body ≡ Some (task, kind, endpoint) → is_barrier kind ≡ true → endpoint ≡ End
    → StepsBefore r kept kept
quiet_barrier task kind endpoint r kept says barrier is_end =
    quiet_region r kept task kind endpoint says
    (λ same. absurd (false≢true (sym (ap is_barrier same) ∙ barrier)))
    (ap (λ e. barrier_begun (Some (task, kind, e))) is_end)

pub barrier_begins : (task seen : ℕ) (kind : SyncKind) (r : Record) (old new : Waits)
    → IsOfRegion task kind Begin seen r → StepsBefore r old new → TakesRecord r old new
barrier_begins task seen kind r old new is step =
    no_end r old new (step_whole r old new (begin_ends r task kind is.says) step)
    (only_begins r task kind is.says)

pub barrier_ends : (task seen : ℕ) (kind : SyncKind) (endpoint : Endpoint) (r : Record) (old step new : Waits)
    → is_barrier kind ≡ true → IsOfRegion task kind endpoint seen r → StepsBefore r old step
    → KeepsWaits (kept_by step) (kept_by new)
    → ((rs : List Record) (r : Record) → EndsBarrier task seen r → MayFollow rs r
    → IsWaitsOf (rs ++ r ∷ []) (kept_by step)
    → AreTeamsBefore (rs ++ r ∷ []) (length rs) (kept_by step) (teams_by step)
    → HasBarrierEnded rs r (kept_by new) (teams_by new))
    → TakesRecord r old new
barrier_ends task seen kind endpoint r old step new barrier is steps keeps over = record {
  step = record {
    tasks = λ rs follows waits. keeps (rs ++ r ∷ []) follows.once (steps.tasks rs follows waits);
    teams = λ rs follows room waits there. (ended rs follows room waits there).teams_are;
  };
  complete = λ rs follows room waits there. (ended rs follows room waits there).complete;
}
  where
    ends : EndsBarrier task seen r
    ends = record {
      kind = kind;
      endpoint = endpoint;
      says = is.says;
      barrier = barrier;
      seen_is = is.seen_is;
    }

    ended : (rs : List Record) → MayFollow rs r → FindsRoom rs r → IsWaitsOf rs (kept_by old)
        → AreTeamsOf rs (kept_by old) (teams_by old)
        → HasBarrierEnded rs r (kept_by new) (teams_by new)
    ended rs follows room waits there =
        over rs r ends follows (steps.tasks rs follows waits) (steps.teams rs follows room waits there)
