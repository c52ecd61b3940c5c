-- What the begin or end of a region that waits for tasks says of barriers.
use Rattle.std.proofs.Common.{◌≡◌, ◌∙◌, ℕ, List, Option, Some, None, Bool, true, false, refl, sym, ap}
use Rattle.std.proofs.lemmas.Option.{none-some, same_Some}
use Rattle.std.specs.Prelude.{if◌then◌else◌}
use Rattle.ompt_events.specs.declared.names.Endpoint.{Endpoint}
use Rattle.ompt_events.specs.declared.names.Endpoint.TheVariants.{Begin, End, BeginEnd}
use Rattle.ompt_events.specs.declared.names.SyncKind.{SyncKind}
use Rattle.ompt_events.specs.declared.names.SyncKind.TheVariants.{Barrier, BarrierImplicit, BarrierExplicit}
use Rattle.ompt_events.specs.declared.names.SyncKind.TheVariants.{BarrierImplementation, Taskwait, Taskgroup}
use Rattle.ompt_events.specs.declared.names.SyncKind.TheVariants.{Reduction, BarrierImplicitWorkshare}
use Rattle.ompt_events.specs.declared.names.SyncKind.TheVariants.{BarrierImplicitParallel, BarrierTeams}
use Rattle.ompt_events.specs.declared.names.WaitKind.{WaitKind}
use Rattle.ompt_events.specs.declared.names.WaitKind.TheVariants.{Barrier as ForBarrier}
use Rattle.ompt_events.specs.Records.{region}
use Rattle.ompt_events.specs.Places.{at}
use Rattle.ompt_events.specs.Regions.{is_barrier, barrier_begun}
use Rattle.ompt_events.specs.Waits.{wait_kind}
use Rattle.task_tree.specs.Runs.{RunView, IsWaitEvent, IsNoWaitEvent}
use Rattle.task_tree.specs.Subjects.{Calls}
use Rattle.task_states.specs.Regions.{IsRegionBegin}
use Rattle.teams.specs.Missed.{IsBarrierEnd, EndsNoBarrier}
use Rattle.teams.proofs.RegionEndLemmas.{ends_at}
use Rattle.teams.proofs.MissedLemmas.{other_kind}

-- ---- which kinds are barriers

pub barrier_kind : (sync : SyncKind) → wait_kind sync ≡ Some ForBarrier → is_barrier sync ≡ true
barrier_kind Barrier is = refl
barrier_kind BarrierImplicit is = refl
barrier_kind BarrierExplicit is = refl
barrier_kind BarrierImplementation is = cc
barrier_kind Taskwait is = cc
barrier_kind Taskgroup is = cc
barrier_kind Reduction is = cc
barrier_kind BarrierImplicitWorkshare is = refl
barrier_kind BarrierImplicitParallel is = refl
barrier_kind BarrierTeams is = cc

pub kind_of_barrier : (sync : SyncKind) → is_barrier sync ≡ true → wait_kind sync ≡ Some ForBarrier
kind_of_barrier Barrier is = refl
kind_of_barrier BarrierImplicit is = refl
kind_of_barrier BarrierExplicit is = refl
kind_of_barrier BarrierImplementation is = cc
kind_of_barrier Taskwait is = cc
kind_of_barrier Taskgroup is = cc
kind_of_barrier Reduction is = cc
kind_of_barrier BarrierImplicitWorkshare is = refl
kind_of_barrier BarrierImplicitParallel is = refl
kind_of_barrier BarrierTeams is = cc

no_barrier : (sync : SyncKind) → (wait_kind sync ≡ Some ForBarrier → ⊥) → is_barrier sync ≡ false
no_barrier sync other = of (is_barrier sync) refl
  where
    of : (b : Bool) → is_barrier sync ≡ b → b ≡ false
    of false e = refl
    of true e = absurd (other (kind_of_barrier sync e))

-- a region that waits for the tasks of no barrier is none
pub other_wait : (sync : SyncKind) (kind : WaitKind) → wait_kind sync ≡ Some kind → (kind ≡ ForBarrier → ⊥)
    → is_barrier sync ≡ false
other_wait sync kind is apart =
    no_barrier sync (λ barrier. apart (same_Some kind ForBarrier (sym is ∙ barrier)))

pub no_wait : (sync : SyncKind) → wait_kind sync ≡ None → is_barrier sync ≡ false
no_wait sync none = no_barrier sync (λ barrier. none-some ForBarrier (sym none ∙ barrier))

-- ---- the begin of a barrier

begun_none : (says : Option (ℕ × SyncKind × Endpoint))
    → ((task : ℕ) (sync : SyncKind) (endpoint : Endpoint) → says ≡ Some (task, sync, endpoint)
    → is_barrier sync ≡ false)
    → barrier_begun says ≡ None
begun_none None other = refl
begun_none (Some (task, sync, End)) other = refl
begun_none (Some (task, sync, Begin)) other =
    ap (λ b. if b then Some task else None) (other task sync Begin refl)
begun_none (Some (task, sync, BeginEnd)) other =
    ap (λ b. if b then Some task else None) (other task sync BeginEnd refl)

called_none : (tasks : List ℕ) (found : Option ℕ) → found ≡ None → Calls tasks found None
called_none tasks None is = refl
called_none tasks (Some task) is = absurd (none-some task (sym is))

pub no_event_begun : (run : RunView) (i : ℕ) → IsNoWaitEvent run i
    → Calls run.family.tasks (barrier_begun (at region run.records i)) None
no_event_begun run i silent =
    called_none run.family.tasks (barrier_begun (at region run.records i))
    (begun_none (at region run.records i)
    (λ task sync endpoint says. no_wait sync (silent task sync endpoint says)))

-- ---- the end of a barrier

pub no_event_end : (run : RunView) (i : ℕ) → IsNoWaitEvent run i → EndsNoBarrier run.records i
no_event_end run i silent = λ task begin sync ends barrier.
    let is = ends_at run.records i task begin sync ends in
    none-some ForBarrier (sym (silent task sync is.endpoint is.says) ∙ kind_of_barrier sync barrier)

pub other_event_end : (run : RunView) (i index : ℕ) (kind : WaitKind) (endpoint : Endpoint)
    → IsWaitEvent run i index kind endpoint → (kind ≡ ForBarrier → ⊥) → EndsNoBarrier run.records i
other_event_end run i index kind endpoint event apart =
    other_kind run.records i event.task event.sync endpoint event.says
    (other_wait event.sync kind event.waits apart)

pub event_end : (run : RunView) (i index begin : ℕ) (kind : WaitKind) (endpoint : Endpoint)
    → IsWaitEvent run i index kind endpoint → kind ≡ ForBarrier → IsRegionBegin run.records i begin
    → IsBarrierEnd run i index begin
event_end run i index begin kind endpoint event is begins = record {
  barrier = record {
    task = event.task;
    kind = event.sync;
    ends = begins event.task event.sync endpoint event.says;
    barrier = barrier_kind event.sync (event.waits ∙ ap Some is);
  };
  indexed = event.indexed;
}
