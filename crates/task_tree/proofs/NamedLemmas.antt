-- Which of the two tasks of a record is meant by each of the things that records say.
use Rattle.std.proofs.Common.{◌≡◌, ℕ, List, Option, Some, None, Bool, true, false, ap}
use Rattle.std.proofs.lemmas.Option.{none-some, same_Some}
use Rattle.std.specs.Prelude.{if◌then◌else◌, option_map, slice_get}
use Rattle.ompt_events.specs.declared.records.Record.{Record}
use Rattle.ompt_events.specs.declared.records.Body.{Body}
use Rattle.ompt_events.specs.declared.records.Body.TheVariants.{ImplicitTask, Dependences, TaskSchedule}
use Rattle.ompt_events.specs.declared.records.Body.TheVariants.{SyncRegion, Cancel}
use Rattle.ompt_events.specs.declared.records.Membership.{Membership}
use Rattle.ompt_events.specs.declared.records.Part.{Part}
use Rattle.ompt_events.specs.declared.records.Part.TheVariants.{Whole}
use Rattle.ompt_events.specs.declared.deps.Dep.{Dep}
use Rattle.ompt_events.specs.declared.names.Endpoint.{Endpoint}
use Rattle.ompt_events.specs.declared.names.Endpoint.TheVariants.{Begin}
use Rattle.ompt_events.specs.declared.names.SyncKind.{SyncKind}
use Rattle.ompt_events.specs.Names.{status_part}
use Rattle.ompt_events.specs.Flags as flag
use Rattle.ompt_events.specs.Flags.{has_flag}
use Rattle.ompt_events.specs.Records.{joined, begun_initial, dependences, started, finish, region}
use Rattle.ompt_events.specs.Places.{at}
use Rattle.task_tree.specs.Subjects.{Calls}
use Rattle.packed_trace.specs.Named.{subject, object}
use Rattle.ompt_events.proofs.RecordLemmas.{at_through}
use Rattle.task_tree.proofs.SubjectLemmas.{call_index}

-- the index of a task that a record is of, or that it names second
pub subject_index : {X : Type 0} (f : Body → Option X) (x : X) (task : ℕ) (rs : List Record) (i : ℕ)
    (tasks : List ℕ) (slot : Option ℕ)
    → ((b : Body) → f b ≡ Some x → subject b ≡ Some task) → Calls tasks (at subject rs i) slot
    → at f rs i ≡ Some x → (index : ℕ) × (slot ≡ Some index) × (slice_get tasks index ≡ Some task)
subject_index f x task rs i tasks slot follows calls says =
    call_index tasks (at subject rs i) slot task calls (at_through f subject x task rs i follows says)

-- ---- the task that the record is of

if_some : {X : Type 0} (test : Bool) (x y : X) → (if test then Some x else None) ≡ Some y → x ≡ y
if_some true x y is = same_Some x y is
if_some false x y is = absurd (none-some y is)

if_none : {X : Type 0} (test : Bool) (x y : X) → (if test then None else Some x) ≡ Some y → x ≡ y
if_none true x y is = absurd (none-some y is)
if_none false x y is = same_Some x y is

pub joined_subject : (m : Membership) (b : Body) → joined b ≡ Some m → subject b ≡ Some m.member
joined_subject m (ImplicitTask Begin actual number flags parallel own) is =
    ap (λ (x : Membership). Some x.member)
    (if_none (has_flag flags.0 flag.initial)
    (record { parallel = parallel; actual = actual; index = number; member = own }) m is)
joined_subject m _ is = absurd (none-some m is)

pub begun_initial_subject : (task : ℕ) (b : Body) → begun_initial b ≡ Some task → subject b ≡ Some task
begun_initial_subject task (ImplicitTask Begin actual number flags parallel own) is =
    ap Some (if_some (has_flag flags.0 flag.initial) own task is)
begun_initial_subject task _ is = absurd (none-some task is)

pub dependences_subject : (task : ℕ) (items : List Dep) (b : Body) → dependences b ≡ Some (task, items)
    → subject b ≡ Some task
dependences_subject task items (Dependences own list) is =
    ap (λ (p : ℕ × List Dep). Some p.0) (same_Some (own, list) (task, items) is)
dependences_subject task items _ is = absurd (none-some (task, items) is)

pub finish_subject : (task : ℕ) (part : Part) (b : Body) → finish b ≡ Some (task, part)
    → subject b ≡ Some task
finish_subject task part (TaskSchedule status turns prior next claimed) is = with_part (status_part status) is
  where
    with_part : (o : Option Part)
        → option_map {U = ℕ × Part} (λ (p : Part). (prior, p)) o ≡ Some (task, part)
        → Some prior ≡ Some task
    with_part None is' = absurd (none-some (task, part) is')
    with_part (Some p) is' = ap (λ (q : ℕ × Part). Some q.0) (same_Some (prior, p) (task, part) is')
finish_subject task part (Cancel flags own claimed) is =
    ap (λ (q : ℕ × Part). Some q.0)
    (if_some (has_flag flags.0 flag.discarded_task) (own, Whole) (task, part) is)
finish_subject task part _ is = absurd (none-some (task, part) is)

pub region_subject : (task : ℕ) (kind : SyncKind) (endpoint : Endpoint) (b : Body)
    → region b ≡ Some (task, kind, endpoint) → subject b ≡ Some task
region_subject task kind endpoint (SyncRegion k e parallel own) is =
    ap (λ (p : ℕ × SyncKind × Endpoint). Some p.0) (same_Some (own, k, e) (task, kind, endpoint) is)
region_subject task kind endpoint _ is = absurd (none-some (task, kind, endpoint) is)

-- ---- the second task

pub started_object : (task : ℕ) (b : Body) → started b ≡ Some task → object b ≡ Some task
started_object task (TaskSchedule status turns prior next claimed) is = is
started_object task _ is = absurd (none-some task is)
