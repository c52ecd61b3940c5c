-- How what single records say hangs together.
use Rattle.std.proofs.Common.{◌≡◌, ℕ, List, Option, Some, None, refl, ap, ◌⊎◌, inl, inr, Bool, true, false}
use Rattle.std.proofs.Common.{cond}
use Rattle.std.specs.Prelude.{slice_get, option_and_then, option_map}
use Rattle.std.proofs.lemmas.Option.{none-some, same_Some}
use Rattle.ompt_events.specs.declared.records.Record.{Record}
use Rattle.ompt_events.specs.declared.records.Body.{Body}
use Rattle.ompt_events.specs.declared.records.Body.TheVariants.{ImplicitTask, TaskCreate, SyncRegion}
use Rattle.ompt_events.specs.declared.names.Endpoint.TheVariants.{Begin}
use Rattle.ompt_events.specs.Records.{begun_root, created, creation, made, running, region, started, finish}
use Rattle.ompt_events.specs.Records.{joined, begun_initial}
use Rattle.ompt_events.specs.Places.{at}
use Rattle.ompt_events.specs.declared.names.Endpoint.{Endpoint}
use Rattle.ompt_events.specs.declared.names.SyncKind.{SyncKind}
use Rattle.ompt_events.specs.declared.records.Membership.{Membership}
use Rattle.ompt_events.specs.Flags.{has_flag}
use Rattle.ompt_events.specs.Flags as flag

-- what follows for each record follows at a place
pub at_through : {X Y : Type 0} (f : Body → Option X) (g : Body → Option Y) (x : X) (y : Y) (rs : List Record)
    (i : ℕ)
    → ((b : Body) → f b ≡ Some x → g b ≡ Some y) → at f rs i ≡ Some x → at g rs i ≡ Some y
at_through f g x y rs i follows says = through f g x y follows (slice_get rs i) says
  where
    through : {X Y : Type 0} (f : Body → Option X) (g : Body → Option Y) (x : X) (y : Y)
        → ((b : Body) → f b ≡ Some x → g b ≡ Some y) → (o : Option Record)
        → option_and_then (λ (r : Record). f r.body) o ≡ Some x
        → option_and_then (λ (r : Record). g r.body) o ≡ Some y
    through f g x y follows None says = absurd (none-some x says)
    through f g x y follows (Some r) says = follows r.body says

pub begun_made : (task : ℕ) (b : Body) → begun_root b ≡ Some task → made b ≡ Some task
begun_made task (ImplicitTask Begin actual index flags parallel root) says = says
begun_made task _ says = absurd (none-some task says)

pub created_made : (task : ℕ) (b : Body) → created b ≡ Some task → made b ≡ Some task
created_made task (TaskCreate deps flags parent child) says = says
created_made task _ says = absurd (none-some task says)

pub creation_created : (parent task : ℕ) (b : Body) → creation b ≡ Some (parent, task) → created b ≡ Some task
creation_created parent task b says = ap (option_map (λ (p : ℕ × ℕ). p.1)) says

pub creation_running : (parent task : ℕ) (b : Body) → creation b ≡ Some (parent, task)
    → running b ≡ Some parent
creation_running parent task (TaskCreate deps flags own child) says =
    ap (option_map (λ (p : ℕ × ℕ). p.0)) says
creation_running parent task _ says = absurd (none-some (parent, task) says)

-- a record that makes a task begins it as a root or creates it
pub made_cases : (task : ℕ) (b : Body) → made b ≡ Some task
    → (begun_root b ≡ Some task) ⊎ (created b ≡ Some task)
made_cases task (ImplicitTask Begin actual index flags parallel root) says = inl says
made_cases task (TaskCreate deps flags parent child) says = inr says
made_cases task _ says = absurd (none-some task says)

-- and not both
pub root_or_created : (root task : ℕ) (b : Body) → begun_root b ≡ Some root → created b ≡ Some task → ⊥
root_or_created root task (TaskCreate deps flags parent child) begins creates = none-some root begins
root_or_created root task _ begins creates = none-some task creates

pub begun_at_made : (task : ℕ) (rs : List Record) (i : ℕ) → at begun_root rs i ≡ Some task
    → at made rs i ≡ Some task
begun_at_made task rs i = at_through begun_root made task task rs i (begun_made task)

pub created_at_made : (task : ℕ) (rs : List Record) (i : ℕ) → at created rs i ≡ Some task
    → at made rs i ≡ Some task
created_at_made task rs i = at_through created made task task rs i (created_made task)

pub creation_at_created : (parent task : ℕ) (rs : List Record) (i : ℕ)
    → at creation rs i ≡ Some (parent, task) → at created rs i ≡ Some task
creation_at_created parent task rs i =
    at_through creation created (parent, task) task rs i (creation_created parent task)

pub creation_at_running : (parent task : ℕ) (rs : List Record) (i : ℕ)
    → at creation rs i ≡ Some (parent, task) → at running rs i ≡ Some parent
creation_at_running parent task rs i =
    at_through creation running (parent, task) parent rs i (creation_running parent task)

-- a task that is created has a parent
pub created_by : (task : ℕ) (b : Body) → created b ≡ Some task
    → (parent : ℕ) × (creation b ≡ Some (parent, task))
created_by task (TaskCreate deps flags parent child) says =
    (parent, ap (λ c. Some (parent, c)) (same_Some child task says))
created_by task _ says = absurd (none-some task says)

pub created_at_creation : (task : ℕ) (rs : List Record) (i : ℕ) → at created rs i ≡ Some task
    → (parent : ℕ) × (at creation rs i ≡ Some (parent, task))
created_at_creation task rs i says = there (slice_get rs i) says
  where
    there : (o : Option Record) → option_and_then (λ (r : Record). created r.body) o ≡ Some task
        → (parent : ℕ) × (option_and_then (λ (r : Record). creation r.body) o ≡ Some (parent, task))
    there None says = absurd (none-some task says)
    there (Some r) says = created_by task r.body says

-- a record of a region is its task's own
pub region_running : (task : ℕ) (kind : SyncKind) (endpoint : Endpoint) (b : Body)
    → region b ≡ Some (task, kind, endpoint) → running b ≡ Some task
region_running task kind endpoint (SyncRegion k e parallel own) says =
    ap Some (ap (λ (p : ℕ × SyncKind × Endpoint). p.0) (same_Some (own, k, e) (task, kind, endpoint) says))
region_running task kind endpoint _ says = absurd (none-some (task, kind, endpoint) says)

-- a record of a region starts no task
pub region_starts : (task : ℕ) (kind : SyncKind) (endpoint : Endpoint) (b : Body)
    → region b ≡ Some (task, kind, endpoint) → started b ≡ None
region_starts task kind endpoint (SyncRegion k e parallel own) says = refl
region_starts task kind endpoint _ says = absurd (none-some (task, kind, endpoint) says)

pub created_unfinished : (body : Body) (task : ℕ) → created body ≡ Some task → finish body ≡ None
created_unfinished (TaskCreate deps flags parent child) task is = refl
created_unfinished _ task is = absurd (none-some task is)

pub member_made : (m : Membership) (b : Body) → joined b ≡ Some m → made b ≡ Some m.member
member_made m (ImplicitTask Begin actual index flags parallel task) says =
    begins (has_flag flags.0 flag.initial) says
  where
    begins : (b : Bool)
        → cond b None (Some (record { parallel = parallel; actual = actual; index = index; member = task }))
        ≡ Some m
        → Some task ≡ Some m.member
    begins true is = absurd (none-some m is)
    begins false is =
        ap Some
        (ap (λ (x : Membership). x.member)
        (same_Some (record { parallel = parallel; actual = actual; index = index; member = task }) m
        is))
member_made m _ says = absurd (none-some m says)

pub initial_made : (task : ℕ) (b : Body) → begun_initial b ≡ Some task → made b ≡ Some task
initial_made task (ImplicitTask Begin actual index flags parallel root) says =
    begins (has_flag flags.0 flag.initial) says
  where
    begins : (b : Bool) → cond b (Some root) None ≡ Some task → Some root ≡ Some task
    begins true is = is
    begins false is = absurd (none-some task is)
initial_made task _ says = absurd (none-some task says)

pub member_begun : (m : Membership) (b : Body) → joined b ≡ Some m → begun_root b ≡ Some m.member
member_begun m (ImplicitTask Begin actual index flags parallel task) says =
    member_made m (ImplicitTask Begin actual index flags parallel task) says
member_begun m _ says = absurd (none-some m says)

pub initial_begun : (task : ℕ) (b : Body) → begun_initial b ≡ Some task → begun_root b ≡ Some task
initial_begun task (ImplicitTask Begin actual index flags parallel root) says =
    initial_made task (ImplicitTask Begin actual index flags parallel root) says
initial_begun task _ says = absurd (none-some task says)
