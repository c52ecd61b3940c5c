-- What the object of each record says: the record.
use Rattle.std.proofs.Common.{◌≡◌, ℕ, Bool, Option, Some, None, List, [], ◌∷◌, true, false, refl, sym, ◌∙◌}
use Rattle.std.proofs.Common.{cond, map, ap, subst}
use Rattle.std.specs.Prelude.{option_map, is_some, ◌==◌}
use Rattle.ompt_events.specs.declared.deps.Dep.{Dep}
use Rattle.ompt_events.specs.declared.records.Record.{Record}
use Rattle.ompt_events.specs.declared.records.Claim.{Claim}
use Rattle.ompt_events.specs.declared.records.Turns.{Turns}
use Rattle.ompt_events.specs.declared.records.Part.{Part}
use Rattle.ompt_events.specs.declared.records.Part.TheVariants.{Whole}
use Rattle.ompt_events.specs.declared.flags.TaskFlags.{TaskFlags}
use Rattle.ompt_events.specs.declared.flags.CancelFlags.{CancelFlags}
use Rattle.ompt_events.specs.declared.records.Body.{Body}
use Rattle.ompt_events.specs.declared.records.Body.TheVariants.{ThreadBegin, ThreadEnd, ParallelBegin}
use Rattle.ompt_events.specs.declared.records.Body.TheVariants.{ParallelEnd, ImplicitTask, TaskCreate}
use Rattle.ompt_events.specs.declared.records.Body.TheVariants.{Dependences, TaskSchedule, SyncRegion}
use Rattle.ompt_events.specs.declared.records.Body.TheVariants as body
use Rattle.ompt_events.specs.declared.names.Status.{Status}
use Rattle.ompt_events.specs.declared.names.Status.TheVariants.{Complete, Yield, Cancel, Detach, EarlyFulfill}
use Rattle.ompt_events.specs.declared.names.Status.TheVariants.{LateFulfill, Switch, TaskwaitComplete}
use Rattle.ompt_events.specs.declared.names.Endpoint.{Endpoint}
use Rattle.ompt_events.specs.declared.names.Endpoint.TheVariants.{Begin, End, BeginEnd}
use Rattle.ompt_events.specs.declared.names.SyncKind.{SyncKind}
use Rattle.ompt_events.specs.declared.names.SyncKind.TheVariants.{Barrier, BarrierImplicit, BarrierExplicit}
use Rattle.ompt_events.specs.declared.names.SyncKind.TheVariants.{BarrierImplementation, Taskwait, Taskgroup}
use Rattle.ompt_events.specs.declared.names.SyncKind.TheVariants.{Reduction, BarrierImplicitWorkshare}
use Rattle.ompt_events.specs.declared.names.SyncKind.TheVariants.{BarrierImplicitParallel, BarrierTeams}
use Rattle.ompt_events.specs.declared.names.DepKind.{DepKind}
use Rattle.ompt_events.specs.declared.names.DepKind.TheVariants.{In, Out, Inout, Mutexinoutset, Inoutset}
use Rattle.ompt_events.specs.declared.names.ThreadKind.{ThreadKind}
use Rattle.ompt_events.specs.declared.names.ThreadKind.TheVariants.{Initial, Worker, Other, Unknown}
use Rattle.ompt_events.specs.Names.{status_name, endpoint_name, sync_kind_name, dep_kind_name}
use Rattle.ompt_events.specs.Names.{thread_kind_name, status_part, demands_next}
use Rattle.ompt_events.specs.Flags.{has_flag}
use Rattle.ompt_events.specs.Flags as table
use Rattle.ompt_events.specs.Traces.{AreNamed, FitsIn, IsSoundIn}
use Rattle.serde_json.specs.View.{items_of}
use Rattle.lines.specs.Members.{value_named, nullable, not_both, no_id, each, dep_of}
use Rattle.lines.specs.RecordLines.{unbounded, body_named, thread_begin, thread_end, parallel_begin}
use Rattle.lines.specs.RecordLines.{parallel_end, implicit_task, task_create, dependences, claim_said}
use Rattle.lines.specs.RecordLines.{claim_if, turns_if, turns_said, tells_turns, task_schedule}
use Rattle.lines.specs.RecordLines.{sync_region, cancel}
use Rattle.lines.specs.Texts.{with_member, data_of, dep_data, number_or_null}
use Rattle.lines.proofs.FlagLemmas.{task_flags-read, cancel_flags-read}
use Rattle.lines.proofs.SoundLemmas.{is_some-map, is_some-cond, tells-turns}
use Rattle.lines.proofs.TextLemmas.{each-items_of, wholes-items_of}

-- ---- names are read back

pub named-status : (s : Status)
    → value_named status_name
    (Complete ∷ Yield ∷ Cancel ∷ Detach ∷ EarlyFulfill ∷ LateFulfill ∷ Switch ∷ TaskwaitComplete ∷ [])
    (status_name s)
    ≡ Some s
unfolding value_named
named-status Complete = refl
named-status Yield = refl
named-status Cancel = refl
named-status Detach = refl
named-status EarlyFulfill = refl
named-status LateFulfill = refl
named-status Switch = refl
named-status TaskwaitComplete = refl

pub named-endpoint : (e : Endpoint)
    → value_named endpoint_name (Begin ∷ End ∷ BeginEnd ∷ []) (endpoint_name e) ≡ Some e
unfolding value_named
named-endpoint Begin = refl
named-endpoint End = refl
named-endpoint BeginEnd = refl

pub named-sync_kind : (k : SyncKind)
    → value_named sync_kind_name
    (Barrier ∷ BarrierImplicit ∷ BarrierExplicit ∷ BarrierImplementation ∷ Taskwait ∷ Taskgroup
    ∷ Reduction ∷ BarrierImplicitWorkshare ∷ BarrierImplicitParallel ∷ BarrierTeams ∷ [])
    (sync_kind_name k)
    ≡ Some k
unfolding value_named
named-sync_kind Barrier = refl
named-sync_kind BarrierImplicit = refl
named-sync_kind BarrierExplicit = refl
named-sync_kind BarrierImplementation = refl
named-sync_kind Taskwait = refl
named-sync_kind Taskgroup = refl
named-sync_kind Reduction = refl
named-sync_kind BarrierImplicitWorkshare = refl
named-sync_kind BarrierImplicitParallel = refl
named-sync_kind BarrierTeams = refl

named-dep_kind : (k : DepKind)
    → value_named dep_kind_name (In ∷ Out ∷ Inout ∷ Mutexinoutset ∷ Inoutset ∷ []) (dep_kind_name k) ≡ Some k
unfolding value_named
named-dep_kind In = refl
named-dep_kind Out = refl
named-dep_kind Inout = refl
named-dep_kind Mutexinoutset = refl
named-dep_kind Inoutset = refl

named-thread_kind : (k : ThreadKind)
    → value_named thread_kind_name (Initial ∷ Worker ∷ Other ∷ Unknown ∷ []) (thread_kind_name k) ≡ Some k
unfolding value_named
named-thread_kind Initial = refl
named-thread_kind Worker = refl
named-thread_kind Other = refl
named-thread_kind Unknown = refl

-- ---- so are the other parts

pub nullable-number_or_null : (o : Option ℕ) → nullable (Some (number_or_null o)) ≡ Some o
nullable-number_or_null None = refl
nullable-number_or_null (Some n) = refl

pub next-read : (demanded : Bool) (o : Option ℕ) → is_some o ≡ demanded
    → cond demanded (option_map Some o) (no_id o) ≡ Some o
next-read true None is = absurd (let h : false ≡ true = is in cc)
next-read true (Some n) is = refl
next-read false None is = refl
next-read false (Some n) is = absurd (let h : true ≡ false = is in cc)

pub dep-read : (d : Dep) → dep_of (dep_data d) ≡ Some d
unfolding with_member
dep-read d = rw (named-dep_kind d.kind) refl

pub deps-read : (ds : List Dep) → each dep_of (items_of (map dep_data ds)) ≡ Some ds
deps-read ds = each-items_of dep_of dep_data dep-read ds

-- ---- what each record's object says

-- the record's object says the record, in a file of this version
abbrev pub Says : ℕ → Record → Type 0
Says version r = unbounded version (data_of r) ≡ Some r

abbrev of_body : ℕ → ℕ → ℕ → ℕ → Body → Record
of_body version thread seq seen body =
    record { thread = thread; nests = version == 3; seq = seq; seen = seen; body = body }

says-thread_begin : (version thread seq seen : ℕ) (kind : ThreadKind)
    → Says version (of_body version thread seq seen (ThreadBegin kind))
unfolding with_member unbounded body_named thread_begin
says-thread_begin version thread seq seen kind = rw (named-thread_kind kind) refl

says-thread_end : (version thread seq seen : ℕ) → Says version (of_body version thread seq seen ThreadEnd)
unfolding with_member unbounded body_named thread_end
says-thread_end version thread seq seen = refl

says-parallel_begin : (version thread seq seen requested task parallel : ℕ)
    → Says version (of_body version thread seq seen (ParallelBegin requested task parallel))
unfolding with_member unbounded body_named parallel_begin
says-parallel_begin version thread seq seen requested task parallel = refl

says-parallel_end : (version thread seq seen task parallel : ℕ)
    → Says version (of_body version thread seq seen (ParallelEnd task parallel))
unfolding with_member unbounded body_named parallel_end
says-parallel_end version thread seq seen task parallel = refl

says-implicit_task : (version thread seq seen : ℕ) (endpoint : Endpoint) (actual index : ℕ)
    (flags : TaskFlags) (parallel task : ℕ)
    → AreNamed table.task_flags flags.0 → not_both endpoint ≡ Some endpoint
    → Says version (of_body version thread seq seen (ImplicitTask endpoint actual index flags parallel task))
unfolding with_member unbounded body_named implicit_task
says-implicit_task version thread seq seen endpoint actual index flags parallel task named one =
    rw (named-endpoint endpoint, one, task_flags-read flags.0 named) refl

says-task_create : (version thread seq seen : ℕ) (deps : Bool) (flags : TaskFlags) (task child : ℕ)
    → AreNamed table.task_flags flags.0
    → Says version (of_body version thread seq seen (TaskCreate deps flags task child))
unfolding with_member unbounded body_named task_create
says-task_create version thread seq seen deps flags task child named = rw (task_flags-read flags.0 named) refl

says-dependences : (version thread seq seen task : ℕ) (list : List Dep)
    → Says version (of_body version thread seq seen (Dependences task list))
unfolding with_member unbounded body_named dependences
says-dependences version thread seq seen task list = rw (deps-read list) refl

says-finishing : (version thread seq seen : ℕ) (status : Status) (told : Option Turns) (prior : ℕ)
    (next : Option ℕ) (c : Claim)
    → is_some next ≡ demands_next status → tells_turns version status ≡ is_some told
    → is_some (status_part status) ≡ true
    → Says version (of_body version thread seq seen (TaskSchedule status told prior next (Some c)))
unfolding with_member unbounded body_named task_schedule claim_if claim_said turns_if turns_said
says-finishing version thread seq seen status None prior next c follows tells finishes =
    rw (
      named-status status,
      nullable-number_or_null next,
      next-read (demands_next status) next follows,
      tells,
      finishes,
      wholes-items_of c.path,
    )
    refl
says-finishing version thread seq seen status (Some t) prior next c follows tells finishes =
    rw (
      named-status status,
      nullable-number_or_null next,
      next-read (demands_next status) next follows,
      tells,
      finishes,
      wholes-items_of c.path,
    )
    refl

says-switching : (version thread seq seen : ℕ) (status : Status) (told : Option Turns) (prior : ℕ)
    (next : Option ℕ)
    → is_some next ≡ demands_next status → tells_turns version status ≡ is_some told
    → is_some (status_part status) ≡ false
    → Says version (of_body version thread seq seen (TaskSchedule status told prior next None))
unfolding with_member unbounded body_named task_schedule claim_if turns_if turns_said
says-switching version thread seq seen status None prior next follows tells goes_on =
    rw (
      named-status status,
      nullable-number_or_null next,
      next-read (demands_next status) next follows,
      tells,
      goes_on,
    )
    refl
says-switching version thread seq seen status (Some t) prior next follows tells goes_on =
    rw (
      named-status status,
      nullable-number_or_null next,
      next-read (demands_next status) next follows,
      tells,
      goes_on,
    )
    refl

says-sync_region : (version thread seq seen : ℕ) (kind : SyncKind) (endpoint : Endpoint) (parallel : Option ℕ)
    (task : ℕ)
    → Says version (of_body version thread seq seen (SyncRegion kind endpoint parallel task))
unfolding with_member unbounded body_named sync_region
says-sync_region version thread seq seen kind endpoint parallel task =
    rw (named-sync_kind kind, named-endpoint endpoint, nullable-number_or_null parallel) refl

says-discard : (version thread seq seen : ℕ) (flags : CancelFlags) (task : ℕ) (c : Claim)
    → AreNamed table.cancel_flags flags.0 → has_flag flags.0 table.discarded_task ≡ true
    → Says version (of_body version thread seq seen (body.Cancel flags task (Some c)))
unfolding with_member unbounded body_named cancel claim_if claim_said
says-discard version thread seq seen flags task c named discards =
    rw (cancel_flags-read flags.0 named, discards, wholes-items_of c.path) refl

says-cancel : (version thread seq seen : ℕ) (flags : CancelFlags) (task : ℕ)
    → AreNamed table.cancel_flags flags.0 → has_flag flags.0 table.discarded_task ≡ false
    → Says version (of_body version thread seq seen (body.Cancel flags task None))
unfolding with_member unbounded body_named cancel claim_if
says-cancel version thread seq seen flags task named others =
    rw (cancel_flags-read flags.0 named, others) refl

-- every record that can stand in a trace is one of these
says-body : (version thread seq seen : ℕ) (b : Body) → IsSoundIn version b
    → Says version (of_body version thread seq seen b)
says-body version thread seq seen (ThreadBegin kind) sound = says-thread_begin version thread seq seen kind
says-body version thread seq seen ThreadEnd sound = says-thread_end version thread seq seen
says-body version thread seq seen (ParallelBegin requested task parallel) sound =
    says-parallel_begin version thread seq seen requested task parallel
says-body version thread seq seen (ParallelEnd task parallel) sound =
    says-parallel_end version thread seq seen task parallel
says-body version thread seq seen (ImplicitTask Begin actual index flags parallel task) sound =
    says-implicit_task version thread seq seen Begin actual index flags parallel task sound.0.named_flags refl
says-body version thread seq seen (ImplicitTask End actual index flags parallel task) sound =
    says-implicit_task version thread seq seen End actual index flags parallel task sound.0.named_flags refl
says-body version thread seq seen (ImplicitTask BeginEnd actual index flags parallel task) sound =
    absurd sound.0.begins_or_ends
says-body version thread seq seen (TaskCreate deps flags task child) sound =
    says-task_create version thread seq seen deps flags task child sound.0.named_flags
says-body version thread seq seen (Dependences task list) sound =
    says-dependences version thread seq seen task list
says-body version thread seq seen (TaskSchedule status told prior next (Some c)) sound =
    says-finishing version thread seq seen status told prior next c sound.0.next
    (tells-turns version status told next sound.0.next sound.1)
    (sym (is_some-map (λ (part : Part). (prior, part)) (status_part status)) ∙ sym sound.0.claimed)
says-body version thread seq seen (TaskSchedule status told prior next None) sound =
    says-switching version thread seq seen status told prior next sound.0.next
    (tells-turns version status told next sound.0.next sound.1)
    (sym (is_some-map (λ (part : Part). (prior, part)) (status_part status)) ∙ sym sound.0.claimed)
says-body version thread seq seen (SyncRegion kind endpoint parallel task) sound =
    says-sync_region version thread seq seen kind endpoint parallel task
says-body version thread seq seen (body.Cancel flags task (Some c)) sound =
    says-discard version thread seq seen flags task c sound.0.named_cancellation
    (sym (is_some-cond (has_flag flags.0 table.discarded_task) (task, Whole)) ∙ sym sound.0.claimed)
says-body version thread seq seen (body.Cancel flags task None) sound =
    says-cancel version thread seq seen flags task sound.0.named_cancellation
    (sym (is_some-cond (has_flag flags.0 table.discarded_task) (task, Whole)) ∙ sym sound.0.claimed)

pub Says-sound : (version : ℕ) (r : Record) → FitsIn version r → Says version r
Says-sound version r fits =
    subst (Says version)
    (ap
    (λ nests.
    let whole : Record =
    record { thread = r.thread; nests = nests; seq = r.seq; seen = r.seen; body = r.body } in whole)
    (sym fits.1))
    (says-body version r.thread r.seq r.seen r.body fits.0)
