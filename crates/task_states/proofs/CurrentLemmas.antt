-- When a record speaks for a task that its thread doesn't run.
use Rattle.std.proofs.Common.{◌+◌, get_or}
use Rattle.std.proofs.Common.{◌≡◌, ◌≢◌, ◌∙◌, ℕ, ◌<◌, Bool, true, false, List, length, take, Option, Some}
use Rattle.std.proofs.Common.{None, refl, sym, ap, subst, arith, inl, inr}
use Rattle.std.proofs.lemmas.Bool.{false≢true, cases_eq, and_parts}
use Rattle.std.proofs.lemmas.List.{length-set, get_or-set_same, get_or-set_other, get_or-replicate}
use Rattle.std.proofs.lemmas.List.{length-replicate}
use Rattle.std.proofs.Math.ListN.{set}
use Rattle.std.proofs.lemmas.Option.{none-some, same_Some, slice_get_within}
use Rattle.std.specs.Prelude.{◌↔◌, ◌&&◌, ◌||◌, not, IsTrue, replicate, slice_get, IsSomeAnd, if◌then◌else◌}
use Rattle.ompt_events.specs.declared.records.Record.{Record}
use Rattle.ompt_events.specs.declared.records.Body.{Body}
use Rattle.ompt_events.specs.declared.records.Body.TheVariants.{ImplicitTask, TaskSchedule}
use Rattle.ompt_events.specs.declared.names.Endpoint.TheVariants.{Begin, End}
use Rattle.ompt_events.specs.declared.names.Status.{Status}
use Rattle.ompt_events.specs.declared.names.Status.TheVariants.{TaskwaitComplete}
use Rattle.ompt_events.specs.declared.cause.Cause.TheVariants.{NotCurrent}
use Rattle.ompt_events.specs.Names.{demands_next}
use Rattle.ompt_events.specs.Records.{running, begun_root, ended_root, schedule, started, wait_completed}
use Rattle.ompt_events.specs.Places.{thread_at}
use Rattle.ompt_events.specs.Tree.{IsRoot, IsExplicit}
use Rattle.ompt_events.specs.Threads.{Walk, walk_of, Misfits, not_running, not_innermost, other_root}
use Rattle.ompt_events.specs.Threads.{other_parent, MisfitsAt}
use Rattle.ompt_events.specs.Causes.{HasCause, not_current, IsNotCurrent}
use Rattle.ompt_events.specs.Shown.{AreAllBelow, AreAllWith}
use Rattle.ompt_events.proofs.ShownLemmas.{all_with}
use Rattle.ompt_events.proofs.ListLemmas.{contains_get, get_within}
use Rattle.ompt_events.proofs.PlaceLemmas.{some_and}
use Rattle.index_tables.specs.Numbering.{AreApart}
use Rattle.task_tree.specs.Subjects.{Calls}
use Rattle.task_tree.specs.Lineage.{parent_index}
use Rattle.task_tree.specs.Runs.{RunView, IsRun, IsThreadEvent, IsNoThreadEvent}
use Rattle.task_tree.specs.declared.run.ThreadEvent.{ThreadEvent}
use Rattle.task_tree.specs.declared.run.ThreadEvent.TheVariants.{Scheduled, RootBegin, RootEnd, Running}
use Rattle.task_tree.proofs.FamilyLemmas.{parent_noted}
use Rattle.task_tree.proofs.LineageLemmas.{parent_is_at, parent_at_is}
use Rattle.task_tree.proofs.LookupLemmas.{root_or_explicit, root_is}
use Rattle.task_tree.proofs.SubjectLemmas.{call_index, call_task}
use Rattle.task_states.specs.Walks.{IsNotCreated, EventMisfits}
use Rattle.task_states.proofs.WalkLemmas.{IsIndexed, Tells, TellsNothing, told_there, nothing_there}
use Rattle.task_states.proofs.WalkLemmas.{thread_there}

and_some : (o : Option ℕ) (P : ℕ → Type 0) (x : ℕ) → o ≡ Some x → P x → IsSomeAnd o P
and_some None P x e h = absurd (none-some x e)
and_some (Some y) P x e h = let Q : ℕ → Type 0 = P in subst Q (sym (same_Some y x e)) h

-- ---- what a body of each kind says

schedule_runs : (b : Body) (status : Status) (task : ℕ) (next : Option ℕ)
    → schedule b ≡ Some (status, task, next) → running b ≡ (if demands_next status then Some task else None)
schedule_runs (TaskSchedule s turns p n claimed) status task next is =
    ap (λ (t : Status × ℕ × Option ℕ). if demands_next t.0 then Some t.1 else None)
    (same_Some (s, p, n) (status, task, next) is)
schedule_runs _ status task next is = absurd (none-some (status, task, next) is)

schedule_starts : (b : Body) (status : Status) (task : ℕ) (next : Option ℕ)
    → schedule b ≡ Some (status, task, next) → started b ≡ next
schedule_starts (TaskSchedule s turns p n claimed) status task next is =
    ap (λ (t : Status × ℕ × Option ℕ). t.2) (same_Some (s, p, n) (status, task, next) is)
schedule_starts _ status task next is = absurd (none-some (status, task, next) is)

schedule_no_end : (b : Body) (status : Status) (task : ℕ) (next : Option ℕ)
    → schedule b ≡ Some (status, task, next) → ended_root b ≡ None
schedule_no_end (TaskSchedule s turns p n claimed) status task next is = refl
schedule_no_end _ status task next is = absurd (none-some (status, task, next) is)

schedule_waits : (b : Body) (status : Status) (task : ℕ) (next : Option ℕ)
    → schedule b ≡ Some (status, task, next) → status ≡ TaskwaitComplete → wait_completed b ≡ Some task
schedule_waits (TaskSchedule s turns p n claimed) status task next is completes =
    let same : (s, p, n) ≡ (status, task, next) = same_Some (s, p, n) (status, task, next) is in
    ap (λ (t : Status). wait_completed (TaskSchedule t turns p n claimed))
    (ap (λ (t : Status × ℕ × Option ℕ). t.0) same ∙ completes)
    ∙ ap (λ (t : Status × ℕ × Option ℕ). Some t.1) same
schedule_waits _ status task next is completes = absurd (none-some (status, task, next) is)

waits_schedule : (b : Body) (status : Status) (task : ℕ) (next : Option ℕ) (own : ℕ)
    → schedule b ≡ Some (status, task, next) → wait_completed b ≡ Some own
    → (status ≡ TaskwaitComplete) × (own ≡ task)
waits_schedule (TaskSchedule TaskwaitComplete turns p n claimed) status task next own is waits =
    let same : (TaskwaitComplete, p, n) ≡ (status, task, next) =
    same_Some (TaskwaitComplete, p, n) (status, task, next) is in (
      sym (ap (λ (t : Status × ℕ × Option ℕ). t.0) same),
      sym (same_Some p own waits) ∙ ap (λ (t : Status × ℕ × Option ℕ). t.1) same,
    )
waits_schedule _ status task next own is waits = absurd (none-some own waits)

other_says : (b : Body) → schedule b ≡ None → (started b ≡ None) × (wait_completed b ≡ None)
other_says (TaskSchedule s turns p n claimed) none = absurd (none-some (s, p, n) (sym none))
other_says _ none = (refl, refl)

begin_says : (b : Body) (task : ℕ) → begun_root b ≡ Some task
    → (schedule b ≡ None) × (ended_root b ≡ None) × (running b ≡ None)
begin_says (ImplicitTask Begin actual index flags parallel own) task is = (refl, refl, refl)
begin_says _ task is = absurd (none-some task is)

end_says : (b : Body) (task : ℕ) → ended_root b ≡ Some task → (schedule b ≡ None) × (running b ≡ Some task)
end_says (ImplicitTask End actual index flags parallel own) task is = (refl, is)
end_says _ task is = absurd (none-some task is)

-- ---- by indices or by ids

differs_to : (tasks : List ℕ) (index task : ℕ) (slot named : Option ℕ) → AreApart tasks
    → slice_get tasks index ≡ Some task → Calls tasks named slot → slot ≢ Some index → named ≢ Some task
differs_to tasks index task slot named apart stands calls other same =
    let (found, is, there) = call_index tasks named slot task calls same in
    other (is ∙ ap Some (apart found index task there stands))

differs_from : (tasks : List ℕ) (index task : ℕ) (slot named : Option ℕ) → slice_get tasks index ≡ Some task
    → Calls tasks named slot → named ≢ Some task → slot ≢ Some index
differs_from tasks index task slot named stands calls other same =
    let (found, is, there) = call_task tasks named slot index calls same in
    other (is ∙ ap Some (same_Some found task (sym there ∙ stands)))

-- a task that no record creates is a root
not_created : (run : RunView) (index task : ℕ) → IsRun run → slice_get run.family.tasks index ≡ Some task
    → IsNotCreated run index → IsRoot run.records task
not_created run index task is stands never =
    (root_is run.records run.family index task false is.family stands
    (λ yes. absurd (false≢true yes), λ explicit. absurd (never task stands explicit))).0
    refl

-- an event that misfits is one of a body that does
event_misfits : (run : RunView) (walk w : Walk) (event : ThreadEvent) (b : Body) → IsRun run
    → Tells run.family.tasks b event → IsIndexed run.family.tasks walk w → EventMisfits run walk event
    → Misfits run.records w b
event_misfits run walk w (Scheduled event) b is (task, follower, says, indexed, next) at_w
    (inl (demands, other)) =
    not_running task
    (schedule_runs b event.status task follower says ∙ ap (λ d. if d then Some task else None) demands)
    (differs_to run.family.tasks event.prior task walk.current w.current is.family.makers.apart indexed
    at_w.current other)
event_misfits run walk w (Scheduled event) b is (task, follower, says, indexed, next) at_w (inr (inl h)) =
    let (index, starts, (never, other)) =
    some_and event.next (λ n. IsNotCreated run n × (slice_get walk.roots 0 ≢ Some n)) h in
    let (root, named, stands) = call_task run.family.tasks follower event.next index next starts in
    other_root root (schedule_starts b event.status task follower says ∙ named)
    (not_created run index root is stands never)
    (differs_to run.family.tasks index root (slice_get walk.roots 0) (slice_get w.roots 0)
    is.family.makers.apart stands (at_w.roots 0) other)
event_misfits run walk w (Scheduled event) b is (task, follower, says, indexed, next) at_w
    (inr (inr (completes, h))) =
    let (up, there, other) = some_and (parent_index run.family event.prior) (λ p. walk.current ≢ Some p) h in
    let (parent, stands, (i, creates)) =
    parent_is_at run.records run.family event.prior task up is.family indexed there in
    other_parent task i parent (schedule_waits b event.status task follower says completes) creates
    (differs_to run.family.tasks up parent walk.current w.current is.family.makers.apart stands at_w.current
    other)
event_misfits run walk w (RootBegin index) b is tells at_w h = absurd h
event_misfits run walk w (RootEnd index) b is (task, says, stands) at_w (inl other) =
    not_running task (end_says b task says).1
    (differs_to run.family.tasks index task walk.current w.current is.family.makers.apart stands
    at_w.current other)
event_misfits run walk w (RootEnd index) b is (task, says, stands) at_w (inr other) =
    not_innermost task says
    (differs_to run.family.tasks index task (slice_get walk.roots 0) (slice_get w.roots 0)
    is.family.makers.apart stands (at_w.roots 0) other)
event_misfits run walk w (Running index) b is (none, no_begin, no_end, (task, runs, stands)) at_w other =
    not_running task runs
    (differs_to run.family.tasks index task walk.current w.current is.family.makers.apart stands
    at_w.current other)

-- and back
misfits_event : (run : RunView) (walk w : Walk) (event : ThreadEvent) (b : Body) → IsRun run
    → Tells run.family.tasks b event → IsIndexed run.family.tasks walk w → Misfits run.records w b
    → EventMisfits run walk event
misfits_event run walk w (Scheduled event) b is (task, follower, says, indexed, next) at_w
    (not_running own runs other) =
    by (demands_next event.status) refl (sym (schedule_runs b event.status task follower says) ∙ runs)
  where
    by : (d : Bool) → demands_next event.status ≡ d → (if d then Some task else None) ≡ Some own
        → EventMisfits run walk (Scheduled event)
    by true e same =
        inl (
          e,
          differs_from run.family.tasks event.prior task walk.current w.current indexed at_w.current
              (λ here. other (here ∙ same)),
        )
    by false e same = absurd (none-some own same)
misfits_event run walk w (Scheduled event) b is (task, follower, says, indexed, next) at_w
    (not_innermost own ends other) =
    absurd (none-some own (sym (schedule_no_end b event.status task follower says) ∙ ends))
misfits_event run walk w (Scheduled event) b is (task, follower, says, indexed, next) at_w
    (other_root own starts root other) =
    let (index, there, stands) =
    call_index run.family.tasks follower event.next own next
    (sym (schedule_starts b event.status task follower says) ∙ starts) in
    let P : ℕ → Type 0 = IsExplicit run.records in
    inr (inl (and_some event.next (λ n. IsNotCreated run n × (slice_get walk.roots 0 ≢ Some n)) index there (
      λ t stands_t explicit.
          root_or_explicit run.records own is.family.once root
          (subst P (same_Some t own (sym stands_t ∙ stands)) explicit),
      differs_from run.family.tasks index own (slice_get walk.roots 0) (slice_get w.roots 0) stands
          (at_w.roots 0) other,
    )))
misfits_event run walk w (Scheduled event) b is (task, follower, says, indexed, next) at_w
    (other_parent own i parent completes creates other) =
    let (completed, same) = waits_schedule b event.status task follower own says completes in
    let creates_task = creates ∙ ap (λ (t : ℕ). Some (parent, t)) same in
    let (up, stands) =
    contains_get run.family.tasks parent
    (parent_noted run.records run.family.tasks i parent task is.family.noted is.family.rooted
    creates_task) in
    inr (inr (
      completed,
      and_some (parent_index run.family event.prior) (λ p. walk.current ≢ Some p) up
          (parent_at_is run.records run.family event.prior task up is.family indexed
          (parent, stands, (i, creates_task)))
          (differs_from run.family.tasks up parent walk.current w.current stands at_w.current other),
    ))
misfits_event run walk w (RootBegin index) b is (task, says, stands) at_w misfit = never misfit
  where
    never : Misfits run.records w b → ⊥
    never (not_running own runs other) = none-some own (sym (begin_says b task says).2 ∙ runs)
    never (not_innermost own ends other) = none-some own (sym (begin_says b task says).1 ∙ ends)
    never (other_root own starts root other) =
        none-some own (sym (other_says b (begin_says b task says).0).0 ∙ starts)
    never (other_parent own i parent completes creates other) =
        none-some own (sym (other_says b (begin_says b task says).0).1 ∙ completes)
misfits_event run walk w (RootEnd index) b is (task, says, stands) at_w (not_running own runs other) =
    inl
    (differs_from run.family.tasks index task walk.current w.current stands at_w.current
    (λ here. other (here ∙ sym (end_says b task says).1 ∙ runs)))
misfits_event run walk w (RootEnd index) b is (task, says, stands) at_w (not_innermost own ends other) =
    inr
    (differs_from run.family.tasks index task (slice_get walk.roots 0) (slice_get w.roots 0) stands
    (at_w.roots 0) (λ here. other (here ∙ sym says ∙ ends)))
misfits_event run walk w (RootEnd index) b is (task, says, stands) at_w (other_root own starts root other) =
    absurd (none-some own (sym (other_says b (end_says b task says).0).0 ∙ starts))
misfits_event run walk w (RootEnd index) b is (task, says, stands) at_w
    (other_parent own i parent completes creates other) =
    absurd (none-some own (sym (other_says b (end_says b task says).0).1 ∙ completes))
misfits_event run walk w (Running index) b is (none, no_begin, no_end, (task, runs, stands)) at_w
    (not_running own runs_own other) =
    differs_from run.family.tasks index task walk.current w.current stands at_w.current
    (λ here. other (here ∙ sym runs ∙ runs_own))
misfits_event run walk w (Running index) b is (none, no_begin, no_end, (task, runs, stands)) at_w
    (not_innermost own ends other) =
    absurd (none-some own (sym no_end ∙ ends))
misfits_event run walk w (Running index) b is (none, no_begin, no_end, (task, runs, stands)) at_w
    (other_root own starts root other) =
    absurd (none-some own (sym (other_says b none).0 ∙ starts))
misfits_event run walk w (Running index) b is (none, no_begin, no_end, (task, runs, stands)) at_w
    (other_parent own i parent completes creates other) =
    absurd (none-some own (sym (other_says b none).1 ∙ completes))

nothing_misfits : (rs : List Record) (w : Walk) (b : Body) → TellsNothing b → Misfits rs w b → ⊥
nothing_misfits rs w b (none, no_begin, no_end, no_run) (not_running own runs other) =
    none-some own (sym no_run ∙ runs)
nothing_misfits rs w b (none, no_begin, no_end, no_run) (not_innermost own ends other) =
    none-some own (sym no_end ∙ ends)
nothing_misfits rs w b (none, no_begin, no_end, no_run) (other_root own starts root other) =
    none-some own (sym (other_says b none).0 ∙ starts)
nothing_misfits rs w b (none, no_begin, no_end, no_run) (other_parent own i parent completes creates other) =
    none-some own (sym (other_says b none).1 ∙ completes)

-- ---- the search

is_first : (rs : List Record) (i : ℕ) → HasCause rs i NotCurrent → IsNotCurrent rs i
is_first rs i (not_current h) = h

pub misfits_here : (run : RunView) (i thread : ℕ) (walk : Walk) (event : ThreadEvent) → IsRun run
    → i < length run.records → thread_at run.records i ≡ Some thread → IsThreadEvent run i event
    → IsIndexed run.family.tasks walk (walk_of thread (take i run.records))
    → EventMisfits run walk event → MisfitsAt run.records i
misfits_here run i thread walk event is within runs tells at_w h =
    let rs = run.records in
    let (r, stands) = get_within rs i within in
    let P : ℕ → Type 0 = λ t. IsIndexed run.family.tasks walk (walk_of t (take i rs)) in
    record {
      the_record = r;
      stands = stands;
      misfits =
          event_misfits run walk (walk_of r.thread (take i rs)) event r.body is
          (told_there run i r event stands tells)
          (subst P (sym (thread_there run i thread r stands runs)) at_w) h;
    }

-- and back
pub misfits_there : (run : RunView) (i thread : ℕ) (walk : Walk) (event : ThreadEvent) → IsRun run
    → thread_at run.records i ≡ Some thread → IsThreadEvent run i event
    → IsIndexed run.family.tasks walk (walk_of thread (take i run.records))
    → MisfitsAt run.records i → EventMisfits run walk event
misfits_there run i thread walk event is runs tells at_w h =
    let rs = run.records in
    let r = h.the_record in
    let P : ℕ → Type 0 = λ t. IsIndexed run.family.tasks walk (walk_of t (take i rs)) in
    misfits_event run walk (walk_of r.thread (take i rs)) event r.body is
    (told_there run i r event h.stands tells)
    (subst P (sym (thread_there run i thread r h.stands runs)) at_w) h.misfits

pub nothing_fits : (run : RunView) (i : ℕ) → IsNoThreadEvent run i → MisfitsAt run.records i → ⊥
nothing_fits run i nothing h =
    nothing_misfits run.records (walk_of h.the_record.thread (take i run.records)) h.the_record.body
    (nothing_there run i h.the_record h.stands nothing) h.misfits

-- ---- which threads have had a misfit

-- one of the first n records is of the thread and misfits
pub record HasMisfit (rs : List Record) (n thread : ℕ) : Type 0 where
  pub place : ℕ
  pub below : place < n
  pub runs : thread_at rs place ≡ Some thread
  pub misfits : MisfitsAt rs place

-- it is marked which threads have had one
pub record AreMarked (rs : List Record) (n : ℕ) (marks : List Bool) : Type 0 where
  pub all : length marks ≡ 256
  pub each : (thread : ℕ) → thread < 256 → IsTrue (get_or marks thread false) ↔ HasMisfit rs n thread

pub none_marked : (rs : List Record) (marks : List Bool) → marks ≡ replicate 256 false → AreMarked rs 0 marks
none_marked rs marks fresh = record {
  all = ap length fresh ∙ length-replicate 256 false;
  each = λ thread low. (
    λ yes.
        absurd
        (false≢true
        (sym (ap (λ l. get_or l thread false) fresh ∙ get_or-replicate 256 thread false false low) ∙ yes)),
    λ has. absurd (let below = has.below in omega (arith, below)),
  );
}

-- a record that fits
pub marked_still : (rs : List Record) (i : ℕ) (marks : List Bool) → (MisfitsAt rs i → ⊥)
    → AreMarked rs i marks → AreMarked rs (i + 1) marks
marked_still rs i marks fits are = record {
  all = are.all;
  each = λ thread low. (
    λ yes.
        let has = (are.each thread low).0 yes in
        record {
          place = has.place;
          below = let below = has.below in omega (arith, below);
          runs = has.runs;
          misfits = has.misfits;
        },
    λ has. (are.each thread low).1 (before thread has),
  );
}
  where
    before : (thread : ℕ) → HasMisfit rs (i + 1) thread → HasMisfit rs i thread
    before thread has = elim (cases_eq has.place i) [
      | inl same ↦ let P : ℕ → Type 0 = MisfitsAt rs in absurd (fits (subst P same has.misfits))
      | inr apart ↦
          record {
            place = has.place;
            below = let below = has.below in omega (arith, below, apart);
            runs = has.runs;
            misfits = has.misfits;
          }
    ]

-- a record of the thread that misfits, or fits
pub marked_more : (rs : List Record) (i thread : ℕ) (misfit : Bool) (marks : List Bool) → thread < 256
    → thread_at rs i ≡ Some thread → IsTrue misfit ↔ MisfitsAt rs i → AreMarked rs i marks
    → AreMarked rs (i + 1) (set marks thread (get_or marks thread false || misfit))
marked_more rs i thread misfit marks low runs is are = record {
  all = length-set marks thread mark ∙ are.all;
  each = λ other low_other. elim (cases_eq other thread) [
    | inl same ↦
        let P : Bool → Type 0 = λ b. IsTrue b ↔ HasMisfit rs (i + 1) other in
        subst P
        (sym
        (ap (λ t. get_or (set marks thread mark) t false) same
        ∙ get_or-set_same marks thread mark false (rw are.all low)))
        (subst (λ t. IsTrue mark ↔ HasMisfit rs (i + 1) t) (sym same) mine)
    | inr apart ↦
        let P : Bool → Type 0 = λ b. IsTrue b ↔ HasMisfit rs (i + 1) other in
        subst P (sym (get_or-set_other marks thread other mark false apart)) (
          λ yes. later other ((are.each other low_other).0 yes),
          λ has. (are.each other low_other).1 (others other apart has),
        )
  ];
}
  where
    mark : Bool
    mark = get_or marks thread false || misfit

    later : (other : ℕ) → HasMisfit rs i other → HasMisfit rs (i + 1) other
    later other has = record {
      place = has.place;
      below = let below = has.below in omega (arith, below);
      runs = has.runs;
      misfits = has.misfits;
    }

    others : (other : ℕ) → other ≢ thread → HasMisfit rs (i + 1) other → HasMisfit rs i other
    others other apart has = elim (cases_eq has.place i) [
      | inl same ↦
          absurd (apart (same_Some other thread (sym has.runs ∙ ap (thread_at rs) same ∙ runs)))
      | inr earlier ↦
          record {
            place = has.place;
            below = let below = has.below in omega (arith, below, earlier);
            runs = has.runs;
            misfits = has.misfits;
          }
    ]

    either : (before now : Bool) → (IsTrue before → HasMisfit rs (i + 1) thread)
        → (IsTrue now → HasMisfit rs (i + 1) thread) → IsTrue (before || now) → HasMisfit rs (i + 1) thread
    either true now old new so = old refl
    either false now old new so = new so

    or_left : (a b : Bool) → IsTrue a → IsTrue (a || b)
    or_left true b so = refl
    or_left false b so = absurd (false≢true so)

    or_right : (a b : Bool) → IsTrue b → IsTrue (a || b)
    or_right true b so = refl
    or_right false b so = so

    mine : IsTrue mark ↔ HasMisfit rs (i + 1) thread
    mine = (
      either (get_or marks thread false) misfit (λ old. later thread ((are.each thread low).0 old))
          (λ new. record { place = i; below = omega arith; runs = runs; misfits = is.0 new }),
      λ has. elim (cases_eq has.place i) [
        | inl same ↦
            let P : ℕ → Type 0 = MisfitsAt rs in
            or_right (get_or marks thread false) misfit (is.1 (subst P same has.misfits))
        | inr earlier ↦
            or_left (get_or marks thread false) misfit
            ((are.each thread low).1 (record {
              place = has.place;
              below = let below = has.below in omega (arith, below, earlier);
              runs = has.runs;
              misfits = has.misfits;
            }))
      ],
    )

-- the record is the first one of its thread that misfits
pub first_misfit : (rs : List Record) (i thread : ℕ) (misfit : Bool) (marks : List Bool) → thread < 256
    → thread_at rs i ≡ Some thread → IsTrue misfit ↔ MisfitsAt rs i → AreMarked rs i marks
    → IsTrue (misfit && not (get_or marks thread false)) ↔ IsNotCurrent rs i
first_misfit rs i thread misfit marks low runs is are = (
  λ yes.
      let (here, fresh) = and_parts misfit (not (get_or marks thread false)) yes in
      record {
        misfits = is.0 here;
        first =
            λ k below same other.
            let marked : IsTrue (get_or marks thread false) =
            (are.each thread low).1
            (record { place = k; below = below; runs = same ∙ runs; misfits = other }) in
            false≢true (sym (ap not marked) ∙ fresh);
      },
  λ first. both misfit (get_or marks thread false) (is.1 first.misfits)
      (λ marked.
      let has = (are.each thread low).0 marked in
      first.first has.place has.below (has.runs ∙ sym runs) has.misfits),
)
  where
    both : (a b : Bool) → IsTrue a → (IsTrue b → ⊥) → IsTrue (a && not b)
    both true true so none = absurd (none refl)
    both true false so none = refl
    both false b so none = absurd (false≢true so)

-- the places that were found up to the end are all
pub all_misfits : (rs : List Record) (n : ℕ) (places : List ℕ) → length rs ≡ n
    → AreAllBelow (IsNotCurrent rs) n places → AreAllWith rs NotCurrent places
all_misfits rs n places all are =
    all_with rs NotCurrent (IsNotCurrent rs) n places all (λ i first. not_current first)
    (λ i has.
    let first = is_first rs i has in
    let inside = slice_get_within rs i first.misfits.the_record first.misfits.stands in
    (omega (arith, inside, all), first))
    are
