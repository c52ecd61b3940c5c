-- Where a thread stands by indices of tasks, one record on.
use Rattle.std.proofs.Common.{◌≡◌, ◌∙◌, ℕ, zero, suc, ◌<◌, ◌+◌, List, [], ◌∷◌, length, get_or, take, drop}
use Rattle.std.proofs.Common.{Option, Some, None, Bool, true, false, refl, sym, ap, subst, inl, inr, set}
use Rattle.std.proofs.lemmas.Bool.{cases_eq}
use Rattle.std.proofs.lemmas.Option.{none-some, same_Some, slice_get_within, get_or_from_slice_get}
use Rattle.std.proofs.lemmas.List.{length-set, length-replicate, get_or-replicate, get_or-set_same}
use Rattle.std.proofs.lemmas.List.{get_or-set_other}
use Rattle.std.specs.Prelude.{All, if◌then◌else◌, slice_get, replicate, option_map}
use Rattle.ompt_events.specs.declared.records.Record.{Record}
use Rattle.ompt_events.specs.declared.records.Body.{Body}
use Rattle.ompt_events.specs.declared.records.Body.TheVariants.{ImplicitTask, TaskSchedule}
use Rattle.ompt_events.specs.declared.names.Endpoint.TheVariants.{Begin, End}
use Rattle.ompt_events.specs.declared.names.Status.{Status}
use Rattle.ompt_events.specs.Names.{demands_next}
use Rattle.ompt_events.specs.Records.{schedule, begun_root, ended_root, running}
use Rattle.ompt_events.specs.Places.{at, thread_at}
use Rattle.ompt_events.specs.Threads.{Walk, at_start, uncovered, after_body, after_record, walk_of}
use Rattle.ompt_events.proofs.ThreadLemmas.{AreWalks, walks_none, walks_more, walk_is}
use Rattle.ompt_events.proofs.PlaceLemmas.{at_get}
use Rattle.ompt_events.proofs.ListLemmas.{get_within, all_get}
use Rattle.task_tree.specs.Subjects.{Calls}
use Rattle.task_tree.specs.Runs.{RunView, IsRun, IsThreadEvent, IsNoThreadEvent}
use Rattle.task_tree.specs.declared.run.ThreadEvent.{ThreadEvent}
use Rattle.task_tree.specs.declared.run.ThreadEvent.TheVariants.{Scheduled, RootBegin, RootEnd, Running}
use Rattle.task_tree.proofs.SubjectLemmas.{call_task, call_none}
use Rattle.task_states.specs.Walks.{after_event}

-- ---- indices for tasks

-- the indices are those of the tasks, one for one
abbrev pub AreCalled : List ℕ → List ℕ → List ℕ → Type 0
AreCalled tasks indices named = (k : ℕ) → Calls tasks (slice_get named k) (slice_get indices k)

-- the same of tasks that ran, where one did
abbrev pub AreOuterCalled : List ℕ → List (Option ℕ) → List (Option ℕ) → Type 0
AreOuterCalled tasks indices named = (k : ℕ) → Calls tasks (get_or named k None) (get_or indices k None)

-- the one walk has the indices of the tasks that the other has
pub record IsIndexed (tasks : List ℕ) (walk w : Walk) : Type 0 where
  pub roots : AreCalled tasks walk.roots w.roots
  pub outer : AreOuterCalled tasks walk.outer w.outer
  pub current : Calls tasks w.current walk.current

pub called_push : (tasks : List ℕ) (index task : ℕ) (indices named : List ℕ)
    → slice_get tasks index ≡ Some task → AreCalled tasks indices named
    → AreCalled tasks (index ∷ indices) (task ∷ named)
called_push tasks index task indices named stands are zero = (index, refl, stands)
called_push tasks index task indices named stands are (suc k) = are k

pub called_drop : (tasks indices named : List ℕ) → AreCalled tasks indices named
    → AreCalled tasks (drop 1 indices) (drop 1 named)
called_drop tasks [] [] are k = are k
called_drop tasks [] (task ∷ named) are k = let first = are 0 in absurd (none-some first.0 first.1)
called_drop tasks (index ∷ indices) [] are k = absurd (none-some index (sym (are 0)))
called_drop tasks (index ∷ indices) (task ∷ named) are k = are (suc k)

outer_push : (tasks : List ℕ) (index task : Option ℕ) (indices named : List (Option ℕ))
    → Calls tasks task index → AreOuterCalled tasks indices named
    → AreOuterCalled tasks (index ∷ indices) (task ∷ named)
outer_push tasks index task indices named calls are zero = calls
outer_push tasks index task indices named calls are (suc k) = are k

outer_drop : (tasks : List ℕ) (indices named : List (Option ℕ)) → AreOuterCalled tasks indices named
    → AreOuterCalled tasks (drop 1 indices) (drop 1 named)
outer_drop tasks [] [] are k = are k
outer_drop tasks [] (task ∷ named) are k = are (suc k)
outer_drop tasks (index ∷ indices) [] are k = are (suc k)
outer_drop tasks (index ∷ indices) (task ∷ named) are k = are (suc k)

-- and so has the task that goes on behind a root
uncovered_called : (tasks : List ℕ) (nests : Bool) (walk w : Walk) → IsIndexed tasks walk w
    → Calls tasks (uncovered nests w) (uncovered nests walk)
uncovered_called tasks true walk w is = is.outer 0
uncovered_called tasks false walk w is = is.roots 1

-- ---- what a body says, where the event is that of its record

abbrev pub Tells : List ℕ → Body → ThreadEvent → Type 0
Tells tasks b (Scheduled event) =
    (task : ℕ) × (follower : Option ℕ) × (schedule b ≡ Some (event.status, task, follower))
    × (slice_get tasks event.prior ≡ Some task) × Calls tasks follower event.next
Tells tasks b (RootBegin index) =
    (task : ℕ) × (begun_root b ≡ Some task) × (slice_get tasks index ≡ Some task)
Tells tasks b (RootEnd index) = (task : ℕ) × (ended_root b ≡ Some task) × (slice_get tasks index ≡ Some task)
Tells tasks b (Running index) =
    (schedule b ≡ None) × (begun_root b ≡ None) × (ended_root b ≡ None)
    × ((task : ℕ) × (running b ≡ Some task) × (slice_get tasks index ≡ Some task))

abbrev pub TellsNothing : Body → Type 0
TellsNothing b = (schedule b ≡ None) × (begun_root b ≡ None) × (ended_root b ≡ None) × (running b ≡ None)

pub called_there : (f : Body → Option ℕ) (run : RunView) (i index : ℕ) (r : Record)
    → slice_get run.records i ≡ Some r → Calls run.family.tasks (at f run.records i) (Some index)
    → (task : ℕ) × (f r.body ≡ Some task) × (slice_get run.family.tasks index ≡ Some task)
called_there f run i index r stands calls =
    let (task, says, is) = call_task run.family.tasks (at f run.records i) (Some index) index calls refl in
    (task, sym (at_get f run.records i r stands) ∙ says, is)

pub uncalled_there : (f : Body → Option ℕ) (run : RunView) (i : ℕ) (r : Record)
    → slice_get run.records i ≡ Some r → Calls run.family.tasks (at f run.records i) None → f r.body ≡ None
uncalled_there f run i r stands calls =
    sym (at_get f run.records i r stands) ∙ call_none run.family.tasks (at f run.records i) None calls refl

pub told_there : (run : RunView) (i : ℕ) (r : Record) (event : ThreadEvent) → slice_get run.records i ≡ Some r
    → IsThreadEvent run i event → Tells run.family.tasks r.body event
told_there run i r (Scheduled event) stands is = (
  is.task,
  is.follower,
  sym (at_get schedule run.records i r stands) ∙ is.says,
  is.indexed,
  is.next_indexed,
)
told_there run i r (RootBegin index) stands is = called_there begun_root run i index r stands is
told_there run i r (RootEnd index) stands is = called_there ended_root run i index r stands is
told_there run i r (Running index) stands (none, no_begin, no_end, runs) = (
  sym (at_get schedule run.records i r stands) ∙ none,
  uncalled_there begun_root run i r stands no_begin,
  uncalled_there ended_root run i r stands no_end,
  called_there running run i index r stands runs,
)

pub nothing_there : (run : RunView) (i : ℕ) (r : Record) → slice_get run.records i ≡ Some r
    → IsNoThreadEvent run i → TellsNothing r.body
nothing_there run i r stands (none, no_begin, no_end, no_run) = (
  sym (at_get schedule run.records i r stands) ∙ none,
  uncalled_there begun_root run i r stands no_begin,
  uncalled_there ended_root run i r stands no_end,
  uncalled_there running run i r stands no_run,
)

-- ---- how a walk goes on

schedule_after : (nests : Bool) (w : Walk) (b : Body) (status : Status) (prior : ℕ) (next : Option ℕ)
    → schedule b ≡ Some (status, prior, next)
    → after_body nests w b
    ≡ (if demands_next status then record { roots = w.roots; outer = w.outer; current = next } else w)
schedule_after nests w (TaskSchedule s turns p n claimed) status prior next is =
    ap
    (λ (t : Status × ℕ × Option ℕ).
    if demands_next t.0 then record { roots = w.roots; outer = w.outer; current = t.2 } else w)
    (same_Some (s, p, n) (status, prior, next) is)
schedule_after nests w _ status prior next is = absurd (none-some (status, prior, next) is)

pub begin_after : (nests : Bool) (w : Walk) (b : Body) (task : ℕ) → begun_root b ≡ Some task
    → after_body nests w b
    ≡ record { roots = task ∷ w.roots; outer = w.current ∷ w.outer; current = Some task }
begin_after nests w (ImplicitTask Begin actual index flags parallel own) task is =
    ap (λ (t : ℕ). record { roots = t ∷ w.roots; outer = w.current ∷ w.outer; current = Some t })
    (same_Some own task is)
begin_after nests w _ task is = absurd (none-some task is)

pub end_after : (nests : Bool) (w : Walk) (b : Body) (task : ℕ) → ended_root b ≡ Some task
    → after_body nests w b
    ≡ record { roots = drop 1 w.roots; outer = drop 1 w.outer; current = uncovered nests w }
end_after nests w (ImplicitTask End actual index flags parallel own) task is = refl
end_after nests w _ task is = absurd (none-some task is)

quiet_after : (nests : Bool) (w : Walk) (b : Body) → schedule b ≡ None → begun_root b ≡ None
    → ended_root b ≡ None → after_body nests w b ≡ w
quiet_after nests w (ImplicitTask Begin actual index flags parallel own) none no_begin no_end =
    absurd (none-some own (sym no_begin))
quiet_after nests w (ImplicitTask End actual index flags parallel own) none no_begin no_end =
    absurd (none-some own (sym no_end))
quiet_after nests w (TaskSchedule s turns p n claimed) none no_begin no_end =
    absurd (none-some (s, p, n) (sym none))
quiet_after nests w _ none no_begin no_end = refl

indexed_after : (tasks : List ℕ) (nests : Bool) (walk w : Walk) (event : ThreadEvent) (b : Body)
    → Tells tasks b event → IsIndexed tasks walk w
    → IsIndexed tasks (after_event nests walk event) (after_body nests w b)
indexed_after tasks nests walk w (Scheduled event) b (task, follower, says, indexed, next) is =
    let P : Walk → Type 0 = IsIndexed tasks (after_event nests walk (Scheduled event)) in
    subst P (sym (schedule_after nests w b event.status task follower says)) (by (demands_next event.status))
  where
    by : (d : Bool)
        → IsIndexed tasks
        (if d then record { roots = walk.roots; outer = walk.outer; current = event.next } else walk)
        (if d then record { roots = w.roots; outer = w.outer; current = follower } else w)
    by true = record { roots = is.roots; outer = is.outer; current = next }
    by false = is
indexed_after tasks nests walk w (RootBegin index) b (task, says, stands) is =
    let P : Walk → Type 0 = IsIndexed tasks (after_event nests walk (RootBegin index)) in
    subst P (sym (begin_after nests w b task says)) (record {
      roots = called_push tasks index task walk.roots w.roots stands is.roots;
      outer = outer_push tasks walk.current w.current walk.outer w.outer is.current is.outer;
      current = (index, refl, stands);
    })
indexed_after tasks nests walk w (RootEnd index) b (task, says, stands) is =
    let P : Walk → Type 0 = IsIndexed tasks (after_event nests walk (RootEnd index)) in
    subst P (sym (end_after nests w b task says)) (record {
      roots = called_drop tasks walk.roots w.roots is.roots;
      outer = outer_drop tasks walk.outer w.outer is.outer;
      current = uncovered_called tasks nests walk w is;
    })
indexed_after tasks nests walk w (Running index) b (none, no_begin, no_end, runs) is =
    let P : Walk → Type 0 = IsIndexed tasks walk in
    subst P (sym (quiet_after nests w b none no_begin no_end)) is

-- ---- all threads

-- each of these walks is that of its thread after the first i records, by indices
pub record AreThreadWalks (run : RunView) (i : ℕ) (walks : List Walk) : Type 0 where
  pub all : length walks ≡ 256
  pub whole : List Walk
  pub walked : AreWalks run.records i whole
  pub each : (thread : ℕ) → thread < 256
      → IsIndexed run.family.tasks (get_or walks thread at_start) (get_or whole thread at_start)

pub stands_none : (run : RunView) (walks : List Walk) → walks ≡ replicate 256 at_start
    → AreThreadWalks run 0 walks
stands_none run walks fresh = record {
  all = ap length fresh ∙ length-replicate 256 at_start;
  whole = replicate 256 at_start;
  walked = walks_none run.records;
  each = λ thread below.
      let P : Walk → Walk → Type 0 = IsIndexed run.family.tasks in
      let start = get_or-replicate 256 thread at_start at_start below in
      let mine : get_or walks thread at_start ≡ at_start =
      ap (λ ws. get_or ws thread at_start) fresh ∙ start in
      subst (λ w. P w (get_or (replicate 256 at_start) thread at_start)) (sym mine)
      (subst (P at_start) (sym start) (record { roots = λ k. refl; outer = λ k. refl; current = refl }));
}

-- the thread of the record that stands there
pub thread_there : (run : RunView) (i thread : ℕ) (r : Record) → slice_get run.records i ≡ Some r
    → thread_at run.records i ≡ Some thread → r.thread ≡ thread
thread_there run i thread r stands runs =
    same_Some r.thread thread (sym (ap (option_map (λ (q : Record). q.thread)) stands) ∙ runs)

-- the walks of the definitions go on, and those by indices where the record's thread goes on so
goes_on : (run : RunView) (i thread : ℕ) (r : Record) (old new : List Walk) (next : Walk)
    → i < length run.records → slice_get run.records i ≡ Some r → r.thread ≡ thread → thread < 256
    → AreThreadWalks run i old → new ≡ set old thread next
    → ((w : Walk) → IsIndexed run.family.tasks (get_or old thread at_start) w
    → IsIndexed run.family.tasks next (after_record w r))
    → AreThreadWalks run (i + 1) new
goes_on run i thread r old new next within stands is_thread low are is more = record {
  all = ap length is ∙ length-set old thread next ∙ are.all;
  whole = set are.whole r.thread (after_record (get_or are.whole r.thread at_start) r);
  walked =
      walks_more run.records i r are.whole
      (set are.whole r.thread (after_record (get_or are.whole r.thread at_start) r)) within
      (sym (get_or_from_slice_get run.records i r r stands))
      (let P : ℕ → Type 0 = λ t. t < 256 in subst P (sym is_thread) low) are.walked refl;
  each = λ other below. elim (cases_eq other thread) [
    | inl same ↦
        let P : Walk → Walk → Type 0 = IsIndexed run.family.tasks in
        let mine : get_or new other at_start ≡ next =
        ap (λ ws. get_or ws other at_start) is ∙ ap (λ t. get_or (set old thread next) t at_start) same
        ∙ get_or-set_same old thread next at_start (rw are.all low) in
        let after = after_record (get_or are.whole r.thread at_start) r in
        let theirs : get_or (set are.whole r.thread after) other at_start ≡ after =
        ap (λ t. get_or (set are.whole r.thread after) t at_start) (same ∙ sym is_thread)
        ∙ get_or-set_same are.whole r.thread after at_start (rw (are.walked.all, is_thread) low) in
        let here : P (get_or old thread at_start) (get_or are.whole r.thread at_start) =
        subst (λ t. P (get_or old thread at_start) (get_or are.whole t at_start)) (sym is_thread)
        (are.each thread low) in
        subst (λ w. P w (get_or (set are.whole r.thread after) other at_start)) (sym mine)
        (subst (P next) (sym theirs) (more (get_or are.whole r.thread at_start) here))
    | inr apart ↦
        let P : Walk → Walk → Type 0 = IsIndexed run.family.tasks in
        let after = after_record (get_or are.whole r.thread at_start) r in
        let mine : get_or new other at_start ≡ get_or old other at_start =
        ap (λ ws. get_or ws other at_start) is ∙ get_or-set_other old thread other next at_start apart in
        let theirs : get_or (set are.whole r.thread after) other at_start ≡ get_or are.whole other at_start =
        get_or-set_other are.whole r.thread other after at_start (λ e. apart (e ∙ is_thread)) in
        subst (λ w. P w (get_or (set are.whole r.thread after) other at_start)) (sym mine)
        (subst (P (get_or old other at_start)) (sym theirs) (are.each other below))
  ];
}

pub thread_low : (run : RunView) (i : ℕ) (r : Record) → IsRun run → slice_get run.records i ≡ Some r
    → r.thread < 256
thread_low run i r is stands =
    let P : Record → Type 0 = λ q. q.thread < 256 in
    subst P (get_or_from_slice_get run.records i r r stands)
    (is.trace.in_range i r (slice_get_within run.records i r stands)).thread

-- all records say the same of nesting
pub nests_there : (rs : List Record) (i : ℕ) (nests : Bool) (r : Record)
    → All (λ (q : Record). q.nests ≡ nests) rs → slice_get rs i ≡ Some r → r.nests ≡ nests
nests_there rs i nests r all stands = all_get (λ (q : Record). q.nests ≡ nests) rs i r all stands

pub stands_more : (run : RunView) (nests : Bool) (i thread : ℕ) (event : ThreadEvent) (old new : List Walk)
    → IsRun run → All (λ (q : Record). q.nests ≡ nests) run.records
    → i < length run.records → thread_at run.records i ≡ Some thread → IsThreadEvent run i event
    → AreThreadWalks run i old → new ≡ set old thread (after_event nests (get_or old thread at_start) event)
    → AreThreadWalks run (i + 1) new
stands_more run nests i thread event old new is_run all within runs tells are is =
    let (r, stands) = get_within run.records i within in
    let same = thread_there run i thread r stands runs in
    let low : thread < 256 =
    let P : ℕ → Type 0 = λ t. t < 256 in subst P same (thread_low run i r is_run stands) in
    let walk = get_or old thread at_start in
    goes_on run i thread r old new (after_event nests walk event) within stands same low are is
    (λ w indexed.
    let P : Bool → Type 0 =
    λ b. IsIndexed run.family.tasks (after_event nests walk event) (after_body b w r.body) in
    subst P (sym (nests_there run.records i nests r all stands))
    (indexed_after run.family.tasks nests walk w event r.body (told_there run i r event stands tells)
    indexed))

-- a record that says nothing of them leaves all walks as they are
pub stands_still : (run : RunView) (i : ℕ) (walks : List Walk) → IsRun run → i < length run.records
    → IsNoThreadEvent run i → AreThreadWalks run i walks → AreThreadWalks run (i + 1) walks
stands_still run i walks is_run within nothing are = still (get_within run.records i within)
  where
    still : (r : Record) × (slice_get run.records i ≡ Some r) → AreThreadWalks run (i + 1) walks
    still (r, stands) = record {
      all = are.all;
      whole = set are.whole r.thread after;
      walked =
          walks_more run.records i r are.whole (set are.whole r.thread after) within
          (sym (get_or_from_slice_get run.records i r r stands)) low are.walked refl;
      each =
          λ other below.
          let P : Walk → Type 0 = IsIndexed run.family.tasks (get_or walks other at_start) in
          subst P (sym (stays other)) (are.each other below);
    }
      where
        after : Walk
        after = after_record (get_or are.whole r.thread at_start) r

        low : r.thread < 256
        low = thread_low run i r is_run stands

        quiet : after ≡ get_or are.whole r.thread at_start
        quiet =
            let (none, no_begin, no_end, no_run) = nothing_there run i r stands nothing in
            quiet_after r.nests (get_or are.whole r.thread at_start) r.body none no_begin no_end

        stays : (other : ℕ)
            → get_or (set are.whole r.thread after) other at_start ≡ get_or are.whole other at_start
        stays other = elim (cases_eq other r.thread) [
          | inl same ↦
              ap (λ t. get_or (set are.whole r.thread after) t at_start) same
              ∙ get_or-set_same are.whole r.thread after at_start (rw are.walked.all low) ∙ quiet
              ∙ ap (λ t. get_or are.whole t at_start) (sym same)
          | inr apart ↦ get_or-set_other are.whole r.thread other after at_start apart
        ]

-- the walk that was read is that of its thread
pub indexed_read : (run : RunView) (i thread : ℕ) (walks : List Walk) (walk : Walk) → thread < 256
    → AreThreadWalks run i walks → walk ≡ get_or walks thread walk
    → IsIndexed run.family.tasks walk (walk_of thread (take i run.records))
indexed_read run i thread walks walk low are read =
    let P : Walk → Walk → Type 0 = IsIndexed run.family.tasks in
    subst (λ v. P v (walk_of thread (take i run.records)))
    (sym (walk_is walks thread walk (rw are.all low) read))
    (subst (P (get_or walks thread at_start)) (are.walked.each thread low) (are.each thread low))
