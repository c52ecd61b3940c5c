-- Which records put a parallel region inside another.
use Rattle.std.proofs.Common.{◌≡◌, ◌≢◌, ◌∙◌, ℕ, ◌<◌, ◌+◌, List, [], ◌∷◌, length, take, drop, get_or}
use Rattle.std.proofs.Common.{Option, Some, None, Bool, true, false, cond, refl, sym, ap, subst, arith, inl}
use Rattle.std.proofs.Common.{inr, ◌⊎◌, rules}
use Rattle.std.proofs.lemmas.Bool.{false≢true, cases_eq}
use Rattle.std.proofs.lemmas.List.{length-set, get_or-set_same, get_or-set_other}
use Rattle.std.proofs.Math.ListN.{set}
use Rattle.std.proofs.lemmas.Option.{none-some, same_Some, slice_get_within, slice_get-get_or}
use Rattle.std.proofs.lemmas.Option.{get_or_from_slice_get}
use Rattle.std.specs.Prelude.{◌↔◌, All, is_some, slice_get, option_and_then, replicate, IsSomeAnd, IfSome}
use Rattle.std.specs.Option.{option_map_or}
use Rattle.ompt_events.specs.declared.records.Record.{Record}
use Rattle.ompt_events.specs.declared.records.Membership.{Membership}
use Rattle.ompt_events.specs.declared.cause.Cause.TheVariants.{NestedParallel}
use Rattle.ompt_events.specs.Records.{made, forked, joined, begun_initial, begun_root, ended_root}
use Rattle.ompt_events.specs.declared.records.Body.{Body}
use Rattle.ompt_events.specs.declared.records.Body.TheVariants.{ImplicitTask, TaskSchedule}
use Rattle.ompt_events.specs.declared.names.Endpoint.TheVariants.{Begin, End}
use Rattle.ompt_events.proofs.RecordLemmas.{at_through, member_made, initial_made, member_begun}
use Rattle.ompt_events.proofs.RecordLemmas.{initial_begun}
use Rattle.ompt_events.specs.Places.{at, thread_at, nests_at}
use Rattle.ompt_events.specs.Teams.{IsInitial, IsMember}
use Rattle.ompt_events.specs.Names.{demands_next}
use Rattle.ompt_events.specs.Threads.{Walk, at_start, after_body, after_record, walk_of}
use Rattle.ompt_events.specs.Causes.{IsWalkAt, IsNested, forked_inside, joined_inside, initial_inside}
use Rattle.ompt_events.specs.Causes.{HasCause, nested_parallel, IsFreeOf}
use Rattle.ompt_events.specs.Causes.{IsMisnested, other_region, other_league}
use Rattle.ompt_events.specs.Shown.{AreAllBelow, AreAllWith}
use Rattle.ompt_events.proofs.ShownLemmas.{all_with}
use Rattle.ompt_events.proofs.PlaceLemmas.{at_within, at_get, get_at, some_and, and_some, some_of}
use Rattle.ompt_events.proofs.ThreadLemmas.{AreWalks, walks_more, walk_is}
use Rattle.ompt_events.proofs.ListLemmas.{get_within}
use Rattle.task_tree.specs.Subjects.{Calls}
use Rattle.task_tree.specs.Runs.{RunView, IsRun, IsIndexOf}
use Rattle.task_tree.specs.declared.run.ThreadEvent.{ThreadEvent}
use Rattle.task_tree.specs.declared.run.ThreadEvent.TheVariants.{Scheduled, RootBegin, RootEnd, Running}
use Rattle.task_tree.proofs.OnceLemmas.{made_once}
use Rattle.task_tree.proofs.SubjectLemmas.{call_index, call_task, call_none}
use Rattle.task_states.specs.Nesting.{IsRootEvent, IsNoRootEvent, IsMemberIndex, ForksInside, BeginsInside}
use Rattle.task_states.specs.Walks.{after_event}
use Rattle.task_states.proofs.WalkLemmas.{AreCalled, called_push, called_drop, called_there, uncalled_there}
use Rattle.task_states.proofs.WalkLemmas.{begin_after, end_after, thread_there, thread_low, stands_none}
use Rattle.task_states.proofs.WalkLemmas.{nests_there}

-- ---- what the record that makes a task says of it

-- this record makes the task, and no other does
abbrev pub IsMaker : List Record → ℕ → Record → Type 0
IsMaker rs task r = (made r.body ≡ Some task) × ((i : ℕ) → at made rs i ≡ Some task → slice_get rs i ≡ Some r)
    × ((i : ℕ) × (slice_get rs i ≡ Some r))

initial_by : (rs : List Record) (task : ℕ) (r : Record) → IsMaker rs task r
    → (is_some (begun_initial r.body) ≡ true) ↔ IsInitial rs task
initial_by rs task r (makes, only, (place, stands)) = (
  λ begins.
      let root = some_of (begun_initial r.body) begins in
      let same : root.0 ≡ task = same_Some root.0 task (sym (initial_made root.0 r.body root.1) ∙ makes) in
      (place, ap (option_and_then (λ (q : Record). begun_initial q.body)) stands ∙ root.1 ∙ ap Some same),
  λ (i, begins).
      ap is_some
      (sym
      (ap (option_and_then (λ (q : Record). begun_initial q.body))
      (only i (at_through begun_initial made task task rs i (initial_made task) begins)))
      ∙ begins),
)

member_by : (rs : List Record) (task : ℕ) (r : Record) → IsMaker rs task r
    → (is_some (joined r.body) ≡ true) ↔ IsMember rs task
member_by rs task r (makes, only, (place, stands)) = (
  λ joins.
      let m = some_of (joined r.body) joins in (
        place,
        m.0,
        ap (option_and_then (λ (q : Record). joined q.body)) stands ∙ m.1,
        same_Some m.0.member task (sym (member_made m.0 r.body m.1) ∙ makes),
      ),
  λ (i, m, joins, is).
      ap is_some
      (sym
      (ap (option_and_then (λ (q : Record). joined q.body))
      (only i
      (at_through joined made m task rs i (λ b says. member_made m b says ∙ ap Some is)
      joins)))
      ∙ joins),
)

-- a task has an index where it is named
pub found_same : (tasks : List ℕ) (named slot : Option ℕ) → Calls tasks named slot
    → is_some slot ≡ is_some named
found_same tasks None slot calls = ap is_some calls
found_same tasks (Some task) slot (index, is, stands) = ap is_some is

-- the record at the place that a run knows
made_here : (run : RunView) (index task place : ℕ) → IsRun run
    → at made run.records place ≡ slice_get run.family.tasks index
    → slice_get run.family.tasks index ≡ Some task
    → (r : Record) × (slice_get run.records place ≡ Some r) × IsMaker run.records task r
made_here run index task place is is_made stands =
    let rs = run.records in
    let makes : at made rs place ≡ Some task = is_made ∙ stands in
    let (r, there, says) = get_at made rs place task makes in (
      r,
      there,
      (
        says,
        λ i makes_too.
            ap (slice_get rs) (made_once rs task i place is.family.once makes_too makes) ∙ there,
        (place, there),
      ),
    )

pub initial_at : (run : RunView) (index task place : ℕ) (found : Option ℕ) → IsRun run
    → at made run.records place ≡ slice_get run.family.tasks index
    → slice_get run.family.tasks index ≡ Some task → IsIndexOf run begun_initial place found
    → (is_some found ≡ true) ↔ IsInitial run.records task
initial_at run index task place found is is_made stands calls =
    let (r, there, maker) = made_here run index task place is is_made stands in
    let same : is_some found ≡ is_some (begun_initial r.body) =
    found_same run.family.tasks (at begun_initial run.records place) found calls
    ∙ ap is_some (at_get begun_initial run.records place r there) in
    let both = initial_by run.records task r maker in
    (λ yes. both.0 (sym same ∙ yes), λ initial. same ∙ both.1 initial)

pub member_at : (run : RunView) (index place : ℕ) (found : Option Membership) → IsRun run
    → index < length run.family.tasks → at made run.records place ≡ slice_get run.family.tasks index
    → found ≡ at joined run.records place → (is_some found ≡ true) ↔ IsMemberIndex run index
member_at run index place found is within is_made joins =
    let task = get_or run.family.tasks index 0 in
    let stands = slice_get-get_or run.family.tasks index 0 within in
    let (r, there, maker) = made_here run index task place is is_made stands in
    let same : is_some found ≡ is_some (joined r.body) =
    ap is_some (joins ∙ at_get joined run.records place r there) in
    let both = member_by run.records task r maker in (
      λ yes. (task, stands, both.0 (sym same ∙ yes)),
      λ (own, stands_own, member).
          let P : ℕ → Type 0 = IsMember run.records in
          same ∙ both.1 (subst P (same_Some own task (sym stands_own ∙ stands)) member),
    )

-- ---- the open roots of each thread

-- each of these walks has the open roots of its thread after the first i records, by indices; the task that
-- runs may be another
pub record AreOpenRoots (run : RunView) (i : ℕ) (walks : List Walk) : Type 0 where
  pub all : length walks ≡ 256
  pub whole : List Walk
  pub walked : AreWalks run.records i whole
  pub each : (thread : ℕ) → thread < 256
      → AreCalled run.family.tasks (get_or walks thread at_start).roots (get_or whole thread at_start).roots

pub roots_none : (run : RunView) (walks : List Walk) → walks ≡ replicate 256 at_start
    → AreOpenRoots run 0 walks
roots_none run walks fresh =
    let are = stands_none run walks fresh in
    record {
      all = are.all;
      whole = are.whole;
      walked = are.walked;
      each = λ thread below. (are.each thread below).roots;
    }

-- a root that begins or ends changes the open roots so
roots_after : (run : RunView) (nests : Bool) (i : ℕ) (walk w : Walk) (event : ThreadEvent) (r : Record)
    → slice_get run.records i ≡ Some r → IsRootEvent run i event
    → AreCalled run.family.tasks walk.roots w.roots
    → AreCalled run.family.tasks (after_event nests walk event).roots (after_record w r).roots
roots_after run nests i walk w (RootBegin index) r stands is are =
    let (task, says, there) = called_there begun_root run i index r stands is in
    let P : Walk → Type 0 = λ v. AreCalled run.family.tasks (index ∷ walk.roots) v.roots in
    subst P (sym (begin_after r.nests w r.body task says))
    (called_push run.family.tasks index task walk.roots w.roots there are)
roots_after run nests i walk w (RootEnd index) r stands is are =
    let (task, says, there) = called_there ended_root run i index r stands is in
    let P : Walk → Type 0 = λ v. AreCalled run.family.tasks (drop 1 walk.roots) v.roots in
    subst P (sym (end_after r.nests w r.body task says)) (called_drop run.family.tasks walk.roots w.roots are)
roots_after run nests i walk w (Scheduled event) r stands is are = absurd is
roots_after run nests i walk w (Running index) r stands is are = absurd is

-- any other record leaves them
roots_kept : (nests : Bool) (w : Walk) (b : Body) → begun_root b ≡ None → ended_root b ≡ None
    → (after_body nests w b).roots ≡ w.roots
roots_kept nests w (ImplicitTask Begin actual index flags parallel own) no_begin no_end =
    absurd (none-some own (sym no_begin))
roots_kept nests w (ImplicitTask End actual index flags parallel own) no_begin no_end =
    absurd (none-some own (sym no_end))
roots_kept nests w (TaskSchedule status turns prior next claimed) no_begin no_end = by (demands_next status)
  where
    by : (b : Bool)
        → (cond b (record { roots = w.roots; outer = w.outer; current = next }) w).roots ≡ w.roots
    by true = refl
    by false = refl
roots_kept nests w _ no_begin no_end = refl

-- the thread of a record goes on by it
pub roots_more : (run : RunView) (nests : Bool) (i thread : ℕ) (event : ThreadEvent) (old new : List Walk)
    → IsRun run → i < length run.records → thread_at run.records i ≡ Some thread → IsRootEvent run i event
    → AreOpenRoots run i old → new ≡ set old thread (after_event nests (get_or old thread at_start) event)
    → AreOpenRoots run (i + 1) new
roots_more run nests i thread event old new is_run within runs tells are is =
    more (get_within run.records i within)
  where
    next : Walk
    next = after_event nests (get_or old thread at_start) event

    more : (r : Record) × (slice_get run.records i ≡ Some r) → AreOpenRoots run (i + 1) new
    more (r, stands) = record {
      all = ap length is ∙ length-set old thread next ∙ are.all;
      whole = set are.whole r.thread after;
      walked =
          walks_more run.records i r are.whole (set are.whole r.thread after) within
          (sym (get_or_from_slice_get run.records i r r stands)) low are.walked refl;
      each = λ other below. elim (cases_eq other r.thread) [
        | inl own ↦
            let mine : get_or new other at_start ≡ next =
            ap (λ ws. get_or ws other at_start) is
            ∙ ap (λ t. get_or (set old thread next) t at_start) (own ∙ same)
            ∙ get_or-set_same old thread next at_start (rw are.all low_own) in
            let theirs : get_or (set are.whole r.thread after) other at_start ≡ after =
            ap (λ t. get_or (set are.whole r.thread after) t at_start) own
            ∙ get_or-set_same are.whole r.thread after at_start (rw are.walked.all low) in
            let here : P (get_or old thread at_start) (get_or are.whole r.thread at_start) =
            subst (λ t. P (get_or old thread at_start) (get_or are.whole t at_start)) (sym same)
            (are.each thread low_own) in
            subst (λ w. P w (get_or (set are.whole r.thread after) other at_start)) (sym mine)
            (subst (P next) (sym theirs)
            (roots_after run nests i (get_or old thread at_start) (get_or are.whole r.thread at_start) event
            r stands tells here))
        | inr apart ↦
            let mine : get_or new other at_start ≡ get_or old other at_start =
            ap (λ ws. get_or ws other at_start) is
            ∙ get_or-set_other old thread other next at_start (λ e. apart (e ∙ sym same)) in
            let theirs : get_or (set are.whole r.thread after) other at_start
            ≡ get_or are.whole other at_start =
            get_or-set_other are.whole r.thread other after at_start apart in
            subst (λ w. P w (get_or (set are.whole r.thread after) other at_start)) (sym mine)
            (subst (P (get_or old other at_start)) (sym theirs) (are.each other below))
      ];
    }
      where
        P : Walk → Walk → Type 0
        P v w = AreCalled run.family.tasks v.roots w.roots

        after : Walk
        after = after_record (get_or are.whole r.thread at_start) r

        same : r.thread ≡ thread
        same = thread_there run i thread r stands runs

        low : r.thread < 256
        low = thread_low run i r is_run stands

        low_own : thread < 256
        low_own = let Q : ℕ → Type 0 = λ t. t < 256 in subst Q same low

-- and need not where the record leaves its roots
pub roots_same : (run : RunView) (i : ℕ) (walks : List Walk) → IsRun run → i < length run.records
    → IsNoRootEvent run i → AreOpenRoots run i walks → AreOpenRoots run (i + 1) walks
roots_same run i walks is_run within (no_begin, no_end) are = still (get_within run.records i within)
  where
    still : (r : Record) × (slice_get run.records i ≡ Some r) → AreOpenRoots run (i + 1) walks
    still (r, stands) = record {
      all = are.all;
      whole = set are.whole r.thread after;
      walked =
          walks_more run.records i r are.whole (set are.whole r.thread after) within
          (sym (get_or_from_slice_get run.records i r r stands)) low are.walked refl;
      each =
          λ other below.
          let P : List ℕ → Type 0 = AreCalled run.family.tasks (get_or walks other at_start).roots in
          subst P (sym (stays other)) (are.each other below);
    }
      where
        after : Walk
        after = after_record (get_or are.whole r.thread at_start) r

        low : r.thread < 256
        low = thread_low run i r is_run stands

        quiet : after.roots ≡ (get_or are.whole r.thread at_start).roots
        quiet =
            roots_kept r.nests (get_or are.whole r.thread at_start) r.body
            (uncalled_there begun_root run i r stands no_begin)
            (uncalled_there ended_root run i r stands no_end)

        stays : (other : ℕ)
            → (get_or (set are.whole r.thread after) other at_start).roots
            ≡ (get_or are.whole other at_start).roots
        stays other = elim (cases_eq other r.thread) [
          | inl own ↦
              ap (λ (w : Walk). w.roots)
              (ap (λ t. get_or (set are.whole r.thread after) t at_start) own
              ∙ get_or-set_same are.whole r.thread after at_start (rw are.walked.all low))
              ∙ quiet ∙ ap (λ t. (get_or are.whole t at_start).roots) (sym own)
          | inr apart ↦
              ap (λ (w : Walk). w.roots) (get_or-set_other are.whole r.thread other after at_start apart)
        ]

-- the walk that was read has the open roots of its thread
pub roots_read : (run : RunView) (i thread : ℕ) (walks : List Walk) (walk : Walk) → thread < 256
    → AreOpenRoots run i walks → walk ≡ get_or walks thread walk
    → AreCalled run.family.tasks walk.roots (walk_of thread (take i run.records)).roots
roots_read run i thread walks walk low are read =
    let P : Walk → Walk → Type 0 = λ v w. AreCalled run.family.tasks v.roots w.roots in
    subst (λ v. P v (walk_of thread (take i run.records)))
    (sym (walk_is walks thread walk (rw are.all low) read))
    (subst (P (get_or walks thread at_start)) (are.walked.each thread low) (are.each thread low))

-- the innermost root is a task of the run
pub first_known : (tasks indices named : List ℕ) → AreCalled tasks indices named
    → IfSome (slice_get indices 0) (λ index. index < length tasks)
first_known tasks indices named are = of (slice_get indices 0) refl
  where
    of : (o : Option ℕ) → slice_get indices 0 ≡ o → IfSome o (λ index. index < length tasks)
    of None e = search rules
    of (Some index) e =
        let (task, says, stands) =
        call_task tasks (slice_get named 0) (slice_get indices 0) index (are 0) e in
        slice_get_within tasks index task stands

-- ---- a record where its thread stands

pub not_empty : (roots : List ℕ) → is_some (slice_get roots 0) ≡ true → roots ≢ []
not_empty roots is empty = false≢true (ap (λ l. is_some (slice_get l 0)) (sym empty) ∙ is)

pub has_first : (roots : List ℕ) → roots ≢ [] → is_some (slice_get roots 0) ≡ true
has_first [] full = absurd (full refl)
has_first (x ∷ xs) full = refl

pub forks_nested : (run : RunView) (i : ℕ) → nests_at run.records i ≡ false → ForksInside run.records i
    → IsNested run.records i
forks_nested run i flat h =
    let ((task, parallel), says, other) =
    some_and (at forked run.records i) (λ (p : ℕ × ℕ). IsInitial run.records p.0 → ⊥) h in
    forked_inside task parallel flat says other

-- where the thread stands after its part of the records
pub walk_here : (run : RunView) (i thread : ℕ) → i < length run.records
    → thread_at run.records i ≡ Some thread → IsWalkAt run.records i (walk_of thread (take i run.records))
walk_here run i thread within runs =
    let (r, stands) = get_within run.records i within in
    (r, stands, ap (λ t. walk_of t (take i run.records)) (sym (thread_there run i thread r stands runs)))

pub begins_nested : (run : RunView) (i thread : ℕ) (walk : Walk) → nests_at run.records i ≡ false
    → i < length run.records
    → thread_at run.records i ≡ Some thread
    → AreCalled run.family.tasks walk.roots (walk_of thread (take i run.records)).roots
    → BeginsInside run walk i → IsNested run.records i
begins_nested run i thread walk flat within runs are (inl h) =
    let w = walk_of thread (take i run.records) in
    let (m, says, opened) =
    some_and (at joined run.records i)
    (λ (m : Membership). IsSomeAnd (slice_get walk.roots 0) (IsMemberIndex run)) h in
    let (index, is_first, (task, stands, member)) =
    some_and (slice_get walk.roots 0) (IsMemberIndex run) opened in
    let (own, named, there) =
    call_task run.family.tasks (slice_get w.roots 0) (slice_get walk.roots 0) index (are 0) is_first in
    let P : ℕ → Type 0 = IsMember run.records in
    joined_inside m w own flat says (walk_here run i thread within runs) named
    (subst P (same_Some task own (sym stands ∙ there)) member)
begins_nested run i thread walk flat within runs are (inr (begins, opened)) =
    let w = walk_of thread (take i run.records) in
    let task = some_of (at begun_initial run.records i) begins in
    let full : is_some (slice_get w.roots 0) ≡ true =
    sym (found_same run.family.tasks (slice_get w.roots 0) (slice_get walk.roots 0) (are 0)) ∙ opened in
    initial_inside task.0 w flat task.1 (walk_here run i thread within runs) (not_empty w.roots full)

-- and back
pub nested_cases : (run : RunView) (i thread : ℕ) (walk : Walk) → thread_at run.records i ≡ Some thread
    → AreCalled run.family.tasks walk.roots (walk_of thread (take i run.records)).roots
    → IsNested run.records i → ForksInside run.records i ⊎ BeginsInside run walk i
nested_cases run i thread walk runs are nested = cases nested
  where
    w : Walk
    w = walk_of thread (take i run.records)

    is_here : (other : Walk) → IsWalkAt run.records i other → other ≡ w
    is_here other (r, stands, is) =
        is ∙ ap (λ t. walk_of t (take i run.records)) (thread_there run i thread r stands runs)

    cases : IsNested run.records i → ForksInside run.records i ⊎ BeginsInside run walk i
    cases (forked_inside task parallel flat says other) =
        inl
        (and_some (at forked run.records i) (λ (p : ℕ × ℕ). IsInitial run.records p.0 → ⊥)
        (task, parallel) says other)
    cases (joined_inside m other outer flat says stands is member) =
        let top : slice_get w.roots 0 ≡ Some outer =
        ap (λ (v : Walk). slice_get v.roots 0) (sym (is_here other stands)) ∙ is in
        let (index, there, indexed) =
        call_index run.family.tasks (slice_get w.roots 0) (slice_get walk.roots 0) outer (are 0) top in
        inr
        (inl
        (and_some (at joined run.records i)
        (λ (x : Membership). IsSomeAnd (slice_get walk.roots 0) (IsMemberIndex run)) m says
        (and_some (slice_get walk.roots 0) (IsMemberIndex run) index there
        (outer, indexed, member))))
    cases (initial_inside task other flat says stands full) =
        let P : Walk → Type 0 = λ v. is_some (slice_get v.roots 0) ≡ true in
        inr
        (inr (
          ap is_some says,
          found_same run.family.tasks (slice_get w.roots 0) (slice_get walk.roots 0) (are 0)
              ∙ subst P (is_here other stands) (has_first other.roots full),
        ))

-- a record that begins no root
pub nested_forks : (run : RunView) (i : ℕ) → IsNoRootEvent run i → IsNested run.records i
    → ForksInside run.records i
nested_forks run i (no_begin, no_end) nested = cases nested
  where
    none : at begun_root run.records i ≡ None
    none = call_none run.family.tasks (at begun_root run.records i) None no_begin refl

    cases : IsNested run.records i → ForksInside run.records i
    cases (forked_inside task parallel flat says other) =
        and_some (at forked run.records i) (λ (p : ℕ × ℕ). IsInitial run.records p.0 → ⊥) (task, parallel)
        says other
    cases (joined_inside m other outer flat says stands is member) =
        absurd
        (none-some m.member
        (sym none ∙ at_through joined begun_root m m.member run.records i (member_begun m) says))
    cases (initial_inside task other flat says stands full) =
        absurd
        (none-some task
        (sym none
        ∙ at_through begun_initial begun_root task task run.records i (initial_begun task) says))

-- ---- where none may, and where each may

is_nested : (rs : List Record) (i : ℕ) → HasCause rs i NestedParallel → IsNested rs i
is_nested rs i (nested_parallel h) = h

pub nested_within : (rs : List Record) (i : ℕ) → IsNested rs i → i < length rs
nested_within rs i (forked_inside task parallel flat says other) = at_within forked rs i (task, parallel) says
nested_within rs i (joined_inside m walk outer flat says stands is member) = at_within joined rs i m says
nested_within rs i (initial_inside task walk flat says stands full) = at_within begun_initial rs i task says

pub nests_all : (rs : List Record) (nests : Bool) (i : ℕ) → All (λ (r : Record). r.nests ≡ nests) rs
    → i < length rs → nests_at rs i ≡ nests
nests_all rs nests i all within =
    let (r, stands) = get_within rs i within in
    ap (λ (o : Option Record). option_map_or (λ (q : Record). q.nests) o false) stands
    ∙ nests_there rs i nests r all stands

pub flat_nested : (rs : List Record) (i : ℕ) → IsNested rs i → nests_at rs i ≡ false
flat_nested rs i (forked_inside task parallel flat says other) = flat
flat_nested rs i (joined_inside m walk outer flat says stands is member) = flat
flat_nested rs i (initial_inside task walk flat says stands full) = flat

pub misnested_nests : (rs : List Record) (i : ℕ) → IsMisnested rs i → nests_at rs i ≡ true
misnested_nests rs i (other_region m walk nests joins stands inside none) = nests
misnested_nests rs i (other_league task walk nests begins stands inside none) = nests

pub misnested_within : (rs : List Record) (i : ℕ) → IsMisnested rs i → i < length rs
misnested_within rs i (other_region m walk nests joins stands inside none) = at_within joined rs i m joins
misnested_within rs i (other_league task walk nests begins stands inside none) =
    at_within begun_initial rs i task begins

pub free_where_all_nest : (rs : List Record) → All (λ (r : Record). r.nests ≡ true) rs
    → IsFreeOf rs NestedParallel
free_where_all_nest rs all i has =
    let here = is_nested rs i has in
    false≢true (sym (flat_nested rs i here) ∙ nests_all rs true i all (nested_within rs i here))

-- ---- the search

-- a record that begins or ends a root begins no region
pub root_forks : (run : RunView) (i : ℕ) (event : ThreadEvent) → IsRootEvent run i event
    → ForksInside run.records i → ⊥
root_forks run i event is h = roots event is
  where
    says : (p : ℕ × ℕ) × (at forked run.records i ≡ Some p) × (IsInitial run.records p.0 → ⊥)
    says = some_and (at forked run.records i) (λ (p : ℕ × ℕ). IsInitial run.records p.0 → ⊥) h

    not_begun : (b : Body) (task : ℕ) (p : ℕ × ℕ) → begun_root b ≡ Some task → forked b ≡ Some p → ⊥
    not_begun (ImplicitTask Begin actual index flags parallel own) task p begins forks = none-some p forks
    not_begun _ task p begins forks = none-some task begins

    not_ended : (b : Body) (task : ℕ) (p : ℕ × ℕ) → ended_root b ≡ Some task → forked b ≡ Some p → ⊥
    not_ended (ImplicitTask End actual index flags parallel own) task p ends forks = none-some p forks
    not_ended _ task p ends forks = none-some task ends

    roots : (event : ThreadEvent) → IsRootEvent run i event → ⊥
    roots (RootBegin index) is =
        let (task, begins, stands) =
        call_task run.family.tasks (at begun_root run.records i) (Some index) index is refl in
        let (r, there, forks) = get_at forked run.records i says.0 says.1 in
        not_begun r.body task says.0 (sym (at_get begun_root run.records i r there) ∙ begins) forks
    roots (RootEnd index) is =
        let (task, ends, stands) =
        call_task run.family.tasks (at ended_root run.records i) (Some index) index is refl in
        let (r, there, forks) = get_at forked run.records i says.0 says.1 in
        not_ended r.body task says.0 (sym (at_get ended_root run.records i r there) ∙ ends) forks
    roots (Scheduled event) is = absurd is
    roots (Running index) is = absurd is

-- the places that were found up to the end are all
pub all_nested : (rs : List Record) (n : ℕ) (places : List ℕ) → length rs ≡ n
    → AreAllBelow (IsNested rs) n places → AreAllWith rs NestedParallel places
all_nested rs n places all are =
    all_with rs NestedParallel (IsNested rs) n places all (λ i here. nested_parallel here)
    (λ i has.
    let here = is_nested rs i has in
    let inside = nested_within rs i here in (omega (arith, inside, all), here))
    are
