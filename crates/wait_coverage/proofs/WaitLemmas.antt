-- What the end of a region waits for, and which of it is unfinished.
use Rattle.std.proofs.Common.{◌≡◌, ◌∙◌, ℕ, ◌<◌, ◌≤◌, ◌+◌, Bool, false, List, length, get_or, Option, Some}
use Rattle.std.proofs.Common.{None, refl, sym, ap, subst, arith, inl, inr, ◌⊎◌}
use Rattle.std.proofs.lemmas.Bool.{cases_eq, false≢true}
use Rattle.std.proofs.lemmas.Option.{none-some, same_Some, slice_get_within}
use Rattle.std.proofs.lemmas.List.{length-set, get_or-set_same, get_or-set_other}
use Rattle.std.proofs.Math.ListN.{set}
use Rattle.std.specs.Prelude.{◌↔◌, IsTrue, slice_get, slice_index_or}
use Rattle.ompt_events.specs.declared.records.Record.{Record}
use Rattle.ompt_events.specs.declared.names.Endpoint.{Endpoint}
use Rattle.ompt_events.specs.declared.names.SyncKind.{SyncKind}
use Rattle.ompt_events.specs.declared.names.WaitKind.{WaitKind}
use Rattle.ompt_events.specs.declared.names.WaitKind.TheVariants.{Taskwait as TaskwaitKind}
use Rattle.ompt_events.specs.declared.names.WaitKind.TheVariants.{Taskgroup as TaskgroupKind}
use Rattle.ompt_events.specs.declared.names.WaitKind.TheVariants.{Barrier as BarrierKind}
use Rattle.ompt_events.specs.Records.{made, creation}
use Rattle.ompt_events.specs.Places.{at}
use Rattle.ompt_events.specs.Tree.{child, deeper}
use Rattle.ompt_events.specs.Regions.{IsRegion}
use Rattle.ompt_events.specs.Coverage.{IsFamily}
use Rattle.task_tree.specs.Family.{FamilyView, IsFamilyOf}
use Rattle.task_tree.specs.Lineage.{parent_index, IsParentAt}
use Rattle.task_tree.specs.Runs.{RunView, IsNoWaitEvent, IsWaitEvent}
use Rattle.task_states.specs.Regions.{IsRegionBegin}
use Rattle.task_tree.proofs.OnceLemmas.{made_once, creation_made}
use Rattle.task_tree.proofs.LineageLemmas.{parent_is_at, parent_at_is}
use Rattle.credit_ledger.specs.declared.entry.Cover.TheVariants.{Descendants}
use Rattle.wait_coverage.specs.Done.{IsDoneView, DoneView, records_of, IsParentsFirst}
use Rattle.wait_coverage.specs.Waits.{IsWaitAt, waits, groups, IsOwnChild, IsAwaitedBy, IsAwaited, AreAwaited}
use Rattle.wait_coverage.specs.Waits.{AreAwaitedMarked, EndsNoWaitAt, IsAwaitedUnfinishedAt, cover_of}
use Rattle.wait_coverage.specs.Waits.{IsInWait}
use Rattle.wait_coverage.specs.Waits.{before_begin}
use Rattle.wait_coverage.specs.Waits.{in_group, by_member, meets}
use Rattle.wait_coverage.specs.Search.{SearchView, IsMarkedAbove}
use Rattle.teams.specs.Teams.{AreBeginNumbers, begins_before}
use Rattle.wait_coverage.specs.declared.waits.Wait.{Wait}
use Rattle.wait_coverage.specs.declared.waits.Wait.TheVariants.{Taskwait as ForTaskwait}
use Rattle.wait_coverage.specs.declared.waits.Wait.TheVariants.{Taskgroup as ForTaskgroup}
use Rattle.wait_coverage.specs.declared.waits.Wait.TheVariants.{Barrier as ForBarrier}
use Rattle.teams.proofs.BarrierLemmas.{barrier_begins_at}
use Rattle.index_tables.specs.Numbering.{AreApart}
use Rattle.ompt_events.specs.Teams.{IsTeammate}
use Rattle.teams.proofs.EventLemmas.{barrier_kind}
use Rattle.teams.proofs.RegionEndLemmas.{ends_at}
use Rattle.wait_coverage.proofs.DoneLemmas.{indices_of}
use Rattle.wait_coverage.proofs.WaitKindLemmas.{silent_sync}
use Rattle.wait_coverage.proofs.KindLemmas.{taskwait_kind, taskgroup_kind}

-- ---- the children

-- a task with a parent is one where its parent's index and the place of its creation are
pub own_by : (rs : List Record) (family : FamilyView) (index task up place : ℕ) (wait : Wait) (answer : Bool)
    → IsFamilyOf rs family → slice_get family.tasks index ≡ Some task → parent_index family index ≡ Some up
    → at made rs place ≡ slice_get family.tasks index
    → ((parent : ℕ) → slice_get family.tasks up ≡ Some parent
    → IsTrue answer ↔ IsInWait rs family.tasks parent place wait)
    → IsTrue answer ↔ IsOwnChild rs family.tasks wait task
own_by rs family index task up place wait answer are here above is_made exact = (
  λ yes_it. record {
    parent = known.0;
    made = place;
    within = (exact known.0 known.1).0 yes_it;
    creates = creates;
  },
  λ own.
      let same_place : own.made ≡ place =
      made_once rs task own.made place are.once (creation_made rs own.parent task own.made own.creates)
      (is_made ∙ here) in
      let pair =
      same_Some (own.parent, task) (known.0, task)
      (sym own.creates ∙ ap (at creation rs) same_place ∙ creates) in
      let P : ℕ → Type 0 = λ k. IsInWait rs family.tasks own.parent k wait in
      let Q : ℕ → Type 0 = λ p. IsInWait rs family.tasks p place wait in
      (exact known.0 known.1).1 (subst Q (ap (λ (p : ℕ × ℕ). p.0) pair) (subst P same_place own.within)),
)
  where
    known : IsParentAt rs family.tasks up task
    known = parent_is_at rs family index task up are here above

    creates : at creation rs place ≡ Some (known.0, task)
    creates =
        ap (at creation rs)
        (sym
        (made_once rs task known.2.0 place are.once
        (creation_made rs known.0 task known.2.0 known.2.1) (is_made ∙ here)))
        ∙ known.2.1

-- and one with none is none
pub own_parentless : (rs : List Record) (family : FamilyView) (index task : ℕ) (wait : Wait)
    → IsFamilyOf rs family → slice_get family.tasks index ≡ Some task → parent_index family index ≡ None
    → IsOwnChild rs family.tasks wait task → ⊥
own_parentless rs family index task wait are here none own =
    let known = indices_of rs family own.made own.parent task are own.creates in
    none-some known.up
    (sym none
    ∙ parent_at_is rs family index task known.up are here
    (own.parent, known.is_parent, (own.made, own.creates)))

-- ---- which children

pub within_taskwait : (rs : List Record) (tasks : List ℕ) (parent place index task begin : ℕ) (answer : Bool)
    → AreApart tasks → slice_get tasks index ≡ Some parent
    → IsTrue answer ↔ ((task ≡ index) × (0 ≤ place) × (place < begin))
    → IsTrue answer ↔ IsInWait rs tasks parent place (ForTaskwait task begin)
within_taskwait rs tasks parent place index task begin answer apart here exact = (
  λ yes_it. let known = exact.0 yes_it in before_begin (ap (slice_get tasks) known.0 ∙ here) known.2,
  λ within. exact.1 (of within),
)
  where
    of : IsInWait rs tasks parent place (ForTaskwait task begin)
        → (task ≡ index) × (0 ≤ place) × (place < begin)
    of (before_begin there less) = (apart task index parent there here, omega arith, less)

pub within_taskgroup : (rs : List Record) (tasks : List ℕ) (parent place index task begin end : ℕ)
    (answer : Bool)
    → AreApart tasks → slice_get tasks index ≡ Some parent
    → IsTrue answer ↔ ((task ≡ index) × (begin ≤ place) × (place < end))
    → IsTrue answer ↔ IsInWait rs tasks parent place (ForTaskgroup task begin end)
within_taskgroup rs tasks parent place index task begin end answer apart here exact = (
  λ yes_it. let known = exact.0 yes_it in in_group (ap (slice_get tasks) known.0 ∙ here) known.1 known.2,
  λ within. exact.1 (of within),
)
  where
    of : IsInWait rs tasks parent place (ForTaskgroup task begin end)
        → (task ≡ index) × (begin ≤ place) × (place < end)
    of (in_group there from less) = (apart task index parent there here, from, less)

-- the place is before the barrier begin with this number
abbrev pub IsBeforeBegin : List ℕ → ℕ → ℕ → Type 0
IsBeforeBegin places number place = (start : ℕ) × (slice_get places number ≡ Some start) × (place < start)

pub within_barrier : (rs : List Record) (tasks places : List ℕ) (own parent place index task number : ℕ)
    (answer : Bool)
    → slice_get tasks task ≡ Some own → IsTeammate rs own parent
    → places ≡ begins_before rs parent (length rs) → IsTrue answer ↔ IsBeforeBegin places number place
    → IsTrue answer ↔ IsInWait rs tasks parent place (ForBarrier task number)
within_barrier rs tasks places own parent place index task number answer is_own mate are exact = (
  λ yes_it. let known =
      exact.0 yes_it in by_member is_own mate (ap (λ l. slice_get l number) (sym are) ∙ known.1) known.2,
  λ within. exact.1 (of within),
)
  where
    of : IsInWait rs tasks parent place (ForBarrier task number) → IsBeforeBegin places number place
    of (by_member {start = start} there mates begins less) =
        (start, ap (λ l. slice_get l number) are ∙ begins, less)

-- ---- and their descendants

as_deep : (rs : List Record) (tasks : List ℕ) (task : ℕ) (wait : Wait) → cover_of wait ≡ Descendants
    → IsAwaited rs tasks wait task → IsAwaitedBy rs tasks task wait Descendants
as_deep rs tasks task wait deep is = subst (IsAwaitedBy rs tasks task wait) deep is

of_deep : (rs : List Record) (tasks : List ℕ) (task : ℕ) (wait : Wait) → cover_of wait ≡ Descendants
    → IsAwaitedBy rs tasks task wait Descendants → IsAwaited rs tasks wait task
of_deep rs tasks task wait deep is = subst (IsAwaitedBy rs tasks task wait) (sym deep) is

-- a task is waited for as a child, or with its parent
pub awaited_cases : (rs : List Record) (family : FamilyView) (index task : ℕ) (wait : Wait)
    → IsFamilyOf rs family → slice_get family.tasks index ≡ Some task → cover_of wait ≡ Descendants
    → IsAwaited rs family.tasks wait task
    → IsOwnChild rs family.tasks wait task
    ⊎ ((up parent : ℕ) × (parent_index family index ≡ Some up) × (slice_get family.tasks up ≡ Some parent)
    × IsAwaited rs family.tasks wait parent)
awaited_cases rs family index task wait are here deep is = of (as_deep rs family.tasks task wait deep is)
  where
    up_of : (i parent : ℕ) → at creation rs i ≡ Some (parent, task) → (other : ℕ)
        → IsOwnChild rs family.tasks wait other → IsFamily rs other parent
        → (up above : ℕ) × (parent_index family index ≡ Some up) × (slice_get family.tasks up ≡ Some above)
        × IsAwaited rs family.tasks wait above
    up_of i parent creates other own family_of =
        let known = indices_of rs family i parent task are creates in (
          known.up,
          parent,
          parent_at_is rs family index task known.up are here (parent, known.is_parent, (i, creates)),
          known.is_parent,
          of_deep rs family.tasks parent wait deep (other, own, family_of),
        )

    of : IsAwaitedBy rs family.tasks task wait Descendants
        → IsOwnChild rs family.tasks wait task
        ⊎ ((up parent : ℕ) × (parent_index family index ≡ Some up)
        × (slice_get family.tasks up ≡ Some parent) × IsAwaited rs family.tasks wait parent)
    of (other, own, inl same) =
        let P : ℕ → Type 0 = IsOwnChild rs family.tasks wait in inl (subst P (sym same) own)
    of (other, own, inr (child i creates)) = inr (up_of i other creates other own (inl refl))
    of (other, own, inr (deeper i {parent = parent} above creates)) =
        inr (up_of i parent creates other own (inr above))

-- a child of one that is waited for is, where descendants are
pub below_awaited : (rs : List Record) (family : FamilyView) (index task up parent : ℕ) (wait : Wait)
    → IsFamilyOf rs family → slice_get family.tasks index ≡ Some task → cover_of wait ≡ Descendants
    → parent_index family index ≡ Some up → slice_get family.tasks up ≡ Some parent
    → IsAwaited rs family.tasks wait parent → IsAwaited rs family.tasks wait task
below_awaited rs family index task up parent wait are here deep above is_parent is =
    of_deep rs family.tasks task wait deep (of (as_deep rs family.tasks parent wait deep is))
  where
    known : IsParentAt rs family.tasks up task
    known = parent_is_at rs family index task up are here above

    same : known.0 ≡ parent
    same = same_Some known.0 parent (sym known.1 ∙ is_parent)

    creates : at creation rs known.2.0 ≡ Some (parent, task)
    creates = known.2.1 ∙ ap (λ p. Some (p, task)) same

    of : IsAwaitedBy rs family.tasks parent wait Descendants
        → IsAwaitedBy rs family.tasks task wait Descendants
    of (other, own, inl is_other) =
        let P : ℕ → Type 0 = λ p. at creation rs known.2.0 ≡ Some (p, task) in
        (other, own, inr (child known.2.0 (subst P is_other creates)))
    of (other, own, inr descends) = (other, own, inr (deeper known.2.0 descends creates))

-- what a run says that is the search's
pub parent_in : (run : RunView) (search : SearchView) (index : ℕ) (found : Option ℕ) → run ≡ search.teams.run
    → found ≡ parent_index run.family index → parent_index search.teams.run.family index ≡ found
parent_in run search index found same is =
    ap (λ (r : RunView). parent_index r.family index) (sym same) ∙ sym is

-- ---- marks

-- what is known of the parent of the task at the next place
pub marked_above : (search : SearchView) (order : List ℕ) (n index : ℕ) (marks : List Bool)
    → IsParentsFirst search.teams.run.family order → slice_get order n ≡ Some index
    → AreAwaitedMarked search.teams.run.records search.teams.run.family.tasks search.wait order n marks
    → IsMarkedAbove search marks index
marked_above search order n index marks first here marked up parent above is_parent =
    let place = first.all up (slice_get_within search.teams.run.family.tasks up parent is_parent) in
    marked.each place.0 up parent (first.first n place.0 index up here place.1 above) place.1 is_parent

pub marked_more : (rs : List Record) (tasks : List ℕ) (wait : Wait) (order : List ℕ) (n index : ℕ)
    (marks : List Bool) (mark : Bool)
    → slice_get order n ≡ Some index → index < length tasks → AreAwaitedMarked rs tasks wait order n marks
    → ((task : ℕ) → slice_get tasks index ≡ Some task → IsTrue mark ↔ IsAwaited rs tasks wait task)
    → AreAwaitedMarked rs tasks wait order (n + 1) (set marks index mark)
marked_more rs tasks wait order n index marks mark here inside are exact = record {
  all = length-set marks index mark ∙ are.all;
  each = λ place other task below there is. elim (cases_eq other index) [
    | inl same ↦
        let there_is : slice_index_or (set marks index mark) other false ≡ mark =
        ap (λ k. get_or (set marks index mark) k false) same
        ∙ get_or-set_same marks index mark false (let all = are.all in omega (arith, inside, all)) in
        let known = exact task (ap (slice_get tasks) (sym same) ∙ is) in
        (λ yes_it. known.0 (sym there_is ∙ yes_it), λ awaited. there_is ∙ known.1 awaited)
    | inr apart ↦ elim (cases_eq place n) [
      | inl last ↦ absurd (apart (same_Some other index (sym there ∙ ap (slice_get order) last ∙ here)))
      | inr earlier ↦
          let kept : slice_index_or (set marks index mark) other false ≡ slice_index_or marks other false =
          get_or-set_other marks index other mark false apart in
          let known = are.each place other task (omega (arith, below, earlier)) there is in
          (λ yes_it. known.0 (sym kept ∙ yes_it), λ awaited. kept ∙ known.1 awaited)
    ]
  ];
}

pub marked_all : (rs : List Record) (family : FamilyView) (wait : Wait) (order : List ℕ) (n : ℕ)
    (marks : List Bool)
    → IsParentsFirst family order → length order ≤ n → AreAwaitedMarked rs family.tasks wait order n marks
    → AreAwaited rs family.tasks wait marks
marked_all rs family wait order n marks first all are = record {
  all = are.all;
  each = λ index task is.
      let place = first.all index (slice_get_within family.tasks index task is) in
      are.each place.0 index task
      (let inside = slice_get_within order place.0 index place.1 in omega (arith, inside, all)) place.1
      is;
}

-- ---- the record that ends a wait

pub no_wait_there : (run : RunView) (i : ℕ) → IsNoWaitEvent run i → EndsNoWaitAt run.records i
no_wait_there run i silent = λ task begin kind demands there.
    let ends = ends_at run.records i task begin kind there in
    false≢true (sym (silent_sync kind (silent task kind ends.endpoint ends.says)) ∙ demands)

pub taskwait_there : (run : RunView) (i index begin : ℕ) (kind : WaitKind) (endpoint : Endpoint)
    → kind ≡ TaskwaitKind → IsWaitEvent run i index kind endpoint → IsRegionBegin run.records i begin
    → IsWaitAt run.records run.family.tasks i (ForTaskwait index begin)
taskwait_there run i index begin kind endpoint is event begins =
    let P : SyncKind → Type 0 = λ k. IsRegion run.records i event.task k begin in
    waits event.indexed
    (subst P (taskwait_kind event.sync (event.waits ∙ ap Some is))
    (begins event.task event.sync endpoint event.says))

pub taskgroup_there : (run : RunView) (i index begin : ℕ) (kind : WaitKind) (endpoint : Endpoint)
    → kind ≡ TaskgroupKind → IsWaitEvent run i index kind endpoint → IsRegionBegin run.records i begin
    → IsWaitAt run.records run.family.tasks i (ForTaskgroup index begin i)
taskgroup_there run i index begin kind endpoint is event begins =
    let P : SyncKind → Type 0 = λ k. IsRegion run.records i event.task k begin in
    groups event.indexed
    (subst P (taskgroup_kind event.sync (event.waits ∙ ap Some is))
    (begins event.task event.sync endpoint event.says))

pub barrier_there : (run : RunView) (numbers : List ℕ) (i index begin number : ℕ) (kind : WaitKind)
    (endpoint : Endpoint)
    → kind ≡ BarrierKind → IsWaitEvent run i index kind endpoint → IsRegionBegin run.records i begin
    → AreBeginNumbers run.records (length run.records) numbers → slice_get numbers begin ≡ Some number
    → IsWaitAt run.records run.family.tasks i (ForBarrier index number)
barrier_there run numbers i index begin number kind endpoint is event begins are stands =
    let barrier = barrier_kind event.sync (event.waits ∙ ap Some is) in
    let there = begins event.task event.sync endpoint event.says in
    meets event.indexed there barrier
    (are.each begin number stands event.task
    (barrier_begins_at run.records i event.task begin event.sync there barrier))

-- a region begins at one of the records
pub begins_within : (run : RunView) (i index begin : ℕ) (kind : WaitKind) (endpoint : Endpoint)
    → IsWaitEvent run i index kind endpoint → IsRegionBegin run.records i begin → begin < length run.records
begins_within run i index begin kind endpoint event begins =
    let ends =
    ends_at run.records i event.task begin event.sync
    (begins event.task event.sync endpoint event.says) in
    let below = ends.below in
    let inside = ends.inside in
    omega (arith, below, inside)

-- ---- late tasks

pub late_more : (done : DoneView) (wait : Wait) (seen n : ℕ)
    → ((k task : ℕ) → k < n → IsAwaitedUnfinishedAt done wait seen k task → ⊥)
    → ((task : ℕ) → IsAwaitedUnfinishedAt done wait seen n task → ⊥) → (k task : ℕ) → k < n + 1
    → IsAwaitedUnfinishedAt done wait seen k task → ⊥
late_more done wait seen n before here k task below late = elim (cases_eq k n) [
  | inl same ↦
      let P : ℕ → Type 0 = λ j. IsAwaitedUnfinishedAt done wait seen j task in here task (subst P same late)
  | inr apart ↦ before k task (omega (arith, below, apart)) late
]

pub late_within : (done : DoneView) (wait : Wait) (seen place task : ℕ) → IsDoneView done
    → IsAwaitedUnfinishedAt done wait seen place task → place < length (records_of done)
late_within done wait seen place task is late = is.teams.placed.places.below late.0.0 place late.0.1
