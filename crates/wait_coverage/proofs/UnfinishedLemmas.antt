-- What of the tasks that an end covers is unfinished there.
use Rattle.std.proofs.Common.{◌≡◌, ◌∙◌, ℕ, ◌<◌, ◌≤◌, ◌^◌, true, false, List, length, Option, Some, None, refl}
use Rattle.std.proofs.Common.{sym, ap, subst, arith, inl, inr}
use Rattle.std.proofs.lemmas.Bool.{cases_lt, false≢true}
use Rattle.std.proofs.lemmas.Option.{same_Some, slice_get_within, slice_get-get_or}
use Rattle.std.specs.Prelude.{◌↔◌, IsTrue, MatchOption, Contains, slice_get}
use Rattle.ompt_events.specs.declared.records.Record.{Record}
use Rattle.ompt_events.specs.declared.names.SyncKind.{SyncKind}
use Rattle.ompt_events.specs.declared.names.SyncKind.TheVariants.{Taskwait, Taskgroup}
use Rattle.ompt_events.specs.Records.{created, creation}
use Rattle.ompt_events.specs.Places.{at, seen_at}
use Rattle.ompt_events.specs.Tree.{IsExplicit, children_before, children_between, child_number, child, deeper}
use Rattle.ompt_events.specs.Coverage.{Covers, IsFamily, waited, grouped, synchronised}
use Rattle.ompt_events.specs.Regions.{IsRegion, IsBarrierBegin, is_barrier, waits_for_tasks}
use Rattle.ompt_events.specs.Teams.{IsTeammate}
use Rattle.ompt_events.proofs.RecordLemmas.{creation_at_created}
use Rattle.ompt_events.proofs.PlaceLemmas.{at_within}
use Rattle.task_tree.specs.Own.{OwnView, IsOwn}
use Rattle.teams.specs.Teams.{own_of}
use Rattle.ompt_events.proofs.TreeLemmas.{child_before}
use Rattle.credit_ledger.specs.declared.entry.Cover.{Cover}
use Rattle.credit_ledger.specs.declared.entry.Cover.TheVariants.{Children, Descendants}
use Rattle.credit_ledger.specs.TraceEntries.{IsDone}
use Rattle.wait_coverage.specs.Spans.{IsCoverComplete}
use Rattle.wait_coverage.specs.Done.{DoneView, records_of, tasks_of, IsDoneView, AreChildrenDone}
use Rattle.wait_coverage.specs.Limits.{IsEndLimit, IsEndLeast}
use Rattle.wait_coverage.specs.Waits.{EndsNoWaitAt, IsWaitAt, waits, groups, meets, IsInWait, before_begin}
use Rattle.wait_coverage.specs.Waits.{in_group, by_member, cover_of, IsAwaitedBy, IsAwaited}
use Rattle.wait_coverage.specs.Waits.{IsCoveredUnfinished}
use Rattle.wait_coverage.specs.Waits.{IsFirstCoveredUnfinished, IsAwaitedUnfinished, IsAwaitedUnfinishedAt}
use Rattle.wait_coverage.specs.Waits.{IsFirstLate}
use Rattle.wait_coverage.specs.declared.waits.Wait.{Wait}
use Rattle.wait_coverage.specs.declared.waits.Wait.TheVariants.{Taskwait as ForTaskwait}
use Rattle.wait_coverage.specs.declared.waits.Wait.TheVariants.{Taskgroup as ForTaskgroup}
use Rattle.wait_coverage.specs.declared.waits.Wait.TheVariants.{Barrier as ForBarrier}
use Rattle.teams.proofs.BarrierLemmas.{one_number, barrier_is_other}
use Rattle.teams.proofs.RegionEndLemmas.{EndsAt, ends_at, one_region}
use Rattle.wait_coverage.proofs.CoverLemmas.{child_with, child_stays, dropped, done_there, complete_there}
use Rattle.credit_ledger.proofs.CompleteLemmas.{done_or_not}
use Rattle.credit_ledger.proofs.StandLemmas.{created_child}
use Rattle.wait_coverage.proofs.EndCoverLemmas.{covers_cases}

-- ---- what is waited for is what is covered

-- numbers of children rise
number_rises : (rs : List Record) (parent n m : ℕ) → n ≤ m → m ≤ length rs
    → child_number rs parent n ≤ child_number rs parent m
number_rises rs parent n m less inside =
    elim (cases_lt (child_number rs parent m) (child_number rs parent n)) [
      | inl more ↦
          let found = child_with rs parent n (child_number rs parent m) (omega (arith, less, inside)) more in
          let past =
          slice_get_within (children_before rs parent m) (child_number rs parent m) found.0
          (child_stays rs parent n m (child_number rs parent m) found.0 found.1.there less) in
          absurd (omega (arith, past))
      | inr at_most ↦ at_most
    ]

pub between : (rs : List Record) (parent begin i c task : ℕ) → c < length rs → begin ≤ c → c < i
    → at creation rs c ≡ Some (parent, task) → Contains (children_between rs parent begin i) task
between rs parent begin i c task inside from before creates =
    dropped (children_before rs parent i) (child_number rs parent begin) (child_number rs parent c) task
    (number_rises rs parent begin c from (omega (arith, inside)))
    (created_child rs c parent task i creates before)

awaited_covered : (rs : List Record) (tasks : List ℕ) (i task : ℕ) (wait : Wait) → IsWaitAt rs tasks i wait
    → IsAwaited rs tasks wait task → Covers rs i task
awaited_covered rs tasks i task wait
    (waits {parent = parent} {begin = begin} {index = index} is_parent there) own =
    of own.within own.creates
  where
    of : {p c : ℕ} → IsInWait rs tasks p c (ForTaskwait index begin) → at creation rs c ≡ Some (p, task)
        → Covers rs i task
    of {p} {c} (before_begin own_is before) creates =
        waited there
        (child_before rs parent task begin c before
        (creates ∙ ap (λ t. Some (t, task)) (same_Some p parent (sym own_is ∙ is_parent))))
awaited_covered rs tasks i task wait
    (groups {parent = parent} {begin = begin} {index = index} is_parent there) (first, own, family)
    =
    of own.within own.creates
  where
    of : {p c : ℕ} → IsInWait rs tasks p c (ForTaskgroup index begin i) → at creation rs c ≡ Some (p, first)
        → Covers rs i task
    of {p} {c} (in_group own_is from before) creates =
        let ends = ends_at rs i parent begin Taskgroup there in
        let inside = ends.inside in
        grouped there
        (between rs parent begin i c first (omega (arith, inside, before)) from before
        (creates ∙ ap (λ t. Some (t, first)) (same_Some p parent (sym own_is ∙ is_parent))))
        family
awaited_covered rs tasks i task wait
    (meets {own = waiter} {begin = begin} {index = index} {number = number} is_own there barrier
    begins)
    (first, own, family) =
    of own.within own.creates
  where
    of : {p c : ℕ} → IsInWait rs tasks p c (ForBarrier index number) → at creation rs c ≡ Some (p, first)
        → Covers rs i task
    of {p} {c} (by_member {own = other} {start = start} own_is mate starts before) creates =
        let P : ℕ → Type 0 = λ t. IsTeammate rs t p in
        synchronised number there barrier begins (subst P (same_Some other waiter (sym own_is ∙ is_own)) mate)
        starts (child_before rs p first start c before creates) family

covered_awaited : (rs : List Record) (tasks : List ℕ) (i task : ℕ) (wait : Wait) → IsWaitAt rs tasks i wait
    → Covers rs i task → IsAwaited rs tasks wait task
covered_awaited rs tasks i task wait (waits {parent = parent} {begin = begin} is_parent there) covers =
    elim (covers_cases rs i task covers) [
      | inl one ↦
          let same =
          one_region rs i one.parent parent one.begin begin Taskwait Taskwait one.is_region there in
          let begins = same.begin_is in
          let before = one.before in
          record {
            parent = parent;
            made = one.place;
            within = before_begin is_parent (omega (arith, begins, before));
            creates = one.creates ∙ ap (λ p. Some (p, task)) same.task_is;
          }
      | inr other ↦ elim other [
        | inl one ↦
            let same =
            (one_region rs i one.parent parent one.begin begin Taskgroup Taskwait one.is_region
            there).kind_is in
            absurd (cc)
        | inr one ↦
            absurd
            (barrier_is_other one.kind Taskwait one.barrier refl
            (one_region rs i one.own parent one.begin begin one.kind Taskwait one.is_region
            there).kind_is)
      ]
    ]
covered_awaited rs tasks i task wait (groups {parent = parent} {begin = begin} is_parent there) covers =
    elim (covers_cases rs i task covers) [
      | inl one ↦
          let same =
          (one_region rs i one.parent parent one.begin begin Taskwait Taskgroup one.is_region
          there).kind_is in
          absurd (cc)
      | inr other ↦ elim other [
        | inl one ↦
            let same =
            one_region rs i one.parent parent one.begin begin Taskgroup Taskgroup one.is_region there in
            let begins = same.begin_is in
            let from = one.from in (
              one.child,
              record {
                parent = parent;
                made = one.place;
                within = in_group is_parent (omega (arith, begins, from)) one.before;
                creates = one.creates ∙ ap (λ p. Some (p, one.child)) same.task_is;
              },
              one.of,
            )
        | inr one ↦
            absurd
            (barrier_is_other one.kind Taskgroup one.barrier refl
            (one_region rs i one.own parent one.begin begin one.kind Taskgroup one.is_region
            there).kind_is)
      ]
    ]
covered_awaited rs tasks i task wait
    (meets {own = waiter} {begin = begin} {number = number} {kind = kind} is_own there barrier
    begins)
    covers =
    elim (covers_cases rs i task covers) [
      | inl one ↦
          absurd
          (barrier_is_other kind Taskwait barrier refl
          (one_region rs i waiter one.parent begin one.begin kind Taskwait there one.is_region).kind_is)
      | inr other ↦ elim other [
        | inl one ↦
            absurd
            (barrier_is_other kind Taskgroup barrier refl
            (one_region rs i waiter one.parent begin one.begin kind Taskgroup there
            one.is_region).kind_is)
        | inr one ↦
            let same = one_region rs i one.own waiter one.begin begin one.kind kind one.is_region there in
            let P : ℕ → Type 0 = λ t. IsTeammate rs t one.member in
            let Q : ℕ → Type 0 = λ t. IsBarrierBegin rs t one.number one.begin in
            let R : ℕ → Type 0 = λ b. IsBarrierBegin rs waiter one.number b in
            let S : ℕ → Type 0 = λ n. IsBarrierBegin rs one.member n one.start in
            let is_number =
            one_number rs waiter one.number number begin
            (subst R same.begin_is (subst Q same.task_is one.begins)) begins in (
              one.child,
              record {
                parent = one.member;
                made = one.place;
                within =
                    by_member is_own (subst P same.task_is one.mate) (subst S is_number one.starts)
                    one.before;
                creates = one.creates;
              },
              one.of,
            )
      ]
    ]

-- ---- unfinished tasks

-- what ends there
wait_ends : (rs : List Record) (tasks : List ℕ) (i : ℕ) (wait : Wait) → IsWaitAt rs tasks i wait
    → (task begin : ℕ) × (kind : SyncKind) × EndsAt rs i task begin kind
wait_ends rs tasks i wait (waits {parent = parent} {begin = begin} is_parent there) =
    (parent, begin, Taskwait, ends_at rs i parent begin Taskwait there)
wait_ends rs tasks i wait (groups {parent = parent} {begin = begin} is_parent there) =
    (parent, begin, Taskgroup, ends_at rs i parent begin Taskgroup there)
wait_ends rs tasks i wait (meets {own = own} {begin = begin} {kind = kind} is_own there barrier begins)
    =
    (own, begin, kind, ends_at rs i own begin kind there)

-- a task that is waited for was created
awaited_created : (rs : List Record) (tasks : List ℕ) (task : ℕ) (wait : Wait) → IsAwaited rs tasks wait task
    → (place : ℕ) × (at created rs place ≡ Some task)
awaited_created rs tasks task wait is = of (cover_of wait) is
  where
    of : (cover : Cover) → IsAwaitedBy rs tasks task wait cover
        → (place : ℕ) × (at created rs place ≡ Some task)
    of Children own = (own.made, creation_at_created own.parent task rs own.made own.creates)
    of Descendants (first, own, inl same) =
        (own.made, creation_at_created own.parent first rs own.made own.creates ∙ ap Some (sym same))
    of Descendants (first, own, inr (child i creates)) = (i, creation_at_created first task rs i creates)
    of Descendants (first, own, inr (deeper i {parent = parent} above creates)) =
        (i, creation_at_created parent task rs i creates)

-- a covered task was created
covered_explicit : (rs : List Record) (i task : ℕ) → Covers rs i task → IsExplicit rs task
covered_explicit rs i task covers = elim (covers_cases rs i task covers) [
  | inl one ↦ (one.place, creation_at_created one.parent task rs one.place one.creates)
  | inr other ↦ elim other [
    | inl one ↦ family_explicit rs one.parent one.child task one.place one.creates one.of
    | inr one ↦ family_explicit rs one.member one.child task one.place one.creates one.of
  ]
]
  where
    family_explicit : (rs : List Record) (parent first task place : ℕ)
        → at creation rs place ≡ Some (parent, first) → IsFamily rs first task → IsExplicit rs task
    family_explicit rs parent first task place creates (inl same) =
        (place, creation_at_created parent first rs place creates ∙ ap Some (sym same))
    family_explicit rs parent first task place creates (inr (child i born)) =
        (i, creation_at_created first task rs i born)
    family_explicit rs parent first task place creates (inr (deeper i {parent = above} below born)) =
        (i, creation_at_created above task rs i born)

-- each record stands at a place in the file
place_there : (own : OwnView) → IsOwn own → (number : ℕ) → number < length own.run.records
    → (place : ℕ) × (slice_get own.places number ≡ Some place)
place_there own is number below =
    let all = is.places.all in (_, slice_get-get_or own.places number 0 (omega (arith, below, all)))

abbrev done_below : DoneView → ℕ → ℕ → Type 0
done_below done t n = IsDone (records_of done) n t

pub limit_complete : (done : DoneView) (i limit seen : ℕ) → AreChildrenDone done → IsEndLimit done i limit
    → seen_at (records_of done) i ≡ seen → seen < 2 ^ 32 → limit ≤ seen → IsCoverComplete (records_of done) i
limit_complete done i limit seen exact is_limit names small low task covers =
    let early = is_limit seen task small low covers in
    let P : ℕ → Type 0 = λ n. IsDone (records_of done) n task in
    complete_there (records_of done) i task
    (subst P (sym names)
    ((exact task seen (covered_explicit (records_of done) i task covers) small).0 early))

-- each kind of barrier waits
pub barrier_waits : (kind : SyncKind) → is_barrier kind ≡ true → waits_for_tasks kind ≡ true
barrier_waits Taskwait barrier = refl
barrier_waits Taskgroup barrier = refl
barrier_waits _ barrier = barrier

-- what covers a task ends there
pub record EndsWaitAt (rs : List Record) (i : ℕ) : Type 0 where
  pub task : ℕ
  pub begin : ℕ
  pub kind : SyncKind
  pub is_region : IsRegion rs i task kind begin
  pub demands : waits_for_tasks kind ≡ true

pub covers_at : (rs : List Record) (i task : ℕ) → Covers rs i task → EndsWaitAt rs i
covers_at rs i task covers = elim (covers_cases rs i task covers) [
  | inl one ↦
      record {
        task = one.parent;
        begin = one.begin;
        kind = Taskwait;
        is_region = one.is_region;
        demands = refl;
      }
  | inr other ↦ elim other [
    | inl one ↦
        record {
          task = one.parent;
          begin = one.begin;
          kind = Taskgroup;
          is_region = one.is_region;
          demands = refl;
        }
    | inr one ↦
        record {
          task = one.own;
          begin = one.begin;
          kind = one.kind;
          is_region = one.is_region;
          demands = barrier_waits one.kind one.barrier;
        }
  ]
]

pub none_complete : (rs : List Record) (i : ℕ) → EndsNoWaitAt rs i → IsCoverComplete rs i
none_complete rs i ends_none task covers =
    let one = covers_at rs i task covers in
    absurd (ends_none one.task one.begin one.kind one.demands one.is_region)

pub none_or_wait : (done : DoneView) (i : ℕ) (found : Option Wait)
    → MatchOption found (EndsNoWaitAt (records_of done) i) (IsWaitAt (records_of done) (tasks_of done) i)
    → MatchOption found (AreChildrenDone done → IsCoverComplete (records_of done) i)
    (IsWaitAt (records_of done) (tasks_of done) i)
none_or_wait done i None ends_none = λ exact. none_complete (records_of done) i ends_none
none_or_wait done i (Some wait) is = is

-- a task is open where it is waited for, and its length is above the one that the end names
pub late_if_unfinished : (done : DoneView) (i seen task : ℕ) (wait : Wait) → AreChildrenDone done
    → seen < 2 ^ 32
    → IsWaitAt (records_of done) (tasks_of done) i wait → seen_at (records_of done) i ≡ seen
    → IsAwaitedUnfinished done wait seen task ↔ IsCoveredUnfinished (records_of done) i task
late_if_unfinished done i seen task wait exact small is names = (
  λ late. record {
    covered = awaited_covered (records_of done) (tasks_of done) i task wait is late.0;
    incomplete = λ complete.
        let made = awaited_created (records_of done) (tasks_of done) task wait late.0 in
        late.1
        ((exact task seen made small).1
        (subst (done_below done task) names
        (done_there (records_of done) i ends.0 task ends.2 ends.3.endpoint ends.3.says
        complete)));
  },
  λ unfinished. (
    covered_awaited (records_of done) (tasks_of done) i task wait is unfinished.covered,
    λ early.
        unfinished.incomplete
        (complete_there (records_of done) i task
        (subst (done_below done task) (sym names)
        ((exact task seen (covered_explicit (records_of done) i task unfinished.covered) small).0
        early))),
  ),
)
  where
    ends : (own begin : ℕ) × (kind : SyncKind) × EndsAt (records_of done) i own begin kind
    ends = wait_ends (records_of done) (tasks_of done) i wait is

pub late_unfinished : (done : DoneView) (i seen : ℕ) (wait : Wait) (found : Option ℕ) → IsDoneView done
    → AreChildrenDone done → seen < 2 ^ 32 → IsWaitAt (records_of done) (tasks_of done) i wait
    → seen_at (records_of done) i ≡ seen
    → MatchOption found ((place task : ℕ) → IsAwaitedUnfinishedAt done wait seen place task → ⊥)
    (IsFirstLate done wait seen)
    → MatchOption found (IsCoverComplete (records_of done) i) (IsFirstCoveredUnfinished (own_of done.teams) i)
late_unfinished done i seen wait None view exact small is names in_time =
    λ task covers. elim (done_or_not (records_of done) seen task) [
      | inl finished ↦
          complete_there (records_of done) i task (subst (done_below done task) (sym names) finished)
      | inr not_done ↦
          let awaited = covered_awaited (records_of done) (tasks_of done) i task wait is covers in
          let made = awaited_created (records_of done) (tasks_of done) task wait awaited in
          let there =
          place_there (own_of done.teams) view.teams.placed made.0
          (at_within created (records_of done) made.0 task made.1) in
          absurd
          (in_time there.0 task (
            (made.0, there.1, made.1),
            (awaited, λ early. not_done ((exact task seen made small).0 early)),
          ))
    ]
late_unfinished done i seen wait (Some task) view exact small is names late = record {
  unfinished = (late_if_unfinished done i seen task wait exact small is names).0 late.late.1;
  creation = late.place;
  is_created = late.late.0;
  created_first =
      λ place other below creates unfinished.
      late.first place other below
      (creates, (late_if_unfinished done i seen other wait exact small is names).1 unfinished);
}

-- where all is complete no task is open
pub none_unfinished : (rs : List Record) (i task : ℕ) → IsCoverComplete rs i
    → IsTrue false ↔ IsCoveredUnfinished rs i task
none_unfinished rs i task complete = (
  (λ never. absurd (false≢true never)),
  (λ unfinished. absurd (unfinished.incomplete (complete task unfinished.covered))),
)

-- where not all is complete, the limit of the end is not reached: it is the least
pub least_reached : (done : DoneView) (i seen limit : ℕ) (wait : Wait) → AreChildrenDone done
    → IsWaitAt (records_of done) (tasks_of done) i wait → IsEndLeast done i limit
    → seen_at (records_of done) i ≡ seen → seen < 4294967295 → IsCoverComplete (records_of done) i
    → limit ≤ seen
least_reached done i seen limit wait exact is least names small complete =
    let ends = wait_ends (records_of done) (tasks_of done) i wait is in
    let region = wait_region (records_of done) (tasks_of done) i wait is in
    least region.task region.begin region.kind region.demands region.is_region seen small
    (λ task covers.
    (exact task seen (covered_explicit (records_of done) i task covers) (omega (arith, small))).1
    (subst (done_below done task) names
    (done_there (records_of done) i ends.0 task ends.2 ends.3.endpoint ends.3.says (complete task covers))))
  where
    wait_region : (rs : List Record) (tasks : List ℕ) (i : ℕ) (wait : Wait) → IsWaitAt rs tasks i wait
        → EndsWaitAt rs i
    wait_region rs tasks i wait (waits {parent = parent} {begin = begin} is_parent there) =
        record { task = parent; begin = begin; kind = Taskwait; is_region = there; demands = refl }
    wait_region rs tasks i wait (groups {parent = parent} {begin = begin} is_parent there) =
        record { task = parent; begin = begin; kind = Taskgroup; is_region = there; demands = refl }
    wait_region rs tasks i wait
        (meets {own = own} {begin = begin} {kind = kind} is_own there barrier begins) =
        record {
          task = own;
          begin = begin;
          kind = kind;
          is_region = there;
          demands = barrier_waits kind barrier;
        }
