-- The first created predecessor that is unfinished where a task starts, and whether a given one is.
use Rattle.std.proofs.Common.{◌≡◌, ◌∙◌, ℕ, ◌<◌, ◌≤◌, ◌+◌, ◌^◌, List, length, get_or, Option, Some, None, refl}
use Rattle.std.proofs.Common.{sym, ap, subst, arith, inl, inr, ◌⊎◌, false}
use Rattle.std.proofs.lemmas.Bool.{cases_lt, false≢true}
use Rattle.std.proofs.lemmas.Option.{none-some, same_Some, slice_get_within, slice_get-get_or}
use Rattle.std.specs.Prelude.{◌↔◌, Contains, IsTrue, IfOk, MatchOption, Bool, Result, Ok, Err}
use Rattle.std.specs.Prelude.{option_and_then, is_some, slice_get, slice_index, slice_index_or}
use Rattle.ompt_events.specs.declared.records.Record.{Record}
use Rattle.ompt_events.specs.declared.records.Body.{Body}
use Rattle.ompt_events.specs.declared.records.Body.TheVariants.{TaskSchedule}
use Rattle.ompt_events.specs.declared.names.Status.TheVariants.{TaskwaitComplete}
use Rattle.ompt_events.specs.declared.cause.Cause.TheVariants.{CreatedTwice}
use Rattle.ompt_events.specs.Records.{created, made, started, wait_completed}
use Rattle.ompt_events.specs.Places.{at, seen_at}
use Rattle.ompt_events.specs.Traces.{IsTrace, IsSound, HasItsNext}
use Rattle.ompt_events.specs.Tree.{IsExplicit}
use Rattle.ompt_events.specs.HappensBefore.{IsStart}
use Rattle.ompt_events.specs.Completion.{IsCompleteAt}
use Rattle.ompt_events.specs.Dependences.{IsPredecessor}
use Rattle.ompt_events.specs.Causes.{IsFreeOf}
use Rattle.ompt_events.proofs.TurnLemmas.{start_starts}
use Rattle.ompt_events.proofs.ListLemmas.{get_contains, contains_get}
use Rattle.ompt_events.proofs.PlaceLemmas.{at_within}
use Rattle.ompt_events.proofs.RecordLemmas.{creation_at_created, created_at_made}
use Rattle.ompt_events.proofs.TreeLemmas.{child_place}
use Rattle.ompt_events.specs.Turns.{in_own_order}
use Rattle.task_tree.specs.Makers.{AreNoted}
use Rattle.task_tree.specs.Own.{OwnView, IsOwn}
use Rattle.task_tree.specs.Families.{IsOwnOf}
use Rattle.task_tree.specs.Runs.{RunView}
use Rattle.task_tree.proofs.OwnRunLemmas.{own_predecessor}
use Rattle.task_tree.proofs.OnceLemmas.{made_once}
use Rattle.depend_edges.specs.Edges.{ArePredecessors, ArePredecessorLengths}
use Rattle.wait_coverage.specs.Done.{AreOwnLengths}
use Rattle.credit_ledger.specs.TraceEntries.{IsDone}
use Rattle.checker.specs.declared.starts.Late.{Late}
use Rattle.checker.specs.Readings.{by_task, IsPrecededBy}
use Rattle.checker.specs.Starts.{IsPredecessorUnfinished, AreReady, IsFirstLateAt, IsDependentAt}
use Rattle.checker.specs.Starts.{IsPrecededByNone, IsBound}
use Rattle.checker.specs.Starts.{AreNoLengths, AreStarts, StartsAt, StartsNoneAt, PrecedenceView}
use Rattle.checker.specs.Starts.{IsPrecedence, IsUnfinishedPredecessor, AreDoneBefore, IsFirstBehind}
use Rattle.checker.specs.Starts.{IsAmongFirst}
use Rattle.checker.specs.Starts.{IsBehindAt, IsFirstOf, IsEarlierOf, the_only, the_first, the_other}
use Rattle.wait_coverage.proofs.ShownLemmas.{own_done}
use Rattle.checker.proofs.StartLemmas.{done_from, bound_still, complete_from_start}

-- ---- a predecessor's index and place

pub predecessor_made : (rs : List Record) (task predecessor : ℕ) → IsPredecessor rs task predecessor
    → (i : ℕ) × (i < length rs) × (at created rs i ≡ Some predecessor)
predecessor_made rs task predecessor is =
    let place = child_place rs is.parent (length rs) is.earlier predecessor is.sibling in
    (place.0, place.1, creation_at_created is.parent predecessor rs place.0 place.2)

pub predecessor_index : (rs : List Record) (tasks : List ℕ) (task predecessor : ℕ)
    → AreNoted made rs (length rs) tasks → IsPredecessor rs task predecessor
    → (index : ℕ) × (slice_get tasks index ≡ Some predecessor)
predecessor_index rs tasks task predecessor noted is =
    let place = predecessor_made rs task predecessor is in
    contains_get tasks predecessor
    (noted.each place.0 predecessor place.1 (created_at_made predecessor rs place.0 place.2))

-- ---- the search over the predecessors

pub first_of_none : (file own : List Record) (tasks : List ℕ) (bound : ℕ)
    → IsFirstOf file own tasks bound 0 None
first_of_none file own tasks bound task (k, below, there) = absurd (omega (arith, below))

pub late_kept : (tasks : List ℕ) (n task : ℕ) → IsAmongFirst tasks n task → IsAmongFirst tasks (n + 1) task
late_kept tasks n task (k, below, there) = (k, omega (arith, below), there)

pub among_more : (tasks : List ℕ) (n last task : ℕ) → slice_get tasks n ≡ Some last
    → IsAmongFirst tasks (n + 1) task → IsAmongFirst tasks n task ⊎ (task ≡ last)
among_more tasks n last task stands (k, below, there) = elim (cases_lt k n) [
  | inl less ↦ inl (k, less, there)
  | inr more ↦
      let same : k ≡ n = omega (arith, below, more) in
      inr (same_Some task last (sym there ∙ ap (slice_get tasks) same ∙ stands))
]

pub get_here : (tasks : List ℕ) (n : ℕ) → n < length tasks
    → slice_get tasks n ≡ Some (slice_index_or tasks n 0)
get_here tasks n within = slice_get-get_or tasks n 0 within

-- a task is created once
one_creation : (file : List Record) (task place other : ℕ) → IsFreeOf file CreatedTwice
    → at created file place ≡ Some task → at created file other ≡ Some task → place ≡ other
one_creation file task place other once one another =
    made_once file task place other once (created_at_made task file place one)
    (created_at_made task file other another)

-- of a late task among the first n and the next one, which is late too, the one that is created first is the
-- first of all
pub first_of_late : (file own : List Record) (tasks : List ℕ) (bound n task place : ℕ) (first : Option Late)
    (late : Late)
    → IsFreeOf file CreatedTwice → slice_get tasks n ≡ Some task → IsBehindAt file own bound task place
    → IsEarlierOf (record { place = place; task = task }) late first → IsFirstOf file own tasks bound n first
    → IsFirstOf file own tasks bound (n + 1) (Some late)
first_of_late file own tasks bound n task place _ late once stands behind (the_only same) done = rw same (
  (n, omega arith, stands),
  behind,
  λ other q among late_too. elim (among_more tasks n task other stands among) [
    | inl earlier ↦ absurd (late_too.0 (done other earlier))
    | inr is ↦
        let P : ℕ → Type 0 = λ t. at created file q ≡ Some t in
        let same_place = one_creation file task place q once behind.1 (subst P is late_too.1) in
        omega (arith, same_place)
  ],
)
first_of_late file own tasks bound n task place _ late once stands behind
    (the_first {first = first} same less) (among, first_behind, least) =
    rw same (
      late_kept tasks n first.task among,
      first_behind,
      λ other q found late_too. elim (among_more tasks n task other stands found) [
        | inl earlier ↦ least other q earlier late_too
        | inr is ↦
            let P : ℕ → Type 0 = λ t. at created file q ≡ Some t in
            let same_place = one_creation file task place q once behind.1 (subst P is late_too.1) in
            omega (arith, same_place, less)
      ],
    )
first_of_late file own tasks bound n task place _ late once stands behind
    (the_other {first = first} same most) (among, first_behind, least) =
    rw same (
      (n, omega arith, stands),
      behind,
      λ other q found late_too. elim (among_more tasks n task other stands found) [
        | inl earlier ↦ let low = least other q earlier late_too in omega (arith, low, most)
        | inr is ↦
            let P : ℕ → Type 0 = λ t. at created file q ≡ Some t in
            let same_place = one_creation file task place q once behind.1 (subst P is late_too.1) in
            omega (arith, same_place)
      ],
    )

-- where the next one is finished nothing changes
pub first_of_done : (file own : List Record) (tasks : List ℕ) (bound n task : ℕ) (first : Option Late)
    → slice_get tasks n ≡ Some task → IsDone own bound task → IsFirstOf file own tasks bound n first
    → IsFirstOf file own tasks bound (n + 1) first
first_of_done file own tasks bound n task None stands is done =
    λ other among. elim (among_more tasks n task other stands among) [
      | inl earlier ↦ done other earlier
      | inr same ↦ let P : ℕ → Type 0 = IsDone own bound in subst P (sym same) is
    ]
first_of_done file own tasks bound n task (Some late) stands is (among, behind, least) = (
  late_kept tasks n late.task among,
  behind,
  λ other q found late_too. elim (among_more tasks n task other stands found) [
    | inl earlier ↦ least other q earlier late_too
    | inr same ↦ let P : ℕ → Type 0 = IsDone own bound in absurd (late_too.0 (subst P (sym same) is))
  ],
)

-- so of all predecessors
pub first_of_all : (file own : List Record) (predecessors : List ℕ) (bound n task : ℕ) (late : Late)
    → length predecessors ≤ n → ArePredecessors own task predecessors
    → IsFirstOf file own predecessors bound n (Some late) → IsFirstBehind file own task bound late.task
first_of_all file own predecessors bound n task late past are (among, behind, least) = record {
  behind = (are.only late.task (get_contains predecessors late.task among.0 among.2), behind.0);
  creation = late.place;
  is_created = behind.1;
  first = λ k other below creates behind_too.
      let found = contains_get predecessors other (are.all other behind_too.0) in
      let inside = slice_get_within predecessors found.0 other found.1 in
      let low = least other k (found.0, omega (arith, inside, past), found.1) (behind_too.1, creates) in
      omega (arith, low, below);
}

pub all_done : (file own : List Record) (predecessors : List ℕ) (bound n task : ℕ) → length predecessors ≤ n
    → ArePredecessors own task predecessors → IsFirstOf file own predecessors bound n None
    → AreDoneBefore own task bound
all_done file own predecessors bound n task past are done predecessor is =
    let found = contains_get predecessors predecessor (are.all predecessor is) in
    let within = slice_get_within predecessors found.0 predecessor found.1 in
    done predecessor (found.0, omega (arith, within, past), found.1)

-- the greatest length of the predecessors says so of all
pub done_by_latest : (rs : List Record) (tasks own latest : List ℕ) (index task bound : ℕ)
    → AreNoted made rs (length rs) tasks → AreOwnLengths rs tasks own
    → ArePredecessorLengths rs tasks own latest
    → slice_get tasks index ≡ Some task → bound < 2 ^ 32 → slice_index latest index ≤ bound
    → AreDoneBefore rs task bound
done_by_latest rs tasks own latest index task bound noted are_own are is small low predecessor precedes =
    let found = predecessor_index rs tasks task predecessor noted precedes in
    let less = are.each index task found.0 predecessor is precedes found.1 in
    (done_from rs tasks own found.0 predecessor are_own found.1 bound small).0 (omega (arith, less, low))

-- where no task has a predecessor that an entry finishes, none is late
pub none_late : (file : List Record) (own : OwnView) (lengths latest : List ℕ) (i : ℕ) → IsOwnOf file own
    → IsOwn own → AreOwnLengths own.run.records own.run.family.tasks lengths
    → ArePredecessorLengths own.run.records own.run.family.tasks lengths latest
    → ((index : ℕ) → index < length latest → slice_index latest index ≡ 0) → AreReady file i
none_late file own lengths latest i of is_own are_own are none predecessor preceded = elim preceded [
  | inl (dependent, explicit, start, is) ↦
      complete dependent ((own_predecessor file own of dependent predecessor).1 is)
  | inr (dependent, completed, is) ↦
      complete dependent ((own_predecessor file own of dependent predecessor).1 is)
]
  where
    rs : List Record
    rs = own.run.records

    tasks : List ℕ
    tasks = own.run.family.tasks

    complete : (dependent : ℕ) → IsPredecessor rs dependent predecessor → IsCompleteAt file predecessor i
    complete dependent is =
        let noted = is_own.run.family.noted in
        let place = child_place rs is.parent (length rs) is.number dependent is.is_child in
        let index =
        contains_get tasks dependent
        (noted.each place.0 dependent place.1
        (created_at_made dependent rs place.0
        (creation_at_created is.parent dependent rs place.0 place.2))) in
        let within = slice_get_within tasks index.0 dependent index.1 in
        let low : slice_index latest index.0 ≤ 0 =
        let zero_there = none index.0 (rw are.all within) in omega (arith, zero_there) in
        let done =
        done_by_latest rs tasks lengths latest index.0 dependent 0 noted are_own are index.1 (omega arith)
        low predecessor is in
        complete_from_start file i predecessor ((own_done file own 0 predecessor of is_own).0 done)

-- so where nothing is noted of where tasks start
pub none_waits : (of_edges : RunView) (known : PrecedenceView) (i : ℕ) → IsPrecedence of_edges known
    → known.starts ≡ None → AreReady known.file.records i
none_waits of_edges known i is none =
    let P : Option (List ℕ) → Type 0 =
    λ o.
    MatchOption o (AreNoLengths known.latest)
    (AreStarts known.file.records known.file.family.tasks) in
    none_late known.file.records known.own known.lengths known.latest i is.of_file is.is_own is.lengths
    is.latest (subst P none is.starts)

-- ---- what it says of the record

-- what is found for the task that starts there, or for the taskwait that is complete there
abbrev pub FindsLate : List Record → RunView → ℕ → ℕ → Option ℕ → Type 0
FindsLate file own index bound found = (task : ℕ) → slice_get own.family.tasks index ≡ Some task
    → MatchOption found (AreDoneBefore own.records task bound) (IsFirstBehind file own.records task bound)

pub if_ok : {X E : Type 0} (P Q : X → Type 0) (result : Result X E) → ((x : X) → P x → Q x) → IfOk result P
    → IfOk result Q
if_ok P Q (Ok x) follows is = follows x is
if_ok P Q (Err e) follows is = is

-- late is what the entries don't finish of the predecessors of what depends on them there
pub late_if : (rs : List Record) (own : RunView) (i index bound task : ℕ)
    → (is : IsDependentAt rs own i index bound)
    → IsPredecessorUnfinished rs i task ↔ IsUnfinishedPredecessor own.records is.dependent bound task
late_if rs own i index bound task is = (
  (λ late. ((is.same task).0 late.0, λ done. late.1 ((is.bounds task).1 done))),
  (λ behind. ((is.same task).1 behind.0, λ complete. behind.1 ((is.bounds task).0 complete))),
)

-- what is told of the task, for the task that starts there, or for the taskwait that is complete there
abbrev pub TellsLate : RunView → ℕ → ℕ → ℕ → Bool → Type 0
TellsLate own index bound task answer = (dependent : ℕ) → slice_get own.family.tasks index ≡ Some dependent
    → IsTrue answer ↔ IsUnfinishedPredecessor own.records dependent bound task

pub tells_late : (rs : List Record) (own : RunView) (i index bound task : ℕ) (answer : Bool)
    → IsDependentAt rs own i index bound → TellsLate own index bound task answer
    → IsTrue answer ↔ IsPredecessorUnfinished rs i task
tells_late rs own i index bound task answer is tells =
    let exact = tells is.dependent is.there in
    let late = late_if rs own i index bound task is in
    ((λ yes_it. late.1 (exact.0 yes_it)), (λ is_late. exact.1 (late.0 is_late)))

pub none_to_tell : (rs : List Record) (i task : ℕ) → IsPrecededByNone rs i
    → IsTrue false ↔ IsPredecessorUnfinished rs i task
none_to_tell rs i task none = ((λ never. absurd (false≢true never)), (λ late. absurd (none task late.0)))

pub late_found : (rs : List Record) (own : RunView) (i index bound : ℕ) (found : Option ℕ)
    → IsDependentAt rs own i index bound → FindsLate rs own index bound found
    → MatchOption found (AreReady rs i) (IsFirstLateAt rs i)
late_found rs own i index bound None is found = λ predecessor preceded.
    (is.bounds predecessor).1 (found is.dependent is.there predecessor ((is.same predecessor).0 preceded))
late_found rs own i index bound (Some predecessor) is found =
    let first = found is.dependent is.there in
    record {
      late = (late_if rs own i index bound predecessor is).1 first.behind;
      creation = first.creation;
      is_created = first.is_created;
      created_first =
          λ k other below creates late.
          first.first k other below creates ((late_if rs own i index bound other is).0 late);
    }

-- ---- one task

-- the predecessors of the task that stands at the index, where its records go by another name
pub predecessors_at : (rs others : List Record) (tasks items : List ℕ) (index own dependent : ℕ) → others ≡ rs
    → slice_get tasks index ≡ Some own → slice_get tasks index ≡ Some dependent
    → ArePredecessors others own items → ArePredecessors rs dependent items
predecessors_at rs others tasks items index own dependent records_are is there are =
    subst (λ t. ArePredecessors rs t items) (same_Some own dependent (sym is ∙ there))
    (subst (λ r. ArePredecessors r own items) records_are are)

-- a task that is found where it is created, unless the entries finish it
pub behind_if : (file own : List Record) (tasks predecessors : List ℕ) (dependent bound task : ℕ)
    (found : Option ℕ)
    → AreNoted made own (length own) tasks → ArePredecessors own dependent predecessors
    → Contains predecessors task
    → ((index : ℕ) → slice_get tasks index ≡ Some task → IsExplicit own task
    → MatchOption found (IsDone own bound task) (IsBehindAt file own bound task))
    → IsTrue (is_some found) ↔ IsUnfinishedPredecessor own dependent bound task
behind_if file own tasks predecessors dependent bound task found noted are among tells =
    let is = are.only task among in
    let index = predecessor_index own tasks dependent task noted is in
    let made_there = predecessor_made own dependent task is in
    of found is (tells index.0 index.1 (made_there.0, made_there.2))
  where
    of : (o : Option ℕ) → IsPredecessor own dependent task
        → MatchOption o (IsDone own bound task) (IsBehindAt file own bound task)
        → IsTrue (is_some o) ↔ IsUnfinishedPredecessor own dependent bound task
    of None is done = (λ never. absurd (false≢true never), λ behind. absurd (behind.1 done))
    of (Some place) is late = (λ _. (is, late.0), λ _. refl)

pub not_among : (rs : List Record) (predecessors : List ℕ) (dependent bound task : ℕ) (answer : Bool)
    → ArePredecessors rs dependent predecessors → IsTrue answer ↔ Contains predecessors task → answer ≡ false
    → IsTrue false ↔ IsUnfinishedPredecessor rs dependent bound task
not_among rs predecessors dependent bound task answer are tells is = (
  (λ never. absurd (false≢true never)),
  (λ behind. absurd (false≢true (sym is ∙ tells.1 (are.all task behind.0)))),
)

-- ---- whose predecessors must be complete

-- a taskwait that is complete starts nothing
sound_wait : (b : Body) → HasItsNext b → (task other : ℕ) → wait_completed b ≡ Some task
    → started b ≡ Some other → ⊥
sound_wait (TaskSchedule TaskwaitComplete turns prior next claimed) sound task other completes starts =
    false≢true (sym sound ∙ ap is_some starts)
sound_wait _ sound task other completes starts = none-some task completes

pub wait_starts_none : (rs : List Record) (i task other : ℕ) → IsTrace rs → at wait_completed rs i ≡ Some task
    → at started rs i ≡ Some other → ⊥
wait_starts_none rs i task other trace completes starts = there (slice_get rs i) refl completes starts
  where
    sound_at : (r : Record) → slice_get rs i ≡ Some r → IsSound r.body
    sound_at r e =
        let within = slice_get_within rs i r e in
        let P : Record → Type 0 = λ q. IsSound q.body in
        subst P (same_Some (get_or rs i r) r (sym (slice_get-get_or rs i r within) ∙ e))
        (trace.sound i r within)

    there : (o : Option Record) → slice_get rs i ≡ o
        → option_and_then (λ (r : Record). wait_completed r.body) o ≡ Some task
        → option_and_then (λ (r : Record). started r.body) o ≡ Some other → ⊥
    there None e completes' starts' = none-some task completes'
    there (Some r) e completes' starts' = sound_wait r.body (sound_at r e).next task other completes' starts'

-- where a task starts its predecessors must be complete, and no others
preceded_at_start : (rs : List Record) (i task : ℕ) → IsTrace rs → IsExplicit rs task → IsStart rs i task
    → (p : ℕ) → IsPrecededBy (by_task rs) i p ↔ IsPredecessor (in_own_order rs) task p
preceded_at_start rs i task trace explicit start p = (
  (λ preceded. elim preceded [
    | inl (other, is_explicit, starts, is) ↦
        subst (λ t. IsPredecessor (in_own_order rs) t p)
        (same_Some other task (sym (start_starts rs i other starts) ∙ start_starts rs i task start)) is
    | inr (other, completes, is) ↦
        absurd (wait_starts_none rs i other task trace completes (start_starts rs i task start))
  ]),
  (λ is. inl (task, explicit, start, is)),
)

preceded_at_wait : (rs : List Record) (i task : ℕ) → IsTrace rs → at wait_completed rs i ≡ Some task → (p : ℕ)
    → IsPrecededBy (by_task rs) i p ↔ IsPredecessor (in_own_order rs) task p
preceded_at_wait rs i task trace completes p = (
  (λ preceded. elim preceded [
    | inl (other, is_explicit, starts, is) ↦
        absurd (wait_starts_none rs i task other trace completes (start_starts rs i other starts))
    | inr (other, also, is) ↦
        subst (λ t. IsPredecessor (in_own_order rs) t p) (same_Some other task (sym also ∙ completes)) is
  ]),
  (λ is. inr (task, completes, is)),
)

-- in the run in the tasks' own order
dependent_own : (rs : List Record) (own : OwnView) (i index bound task : ℕ) → IsOwnOf rs own → IsOwn own
    → slice_get own.run.family.tasks index ≡ Some task
    → ((p : ℕ) → IsPrecededBy (by_task rs) i p ↔ IsPredecessor (in_own_order rs) task p) → IsBound rs i bound
    → IsDependentAt rs own.run i index bound
dependent_own rs own i index bound task of is_own there preceded is_bound = record {
  dependent = task;
  there = there;
  same = λ p. both (preceded p) (own_predecessor rs own of task p);
  bounds = λ p. both (is_bound p) (own_done rs own bound p of is_own);
}
  where
    both : {A B C : Type 0} → A ↔ B → C ↔ B → A ↔ C
    both (there, back) (on, home) = (λ a. home (there a), λ c. back (on c))

pub dependent_start : (rs : List Record) (own : OwnView) (tasks : List ℕ) (i first index bound : ℕ)
    → IsTrace rs → IsOwnOf rs own → IsOwn own → (starts : StartsAt rs tasks i first)
    → slice_get own.run.family.tasks index ≡ Some starts.0 → IsBound rs i bound
    → IsDependentAt rs own.run i index bound
dependent_start rs own tasks i first index bound trace of is_own (task, there, explicit, start) stands
    is_bound =
    dependent_own rs own i index bound task of is_own stands
    (preceded_at_start rs i task trace explicit start) is_bound

pub dependent_wait : (rs : List Record) (own : OwnView) (i index task : ℕ) → IsTrace rs → IsOwnOf rs own
    → IsOwn own → slice_get own.run.family.tasks index ≡ Some task → at wait_completed rs i ≡ Some task
    → IsDependentAt rs own.run i index (seen_at rs i)
dependent_wait rs own i index task trace of is_own there completes =
    dependent_own rs own i index (seen_at rs i) task of is_own there
    (preceded_at_wait rs i task trace completes)
    (bound_still rs i
    (λ (other, explicit, start).
    wait_starts_none rs i task other trace completes (start_starts rs i other start)))

pub preceded_by_none : (rs : List Record) (i : ℕ) → StartsNoneAt rs i
    → ((task : ℕ) → at wait_completed rs i ≡ Some task → ⊥) → IsPrecededByNone rs i
preceded_by_none rs i starts completes task preceded = elim preceded [
  | inl (dependent, explicit, start, is) ↦ starts dependent explicit start
  | inr (dependent, done, is) ↦ completes dependent done
]

pub ready_past : (rs : List Record) (i : ℕ) → length rs ≤ i → AreReady rs i
ready_past rs i past task preceded = absurd (preceded_by_none rs i
    (λ other explicit start.
    let inside = at_within started rs i other (start_starts rs i other start) in
    omega (arith, inside, past))
    (λ other completes.
    let inside = at_within wait_completed rs i other completes in omega (arith, inside, past))
    task preceded)
