-- All tasks that must be complete at a record and are not, and all such records.
use Rattle.std.proofs.Common.{◌≡◌, ◌∙◌, ℕ, ◌<◌, ◌≤◌, ◌+◌, ◌-◌, ◌^◌, List, [], ◌∷◌, ◌++◌, length, get_or, Some}
use Rattle.std.proofs.Common.{refl}
use Rattle.std.proofs.Common.{suc, Bool, true, false, sym, ap, subst, arith, inl, inr}
use Rattle.std.proofs.lemmas.Bool.{cases_lt, false≢true}
use Rattle.std.proofs.lemmas.Option.{slice_get_within}
use Rattle.std.proofs.lemmas.List.{append-nil, append_assoc, length-append, length-map, map-append}
use Rattle.std.proofs.lemmas.List.{length-take, length-take-le, take-append-le, take_all}
use Rattle.std.proofs.lemmas.List.Elements.{All-push, All-nil, All-weaker, All-contains, Contains-push}
use Rattle.std.proofs.lemmas.List.Elements.{Contains-append_left, Contains-append_right}
use Rattle.std.proofs.lemmas.List.Elements.{Contains-append_cases}
use Rattle.std.proofs.lemmas.List.Elements.{Contains-push_cases, Contains-get_or}
use Rattle.std.proofs.lemmas.List.Quantifiers.{all_pairs_push}
use Rattle.std.proofs.lemmas.List.Sums.{count_by-le-length}
use Rattle.std.proofs.Math.Seq.{take-nil}
use Rattle.std.specs.Prelude.{◌↔◌, ◌≢◌, All, Contains, IsTrue, MatchOption, Option, None, if◌then◌else◌}
use Rattle.std.specs.Prelude.{is_some}
use Rattle.std.specs.Prelude.{map, min, slice_get, slice_index}
use Rattle.std.specs.List.{AllPairs}
use Rattle.ompt_events.specs.declared.records.Record.{Record}
use Rattle.ompt_events.specs.declared.cause.Cause.TheVariants.{LengthAhead, LengthBack}
use Rattle.ompt_events.specs.Records.{made, finish}
use Rattle.ompt_events.specs.Places.{seen_at}
use Rattle.ompt_events.specs.Tree.{IsExplicit}
use Rattle.ompt_events.specs.Causes.{IsFreeOf, entries_in, length_ahead, ledger_length}
use Rattle.ompt_events.proofs.ListLemmas.{get_contains, contains_get}
use Rattle.ompt_events.proofs.ShownLemmas.{none_below, one_more, no_more}
use Rattle.task_tree.specs.Makers.{AreNoted}
use Rattle.task_tree.specs.Own.{OwnView}
use Rattle.task_tree.specs.Runs.{RunView}
use Rattle.task_tree.proofs.OwnRunLemmas.{own_covers}
use Rattle.teams.specs.Teams.{own_of}
use Rattle.depend_edges.specs.Edges.{ArePredecessors, ArePredecessorLengths}
use Rattle.credit_ledger.specs.TraceEntries.{IsDone}
use Rattle.wait_coverage.specs.Done.{DoneView, AreOwnLengths, AreDone, records_of}
use Rattle.wait_coverage.specs.Shown.{IsCompleteShown, IsUnfinishedShown}
use Rattle.wait_coverage.specs.Spans.{IsCoverComplete}
use Rattle.wait_coverage.specs.Waits.{AreEach, IsCoveredUnfinished}
use Rattle.wait_coverage.proofs.ShownLemmas.{own_seen, own_complete, own_open, all_shown}
use Rattle.checker.specs.declared.verdict.Why.{Why}
use Rattle.checker.specs.declared.violations.Violation.{Violation}
use Rattle.checker.specs.declared.violations.Violations.{Violations}
use Rattle.checker.specs.Readings.{Reading, by_task}
use Rattle.checker.specs.Verdicts.{AreComplete, IsUnfinished, IsMissed, task_of}
use Rattle.checker.specs.Search.{ClearView, IsClearView}
use Rattle.checker.specs.Starts.{IsUnfinishedPredecessor, AreDoneBefore, IsBehindAt, IsLateAmong, AreLateOf}
use Rattle.checker.specs.Starts.{IsPredecessorUnfinished, AreReady, IsDependentAt}
use Rattle.checker.specs.Deciding.{IsViolationAt}
use Rattle.checker.specs.Findings.{IsCompleteInAll, IsViolated, IsCountOf, IsViolation, AreViolationsBelow}
use Rattle.checker.specs.Findings.{AreViolations}
use Rattle.checker.proofs.StartLemmas.{done_from}
use Rattle.checker.proofs.LateLemmas.{late_kept, among_more, done_by_latest, late_if, predecessor_index}
use Rattle.checker.proofs.LateLemmas.{predecessor_made}
use Rattle.checker.proofs.DecidingLemmas.{stands_there, complete_at, complete_past}
use Rattle.checker.proofs.MissedLemmas.{early_order, missed_by, unfinished_by}
use Rattle.checker.proofs.ReadingLemmas.{of_tasks}
use Rattle.checker.proofs.VerdictLemmas.{complete_in, covered_unfinished, late_unfinished, unfinished_cases}

-- ---- the predecessors of one task

-- each predecessor is listed once
predecessors_apart : (rs : List Record) (task : ℕ) (predecessors : List ℕ) (a b other : ℕ)
    → ArePredecessors rs task predecessors → a < b → slice_get predecessors a ≡ Some other
    → slice_get predecessors b ≡ Some other → ⊥
predecessors_apart rs task predecessors a b other are less there again =
    let is = are.only other (get_contains predecessors other a there) in
    let greater =
    are.rising a b other other is.parent is.earlier is.earlier less there again is.sibling is.sibling in
    omega (arith, greater)

pub late_none : (own : List Record) (bound : ℕ) (tasks : List ℕ) → AreLateOf own bound tasks 0 []
late_none own bound tasks = record {
  each = All-nil (IsLateAmong own bound tasks 0);
  all = λ task among undone. absurd (omega (arith, among.1));
  apart = λ i j d less within. absurd (omega arith);
}

-- one more that is late
pub late_more : (own : List Record) (bound dependent n task : ℕ) (tasks late : List ℕ)
    → ArePredecessors own dependent tasks → slice_get tasks n ≡ Some task → (IsDone own bound task → ⊥)
    → AreLateOf own bound tasks n late → AreLateOf own bound tasks (n + 1) (late ++ task ∷ [])
late_more own bound dependent n task tasks late predecessors stands undone are = record {
  each =
      All-push (IsLateAmong own bound tasks (n + 1)) late task
      (All-weaker (IsLateAmong own bound tasks n) (IsLateAmong own bound tasks (n + 1))
      (λ other is. (late_kept tasks n other is.0, is.1)) late are.each)
      ((n, omega arith, stands), undone);
  all = λ other among is_open. elim (among_more tasks n task other stands among) [
    | inl earlier ↦ Contains-append_left late (task ∷ []) other (are.all other earlier is_open)
    | inr same ↦ subst (Contains (late ++ task ∷ [])) (sym same) (Contains-push late task)
  ];
  apart = all_pairs_push (λ x y. x ≢ y) late task are.apart (λ k d below same.
      let among = (are.each k d below).0 in
      predecessors_apart own dependent tasks among.0 n task predecessors among.1
      (among.2 ∙ ap Some same) stands);
}

-- one more that is not
pub late_still : (own : List Record) (bound n task : ℕ) (tasks late : List ℕ) → slice_get tasks n ≡ Some task
    → IsDone own bound task → AreLateOf own bound tasks n late → AreLateOf own bound tasks (n + 1) late
late_still own bound n task tasks late stands done are = record {
  each =
      All-weaker (IsLateAmong own bound tasks n) (IsLateAmong own bound tasks (n + 1))
      (λ other is. (late_kept tasks n other is.0, is.1)) late are.each;
  all = λ other among is_open. elim (among_more tasks n task other stands among) [
    | inl earlier ↦ are.all other earlier is_open
    | inr same ↦ let P : ℕ → Type 0 = IsDone own bound in absurd (is_open (subst P (sym same) done))
  ];
  apart = are.apart;
}

-- so of all predecessors
pub late_all : (own : List Record) (bound dependent n : ℕ) (tasks late : List ℕ)
    → ArePredecessors own dependent tasks → length tasks ≤ n → AreLateOf own bound tasks n late
    → AreEach (IsUnfinishedPredecessor own dependent bound) late
late_all own bound dependent n tasks late predecessors past are = record {
  exactly = λ task. (
    (λ has.
        let is = All-contains (IsLateAmong own bound tasks n) late task are.each has in
        (predecessors.only task (get_contains tasks task is.0.0 is.0.2), is.1)),
    (λ behind.
        let found = contains_get tasks task (predecessors.all task behind.0) in
        let inside = slice_get_within tasks found.0 task found.1 in
        are.all task (found.0, omega (arith, inside, past), found.1) behind.1),
  );
  apart = are.apart;
}

-- the greatest length of the predecessors is too great only where one of them is late
pub late_by_latest : (rs : List Record) (tasks own latest : List ℕ) (index task bound : ℕ)
    → AreNoted made rs (length rs) tasks → AreOwnLengths rs tasks own
    → ArePredecessorLengths rs tasks own latest
    → slice_get tasks index ≡ Some task → bound < 2 ^ 32
    → (bound < slice_index latest index) ↔ (AreDoneBefore rs task bound → ⊥)
late_by_latest rs tasks own latest index task bound noted are_own are is small = (
  (λ more done. elim (are.only index task is) [
    | inl none ↦ omega (arith, more, none)
    | inr (other, predecessor, precedes, there, same) ↦
        let low =
        (done_from rs tasks own other predecessor are_own there bound small).1 (done predecessor precedes)
        in omega (arith, more, same, low)
  ]),
  (λ not_done. elim (cases_lt bound (slice_index latest index)) [
    | inl more ↦ more
    | inr low ↦
        absurd (not_done (done_by_latest rs tasks own latest index task bound noted are_own are is small low))
  ]),
)

-- the next predecessor
pub late_next : (file own : List Record) (bound dependent n task : ℕ) (tasks indexed late : List ℕ)
    (found : Option ℕ)
    → AreNoted made own (length own) indexed → ArePredecessors own dependent tasks
    → slice_get tasks n ≡ Some task
    → ((index : ℕ) → slice_get indexed index ≡ Some task → IsExplicit own task
    → MatchOption found (IsDone own bound task) (IsBehindAt file own bound task))
    → AreLateOf own bound tasks n late
    → AreLateOf own bound tasks (n + 1) (if is_some found then late ++ task ∷ [] else late)
late_next file own bound dependent n task tasks indexed late found noted are stands tells so_far =
    let is = are.only task (get_contains tasks task n stands) in
    let index = predecessor_index own indexed dependent task noted is in
    let made_there = predecessor_made own dependent task is in
    of found (tells index.0 index.1 (made_there.0, made_there.2))
  where
    of : (o : Option ℕ) → MatchOption o (IsDone own bound task) (IsBehindAt file own bound task)
        → AreLateOf own bound tasks (n + 1) (if is_some o then late ++ task ∷ [] else late)
    of None done = late_still own bound n task tasks late stands done so_far
    of (Some place) undone = late_more own bound dependent n task tasks late are stands undone.0 so_far

-- ---- the predecessors that must be complete at a place

pub each_same : (A B : ℕ → Type 0) (tasks : List ℕ) → ((task : ℕ) → A task ↔ B task) → AreEach A tasks
    → AreEach B tasks
each_same A B tasks same are = record {
  exactly = λ task. (
    (λ has. (same task).0 ((are.exactly task).0 has)),
    (λ holds. (are.exactly task).1 ((same task).1 holds)),
  );
  apart = are.apart;
}

-- what is decided of the task that starts there, or of the taskwait that is complete there
pub any_late_if : (rs : List Record) (own : RunView) (i index bound : ℕ) (answer : Bool)
    → IsDependentAt rs own i index bound
    → ((task : ℕ) → slice_get own.family.tasks index ≡ Some task
    → IsTrue answer ↔ (AreDoneBefore own.records task bound → ⊥))
    → IsTrue answer ↔ (AreReady rs i → ⊥)
any_late_if rs own i index bound answer is tells =
    let exact = tells is.dependent is.there in (
      (λ late ready. exact.0 late (λ p precedes. (is.bounds p).0 (ready p ((is.same p).1 precedes)))),
      (λ not_ready. exact.1 (λ done. not_ready (λ p preceded.
          (is.bounds p).1 (done p ((is.same p).0 preceded))))),
    )

pub all_late_if : (rs : List Record) (own : RunView) (i index bound : ℕ) (late : List ℕ)
    → IsDependentAt rs own i index bound
    → ((task : ℕ) → slice_get own.family.tasks index ≡ Some task
    → AreEach (IsUnfinishedPredecessor own.records task bound) late)
    → AreEach (IsPredecessorUnfinished rs i) late
all_late_if rs own i index bound late is tells =
    each_same (IsUnfinishedPredecessor own.records is.dependent bound) (IsPredecessorUnfinished rs i) late
    (λ task. let same = late_if rs own i index bound task is in
    ((λ behind. same.1 behind), (λ late. same.0 late)))
    (tells is.dependent is.there)

-- where all predecessors are complete none is late
pub ready_not : (rs : List Record) (i : ℕ) → AreReady rs i → IsTrue false ↔ (AreReady rs i → ⊥)
ready_not rs i ready = ((λ never. absurd (false≢true never)), (λ not_ready. absurd (not_ready ready)))

pub ready_each : (rs : List Record) (i : ℕ) → AreReady rs i → AreEach (IsPredecessorUnfinished rs i) []
ready_each rs i ready = record {
  exactly = λ task. (
    (λ has. absurd (let below = has.1 in omega (arith, below))),
    (λ late. absurd (late.1 (ready task late.0))),
  );
  apart = λ k j d less within. absurd (omega arith);
}

-- ---- what a wait covers

-- a ledger length that a record names is small
seen_small : (rs : List Record) (i : ℕ) → IsFreeOf rs LengthAhead → length rs ≤ 2 ^ 22
    → seen_at rs i < 4294967295
seen_small rs i reached few = elim (cases_lt (entries_in rs) (seen_at rs i)) [
  | inl more ↦ absurd (reached i (length_ahead (ledger_length more)))
  | inr low ↦
      let most : entries_in rs ≤ length rs =
      count_by-le-length (λ (r : Record). is_some (finish r.body)) rs in
      omega (arith, low, most, few)
]

-- what is decided of an end by the lengths is so of the place in the file
pub covered_if : (view : ClearView) (own : OwnView) (done : DoneView) (number place : ℕ) (answer : Bool)
    → IsClearView view → own ≡ view.own → own_of done.teams ≡ view.own → AreDone done
    → slice_get own.places number ≡ Some place
    → (AreDone done → seen_at (records_of done) number < 4294967295
    → IsTrue answer ↔ (IsCoverComplete (records_of done) number → ⊥))
    → IsTrue answer ↔ (IsCompleteShown view.run.records place → ⊥)
covered_if view own done number place answer clear same teams are_done stands tells =
    let rs = view.run.records in
    let of = clear.one.of_file in
    let stands_own = stands_there view own number place same stands in
    let Tells : OwnView → Type 0 = λ o. seen_at o.run.records number < 4294967295
    → IsTrue answer ↔ (IsCoverComplete o.run.records number → ⊥) in
    let small =
    seen_small rs place (clear.well_formed LengthAhead (14, omega arith, refl))
    clear.is_run.trace.few_records in
    let equal = own_seen rs view.own of number place stands_own in
    let exact = subst Tells teams (tells are_done) (omega (arith, small, equal)) in (
      (λ yes_it shown. exact.0 yes_it (λ task covers.
          (own_complete rs view.own number place task task of clear.one.is_own stands_own covers).1
          (shown task ((own_covers rs view.own of number place stands_own task).0 covers)))),
      (λ not_shown. exact.1 (λ covered.
          not_shown (all_shown rs view.own number place of clear.one.is_own stands_own covered))),
    )

-- ---- one record

-- all that must be complete is complete in every order exactly where it is by the ledger lengths
pub complete_all : (view : ClearView) (i : ℕ) → IsClearView view
    → AreComplete (by_task view.run.records) i ↔ IsCompleteInAll (by_task view.run.records) i
complete_all view i clear = (
  (λ complete order linear task required.
      complete_in view.run.records order i task linear (complete task required)),
  (λ always task required.
      let early =
      early_order (by_task view.run.records) view.order i task (of_tasks view.run.records)
      (clear.well_formed LengthBack (15, omega arith, refl)) clear.linearization required in
      early.2 (always early.0 early.1 task required)),
)

-- an end that covers an unfinished task is a violation
pub violated_covered : (view : ClearView) (i : ℕ) (answer : Bool) → IsClearView view → answer ≡ true
    → IsTrue answer ↔ (IsCompleteShown view.run.records i → ⊥)
    → IsTrue answer ↔ IsViolated (by_task view.run.records) i
violated_covered view i answer clear is exact = (
  (λ yes_it always. exact.0 yes_it (λ task covers. (complete_all view i clear).1 always task (inl covers))),
  (λ violated. is),
)

-- any other record is one exactly where a predecessor is late
pub violated_late : (view : ClearView) (i : ℕ) (answer late : Bool) → IsClearView view → answer ≡ false
    → IsTrue answer ↔ (IsCompleteShown view.run.records i → ⊥)
    → IsTrue late ↔ (AreReady view.run.records i → ⊥)
    → IsTrue late ↔ IsViolated (by_task view.run.records) i
violated_late view i answer late clear is exact tells = (
  (λ yes_it always. tells.0 yes_it (λ task preceded.
      (complete_all view i clear).1 always task (inr preceded))),
  (λ violated. of late tells violated),
)
  where
    rs : List Record
    rs = view.run.records

    of : (b : Bool) → IsTrue b ↔ (AreReady rs i → ⊥) → IsViolated (by_task rs) i → IsTrue b
    of true decided violated = refl
    of false decided violated =
        absurd (false≢true (sym is ∙ exact.1 (λ covered.
        false≢true (decided.1 (λ ready.
        violated ((complete_all view i clear).0 (complete_at rs i covered ready)))))))

-- ---- how many tasks

-- both lists are of different tasks
apart_append : (xs ys : List ℕ) → AllPairs (λ x y. x ≢ y) xs → AllPairs (λ x y. x ≢ y) ys
    → ((x : ℕ) → Contains xs x → Contains ys x → ⊥) → AllPairs (λ x y. x ≢ y) (xs ++ ys)
apart_append xs [] apart_xs apart_ys apart =
    subst (AllPairs (λ x y. x ≢ y)) (sym (append-nil xs)) apart_xs
apart_append xs (y ∷ ys) apart_xs apart_ys apart =
    subst (AllPairs (λ x y. x ≢ y)) (append_assoc xs (y ∷ []) ys)
    (apart_append (xs ++ y ∷ []) ys
    (all_pairs_push (λ x y. x ≢ y) xs y apart_xs (λ k d below same.
    apart (get_or xs k d) (Contains-get_or xs k d below)
    (subst (Contains (y ∷ ys)) (sym same) (0, omega arith, refl))))
    (λ i j d less within. apart_ys (suc i) (suc j) d (omega arith) (omega (arith, within)))
    (λ x has has_too. elim (Contains-push_cases xs y x has) [
      | inl early ↦ apart x early (Contains-append_right (y ∷ []) ys x has_too)
      | inr same ↦ first_apart x same has_too
    ]))
  where
    first_apart : (x : ℕ) → y ≡ x → Contains ys x → ⊥
    first_apart x same (k, below, is) =
        apart_ys 0 (suc k) x (omega arith) (omega (arith, below)) (same ∙ sym is)

-- the tasks that the wait covers and the predecessors, which are different ones
pub count_of : (rs : List Record) (i : ℕ) (covered late : List ℕ) → AreEach (IsUnfinishedShown rs i) covered
    → AreEach (IsPredecessorUnfinished rs i) late
    → IsCountOf (IsUnfinished (by_task rs) i) (length covered + length late)
count_of rs i covered late are_covered are_late = record {
  tasks = covered ++ late;
  each = record {
    exactly = λ task. (
      (λ has. elim (Contains-append_cases covered late task has) [
        | inl there ↦
            let is = (are_covered.exactly task).0 there in
            covered_unfinished (by_task rs) i task (is.covered, is.incomplete)
        | inr there ↦ late_unfinished (by_task rs) i task ((are_late.exactly task).0 there)
      ]),
      (λ unfinished. elim (unfinished_cases (by_task rs) i task unfinished) [
        | inl is ↦
            Contains-append_left covered late task
            ((are_covered.exactly task).1 (record { covered = is.0; incomplete = is.1 }))
        | inr is ↦ Contains-append_right covered late task ((are_late.exactly task).1 is)
      ]),
    );
    apart =
        apart_append covered late are_covered.apart are_late.apart (λ task there too.
        (of_tasks rs).apart i task task ((are_covered.exactly task).0 there).covered
        ((are_late.exactly task).0 too).0);
  };
  counted = length-append covered late;
}

-- the same where the first list is found by the lengths
pub counted : (view : ClearView) (own : OwnView) (done : DoneView) (number place : ℕ) (covered late : List ℕ)
    → IsClearView view → own ≡ view.own → own_of done.teams ≡ view.own
    → slice_get own.places number ≡ Some place
    → AreEach (IsCoveredUnfinished (records_of done) number) covered
    → AreEach (IsPredecessorUnfinished view.run.records place) late
    → IsCountOf (IsUnfinished (by_task view.run.records) place) (length covered + length late)
counted view own done number place covered late clear same teams stands are_covered are_late =
    let rs = view.run.records in
    let Each : OwnView → Type 0 = λ o. AreEach (IsCoveredUnfinished o.run.records number) covered in
    count_of rs place covered late
    (each_same (IsCoveredUnfinished view.own.run.records number) (IsUnfinishedShown rs place) covered
    (λ task.
    own_open rs view.own number place task clear.one.of_file clear.one.is_own
    (stands_there view own number place same stands))
    (subst Each teams are_covered))
    are_late

-- there is one at least
pub count_some : (P : ℕ → Type 0) (count task : ℕ) → IsCountOf P count → P task → 1 ≤ count
count_some P count task is holds =
    let has = (is.each.exactly task).1 holds in
    let below = has.1 in
    let long = is.counted in
    omega (arith, below, long)

-- a violation of the ledger lengths is one of the orders
pub violation_of : (view : ClearView) (i : ℕ) (why : Why) (count : ℕ) → IsClearView view
    → IsViolationAt (by_task view.run.records) i why
    → IsCountOf (IsUnfinished (by_task view.run.records) i) count
    → IsViolation (by_task view.run.records) (record { at = i; why = why; others = count - 1 })
violation_of view i why count clear is counts = record {
  missed = missed_there (task_of why) is.unfinished;
  reason = is.reason;
  creation = is.creation;
  is_created = is.is_created;
  created_first =
      λ k other below creates missed.
      is.created_first k other below creates (unfinished_by reading i other missed);
  all = record {
    tasks = counts.tasks;
    each =
        each_same (IsUnfinished reading i) (IsMissed reading i) counts.tasks
        (λ task. (missed_there task, unfinished_by reading i task)) counts.each;
    counted =
        let some = count_some (IsUnfinished reading i) count (task_of why) counts is.unfinished in
        let long = counts.counted in omega (arith, some, long);
  };
}
  where
    reading : Reading
    reading = by_task view.run.records

    missed_there : (task : ℕ) → IsUnfinished reading i task → IsMissed reading i task
    missed_there task =
        missed_by reading view.order i task (of_tasks view.run.records)
        (clear.well_formed LengthBack (15, omega arith, refl)) clear.linearization

-- ---- the list of records

abbrev at_of : Violation → ℕ
at_of v = v.at

pub none_listed : (reading : Reading) (most : ℕ) (violations : Violations) → violations.listed.items ≡ []
    → violations.left_out ≡ 0 → AreViolationsBelow reading most 0 violations
none_listed reading most violations none no_more_left = record {
  places = [];
  all = none_below (IsViolated reading);
  listed = record {
    listed = ap (map at_of) none ∙ sym (take-nil most);
    each = let P : List Violation → Type 0 = All (IsViolation reading) in
        subst P (sym none) (All-nil (IsViolation reading));
    left_out = let long = ap (λ (l : List Violation). length l) none in omega (arith, long, no_more_left);
  };
}

pub one_listed : (reading : Reading) (most n : ℕ) (old new : Violations) (violation : Violation)
    → IsViolated reading n → violation.at ≡ n → IsViolation reading violation
    → length old.listed.items < most → new.listed.items ≡ old.listed.items ++ violation ∷ []
    → new.left_out ≡ old.left_out → AreViolationsBelow reading most n old
    → AreViolationsBelow reading most (n + 1) new
one_listed reading most n old new violation violated at_n is few items left are = record {
  places = are.places ++ n ∷ [];
  all = one_more (IsViolated reading) n are.places violated are.all;
  listed = record {
    listed =
        ap (map at_of) items ∙ map-append at_of old.listed.items (violation ∷ [])
        ∙ ap (λ l. l ++ violation.at ∷ []) (are.listed.listed ∙ take_all most are.places
        (omega (arith, short)))
        ∙ ap (λ at. are.places ++ at ∷ []) at_n
        ∙ sym (take_all most (are.places ++ n ∷ []) (omega (arith, short, longer)));
    each = let P : List Violation → Type 0 = All (IsViolation reading) in
        subst P (sym items) (All-push (IsViolation reading) old.listed.items violation are.listed.each is);
    left_out =
        let long = ap (λ (l : List Violation). length l) items ∙ length-append old.listed.items
        (violation ∷ []) in
        let all = are.listed.left_out in
        omega (arith, long, all, left, longer);
  };
}
  where
    long_listed : length old.listed.items ≡ min most (length are.places)
    long_listed =
        sym (length-map old.listed.items at_of) ∙ ap (λ (l : List ℕ). length l) are.listed.listed
        ∙ length-take most are.places

    short : length are.places < most
    short = elim (cases_lt (length are.places) most) [
      | inl less ↦ less
      | inr more ↦
          let full : length old.listed.items ≡ most =
          sym (length-map old.listed.items at_of) ∙ ap (λ (l : List ℕ). length l) are.listed.listed
          ∙ length-take-le most are.places more in
          absurd (omega (arith, full, few))
    ]

    longer : length (are.places ++ n ∷ []) ≡ length are.places + 1
    longer = length-append are.places (n ∷ [])

pub one_left_out : (reading : Reading) (most n : ℕ) (old new : Violations) → IsViolated reading n
    → most ≤ length old.listed.items → new.listed.items ≡ old.listed.items
    → new.left_out ≡ old.left_out + 1 → AreViolationsBelow reading most n old
    → AreViolationsBelow reading most (n + 1) new
one_left_out reading most n old new violated full items left are = record {
  places = are.places ++ n ∷ [];
  all = one_more (IsViolated reading) n are.places violated are.all;
  listed = record {
    listed =
        ap (map at_of) items ∙ are.listed.listed ∙ sym (take-append-le most are.places (n ∷ []) enough);
    each = let P : List Violation → Type 0 = All (IsViolation reading) in subst P (sym items) are.listed.each;
    left_out =
        let long = ap (λ (l : List Violation). length l) items in
        let longer = length-append are.places (n ∷ []) in
        let all = are.listed.left_out in
        omega (arith, long, longer, all, left);
  };
}
  where
    enough : most ≤ length are.places
    enough = let all = are.listed.left_out in omega (arith, all, full)

-- the next record is no violation
pub none_more : (reading : Reading) (most n : ℕ) (violations : Violations) → (IsViolated reading n → ⊥)
    → AreViolationsBelow reading most n violations → AreViolationsBelow reading most (n + 1) violations
none_more reading most n violations complete are = record {
  places = are.places;
  all = no_more (IsViolated reading) n are.places complete are.all;
  listed = are.listed;
}

-- so of the whole file
pub all_violations : (view : ClearView) (most n : ℕ) (violations : Violations) → IsClearView view
    → length view.run.records ≡ n → AreViolationsBelow (by_task view.run.records) most n violations
    → AreViolations (by_task view.run.records) most violations
all_violations view most n violations clear long are = record {
  places = are.places;
  all = record {
    rising = are.all.rising;
    within = subst (λ m. All (λ place. place < m) are.places) (sym long) are.all.within;
    hold = are.all.hold;
    complete = λ i violated. elim (cases_lt i n) [
      | inl less ↦ are.all.complete i less violated
      | inr past ↦
          absurd (violated ((complete_all view i clear).0
          (complete_past view.run.records i (omega (arith, past, long)))))
    ];
  };
  listed = are.listed;
}
