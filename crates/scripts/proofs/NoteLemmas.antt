-- Notes that go with tasks from thread to thread, and what a recorder knows once it has met those of a step.
use Rattle.std.proofs.Common.{ℕ, ◌≡◌, ◌≢◌, ◌∙◌, ◌++◌, ◌+◌, ◌-◌, ◌<◌, ◌≤◌, ◌⊎◌, [], List, Some, None, Option}
use Rattle.std.proofs.Common.{true, false, length, refl, sym, ap, subst, arith, inl, inr, cond}
use Rattle.std.proofs.Common.{zero, suc}
use Rattle.std.specs.Prelude.{◌==◌, ◌↔◌, not, IfSome, IsTrue, Contains, slice_get, option_map}
use Rattle.std.specs.Prelude.{option_and_then, is_some}
use Rattle.std.specs.Option.{option_map_or}
use Rattle.std.proofs.lemmas.Bool.{cases_eq, cases_lt, eq-eqb, ne_eqb, false≢true, or_cases, or_left}
use Rattle.std.proofs.lemmas.Bool.{or_right}
use Rattle.std.proofs.lemmas.List.{append-nil, append_assoc}
use Rattle.std.proofs.lemmas.Option.{none-some, same_Some, slice_get_within}
use Rattle.ompt_events.specs.declared.records.Body.{Body}
use Rattle.ompt_events.specs.declared.records.Body.TheVariants.{ThreadBegin, ThreadEnd, ParallelBegin}
use Rattle.ompt_events.specs.declared.records.Body.TheVariants.{ParallelEnd, ImplicitTask, TaskCreate}
use Rattle.ompt_events.specs.declared.records.Body.TheVariants.{Dependences, TaskSchedule, SyncRegion, Cancel}
use Rattle.ompt_events.specs.declared.names.Endpoint.TheVariants.{Begin, End, BeginEnd}
use Rattle.ompt_events.specs.Records.{made, named}
use Rattle.ompt_events.specs.States.{is_task}
use Rattle.ompt_events.proofs.PlaceLemmas.{the_task, is_the_task}
use Rattle.credit_ledger.specs.declared.view.Step as seat_step
use Rattle.credit_ledger.specs.declared.view.View.{View}
use Rattle.credit_ledger.specs.Seats.{StartsWith, seat_calls}
use Rattle.scripts.specs.declared.script.Step.{Step}
use Rattle.scripts.specs.Scripts.{ScriptView, IsScript}
use Rattle.callbacks.specs.Recorders.{RecorderView, NoteView}
use Rattle.callbacks.specs.Tasks.{TaskView}
use Rattle.packed_trace.specs.Named.{subject, object}
use Rattle.scripts.specs.RunCalls.{first_given, second_given, names_it}
use Rattle.scripts.specs.RunCalls.{first_left}
use Rattle.scripts.specs.HandOvers.{is_use, IsNextUse}
use Rattle.scripts.specs.Parts.{IsKnownTo}
use Rattle.scripts.specs.Parts.{HasSeat, IsAware, HasMet, IsMet, IsStepKnown}
use Rattle.scripts.specs.Parts.{IsNoted, IsNext, IsCalled, IsUnusedSince, last_user}
use Rattle.scripts.specs.Parts.{notes_met, is_other, AreMet, IsLeft, IsSameRun, IsUsed}
use Rattle.scripts.specs.declared.uses.Uses.{Uses}
use Rattle.scripts.specs.Parts.{ledger_count, number_of, IsUseOf, IsTaken}
use Rattle.scripts.specs.declared.uses.Use.{Use}
use Rattle.scripts.proofs.AwareLemmas.{met_one, known_more, named_later}
use Rattle.scripts.proofs.KnownLemmas.{known_to_later}
use Rattle.scripts.proofs.ProgressLemmas.{given_first, given_second}
use Rattle.scripts.proofs.ProgressLemmas.{first_id, second_id}
use Rattle.scripts.proofs.CalledLemmas.{first_is_named}
use Rattle.scripts.proofs.HandOverLemmas.{second_is_named, made_first}

-- ---- the last step that names a task

-- its thread is that of the step that is noted
last_user_is : (steps : List Step) (task since at : ℕ) (t : Step) → 0 < since
    → is_use steps task (since - 1) ≡ true → slice_get steps (since - 1) ≡ Some t
    → IsUnusedSince steps task since at → last_user steps task at ≡ Some t.thread
last_user_is steps task since at t some used is unused = up_to at unused.up_to (omega arith)
  where
    up_to : (n : ℕ) → since ≤ n → n ≤ at → last_user steps task n ≡ Some t.thread
    up_to zero from to = absurd (omega (arith, some, from))
    up_to (suc n) from to = elim (cases_lt since (suc n)) [
      | inl less ↦
          ap (λ b. cond b (option_map (λ (s : Step). s.thread) (slice_get steps n)) (last_user steps task n))
          (unused.unnamed n (omega arith) (omega arith))
          ∙ up_to n (omega arith) (omega arith)
      | inr past ↦
          let here : since - 1 ≡ n = omega arith in
          ap (λ b. cond b (option_map (λ (s : Step). s.thread) (slice_get steps n)) (last_user steps task n))
          (ap (is_use steps task) (sym here) ∙ used)
          ∙ ap (λ k. option_map (λ (s : Step). s.thread) (slice_get steps k)) (sym here)
          ∙ ap (option_map (λ (s : Step). s.thread)) is
    ]

-- the last step before a place that names the task is one
one_last : (steps : List Step) (task first other at : ℕ) → IsNextUse steps task first at
    → IsNextUse steps task other at → first ≡ other
one_last steps task first other at one two = elim (cases_lt first other) [
  | inl less ↦
      let low = two.below in absurd (false≢true (sym (one.between other less low) ∙ two.used))
  | inr from ↦ elim (cases_eq first other) [
    | inl same ↦ same
    | inr apart ↦
        let low = one.below in
        absurd (false≢true (sym (two.between first (omega (arith, from, apart)) low) ∙ one.used))
  ]
]

-- a step that names a task
pub use_there : (steps : List Step) (task n : ℕ) → is_use steps task n ≡ true
    → (s : Step) × (slice_get steps n ≡ Some s)
use_there steps task n is = by (slice_get steps n) refl is
  where
    by : (o : Option Step) → slice_get steps n ≡ o
        → option_map_or (λ (s : Step). names_it s.body task) o false ≡ true
        → (s : Step) × (slice_get steps n ≡ Some s)
    by None none used = absurd (false≢true used)
    by (Some s) stands used = (s, stands)

named_use : (steps : List Step) (at : ℕ) (s : Step) (task : ℕ) → slice_get steps at ≡ Some s
    → names_it s.body task ≡ true → is_use steps task at ≡ true
named_use steps at s task is names =
    ap (λ (o : Option Step). option_map_or (λ (q : Step). names_it q.body task) o false) is ∙ names

-- ---- the notes of a step

-- what holds after the note of one of its tasks is met, if there is one
pub record HasMetOne (script : ScriptView) (seats : List (Option View)) (at : ℕ) (s : Step) (given : Option ℕ)
    (count : ℕ) (old new : RecorderView) : Type 0 where
  pub seat : HasSeat seats (count + notes_met script.steps at s.thread given) new
  pub grown : StartsWith new.seat.seen old.seat.seen
  pub rises : old.known ≤ new.known
  pub heard : (task first : ℕ) (t : Step) → given ≡ Some task → IsNextUse script.steps task first at
      → slice_get script.steps first ≡ Some t → t.thread ≢ s.thread
      → IsStepKnown script seats new.seat.seen first t new.known

none_met : (script : ScriptView) (seats : List (Option View)) (at : ℕ) (s : Step) (given : Option ℕ)
    (count : ℕ) (old new : RecorderView) → HasSeat seats count old → new ≡ old
    → notes_met script.steps at s.thread given ≡ 0
    → ((task first : ℕ) (t : Step) → given ≡ Some task → IsNextUse script.steps task first at
    → slice_get script.steps first ≡ Some t → t.thread ≡ s.thread)
    → HasMetOne script seats at s given count old new
none_met script seats at s given count old new seat same none own =
    subst (HasMetOne script seats at s given count old) (sym same) (record {
      seat = subst (λ n. HasSeat seats n old) (omega (arith, none)) seat;
      grown = ([], sym (append-nil old.seat.seen));
      rises = omega arith;
      heard = λ task first t names uses is other. absurd (other (own task first t names uses is));
    })

-- the note of a held task
some_met : (script : ScriptView) (seats : List (Option View)) (at since count : ℕ) (s t : Step)
    (task : TaskView) (note : Option NoteView) (old new : RecorderView) → HasSeat seats count old
    → new.thread ≡ old.thread → slice_get script.steps at ≡ Some s
    → IsUnusedSince script.steps task.id since at → slice_get script.steps (since - 1) ≡ Some t
    → IsNextUse script.steps task.id (since - 1) at → IsNoted script seats since task note
    → IsMet old note new → HasMetOne script seats at s (Some task.id) count old new
some_met script seats at since count s t task None old new seat thread here unused is uses noted met_is =
    let same = noted.own at t s uses is here refl in
    none_met script seats at s (Some task.id) count old new seat met_is
    (ap (λ b. cond b 0 1)
    (the_task s.thread (last_user script.steps task.id at)
    (last_user_is script.steps task.id since at t noted.some noted.used is unused ∙ ap Some (sym same))))
    (λ other first u names also there.
    let own = same_Some task.id other names in
    let one =
    one_last script.steps task.id first (since - 1) at
    (subst (λ n. IsNextUse script.steps n first at) (sym own) also) uses in
    ap (λ (x : Step). x.thread) (same_Some u t (sym there ∙ ap (slice_get script.steps) one ∙ is)) ∙ sym same)
some_met script seats at since count s t task (Some note) old new seat thread here unused is uses noted
    met_is =
    let other = noted.other at t s note uses is here refl in
    let some = noted.some in
    let (next, grown, rises, tells) = met_one seats count old new note seat thread met_is in
    record {
      seat =
          subst (λ n. HasSeat seats n new)
          (let one : notes_met script.steps at s.thread (Some task.id) ≡ 1 =
          ap (λ b. cond b 0 1)
          (ap (is_task s.thread)
          (last_user_is script.steps task.id since at t noted.some noted.used is unused)
          ∙ ne_eqb t.thread s.thread (λ e. other (sym e))) in
          omega (arith, one)) next;
      grown = grown;
      rises = rises;
      heard = λ named first u names also there apart.
          let own = same_Some task.id named names in
          let one =
          one_last script.steps task.id first (since - 1) at
          (subst (λ n. IsNextUse script.steps n first at) (sym own) also) uses in
          let step : t ≡ u =
          same_Some t u (sym is ∙ ap (slice_get script.steps) (sym one) ∙ there) in
          let number : since ≡ first + 1 = omega (arith, one, some) in
          subst (λ (x : Step). IsStepKnown script seats new.seat.seen first x new.known) step
          (subst (λ k. IsKnownTo new.seat.seen (number_of seats t.thread)
          (ledger_count script.steps t.thread k) new.known) number
          (tells (number_of seats t.thread) (ledger_count script.steps t.thread since)
          (noted.tells t note is refl)));
    }

-- the note of a task that was taken for the step, if one was
pub taken_met : {H : Type 0} (since_of : H → ℕ) (task_of : H → TaskView) (note_of : H → Option NoteView)
    (script : ScriptView) (seats : List (Option View)) (n at count : ℕ) (s : Step) (given named : Option ℕ)
    (used : Option Use) (held : Option H) (old new : RecorderView) → HasSeat seats count old
    → new.thread ≡ old.thread → slice_get script.steps at ≡ Some s
    → ((task : ℕ) → given ≡ Some task → named ≡ Some task)
    → ((task : ℕ) → named ≡ Some task → is_use script.steps task at ≡ true)
    → IsUseOf script.steps n at named used
    → ((h : H) → IsNoted script seats (since_of h) (task_of h) (note_of h))
    → IsTaken given (option_map (λ (u : Use). u.since) used) (option_map (λ h. (since_of h, task_of h)) held)
    → IsMet old (option_and_then note_of held) new → HasMetOne script seats at s given count old new
taken_met since_of task_of note_of script seats n at count s given named used None old new seat thread there
    names uses_it use_is noted taken met_is =
    none_met script seats at s given count old new seat met_is
    (ap (notes_met script.steps at s.thread) taken)
    (λ task first t is uses stands. absurd (none-some task (sym taken ∙ is)))
taken_met since_of task_of note_of script seats n at count s given named None (Some h) old new seat thread
    there names uses_it use_is noted (is, since_is) met_is = absurd (none-some (since_of h) since_is)
taken_met since_of task_of note_of script seats n at count s given named (Some u) (Some h) old new seat thread
    there names uses_it use_is noted (is, since_is) met_is =
    let task = task_of h in
    let since = since_of h in
    let it = noted h in
    let some = it.some in
    let own = names task.id is in
    let unused : IsUnusedSince script.steps task.id since at =
    subst (λ k. IsUnusedSince script.steps task.id k at) (same_Some u.since since since_is)
    (use_is.since task.id u own refl) in
    let up = unused.up_to in
    let (t, stands) = use_there script.steps task.id (since - 1) it.used in
    let next : IsNextUse script.steps task.id (since - 1) at = record {
      below = omega (arith, some, up);
      used = it.used;
      used_next = uses_it task.id own;
      between = λ k above below. unused.unnamed k (omega (arith, above, some)) below;
    } in
    subst (λ o. HasMetOne script seats at s o count old new) (sym is)
    (some_met script seats at since count s t task (note_of h) old new seat thread there unused stands next it
    met_is)

-- a task that a call names first is given to it, unless the call makes it
given_or_made : (body : Body) (task : ℕ) → subject body ≡ Some task
    → (first_given body ≡ Some task) ⊎ (made body ≡ Some task)
given_or_made (ThreadBegin kind) task is = inl is
given_or_made ThreadEnd task is = inl is
given_or_made (ParallelBegin requested own parallel) task is = inl is
given_or_made (ParallelEnd own parallel) task is = inl is
given_or_made (ImplicitTask Begin actual index given parallel own) task is = inr is
given_or_made (ImplicitTask End actual index given parallel own) task is = inl is
given_or_made (ImplicitTask BeginEnd actual index given parallel own) task is = inl is
given_or_made (TaskCreate deps given own child) task is = inl is
given_or_made (Dependences own list) task is = inl is
given_or_made (TaskSchedule status turns prior next claimed) task is = inl is
given_or_made (SyncRegion kind endpoint parallel own) task is = inl is
given_or_made (Cancel given own claimed) task is = inl is

-- the same of the one that it names next
next_or_made : (body : Body) (task : ℕ) → object body ≡ Some task
    → (second_given body ≡ Some task) ⊎ (made body ≡ Some task)
next_or_made (TaskCreate deps given own child) task is = inr is
next_or_made (TaskSchedule status turns prior next claimed) task is = inl is
next_or_made _ task is = absurd (none-some task is)

-- what a call names is named
use_named : (steps : List Step) (task n : ℕ) (s : Step) → slice_get steps n ≡ Some s
    → is_use steps task n ≡ true → Contains (named s.body) task
use_named steps task n s is used =
    elim (or_cases (is_task task (subject s.body)) (is_task task (object s.body))
    (sym (ap (λ (o : Option Step). option_map_or (λ (q : Step). names_it q.body task) o false) is) ∙ used)) [
      | inl first ↦ first_is_named s.body task (is_the_task task (subject s.body) first)
      | inr second ↦ second_is_named s.body task (is_the_task task (object s.body) second)
    ]

-- a task that a step names, and that an earlier one named, is given to it
pub given_again : (steps : List Step) (task first at : ℕ) (s : Step) → IsScript steps
    → slice_get steps at ≡ Some s → IsNextUse steps task first at
    → (first_given s.body ≡ Some task) ⊎ (second_given s.body ≡ Some task)
given_again steps task first at s rules is uses =
    elim (or_cases (is_task task (subject s.body)) (is_task task (object s.body))
    (sym (ap (λ (o : Option Step). option_map_or (λ (q : Step). names_it q.body task) o false) is)
    ∙ uses.used_next)) [
      | inl one ↦ elim (given_or_made s.body task (is_the_task task (subject s.body) one)) [
        | inl given ↦ inl given
        | inr makes ↦ absurd (unmade makes)
      ]
      | inr two ↦ elim (next_or_made s.body task (is_the_task task (object s.body) two)) [
        | inl given ↦ inr given
        | inr makes ↦ absurd (unmade makes)
      ]
    ]
  where
    unmade : made s.body ≡ Some task → ⊥
    unmade makes =
        let (q, before) = use_there steps task first uses.used in
        let low = uses.below in
        let past =
        made_first steps task at first s q rules is makes before
        (use_named steps task first q before uses.used) in
        omega (arith, low, past)

-- both notes of a step are met
pub both_met : (script : ScriptView) (seats : List (Option View)) (at : ℕ) (s : Step)
    (old middle new : RecorderView) → IsScript script.steps → slice_get script.steps at ≡ Some s
    → s.thread ≡ old.thread → IsAware script seats at old
    → HasMetOne script seats at s (first_given s.body) (ledger_count script.steps old.thread at) old middle
    → HasMetOne script seats at s (second_given s.body)
    (ledger_count script.steps old.thread at + notes_met script.steps at s.thread (first_given s.body)) middle
    new
    → new.thread ≡ old.thread → new.records ≡ old.records → HasMet script seats at s new
both_met script seats at s old middle new rules is of_thread aware one two thread records = record {
  seat =
      subst (λ t. HasSeat seats (ledger_count script.steps t at
      + notes_met script.steps at s.thread (first_given s.body)
      + notes_met script.steps at s.thread (second_given s.body)) new) (sym thread) two.seat;
  named =
      named_later script seats at old new aware.named thread records
      (two.seat.number ∙ ap (number_of seats) thread ∙ sym aware.seat.number)
      (further old.seat.seen middle.seat.seen new.seat.seen one.grown two.grown);
  heard = λ task first t uses there apart. elim (given_again script.steps task first at s rules is uses) [
    | inl given ↦
        known_more new.seat.seen (number_of seats t.thread) (ledger_count script.steps t.thread (first + 1))
        middle.known new.known two.rises
        (known_to_later middle.seat.seen new.seat.seen (number_of seats t.thread)
        (ledger_count script.steps t.thread (first + 1)) middle.known two.grown
        (one.heard task first t given uses there (λ e. apart (e ∙ of_thread ∙ sym thread))))
    | inr given ↦ two.heard task first t given uses there (λ e. apart (e ∙ of_thread ∙ sym thread))
  ];
}
  where
    further : (first second third : List seat_step.Step) → StartsWith second first → StartsWith third second
        → StartsWith third first
    further first second third (more, is) (others, also) =
        (more ++ others, also ∙ ap (λ l. l ++ others) is ∙ append_assoc first more others)

-- ---- the notes that a step leaves

-- what a recorder tells of the thread's steps so far, in a note for the next step that names the task, if
-- that one is of another thread
pub noted_for : (script : ScriptView) (seats : List (Option View)) (at : ℕ) (s : Step) (r : RecorderView)
    (named : Option ℕ) (u : Use) (task : TaskView) (given : Option NoteView)
    → slice_get script.steps at ≡ Some s → s.thread ≡ r.thread
    → HasSeat seats (ledger_count script.steps r.thread (at + 1)) r
    → named ≡ Some task.id → is_use script.steps task.id at ≡ true
    → IsUseOf script.steps (length script.steps) at named (Some u)
    → ((told : NoteView) → given ≡ Some told → (told.seat.seen ≡ r.seat.seen)
    × ((k : ℕ) → u.next ≡ Some k → k ≢ r.thread))
    → (given ≡ None → (k : ℕ) → u.next ≡ Some k → k ≡ r.thread)
    → IsNoted script seats (at + 1) task given
noted_for script seats at s r named u task given is own seat names used use_is some none = record {
  some = omega arith;
  used = ap (is_use script.steps task.id) back ∙ used;
  own = λ k t v uses there after none_is.
      let same = step_is t there in
      none none_is v.thread (next k v uses after) ∙ sym own ∙ ap (λ (x : Step). x.thread) same;
  other = λ k t v told uses there after some_is e.
      let same = step_is t there in
      (some told some_is).1 v.thread (next k v uses after)
      (e ∙ sym (ap (λ (x : Step). x.thread) same) ∙ own);
  tells = λ t told there some_is.
      let same = step_is t there in
      let calls : length (seat_calls (number_of seats t.thread) told.seat.seen)
      ≡ ledger_count script.steps t.thread (at + 1) =
      subst (λ n. length (seat_calls (number_of seats n) told.seat.seen) ≡ ledger_count script.steps n
      (at + 1))
      (sym own ∙ ap (λ (x : Step). x.thread) same)
      (ap (λ k. length (seat_calls k told.seat.seen)) (sym seat.number)
      ∙ ap (λ h. length (seat_calls r.seat.number h)) (some told some_is).0
      ∙ ap length seat.alone ∙ seat.calls) in
      omega (arith, calls);
}
  where
    back : at + 1 - 1 ≡ at
    back = omega arith

    step_is : (t : Step) → slice_get script.steps (at + 1 - 1) ≡ Some t → s ≡ t
    step_is t there = same_Some s t (sym is ∙ ap (slice_get script.steps) (sym back) ∙ there)

    next : (k : ℕ) (v : Step) → IsNextUse script.steps task.id (at + 1 - 1) k
        → slice_get script.steps k ≡ Some v → u.next ≡ Some v.thread
    next k v uses after =
        use_is.next task.id k v u names refl (subst (λ n. IsNextUse script.steps task.id n k) back uses)
        (slice_get_within script.steps k v after) after

-- what a note says of the next thread, where it is given as wanted
pub note_some : {X : Type 0} (note_of : X → NoteView) (result : Option X) (next : Option ℕ) (thread : ℕ)
    (seen : List seat_step.Step) (told : NoteView) → IfSome result (λ n. (note_of n).seat.seen ≡ seen)
    → (IsTrue (is_some result) ↔ IsTrue (is_other next thread)) → option_map note_of result ≡ Some told
    → (told.seat.seen ≡ seen) × ((k : ℕ) → next ≡ Some k → k ≢ thread)
note_some note_of None next thread seen told tells wanted none = absurd (none-some told none)
note_some note_of (Some n) next thread seen told tells wanted is = (
  ap (λ (v : NoteView). v.seat.seen) (sym (same_Some (note_of n) told is)) ∙ tells,
  λ k named same.
      let other : not (k == thread) ≡ true =
      ap (λ o. is_other o thread) (sym named) ∙ wanted.0 refl in
      false≢true (ap not (sym (eq-eqb k thread same)) ∙ other),
)

pub note_none : {X : Type 0} (note_of : X → NoteView) (result : Option X) (next : Option ℕ) (thread : ℕ)
    → (IsTrue (is_some result) ↔ IsTrue (is_other next thread)) → option_map note_of result ≡ None
    → (k : ℕ) → next ≡ Some k → k ≡ thread
note_none note_of (Some n) next thread wanted some k named = absurd (none-some (note_of n) (sym some))
note_none note_of None next thread wanted none k named = elim (cases_eq k thread) [
  | inl same ↦ same
  | inr other ↦
      absurd
      (false≢true
      (wanted.1 (ap (λ o. is_other o thread) named ∙ ap not (ne_eqb k thread other))))
]

-- the note of a task that a step leaves
pub noted_left : {X : Type 0} (note_of : X → NoteView) (script : ScriptView) (seats : List (Option View))
    (since : ℕ) (r : RecorderView) (u : Use) (task : TaskView) (result : Option X)
    → IsAware script seats since r → IsLeft script since r.thread u task
    → IfSome result (λ n. (note_of n).seat.seen ≡ r.seat.seen)
    → (IsTrue (is_some result) ↔ IsTrue (is_other u.next r.thread))
    → IsNoted script seats since task (option_map note_of result)
noted_left note_of script seats since r u task result aware left tells wanted =
    subst (λ n. IsNoted script seats n task (option_map note_of result)) (sym left.since_is)
    (noted_for script seats left.at left.step r left.named u task (option_map note_of result) left.is
    left.of_thread
    (subst (λ n. HasSeat seats (ledger_count script.steps r.thread n) r) left.since_is aware.seat) left.names
    left.used left.use_is
    (λ told is. note_some note_of result u.next r.thread r.seat.seen told tells wanted is)
    (λ none. note_none note_of result u.next r.thread wanted none))

-- a call names what it leaves
pub first_is_left : (script : ScriptView) (at : ℕ) (s : Step) (uses : Uses) (r called : RecorderView)
    (first second first_after second_after : Option TaskView) (u : Use) (t : TaskView)
    → IsNext script at s r first second
    → IsCalled r s.body first second called first_after second_after
    → IsUsed script.steps (length script.steps) at uses → uses.first ≡ Some u → first_after ≡ Some t
    → IsLeft script (at + 1) called.thread u t
first_is_left script at s uses r called first second first_after second_after u t next made used is left =
    let names =
    first_id s.thread s.body first t next.given.first_is
    (ap (λ thread. first_left thread s.body first) next.of_thread ∙ sym made.first_is ∙ left) in
    record {
      at = at;
      step = s;
      named = subject s.body;
      since_is = refl;
      is = next.there;
      of_thread = next.of_thread ∙ sym (ap (λ (x : RecorderView). x.thread) made.recorded_is);
      names = names;
      used = named_use script.steps at s t.id next.there
          (or_left (is_task t.id (subject s.body)) (is_task t.id (object s.body))
          (the_task t.id (subject s.body) names));
      use_is = subst (IsUseOf script.steps (length script.steps) at (subject s.body)) is
          (used.first s next.there);
    }

pub second_is_left : (script : ScriptView) (at : ℕ) (s : Step) (uses : Uses) (r called : RecorderView)
    (first second first_after second_after : Option TaskView) (u : Use) (t : TaskView)
    → IsNext script at s r first second
    → IsCalled r s.body first second called first_after second_after
    → IsUsed script.steps (length script.steps) at uses → uses.second ≡ Some u → second_after ≡ Some t
    → IsLeft script (at + 1) called.thread u t
second_is_left script at s uses r called first second first_after second_after u t next made used is left =
    let names = second_id s.body first second t next.given.second_is (sym made.second_is ∙ left) in
    record {
      at = at;
      step = s;
      named = object s.body;
      since_is = refl;
      is = next.there;
      of_thread = next.of_thread ∙ sym (ap (λ (x : RecorderView). x.thread) made.recorded_is);
      names = names;
      used = named_use script.steps at s t.id next.there
          (or_right (is_task t.id (subject s.body)) (is_task t.id (object s.body))
          (the_task t.id (object s.body) names));
      use_is = subst (IsUseOf script.steps (length script.steps) at (object s.body)) is
          (used.second s next.there);
    }

-- both notes of the step are met
pub step_met : {H : Type 0} (since_of : H → ℕ) (task_of : H → TaskView) (note_of : H → Option NoteView)
    (script : ScriptView) (seats : List (Option View)) (at : ℕ) (s : Step) (uses : Uses) (one two : Option H)
    (old new : RecorderView) → IsScript script.steps → slice_get script.steps at ≡ Some s
    → s.thread ≡ old.thread → IsAware script seats at old → IsSameRun old new
    → IsUsed script.steps (length script.steps) at uses
    → ((h : H) → IsNoted script seats (since_of h) (task_of h) (note_of h))
    → IsTaken (first_given s.body) (option_map (λ (u : Use). u.since) uses.first)
    (option_map (λ h. (since_of h, task_of h)) one)
    → IsTaken (second_given s.body) (option_map (λ (u : Use). u.since) uses.second)
    (option_map (λ h. (since_of h, task_of h)) two)
    → AreMet old (option_and_then note_of one) (option_and_then note_of two) new
    → HasMet script seats at s new
step_met since_of task_of note_of script seats at s uses one two old new rules there of_thread aware same used
    noted taken too met_are =
    let first =
    taken_met since_of task_of note_of script seats (length script.steps) at
    (ledger_count script.steps old.thread at) s (first_given s.body) (subject s.body) uses.first one old
    met_are.middle aware.seat met_are.same.thread there (given_first s.body) first_used (used.first s there)
    noted taken met_are.first_is in
    both_met script seats at s old met_are.middle new rules there of_thread aware first
    (taken_met since_of task_of note_of script seats (length script.steps) at
    (ledger_count script.steps old.thread at + notes_met script.steps at s.thread (first_given s.body)) s
    (second_given s.body) (object s.body) uses.second two met_are.middle new first.seat
    (same.thread ∙ sym met_are.same.thread) there (given_second s.body) second_used (used.second s there)
    noted
    too met_are.second_is) same.thread same.records
  where
    first_used : (task : ℕ) → subject s.body ≡ Some task → is_use script.steps task at ≡ true
    first_used task names =
        named_use script.steps at s task there
        (or_left (is_task task (subject s.body)) (is_task task (object s.body))
        (the_task task (subject s.body) names))

    second_used : (task : ℕ) → object s.body ≡ Some task → is_use script.steps task at ≡ true
    second_used task names =
        named_use script.steps at s task there
        (or_right (is_task task (subject s.body)) (is_task task (object s.body))
        (the_task task (object s.body) names))
