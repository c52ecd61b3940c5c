-- What the threads of a run tell those whose steps come after theirs.
use Rattle.std.proofs.Common.{ℕ, ◌≡◌, ◌∙◌, ◌+◌, ◌<◌, ◌≤◌, [], List, Some, None, Option, length, refl, sym, ap}
use Rattle.std.proofs.Common.{subst, arith, inl, inr, zero, suc, take}
use Rattle.std.specs.Prelude.{slice_get}
use Rattle.std.specs.Global.{Vec}
use Rattle.std.proofs.lemmas.Bool.{cases_lt}
use Rattle.std.proofs.lemmas.List.{append-nil}
use Rattle.std.proofs.lemmas.Option.{same_Some}
use Rattle.credit_ledger.specs.declared.view.Step as seat_step
use Rattle.credit_ledger.specs.declared.view.View.{View}
use Rattle.credit_ledger.specs.Seats.{seat_calls, told_of}
use Rattle.scripts.specs.declared.script.Step.{Step}
use Rattle.scripts.specs.Scripts.{ScriptView, step_count}
use Rattle.task_states.specs.Rows.{row_at}
use Rattle.callbacks.specs.Recorders.{RecorderView, NoteView}
use Rattle.scripts.specs.HandOvers.{ComesAfter}
use Rattle.scripts.specs.Parts.{IsAware, HasMet, HasHeard, IsSameRun, IsHeard, IsDone, TellsOf}
use Rattle.scripts.specs.Parts.{awaited_at, ledger_count, number_of, ArePlaces}
use Rattle.scripts.specs.declared.board.Awaited.{Awaited}
use Rattle.scripts.proofs.AwareLemmas.{named_later}
use Rattle.scripts.proofs.PlaceLemmas.{place_of_step}

-- ---- what a thread tells

-- the calls of a thread become no fewer
calls_rise : (steps : List Step) (thread n m : ℕ) → n ≤ m
    → ledger_count steps thread n ≤ ledger_count steps thread m
calls_rise steps thread n zero low =
    let same : n ≡ zero = omega (arith, low) in omega (arith, ap (ledger_count steps thread) same)
calls_rise steps thread n (suc m) low = elim (cases_lt n (suc m)) [
  | inl less ↦
      let before = calls_rise steps thread n m (omega (arith, less)) in
      omega (arith, before, next)
  | inr past ↦
      let same : n ≡ suc m = omega (arith, low, past) in omega (arith, ap (ledger_count steps thread) same)
]
  where
    more : (a b : ℕ) → a ≤ a + b
    more a b = omega arith

    next : ledger_count steps thread m ≤ ledger_count steps thread (suc m)
    next = more (ledger_count steps thread m) _

-- all that the recorder has seen has all calls of its thread
pub tells_all : (script : ScriptView) (seats : List (Option View)) (since thread : ℕ) (r : RecorderView)
    (seen : List seat_step.Step) → IsAware script seats since r → thread ≡ r.thread → seen ≡ r.seat.seen
    → TellsOf script seats thread since seen
tells_all script seats since thread r seen aware of is =
    subst (λ n. TellsOf script seats n since seen) (sym of) (omega (arith, calls))
  where
    calls : length (seat_calls (number_of seats r.thread) seen) ≡ ledger_count script.steps r.thread since
    calls =
        ap (λ k. length (seat_calls k seen)) (sym aware.seat.number)
        ∙ ap (λ h. length (seat_calls r.seat.number h)) is ∙ ap length aware.seat.alone ∙ aware.seat.calls

-- what a thread told of a step tells of its earlier ones
pub told_done : (script : ScriptView) (seats : List (Option View)) (thread other at since : ℕ)
    (mine copy : List seat_step.Step) → other ≡ thread → at < since → copy ≡ mine
    → TellsOf script seats other since mine → TellsOf script seats thread (at + 1) copy
told_done script seats thread other at since mine copy of less is tells =
    let here : TellsOf script seats thread since mine =
    subst (λ n. TellsOf script seats n since mine) of tells in
    let rise = calls_rise script.steps thread (at + 1) since (omega (arith, less)) in
    let same = ap (λ h. length (seat_calls (number_of seats thread) h)) is in
    omega (arith, here, rise, same)

-- ---- what a recorder hears

pub same_heard : (old new : RecorderView) (note : Option NoteView) → IsHeard old note new → IsSameRun old new
same_heard old new None is =
    subst (IsSameRun old) (sym is)
    (record { ledger = refl; thread = refl; nests = refl; records = refl; capacity = refl; fixed = refl })
same_heard old new (Some note) is =
    subst (IsSameRun old) (sym is)
    (record { ledger = refl; thread = refl; nests = refl; records = refl; capacity = refl; fixed = refl })

pub further : (first second third : RecorderView) → IsSameRun first second → IsSameRun second third
    → IsSameRun first third
further first second third one two = record {
  ledger = two.ledger ∙ one.ledger;
  thread = two.thread ∙ one.thread;
  nests = two.nests ∙ one.nests;
  records = two.records ∙ one.records;
  capacity = two.capacity ∙ one.capacity;
  fixed = two.fixed ∙ one.fixed;
}

-- it knows and has seen what it had
pub met_heard : (script : ScriptView) (seats : List (Option View)) (at : ℕ) (s : Step)
    (old new : RecorderView) (note : Option NoteView) → IsHeard old note new → HasMet script seats at s old
    → HasMet script seats at s new
met_heard script seats at s old new None is met = subst (HasMet script seats at s) (sym is) met
met_heard script seats at s old new (Some note) is met = subst (HasMet script seats at s) (sym is) (record {
  seat = record {
    number = met.seat.number;
    calls = met.seat.calls;
    alone = met.seat.alone;
    ends = met.seat.ends;
    low = met.seat.low;
  };
  named =
      named_later script seats at old (record old { seat = told_of old.seat note.seat }) met.named refl refl
      refl
      ([], sym (append-nil old.seat.seen));
  heard = met.heard;
})

-- the table of places has the step that another one names by its `after`
pub named_place : (steps : List Step) (threads : List (Vec ℕ)) (first at thread number : ℕ)
    → (c : ComesAfter steps first at) → ArePlaces steps (length steps) threads
    → c.step.after ≡ Some (thread, number)
    → (thread ≡ c.before.thread) × (slice_get (row_at threads thread) number ≡ Some first)
named_place steps threads first at thread number c are is =
    let count = step_count (take first steps) c.before.thread in
    let both : (c.before.thread, count) ≡ (thread, number) =
    same_Some (c.before.thread, count) (thread, number) (sym c.named ∙ is) in (
      ap (λ (p : ℕ × ℕ). p.0) (sym both),
      ap (λ (p : ℕ × ℕ). slice_get (row_at threads p.0) p.1) (sym both)
          ∙ place_of_step steps threads c.before.thread first c.before are c.is_before refl,
    )

-- it was told of the step that this one comes after
pub step_heard : (script : ScriptView) (seats : List (Option View)) (at : ℕ) (s : Step)
    (after : Option Awaited) (note : Option NoteView) (old new : RecorderView)
    → slice_get script.steps at ≡ Some s
    → ((first k : ℕ) → (c : ComesAfter script.steps first k) → c.step ≡ s
    → after ≡ Some (awaited_at c.before.thread first))
    → IsDone script seats after note → IsHeard old note new → HasHeard script seats at new
step_heard script seats at s after note old new there names done heard first comes =
    told note
    (subst (λ a. IsDone script seats a note)
    (names first at comes (same_Some comes.step s (sym comes.is_step ∙ there))) done) heard
  where
    told : (note : Option NoteView) → IsDone script seats (Some (awaited_at comes.before.thread first)) note
        → IsHeard old note new → TellsOf script seats comes.before.thread (first + 1) new.seat.told
    told None done heard = absurd done
    told (Some note) done heard =
        subst (λ (r : RecorderView). TellsOf script seats comes.before.thread (first + 1) r.seat.told)
        (sym heard) done
