-- What a status that finishes a part of a task does to the task's credit.
use Rattle.std.proofs.Common.{◌≡◌, ◌∙◌, ◌∷◌, [], ℕ, Bool, true, false, List, Option, Some, None, refl, sym}
use Rattle.std.proofs.Common.{ap, subst}
use Rattle.std.specs.Prelude.{is_some, if◌then◌else◌}
use Rattle.std.specs.Option.{option_map_or}
use Rattle.std.proofs.lemmas.Bool.{false≢true}
use Rattle.std.proofs.lemmas.Option.{none-some, same_Some}
use Rattle.std.proofs.lemmas.List.{append-nil}
use Rattle.std.specs.Cmp.{first_so}
use Rattle.ompt_events.specs.declared.records.Part.{Part}
use Rattle.ompt_events.specs.declared.records.Part.TheVariants.{Whole, Body, Event}
use Rattle.ompt_events.specs.declared.names.Status.{Status}
use Rattle.ompt_events.specs.declared.names.Status.TheVariants as status
use Rattle.ompt_events.specs.declared.state.State.{State}
use Rattle.ompt_events.specs.declared.state.State.TheVariants.{Created, Running, Suspended, EarlyRunning}
use Rattle.ompt_events.specs.declared.state.State.TheVariants.{EarlyWaiting, Detached, Done}
use Rattle.ompt_events.specs.Names.{status_part}
use Rattle.ompt_events.specs.States as states
use Rattle.ompt_events.specs.States.{may, next_state_of}
use Rattle.credit_ledger.specs.declared.share.Half.{Half}
use Rattle.credit_ledger.specs.Shares.{finish_share, give_half, keep_half}
use Rattle.credit_ledger.specs.Credits as credits
use Rattle.credit_ledger.specs.Credits.{Credit, Holder, entered_credit, detached_halves}
use Rattle.callbacks.specs.Tasks.{TaskView, nature, state_moved, after_stop, in_state, is_detached, share_of}
use Rattle.callbacks.specs.Tasks.{credit_of, entry_of_part, entered_credit_of, MovesCredit}
use Rattle.callbacks.specs.Recorders.{RecorderView}
use Rattle.callbacks.specs.Schedules.{ScheduleView, may_schedule}

-- ---- which states a status finds

abbrev is_event : Part → Bool
is_event Event = true
is_event Whole = false
is_event Body = false

-- a task that is finished whole was not detached
found-whole : (st : State) (s : Status) (after : State) → status_part s ≡ Some Whole
    → next_state_of st s ≡ Some after → is_detached st ≡ false
found-whole Detached status.Complete after part is = absurd (none-some after is)
found-whole Detached status.Cancel after part is = absurd (none-some after is)
found-whole Detached status.TaskwaitComplete after part is = absurd (none-some after is)
found-whole Detached status.LateFulfill after part is =
    absurd (false≢true (sym (ap is_event (same_Some Event Whole part))))
found-whole Detached status.Yield after part is = absurd (none-some Whole part)
found-whole Detached status.Switch after part is = absurd (none-some Whole part)
found-whole Detached status.EarlyFulfill after part is = absurd (none-some Whole part)
found-whole Detached status.Detach after part is = absurd (none-some after is)
found-whole Created s after part is = refl
found-whole Running s after part is = refl
found-whole Suspended s after part is = refl
found-whole EarlyRunning s after part is = refl
found-whole EarlyWaiting s after part is = refl
found-whole Done s after part is = refl

-- a task whose event is finished was detached
found-event : (st : State) (after : State) → next_state_of st status.LateFulfill ≡ Some after
    → is_detached st ≡ true
found-event Detached after is = refl
found-event Created after is = absurd (none-some after is)
found-event Running after is = absurd (none-some after is)
found-event Suspended after is = absurd (none-some after is)
found-event EarlyRunning after is = absurd (none-some after is)
found-event EarlyWaiting after is = absurd (none-some after is)
found-event Done after is = absurd (none-some after is)

-- a task that is detached ran, and is detached then
found-body : (st : State) (after : State) → next_state_of st status.Detach ≡ Some after
    → (is_detached st ≡ false) × (after ≡ Detached)
found-body Running after is = (refl, sym (same_Some Detached after is))
found-body Detached after is = absurd (none-some after is)
found-body Created after is = absurd (none-some after is)
found-body Suspended after is = absurd (none-some after is)
found-body EarlyRunning after is = absurd (none-some after is)
found-body EarlyWaiting after is = absurd (none-some after is)
found-body Done after is = absurd (none-some after is)

-- ---- what becomes of the credit

abbrev left : TaskView → List Half
left t = finish_share t.claim.path t.claim.kept

share-alive : (t : TaskView) → is_detached t.state ≡ false → share_of t ≡ left t
share-alive t alive = ap (λ b. if b then give_half (left t) else left t) alive

abbrev entered : TaskView → List Half → Credit
entered t share = record { root = t.claim.root; task = t.id; holder = credits.Entered; share = share }

moves-whole : (thread : ℕ) (t : TaskView) → is_detached t.state ≡ false
    → MovesCredit Whole (credit_of t) (entered_credit_of (entry_of_part thread Whole t)) (credit_of t)
moves-whole thread t alive =
    ap (λ share. entered t share ∷ []) (share-alive t alive ∙ sym (append-nil (left t)))

moves-event : (thread : ℕ) (t : TaskView) → is_detached t.state ≡ true
    → MovesCredit Event (credit_of t) (entered_credit_of (entry_of_part thread Event t)) (credit_of t)
moves-event thread t detached = ap (λ b. entered t (if b then give_half (left t) else left t) ∷ []) detached

moves-body : (thread : ℕ) (t : TaskView) → is_detached t.state ≡ false
    → MovesCredit Body (credit_of t) (entered_credit_of (entry_of_part thread Body t))
    (credit_of (in_state t Detached))
moves-body thread t alive =
    ap (λ share. entered t (keep_half share) ∷ record
    { root = t.claim.root; task = t.id; holder = credits.Awaited; share = give_half share } ∷ [])
    (share-alive t alive)

-- the state that a status leads to
reached : (t : TaskView) (s : Status) → is_some (state_moved t (states.Stopped s)) ≡ true
    → (after : State) × (next_state_of t.state s ≡ Some after)
    × (state_moved t (states.Stopped s) ≡ Some after)
reached t s moved = by (may (nature t) (states.Stopped s)) (next_state_of t.state s) moved
  where
    by : (b : Bool) (next : Option State) → is_some (if b then next else None) ≡ true
        → (after : State) × (next ≡ Some after) × ((if b then next else None) ≡ Some after)
    by true (Some after) is = (after, refl, refl)
    by true None is = absurd (false≢true is)
    by false next is = absurd (false≢true is)

parts : (thread : ℕ) (t : TaskView) (s : Status) (part : Part) (after : State) → status_part s ≡ Some part
    → next_state_of t.state s ≡ Some after
    → MovesCredit part (credit_of t) (entered_credit_of (entry_of_part thread part t))
    (credit_of (in_state t after))
parts thread t s Whole after is_part is = moves-whole thread t (found-whole t.state s after is_part is)
parts thread t status.Detach Body after is_part is =
    let found = found-body t.state after is in
    subst (λ st. MovesCredit Body (credit_of t) (entered_credit_of (entry_of_part thread Body t))
    (credit_of (in_state t st))) (sym found.1) (moves-body thread t found.0)
parts thread t status.LateFulfill Event after is_part is =
    moves-event thread t (found-event t.state after is)
parts thread t s Body after is_part is = absurd (let said : status_part s ≡ Some Body = is_part in cc)
parts thread t s Event after is_part is = absurd (let said : status_part s ≡ Some Event = is_part in cc)

-- a schedule that the tasks allow
pub moves_credit : (r : RecorderView) (s : ScheduleView) (part : Part) → may_schedule r s ≡ true
    → status_part s.status ≡ Some part
    → MovesCredit part (credit_of s.prior) (entered_credit_of (entry_of_part r.thread part s.prior))
    (credit_of (after_stop s.prior s.status))
moves_credit r s part allowed is_part =
    let found = reached s.prior s.status (first_so _ _ (first_so _ _ (first_so _ _ allowed))) in
    subst (λ t. MovesCredit part (credit_of s.prior)
    (entered_credit_of (entry_of_part r.thread part s.prior)) (credit_of t))
    (sym (ap (λ st. option_map_or (in_state s.prior) st s.prior) found.2))
    (parts r.thread s.prior s.status part found.0 is_part found.1)
