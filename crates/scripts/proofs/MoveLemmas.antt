-- What the moves of a task do to its credit, by its states.
use Rattle.std.proofs.Common.{ℕ, ◌≡◌, ◌∙◌, ◌∷◌, [], List, Bool, true, false, refl, sym}
use Rattle.std.proofs.Common.{ap, subst, Option, Some, None}
use Rattle.std.specs.Prelude.{◌&&◌}
use Rattle.std.specs.Prelude.{if◌then◌else◌}
use Rattle.std.specs.Option.{option_map_or}
use Rattle.std.proofs.lemmas.Bool.{eq-eqb}
use Rattle.std.proofs.lemmas.Bool.{false≢true}
use Rattle.std.proofs.lemmas.Option.{none-some, same_Some}
use Rattle.std.proofs.lemmas.List.{append-nil}
use Rattle.ompt_events.specs.declared.records.Part.TheVariants as part
use Rattle.ompt_events.specs.declared.names.Status.{Status}
use Rattle.ompt_events.specs.declared.names.Status.TheVariants as status
use Rattle.ompt_events.specs.declared.state.State.{State}
use Rattle.ompt_events.specs.declared.state.State.TheVariants.{Created, Running, Suspended, EarlyRunning}
use Rattle.ompt_events.specs.declared.state.State.TheVariants.{EarlyWaiting, Detached, Done}
use Rattle.ompt_events.specs.States as states
use Rattle.ompt_events.specs.States.{is_task, may, next_state_of, start_state_of, discard_state_of}
use Rattle.credit_ledger.specs.declared.share.Half.{Half}
use Rattle.credit_ledger.specs.Shares.{finish_share, keep_half, give_half}
use Rattle.credit_ledger.specs.Credits as credits
use Rattle.credit_ledger.specs.Credits.{Credit, Event, next_credits, credits_after, has_task_share}
use Rattle.credit_ledger.specs.Credits.{has_event_share}
use Rattle.credit_ledger.specs.Credits.{shared_halves, exchange, whole_credit, entered_credit}
use Rattle.credit_ledger.specs.Credits.{detached_halves}
use Rattle.callbacks.specs.Tasks.{TaskView, credit_of, entered_credit_of, after_start, started_in}
use Rattle.callbacks.specs.Tasks.{turn_begun_next, holder_in}
use Rattle.callbacks.specs.Tasks.{is_detached, is_running, nature, in_state}
use Rattle.callbacks.specs.Tasks.{after_stop}
use Rattle.scripts.proofs.HeldLemmas.{share_alive}
use Rattle.scripts.proofs.ValueLemmas.{entry_for}

-- ---- states and credits

-- a state in which a task has its share as in another one
pub record IsAlike (state after : State) : Type 0 where
  pub holder : holder_in after ≡ holder_in state
  pub detached : is_detached after ≡ is_detached state

alike_from : (state new after : State) → holder_in new ≡ holder_in state
    → is_detached new ≡ is_detached state → Some new ≡ Some after → IsAlike state after
alike_from state new after holder detached is =
    subst (IsAlike state) (same_Some new after is) (record { holder = holder; detached = detached })

starts_alike : (state after : State) → start_state_of state ≡ Some after → IsAlike state after
starts_alike Created after is = alike_from Created Running after refl refl is
starts_alike Suspended after is = alike_from Suspended Running after refl refl is
starts_alike EarlyWaiting after is = alike_from EarlyWaiting EarlyRunning after refl refl is
starts_alike Running after is = absurd (none-some after is)
starts_alike EarlyRunning after is = absurd (none-some after is)
starts_alike Detached after is = absurd (none-some after is)
starts_alike Done after is = absurd (none-some after is)

pub yields_alike : (state after : State) → next_state_of state status.Yield ≡ Some after → IsAlike state after
yields_alike Running after is = alike_from Running Suspended after refl refl is
yields_alike EarlyRunning after is = alike_from EarlyRunning EarlyWaiting after refl refl is
yields_alike Created after is = absurd (none-some after is)
yields_alike Suspended after is = absurd (none-some after is)
yields_alike EarlyWaiting after is = absurd (none-some after is)
yields_alike Detached after is = absurd (none-some after is)
yields_alike Done after is = absurd (none-some after is)

pub switches_alike : (state after : State) → next_state_of state status.Switch ≡ Some after
    → IsAlike state after
switches_alike Running after is = alike_from Running Suspended after refl refl is
switches_alike EarlyRunning after is = alike_from EarlyRunning EarlyWaiting after refl refl is
switches_alike Created after is = absurd (none-some after is)
switches_alike Suspended after is = absurd (none-some after is)
switches_alike EarlyWaiting after is = absurd (none-some after is)
switches_alike Detached after is = absurd (none-some after is)
switches_alike Done after is = absurd (none-some after is)

pub fulfils_alike : (state after : State) → next_state_of state status.EarlyFulfill ≡ Some after
    → IsAlike state after
fulfils_alike Created after is = alike_from Created EarlyWaiting after refl refl is
fulfils_alike Running after is = alike_from Running EarlyRunning after refl refl is
fulfils_alike Suspended after is = alike_from Suspended EarlyWaiting after refl refl is
fulfils_alike EarlyRunning after is = absurd (none-some after is)
fulfils_alike EarlyWaiting after is = absurd (none-some after is)
fulfils_alike Detached after is = absurd (none-some after is)
fulfils_alike Done after is = absurd (none-some after is)

-- the credit of a task by who has it and whether it is detached
abbrev credit_by : TaskView → credits.Holder → Bool → Credit
credit_by t holder detached = record {
  root = t.claim.root;
  task = t.id;
  holder = holder;
  share =
      if detached then give_half (finish_share t.claim.path t.claim.kept)
      else finish_share t.claim.path t.claim.kept;
}

alike_credit : (t : TaskView) (after : State) → IsAlike t.state after
    → credit_by t (holder_in after) (is_detached after) ≡ credit_of t
alike_credit t after alike =
    ap (λ h. credit_by t h (is_detached after)) alike.holder
    ∙ ap (credit_by t (holder_in t.state)) alike.detached

pub start_credit : (t : TaskView) → credit_of (after_start t) ≡ credit_of t
start_credit t =
    by (may (nature t) states.Started) (start_state_of t.state) (turn_begun_next t)
    (λ after is. alike_credit t after (starts_alike t.state after is))
  where
    by : (b : Bool) (next : Option State) (turn : Option ℕ)
        → ((after : State) → next ≡ Some after
        → credit_by t (holder_in after) (is_detached after) ≡ credit_of t)
        → credit_of (started_in t (if b then next else None) turn) ≡ credit_of t
    by true (Some after) (Some n) each = each after refl
    by true (Some after) None each = refl
    by true None turn each = refl
    by false next turn each = refl

pub stop_credit : (t : TaskView) (s : Status)
    → ((after : State) → next_state_of t.state s ≡ Some after → IsAlike t.state after)
    → credit_of (after_stop t s) ≡ credit_of t
stop_credit t s alike =
    by (may (nature t) (states.Stopped s)) (next_state_of t.state s)
    (λ after is. alike_credit t after (alike after is))
  where
    by : (b : Bool) (next : Option State)
        → ((after : State) → next ≡ Some after
        → credit_by t (holder_in after) (is_detached after) ≡ credit_of t)
        → credit_of (option_map_or (in_state t) (if b then next else None) t) ≡ credit_of t
    by true (Some after) each = each after refl
    by true None each = refl
    by false next each = refl

-- ---- who has the share of a task that moves

pub running_holder : (state : State) → is_running state ≡ true → holder_in state ≡ credits.Running
running_holder Running is = refl
running_holder EarlyRunning is = refl
running_holder Created is = refl
running_holder Suspended is = refl
running_holder EarlyWaiting is = refl
running_holder Detached is = absurd (false≢true is)
running_holder Done is = absurd (false≢true is)

pub moved_holder : (state after : State) (s : Status) → next_state_of state s ≡ Some after
    → is_detached state ≡ false → holder_in state ≡ credits.Running
moved_holder Done after s is alive = absurd (let none : next_state_of Done s ≡ Some after = is in cc)
moved_holder Detached after s is alive = absurd (false≢true (sym alive))
moved_holder Running after s is alive = refl
moved_holder EarlyRunning after s is alive = refl
moved_holder Created after s is alive = refl
moved_holder Suspended after s is alive = refl
moved_holder EarlyWaiting after s is alive = refl

pub discarded_holder : (state after : State) → discard_state_of state ≡ Some after
    → holder_in state ≡ credits.Running
discarded_holder Created after is = refl
discarded_holder Running after is = absurd (none-some after is)
discarded_holder EarlyRunning after is = absurd (none-some after is)
discarded_holder Suspended after is = absurd (none-some after is)
discarded_holder EarlyWaiting after is = absurd (none-some after is)
discarded_holder Detached after is = absurd (none-some after is)
discarded_holder Done after is = absurd (none-some after is)

pub event_holder : (state : State) → is_detached state ≡ true → holder_in state ≡ credits.Awaited
event_holder Detached is = refl
event_holder Created is = absurd (false≢true is)
event_holder Running is = absurd (false≢true is)
event_holder Suspended is = absurd (false≢true is)
event_holder EarlyRunning is = absurd (false≢true is)
event_holder EarlyWaiting is = absurd (false≢true is)
event_holder Done is = absurd (false≢true is)

pub task_passes : (t : TaskView) → holder_in t.state ≡ credits.Running
    → has_task_share t.id (credit_of t) ≡ true
task_passes t holder =
    ap (λ b. b && credits.is_running (holder_in t.state)) (eq-eqb t.id t.id refl)
    ∙ ap credits.is_running holder

pub event_passes : (t : TaskView) → holder_in t.state ≡ credits.Awaited
    → has_event_share t.id (credit_of t) ≡ true
event_passes t holder =
    ap (λ b. b && credits.is_awaited (holder_in t.state)) (eq-eqb t.id t.id refl)
    ∙ ap credits.is_awaited holder

-- ---- the credits that are entered

abbrev entered_by : TaskView → List Half → Credit
entered_by t share = record {
  root = t.claim.root;
  task = t.id;
  holder = credits.Entered;
  share = share;
}

pub whole_gives : (thread : ℕ) (t : TaskView) → is_detached t.state ≡ false
    → entered_credit (credit_of t) ≡ entered_credit_of (entry_for thread t part.Whole) ∷ []
whole_gives thread t alive =
    ap (λ x. entered_by t x ∷ [])
    (share_alive t alive ∙ sym (append-nil (finish_share t.claim.path t.claim.kept)))

pub event_gives : (thread : ℕ) (t : TaskView) → is_detached t.state ≡ true
    → entered_credit (credit_of t) ≡ entered_credit_of (entry_for thread t part.Event) ∷ []
event_gives thread t detached =
    let left : List Half = finish_share t.claim.path t.claim.kept in
    ap (λ b. entered_by t (if b then give_half left else left) ∷ []) detached

pub body_gives : (thread : ℕ) (t : TaskView) → is_detached t.state ≡ false
    → detached_halves (credit_of t)
    ≡ entered_credit_of (entry_for thread t part.Body) ∷ credit_of (in_state t Detached) ∷ []
body_gives thread t alive =
    ap (λ x. entered_by t (keep_half x)
    ∷ record { root = t.claim.root; task = t.id; holder = credits.Awaited; share = give_half x } ∷ [])
    (share_alive t alive)
