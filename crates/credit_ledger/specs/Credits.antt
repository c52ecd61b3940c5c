-- The machine of credits. Each root gets a whole credit; a task that creates another task gives it half of
-- its share; what a task has left is entered when the task finishes (F. Mattern, Information Processing
-- Letters 30, 1989).
use Rattle.std.specs.Prelude.{ℕ, Bool, true, false, ◌==◌, ◌&&◌, not, if◌then◌else◌, List, [], ◌∷◌, ◌++◌, map}
use Rattle.std.specs.Prelude.{filter, fold}
use Rattle.std.specs.List.{list_any}
use Rattle.credit_ledger.specs.declared.share.Half.{Half}
use Rattle.credit_ledger.specs.Shares.{keep_half, give_half}

-- who has a share: the unfinished task itself; the event of a detached task, for which the task waits; or
-- nobody any more, since the share was entered
pub data Holder : Type 0 where
  Running : Holder
  Awaited : Holder
  Entered : Holder

-- a share of the root's credit that the task received
pub record Credit : Type 0 where
  pub root : ℕ
  pub task : ℕ
  pub holder : Holder
  pub share : List Half

-- the events: a root is made; a task creates another one; a task is finished; a task is detached, and then
-- waits for its event alone; the event of a detached task is fulfilled
pub data Event : Type 0 where
  Root : (task : ℕ) → Event
  Create : (creator child : ℕ) → Event
  Finish : (task : ℕ) → Event
  Detach : (task : ℕ) → Event
  Fulfil : (task : ℕ) → Event

abbrev pub is_running : Holder → Bool
is_running Running = true
is_running Awaited = false
is_running Entered = false

abbrev pub is_awaited : Holder → Bool
is_awaited Running = false
is_awaited Awaited = true
is_awaited Entered = false

abbrev pub is_entered : Holder → Bool
is_entered Running = false
is_entered Awaited = false
is_entered Entered = true

-- the task was made
abbrev pub was_made : ℕ → List Credit → Bool
was_made task credits = list_any (λ c. c.task == task) credits

-- the root was made
abbrev pub is_root : ℕ → List Credit → Bool
is_root root credits = list_any (λ c. c.root == root) credits

-- the task itself has this share
abbrev pub has_task_share : ℕ → Credit → Bool
has_task_share task c = (c.task == task) && is_running c.holder

-- the event of the task has this share
abbrev pub has_event_share : ℕ → Credit → Bool
has_event_share task c = (c.task == task) && is_awaited c.holder

-- the whole, for a new root
abbrev pub whole_credit : ℕ → Credit
whole_credit task = record { root = task; task = task; holder = Running; share = [] }

-- a creation: the creator keeps one half, and the child starts with the other
abbrev pub shared_halves : ℕ → Credit → List Credit
shared_halves child c =
    record { root = c.root; task = c.task; holder = Running; share = keep_half c.share }
    ∷ record { root = c.root; task = child; holder = Running; share = give_half c.share } ∷ []

-- a finish: the share is entered
abbrev pub entered_credit : Credit → List Credit
entered_credit c = record { root = c.root; task = c.task; holder = Entered; share = c.share } ∷ []

-- a detach: one half is entered, and the event gets the other
abbrev pub detached_halves : Credit → List Credit
detached_halves c =
    record { root = c.root; task = c.task; holder = Entered; share = keep_half c.share }
    ∷ record { root = c.root; task = c.task; holder = Awaited; share = give_half c.share } ∷ []

-- the credits with the first one that passes the test replaced by others; unchanged if none passes
abbrev pub exchange : (Credit → Bool) → (Credit → List Credit) → List Credit → List Credit
exchange passes others [] = []
exchange passes others (c ∷ credits) =
    if passes c then others c ++ credits else c ∷ exchange passes others credits

-- the credits after an event; an event that does not fit changes nothing: the task to be made was made
-- before, or the task that should have a share has none
abbrev pub next_credits : List Credit → Event → List Credit
next_credits credits (Root task) = if was_made task credits then credits else whole_credit task ∷ credits
next_credits credits (Create creator child) =
    if was_made child credits then credits
    else exchange (has_task_share creator) (shared_halves child) credits
next_credits credits (Finish task) = exchange (has_task_share task) entered_credit credits
next_credits credits (Detach task) = exchange (has_task_share task) detached_halves credits
next_credits credits (Fulfil task) = exchange (has_event_share task) entered_credit credits

-- the credits after these events, one after another, from no credits
abbrev pub credits_after : List Event → List Credit
credits_after events = fold next_credits [] events

-- the shares of the root's credit that a task or an event has
abbrev pub live_shares : ℕ → List Credit → List (List Half)
live_shares root credits =
    map (λ c. c.share) (filter (λ c. (c.root == root) && not (is_entered c.holder)) credits)

-- the shares of the root's credit that were entered
abbrev pub entered_shares : ℕ → List Credit → List (List Half)
entered_shares root credits =
    map (λ c. c.share) (filter (λ c. (c.root == root) && is_entered c.holder) credits)
