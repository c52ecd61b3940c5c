-- The seats of a ledger that threads share behind a lock of tickets: what each seat knows of the one
-- history, and the rule that each step keeps.
use Rattle.std.specs.Prelude.{◌≡◌, ◌≢◌, ◌≤◌, ◌<◌, ◌⊎◌, ◌==◌, ◌+◌, ℕ, max, Bool, true, false, List, [], ◌∷◌}
use Rattle.std.specs.Prelude.{◌++◌, length, map, Option, Some, All, IsTrue}
use Rattle.std.specs.List.{filter, flat_map, list_any}
use mathlib.Core.Option.{some, none}
use lib.ListN.{get_elem?}
use Rattle.atomic_table.specs.Table.{State, Me}
use Rattle.credit_ledger.specs.declared.share.Half.{Half}
use Rattle.credit_ledger.specs.Shares.{overlaps, keep_half, give_half}
use Rattle.credit_ledger.specs.declared.entry.Entry.{Entry}
use Rattle.credit_ledger.specs.declared.view.Call.{Call}
use Rattle.credit_ledger.specs.declared.view.Call.TheVariants.{Enter, Look}
use Rattle.credit_ledger.specs.declared.view.Step.{Step}
use Rattle.credit_ledger.specs.declared.view.Stage.{Stage}
use Rattle.credit_ledger.specs.declared.view.Stage.TheVariants.{Fresh, Idle, Waiting, Turn, Spent}
use Rattle.credit_ledger.specs.declared.view.Claim.{Claim}
use Rattle.credit_ledger.specs.declared.view.View.{View}
use Rattle.credit_ledger.specs.Histories.{IsLegal, entries_after}

-- what the slot holds: the ledger, or nothing
abbrev pub Slot : Type 0
Slot = Option (List Entry)

-- the calls of the seat with this number
abbrev pub seat_calls : ℕ → List Step → List Step
seat_calls number history = filter (λ (s : Step). s.seat == number) history

-- the history begins with this one
abbrev pub StartsWith : List Step → List Step → Type 0
StartsWith history first = (more : List Step) × (history ≡ first ++ more)

-- the first seat, which has the whole right to enter
abbrev pub newcomer : View
newcomer = record {
  number = 0;
  given = 1;
  seen = [];
  told = [];
  own = [];
  stage = Idle;
  ticket = 0;
  shares = [] ∷ [];
  claims = [];
}

-- the seat that keeps one half of each share
abbrev pub halved : View → View
halved v = record v { shares = map keep_half v.shares }

-- a new seat, which knows the same history, and has the other seat's number until it learns its own; it gets
-- the other half of each share
abbrev pub copied : View → View
copied v = record {
  number = v.number;
  given = v.given;
  seen = v.seen;
  told = v.seen;
  own = [];
  stage = Fresh;
  ticket = 0;
  shares = map give_half v.shares;
  claims = [];
}

-- the same without shares
abbrev pub noted : View → View
noted v = record (copied v) { shares = [] }

-- the seat after it learned what the other one has seen, and which numbers that one knows to be given
abbrev pub told_of : View → View → View
told_of v w = record v { told = w.seen; given = max v.given w.given }

-- the seat that knows that the numbers below `given` are given
abbrev pub with_given : View → ℕ → View
with_given v given = record v { given = given }

-- a seat that was joined into another one
abbrev pub spent : View
spent = record {
  number = 0;
  given = 0;
  seen = [];
  told = [];
  own = [];
  stage = Spent;
  ticket = 0;
  shares = [];
  claims = [];
}

abbrev pub with_number : View → ℕ → View
with_number v n = record v { number = n; given = n + 1; stage = Idle }

abbrev pub with_ticket : View → ℕ → View
with_ticket v t = record v { stage = Waiting; ticket = t }

-- the seat with the turn, which has seen all of the history
abbrev pub turn_taken : View → List Step → View
turn_taken v history = record v { seen = history; stage = Turn }

abbrev pub claim_of : View → Claim
claim_of v = record { number = v.number; seen = v.seen; own = v.own }

-- what the seat, and those that it took in, had seen and called
abbrev pub claims_of : View → List Claim
claims_of v = claim_of v ∷ v.claims

-- the seat after it took in the shares and the calls of another one
abbrev pub gathered_of : View → View → View
gathered_of v w = record v { shares = w.shares ++ v.shares; claims = claims_of w ++ v.claims }

-- the same, where it also learned what the other one has seen
abbrev pub joined_of : View → View → View
joined_of v w = gathered_of (told_of v w) w

-- the history begins with what each of these had seen, and has of its seat exactly the calls that it made
abbrev pub AreClaims : List Step → List Claim → Type 0
AreClaims history [] = Unit {0}
AreClaims history (c ∷ claims) =
    (StartsWith history c.seen × (seat_calls c.number history ≡ c.own)) × AreClaims history claims

-- none of these is of the seat with this number
abbrev pub AreOfOthers : ℕ → List Claim → Type 0
AreOfOthers n [] = Unit {0}
AreOfOthers n (c ∷ claims) = (c.number ≢ n) × AreOfOthers n claims

-- no two of these are of one seat
abbrev pub AreSeatsApart : List Claim → Type 0
AreSeatsApart [] = Unit {0}
AreSeatsApart (c ∷ claims) = AreOfOthers c.number claims × AreSeatsApart claims

-- one of these is of the seat with this number
abbrev pub IsClaimed : ℕ → List Claim → Type 0
IsClaimed n [] = ⊥
IsClaimed n (c ∷ claims) = (c.number ≡ n) ⊎ IsClaimed n claims

-- ---- the right to enter

-- the shares are all of the right to enter: whatever share there may be, it overlaps one of them
abbrev pub AreAll : List (List Half) → Type 0
AreAll shares = (share : List Half) → IsTrue (list_any (overlaps share) shares)

abbrev pub is_enter : Call → Bool
is_enter (Enter entry) = true
is_enter Look = false

-- one of these calls is an Enter
abbrev pub has_enter : List Step → Bool
has_enter calls = list_any (λ (s : Step). is_enter s.call) calls

-- each Enter in the history is a call of one of the seats that these are of
abbrev pub AreEntersOf : List Claim → List Step → Type 0
AreEntersOf claims history = All (λ (s : Step). IsTrue (is_enter s.call) → IsClaimed s.seat claims) history

-- The history begins with what each of these seats, and each that they took in, had seen, and has of it
-- exactly the calls that it made; no two of them have one number. If these seats have all shares, the history
-- has Enters of no other seat.
pub record HasCallsOf (history : List Step) (views : List View) : Type 0 where
  pub claims : AreClaims history (flat_map claims_of views)
  pub apart : AreSeatsApart (flat_map claims_of views)
  pub enters : AreAll (flat_map (λ (v : View). v.shares) views)
      → AreEntersOf (flat_map claims_of views) history

-- it is one of these shares
abbrev pub IsShareOf : List Half → List (List Half) → Type 0
IsShareOf share [] = ⊥
IsShareOf share (s ∷ shares) = (s ≡ share) ⊎ IsShareOf share shares

-- a seat that has a share has this number, or has taken in the seat with this number
abbrev pub IsAnsweredFor : List View → ℕ → Type 0
IsAnsweredFor views n =
    (m : ℕ) × (v : View) × (get_elem? views m ≡ some v) × (0 < length v.shares)
    × ((m ≡ n) ⊎ IsClaimed n v.claims)

-- who has a share, and what the seats have taken in: two shares that overlap are one share of one seat; for
-- each seat that made an Enter there is one that has a share; what a seat has taken in is in the history, and
-- no other one has taken it in too
pub record AreSharesKept (history : List Step) (views : List View) : Type 0 where
  pub apart : (m n : ℕ) (v w : View) (s t : List Half) → get_elem? views m ≡ some v
      → get_elem? views n ≡ some w → IsShareOf s v.shares → IsShareOf t w.shares → overlaps s t ≡ true
      → (m ≡ n) × (s ≡ t)
  pub entered : (n : ℕ) → has_enter (seat_calls n history) ≡ true → IsAnsweredFor views n
  pub claims : (n : ℕ) (v : View) → get_elem? views n ≡ some v
      → AreClaims history v.claims × AreSeatsApart v.claims
  pub takers : (m n k : ℕ) (v w : View) → get_elem? views m ≡ some v → get_elem? views n ≡ some w
      → IsClaimed k v.claims → IsClaimed k w.claims → m ≡ n

-- ---- what the rule says of each seat

-- the seat with this number was joined into another one
abbrev pub IsSpentAt : List View → ℕ → Type 0
IsSpentAt views n = (v : View) × (get_elem? views n ≡ some v) × (v.stage ≡ Spent)

-- each of these is of a seat that was joined into another one
abbrev pub AreSpent : List View → List Claim → Type 0
AreSpent views [] = Unit {0}
AreSpent views (c ∷ claims) = IsSpentAt views c.number × AreSpent views claims

-- the call that the seat makes in its turn, with the reply
abbrev pub seat_step : View → Call → Step
seat_step v call = record { seat = v.number; call = call; reply = length (entries_after v.seen) }

-- the seat after its call
abbrev pub with_call : View → Call → View
with_call v call =
    record v { seen = v.seen ++ seat_step v call ∷ []; own = v.own ++ seat_step v call ∷ []; stage = Idle }

abbrev pub has_ticket : Stage → Bool
has_ticket Fresh = false
has_ticket Idle = false
has_ticket Waiting = true
has_ticket Turn = true
has_ticket Spent = false

-- the history begins with all that the seat knows of, and the seat's calls in it are exactly those that it
-- knows
pub record Knows (history : List Step) (n : ℕ) (v : View) : Type 0 where
  pub number : v.number ≡ n
  pub seen : StartsWith history v.seen
  pub told : StartsWith history v.told
  pub own : seat_calls n history ≡ v.own

-- the number is greater than that of the seat, and than that of each seat whose calls the seat has seen;
-- and each that the seat knows to be given is below it
pub record IsLater (v : View) (n : ℕ) : Type 0 where
  pub than_given : v.given ≤ n
  pub than_seat : v.number < n
  pub than_callers : (m : ℕ) → n ≤ m → seat_calls m v.seen ≡ []

-- what the rule says of the seat with this number, by its stage
abbrev pub FitsAt : Stage → List Step → ℕ → ℕ → ℕ → View → Type 0
FitsAt Fresh history next serving n v =
    StartsWith history v.seen × StartsWith history v.told × (v.own ≡ []) × (seat_calls n history ≡ [])
    × IsLater v n
FitsAt Idle history next serving n v = Knows history n v
FitsAt Waiting history next serving n v = Knows history n v × (serving ≤ v.ticket) × (v.ticket < next)
FitsAt Turn history next serving n v =
    Knows history n v × (v.ticket ≡ serving) × (serving < next) × (v.seen ≡ history)
FitsAt Spent history next serving n v = Unit {0}

abbrev pub FitsHistory : List Step → ℕ → ℕ → ℕ → View → Type 0
FitsHistory history next serving n v = FitsAt v.stage history next serving n v

-- a seat has this ticket
abbrev pub IsHeld : List View → ℕ → Type 0
IsHeld views ticket =
    (n : ℕ) × (v : View) × (get_elem? views n ≡ some v) × (has_ticket v.stage ≡ true) × (v.ticket ≡ ticket)

-- the ledger is in its slot, or a seat has the turn
abbrev pub IsHome : List Step → State Slot View → Type 0
IsHome history s =
    (s.homes ≡ some (Some (entries_after history)) ∷ [])
    ⊎ ((s.homes ≡ none ∷ []) × (n : ℕ) × (v : View) × (get_elem? s.views n ≡ some v) × (v.stage ≡ Turn))

-- the rule, for this history, next ticket, and ticket that is served
pub record IsRuleKept (history : List Step) (next serving : ℕ) (s : State Slot View) : Type 0 where
  pub words : s.words ≡ next ∷ serving ∷ []
  pub served : serving ≤ next
  pub legal : IsLegal history
  pub seats : (n : ℕ) (v : View) → get_elem? s.views n ≡ some v → FitsHistory history next serving n v
  pub strangers : (n : ℕ) → length s.views ≤ n → seat_calls n history ≡ []
  pub apart : (m n : ℕ) (v w : View) → get_elem? s.views m ≡ some v → get_elem? s.views n ≡ some w
      → has_ticket v.stage ≡ true → has_ticket w.stage ≡ true → v.ticket ≡ w.ticket → m ≡ n
  -- each ticket from the one that is served up to the next one is held by a seat
  pub held : (ticket : ℕ) → serving ≤ ticket → ticket < next → IsHeld s.views ticket
  pub given : (n : ℕ) (v : View) → get_elem? s.views n ≡ some v → v.given ≤ length s.views
  pub gone : (n : ℕ) (v : View) → get_elem? s.views n ≡ some v → AreSpent s.views v.claims
  pub home : IsHome history s

-- there is one legal history; the slot holds the ledger after it, or one seat has the turn; only seats with a
-- share have entered
abbrev pub Kept : State Slot View → Type 0
Kept s =
    (history : List Step) × (next : ℕ) × (serving : ℕ) × IsRuleKept history next serving s
    × AreSharesKept history s.views

-- a new seat has learned its number, which is that of no call so far
abbrev pub Settled : Me Slot View → Me Slot View → Type 0
Settled before after =
    (n : ℕ) × (seat_calls n before.0.seen ≡ []) × IsLater before.0 n
    × (after ≡ (with_number before.0 n, before.1))

-- a new seat that has seen what the other one has, has made no call and taken in no seat; its number is
-- greater than that of the other one, than each that the other one knows to be given, and than that of each
-- seat with a call in what it has seen
pub record IsCopy (v w : View) : Type 0 where
  pub seen : w.seen ≡ v.seen
  pub own : w.own ≡ []
  pub claims : w.claims ≡ []
  pub alone : seat_calls w.number v.seen ≡ []
  pub later : IsLater v w.number
  pub given : w.given ≡ w.number + 1

-- the seat has this ticket, or nothing changed
abbrev pub Drawn : ℕ → Me Slot View → ℕ → Me Slot View → Type 0
Drawn ticket before found after =
    ((found ≡ ticket) × (after ≡ (with_ticket before.0 ticket, before.1)))
    ⊎ ((found ≢ ticket) × (after ≡ before))

-- the seat has the turn at this history
pub record HasTurn (v : View) (history : List Step) : Type 0 where
  pub legal : IsLegal history
  pub seen : StartsWith history v.seen
  pub told : StartsWith history v.told
  pub own : seat_calls v.number history ≡ v.own
  pub claims : AreClaims history v.claims
  pub others : AreOfOthers v.number v.claims

-- the seat has the turn and the ledger, or nothing changed
abbrev pub Served : Me Slot View → ℕ → Me Slot View → Type 0
Served before found after =
    ((found ≡ before.0.ticket) × (history : List Step) × HasTurn before.0 history
    × (after ≡ (turn_taken before.0 history, (0, Some (entries_after history)) ∷ [])))
    ⊎ ((found < before.0.ticket) × (after ≡ before))

abbrev pub Looked : Me Slot View → Me Slot View → Type 0
Looked before after = after ≡ (with_call before.0 Look, [])

abbrev pub Entered : Me Slot View → Me Slot View → Type 0
Entered before after =
    (e : Entry) × (before.1 ≡ (0, Some (entries_after before.0.seen ++ e ∷ [])) ∷ [])
    × (after ≡ (with_call before.0 (Enter e), []))

-- the history after a call is legal, begins with all that the seat had seen and learned of, and ends with
-- the call and its reply. The seat's own calls are the former ones and this one, and the history has no
-- others of the seat. The seat knows the same numbers to be given. It has the same shares, and has taken in
-- the same seats, whose calls are in the history.
pub record Extends (v : View) (call : Call) (reply : ℕ) (w : View) : Type 0 where
  pub number : w.number ≡ v.number
  pub given : w.given ≡ v.given
  pub legal : IsLegal w.seen
  pub before : List Step
  pub ends : w.seen ≡ before ++ record { seat = v.number; call = call; reply = reply } ∷ []
  pub seen : StartsWith before v.seen
  pub told : StartsWith before v.told
  pub own : w.own ≡ v.own ++ record { seat = v.number; call = call; reply = reply } ∷ []
  pub alone : seat_calls v.number w.seen ≡ w.own
  pub shares : w.shares ≡ v.shares
  pub claims : w.claims ≡ v.claims
  pub taken : AreClaims w.seen w.claims

-- a new seat without shares
pub record Sat (after : Me Slot View) : Type 0 where
  pub stage : after.0.stage ≡ Idle
  pub own : after.0.own ≡ []
  pub shares : after.0.shares ≡ []
  pub claims : after.0.claims ≡ []

-- what the seat has taken in is in the history that it has seen, and of one seat each; if it has all shares
-- and has made no call, the Enters are calls of seats that it has taken in
pub record Told (before after : Me Slot View) : Type 0 where
  pub same : after ≡ before
  pub claims : AreClaims before.0.seen before.0.claims
  pub apart : AreSeatsApart before.0.claims
  pub enters : AreAll before.0.shares → before.0.own ≡ [] → AreEntersOf before.0.claims before.0.seen
