-- Where turns begin, and which begins of turns are wrong.
use Rattle.std.specs.Prelude.{ℕ, ◌≡◌, ◌<◌, ◌≤◌, ◌+◌, ◌⊎◌, true, List, length, Some, None}
use Rattle.std.specs.Option.{option_map_or}
use Rattle.std.specs.Ordering.{nat_cmp, ordering_then}
use Rattle.std.specs.declared.cmp.Ordering.{Ordering}
use Rattle.std.specs.BTreeMap.{BTreeMap, get}
use Rattle.std.specs.BTreeSet.{BTreeSet, contains}
use Rattle.ompt_events.specs.declared.records.Record.{Record}
use Rattle.ompt_events.specs.Records.{begun_turn, begun_root}
use Rattle.ompt_events.specs.Places.{at, thread_at}
use Rattle.ompt_events.specs.Tree.{IsRoot}
use Rattle.ompt_events.specs.Causes.{BeginsTurn}
use Rattle.task_tree.specs.declared.gap_search.Begins.{Begins}
use Rattle.task_tree.specs.declared.gap_search.Start.{Start}

-- two numbers, in the order of the first and then of the second
abbrev pub pair_cmp : ℕ × ℕ → ℕ × ℕ → Ordering
pair_cmp a b = ordering_then (nat_cmp a.0 b.0) (nat_cmp a.1 b.1)

-- ---- where turns begin

-- by task and turn the first of the first n records after which the task runs in the turn
pub record AreFirst (rs : List Record) (n : ℕ) (first : BTreeMap (ℕ × ℕ) ℕ) : Type 0 where
  pub begins : (task turn place : ℕ) → get pair_cmp first (task, turn) ≡ Some place
      → at begun_turn rs place ≡ Some (task, turn)
  pub earliest : (task turn place k : ℕ) → get pair_cmp first (task, turn) ≡ Some place
      → at begun_turn rs k ≡ Some (task, turn) → place ≤ k
  pub all : (task turn k : ℕ) → get pair_cmp first (task, turn) ≡ None → k < n
      → at begun_turn rs k ≡ Some (task, turn) → ⊥

-- the initial and implicit tasks that one of the first n records begins
pub record AreRootsBegun (rs : List Record) (n : ℕ) (roots : BTreeSet ℕ) : Type 0 where
  pub only : (task : ℕ) → contains nat_cmp roots task ≡ true → IsRoot rs task
  pub all : (task k : ℕ) → k < n → at begun_root rs k ≡ Some task → contains nat_cmp roots task ≡ true

-- both, by all records
pub record AreFirstBegins (rs : List Record) (begins : Begins) : Type 0 where
  pub first : AreFirst rs (length rs) begins.first
  pub roots : AreRootsBegun rs (length rs) begins.roots

-- ---- the greatest turn of a task on a thread

-- the turn that is kept for a task on a thread, 0 if none is
abbrev pub kept_turn : BTreeMap (ℕ × ℕ) ℕ → ℕ → ℕ → ℕ
kept_turn kept thread task = option_map_or (λ (turn : ℕ). turn) (get pair_cmp kept (thread, task)) 0

-- the turn that the record begins is kept for its thread if it is greater
pub record IsTurnRaised (old new : BTreeMap (ℕ × ℕ) ℕ) (r : Record) : Type 0 where
  pub rises : (thread task : ℕ) → kept_turn old thread task ≤ kept_turn new thread task
  pub raised : (task turn : ℕ) → begun_turn r.body ≡ Some (task, turn) → turn ≤ kept_turn new r.thread task
  pub only : (thread task : ℕ) → (kept_turn new thread task ≡ kept_turn old thread task)
      ⊎ ((thread ≡ r.thread) × (begun_turn r.body ≡ Some (task, kept_turn new thread task)))

-- kept is, for each task on each thread, the greatest turn that one of the first n records begins of it
-- there, 0 if none does
pub record AreGreatestTurns (rs : List Record) (n : ℕ) (kept : BTreeMap (ℕ × ℕ) ℕ) : Type 0 where
  pub bound : (k thread task turn : ℕ) → k < n → thread_at rs k ≡ Some thread
      → at begun_turn rs k ≡ Some (task, turn) → turn ≤ kept_turn kept thread task
  pub reached : (thread task : ℕ) → 0 < kept_turn kept thread task
      → (k : ℕ) × (k < n) × (thread_at rs k ≡ Some thread)
      × (at begun_turn rs k ≡ Some (task, kept_turn kept thread task))

-- ---- a task that runs next, and its turn

-- an earlier record began the same turn
abbrev pub IsBegunBefore : List Record → Start → Type 0
IsBegunBefore rs start = (k : ℕ) × (k < start.at) × (at begun_turn rs k ≡ Some (start.task, start.turn))

-- an earlier record of the thread began a later turn
abbrev pub IsFalling : List Record → Start → Type 0
IsFalling rs start =
    (k later : ℕ) × (k < start.at) × (thread_at rs k ≡ Some start.thread)
    × (at begun_turn rs k ≡ Some (start.task, later)) × (start.turn < later)

-- it is turn 0 of a root
abbrev pub BeginsRoot : List Record → ℕ → ℕ → Type 0
BeginsRoot rs task turn = (turn ≡ 0) × IsRoot rs task

-- no record begins the turn before
abbrev pub LacksBefore : List Record → Start → Type 0
LacksBefore rs start =
    (before : ℕ) × (start.turn ≡ before + 1) × ((k : ℕ) → BeginsTurn rs k start.task before → ⊥)

-- the task may not begin that turn there
pub data IsWrongStart (rs : List Record) (start : Start) : Type 0 where
  wrong_again : IsBegunBefore rs start → IsWrongStart rs start
  wrong_falling : IsFalling rs start → IsWrongStart rs start
  wrong_root : BeginsRoot rs start.task start.turn → IsWrongStart rs start
  wrong_missing : LacksBefore rs start → IsWrongStart rs start
