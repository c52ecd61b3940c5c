-- The turns of a record without a gap: what the record itself shows of them, and the turns that begin.
use Rattle.std.specs.Prelude.{ℕ, ◌≡◌, ◌+◌, List, Some}
use Rattle.ompt_events.specs.declared.records.Record.{Record}
use Rattle.ompt_events.specs.declared.records.Turns.{Turns}
use Rattle.ompt_events.specs.Records.{told_turns, begun_turn}
use Rattle.ompt_events.specs.Places.{at}
use Rattle.ompt_events.specs.Tree.{IsRoot}
use Rattle.ompt_events.specs.Turns.{turn_at}
use Rattle.ompt_events.specs.Causes.{BeginsTurn}

-- a task may begin the turn: the one before begins too, and turn 0 is not a root's
pub record MayBeginThere (rs : List Record) (task turn : ℕ) : Type 0 where
  pub created : turn ≡ 0 → IsRoot rs task → ⊥
  pub before : (last : ℕ) → turn ≡ last + 1 → (k : ℕ) × BeginsTurn rs k task last

-- the record gives the turn of its prior task, and a turn of the next one that this may begin
pub record TellsRightly (rs : List Record) (i : ℕ) : Type 0 where
  pub prior : (told : Turns) → at told_turns rs i ≡ Some told → told.prior ≡ turn_at rs i
  pub next : (task turn : ℕ) → at begun_turn rs i ≡ Some (task, turn) → MayBeginThere rs task turn
