-- How a trace is read: which order of its records defines regions, teams and the numbers of children. A
-- task's own order is that of its turns, and the file need not have it. Where no task's turns fall along
-- the file, and so in every trace without turns, both readings say the same.
use Rattle.std.specs.Prelude.{ℕ, ◌≡◌, ◌⊎◌, List, Some}
use Rattle.ompt_events.specs.declared.records.Record.{Record}
use Rattle.ompt_events.specs.declared.cause.Cause.{Cause}
use Rattle.ompt_events.specs.Records.{wait_completed}
use Rattle.ompt_events.specs.Places.{at}
use Rattle.ompt_events.specs.Turns.{in_own_order, own_place}
use Rattle.ompt_events.specs.Tree.{IsExplicit}
use Rattle.ompt_events.specs.HappensBefore.{IsStart}
use Rattle.ompt_events.specs.Coverage.{Covers}
use Rattle.ompt_events.specs.Dependences.{IsPredecessor}
use Rattle.ompt_events.specs.Causes.{HasCause, Shows}

-- the records; which causes they show; which tasks the wait that ends at a record covers; and which tasks a
-- task depends on, among its earlier siblings
pub record Reading : Type 1 where
  pub records : List Record
  pub shows : ℕ → Cause → Type 0
  pub covers : ℕ → ℕ → Type 0
  pub depends : ℕ → ℕ → Type 0

-- by each task's own order, as a trace is meant
abbrev pub by_task : List Record → Reading
by_task rs =
    record {
      records = rs;
      shows = Shows rs;
      covers = λ i task. Covers (in_own_order rs) (own_place rs i) task;
      depends = IsPredecessor (in_own_order rs);
    }

-- by the order of the file alone
abbrev pub by_file : List Record → Reading
by_file rs = record { records = rs; shows = HasCause rs; covers = Covers rs; depends = IsPredecessor rs }

-- the task must be complete at i as a predecessor: of an explicit task that starts there (OpenMP 5.2,
-- 15.9.5), or of a taskwait with dependences that is complete there (15.5)
abbrev pub IsPrecededBy : Reading → ℕ → ℕ → Type 0
IsPrecededBy reading i task =
    ((dependent : ℕ) × IsExplicit reading.records dependent × IsStart reading.records i dependent
    × reading.depends dependent task)
    ⊎ ((dependent : ℕ) × (at wait_completed reading.records i ≡ Some dependent)
    × reading.depends dependent task)

-- the task must be complete at i: a wait ends there that covers it (15.3 to 15.5), or it is a predecessor of
-- what starts or is complete there
abbrev pub IsRequiredBy : Reading → ℕ → ℕ → Type 0
IsRequiredBy reading i task = reading.covers i task ⊎ IsPrecededBy reading i task
