-- What each record awaits: the creation of a task, or the end of the turn before the one that it begins.
use Rattle.std.specs.Prelude.{ℕ, ◌≡◌, ◌<◌, ◌==◌, ◌⊎◌, List, Option, Some, None, if◌then◌else◌, length}
use Rattle.std.specs.Prelude.{option_and_then}
use Rattle.std.specs.Option.{option_or}
use Rattle.ompt_events.specs.declared.records.Record.{Record}
use Rattle.ompt_events.specs.declared.records.Body.{Body}
use Rattle.ompt_events.specs.Records.{created, started, begun_turn, suspended_turn, told_turns, discarded}
use Rattle.ompt_events.specs.Records.{fulfilled}
use Rattle.ompt_events.specs.Places.{at, thread_at}
use Rattle.ompt_events.specs.Tree.{IsExplicit}
use Rattle.ompt_events.specs.HappensBefore.{IsStart, IsResumption}
use Rattle.task_tree.specs.Runs.{RunView, IsIndexOf}
use Rattle.task_tree.specs.Rising.{IsStartOf}
use Rattle.checker.specs.declared.schedule.Awaited.{Awaited}
use Rattle.checker.specs.declared.schedule.Awaited.TheVariants.{Creation, Turn}

-- the task that starts there: it runs next, in its turn 0
abbrev pub first_started : Body → Option ℕ
first_started body = option_and_then (λ (b : ℕ × ℕ). if b.1 == 0 then Some b.0 else None) (begun_turn body)

-- the task that the record fulfils, discards or starts: it was created before
abbrev pub awaited : Body → Option ℕ
awaited body = option_or (fulfilled body) (option_or (discarded body) (first_started body))

-- the record at i awaits the one at c: the creation of the task that it fulfils, discards or starts; or,
-- where an explicit task runs on, the record at which it was suspended
pub data Awaits (rs : List Record) (i c : ℕ) : Type 0 where
  awaits_creation : (task : ℕ) → at awaited rs i ≡ Some task → at created rs c ≡ Some task → Awaits rs i c
  awaits_end : (again : IsResumption rs c i) → IsExplicit rs again.task → Awaits rs i c

-- a is an earlier record of the thread of b
pub record IsEarlierOnThread (rs : List Record) (a b : ℕ) : Type 0 where
  pub earlier : a < b
  pub within : b < length rs
  pub same : thread_at rs a ≡ thread_at rs b

-- each record awaits at most one other, which happens before it; and each step of the program goes along a
-- thread or from a record to one that awaits it
pub record EachAwaitsOne (rs : List Record) : Type 0 where
  -- no record fulfils one task and starts another
  pub apart : (i task other : ℕ) → at fulfilled rs i ≡ Some task → at started rs i ≡ Some other → ⊥
  -- a record that begins turn 0 of an explicit task is its start, or an earlier record of the thread is
  pub at_home : (i task : ℕ) → IsExplicit rs task → at begun_turn rs i ≡ Some (task, 0)
      → IsStart rs i task ⊎ ((s : ℕ) × IsEarlierOnThread rs s i × IsStart rs s task)
  -- a task that runs on is explicit, or it was suspended earlier on the same thread
  pub on_thread : (a b : ℕ) (again : IsResumption rs a b)
      → IsExplicit rs again.task ⊎ IsEarlierOnThread rs a b
  -- an explicit task that runs on was suspended at one record alone in the turn before
  pub once : (a b i : ℕ) (again : IsResumption rs a i) → IsExplicit rs again.task
      → at suspended_turn rs b ≡ Some (again.task, again.turn) → a ≡ b
  -- if one record that starts a task has no turns, no record has
  pub alike : (i k task : ℕ) → at started rs i ≡ Some task → at told_turns rs i ≡ None
      → at told_turns rs k ≡ None

-- ---- by indices of tasks

-- what the record at i awaits
abbrev pub IsAwaitedAt : RunView → ℕ → Awaited → Type 0
IsAwaitedAt run i (Creation index) = IsIndexOf run awaited i (Some index)
IsAwaitedAt run i (Turn begin) =
    IsStartOf run.records run.family.tasks i begin.index begin.turn × (0 < begin.turn)

-- it awaits nothing
abbrev pub AwaitsNone : List Record → ℕ → Type 0
AwaitsNone rs i = (at awaited rs i ≡ None) × (at begun_turn rs i ≡ None)
