-- The ledger lengths that records name, taken one after another: what is kept of them.
use Rattle.std.specs.Prelude.{ℕ, ◌≡◌, ◌<◌, ◌≤◌, ◌+◌, true, List, [], ◌∷◌, ◌++◌, length, Option, Some, max}
use Rattle.std.specs.Prelude.{slice_get, set, nat_eq, is_some, IsSomeAnd, option_map, if◌then◌else◌}
use Rattle.std.specs.declared.hash.FoldHasher.{FoldHasher}
use Rattle.std.specs.declared.hash.BuildHasherDefault.{BuildHasherDefault}
use Rattle.std.specs.HashMap.{get, HashMap}
use Rattle.ompt_events.specs.declared.records.Record.{Record}
use Rattle.ompt_events.specs.declared.records.Body.{Body}
use Rattle.ompt_events.specs.declared.cause.Cause.TheVariants.{EntryTwice, LengthBack}
use Rattle.ompt_events.specs.Records.{made, created, discarded, fulfilled, finish, suspended, begun_turn}
use Rattle.ompt_events.specs.Places.{at, thread_at, seen_at}
use Rattle.ompt_events.specs.States.{is_task}
use Rattle.ompt_events.specs.HappensBefore.{IsFinishing}
use Rattle.ompt_events.specs.Causes.{HasCause, IsMade, entries_in, known_after}
use Rattle.online.specs.declared.lengths.Known.{Known}
use Rattle.online.specs.declared.lengths.Lengths.{Lengths}

-- the lengths known after the creation and the suspensions of tasks, by task
abbrev pub KeptTable : Type 0
KeptTable = HashMap ℕ Known (BuildHasherDefault FoldHasher)

abbrev pub kept_of : KeptTable → ℕ → Option Known
kept_of tasks task = get nat_eq tasks task

-- what is kept is the number of entries that the records make; and, of each thread and each task in the
-- table, lengths that are not less than those known after its records. Of other tasks nothing is said
pub record IsLengthsOf (rs : List Record) (kept : Lengths) : Type 0 where
  pub entries : kept.entries ≡ entries_in rs
  -- each finishing record makes one of the entries
  pub below : (k : ℕ) → IsFinishing rs k → seen_at rs k < entries_in rs
  pub threads : (k thread known : ℕ) → thread_at rs k ≡ Some thread
      → slice_get kept.threads.items thread ≡ Some known → known_after rs k ≤ known
  pub creations : (k task : ℕ) (known : Known) → at created rs k ≡ Some task
      → kept_of kept.tasks task ≡ Some known → known_after rs k ≤ known.created
  pub suspensions : (k task : ℕ) (known : Known) → at suspended rs k ≡ Some task
      → kept_of kept.tasks task ≡ Some known → known_after rs k ≤ known.suspended

-- what other tests tell: a task that one of the records before suspends is made by one of them, and the
-- record makes no task again
pub record MayFollow (before : List Record) (r : Record) : Type 0 where
  pub made_before : (k task : ℕ) → at suspended before k ≡ Some task → IsMade before task
  pub new_one : (task : ℕ) → made r.body ≡ Some task → IsMade before task → ⊥

-- the tests of the length that the record names, by those before it
pub record NamesLength (before : List Record) (r : Record) : Type 0 where
  -- a finishing record makes the next entry, and none names more entries than are before it
  pub enters : is_some (finish r.body) ≡ true → r.seen ≡ entries_in before
  pub names : r.seen ≤ entries_in before
  -- the length is not less than one known at a step before, and no earlier record makes the entry
  pub not_back : HasCause (before ++ r ∷ []) (length before) LengthBack → ⊥
  pub not_twice : HasCause (before ++ r ∷ []) (length before) EntryTwice → ⊥

-- ---- what the tests of a record say

-- the record names the number of entries if it makes one, and no more
pub record NamesEntry (entries : ℕ) (r : Record) : Type 0 where
  pub enters : is_some (finish r.body) ≡ true → r.seen ≡ entries
  pub names : r.seen ≤ entries

-- the table has the task, and the length is not less than that known after the task's creation, or than those
-- known after its suspensions
abbrev pub ReachesCreation : KeptTable → ℕ → ℕ → Type 0
ReachesCreation tasks task seen = IsSomeAnd (kept_of tasks task) (λ known. known.created ≤ seen)

abbrev pub ReachesSuspensions : KeptTable → ℕ → ℕ → Type 0
ReachesSuspensions tasks task seen = IsSomeAnd (kept_of tasks task) (λ known. known.suspended ≤ seen)

-- so it is with the creation of the task, if there is one
abbrev pub ReachesAny : KeptTable → Option ℕ → ℕ → Type 0
ReachesAny tasks named seen = (task : ℕ) → named ≡ Some task → ReachesCreation tasks task seen

-- so it is with the task that runs next: with its creation in turn 0, and with its suspensions in any other
-- turn
pub record ReachesNext (tasks : KeptTable) (body : Body) (seen : ℕ) : Type 0 where
  pub starts : (task : ℕ) → begun_turn body ≡ Some (task, 0) → ReachesCreation tasks task seen
  pub resumes : (task turn : ℕ) → begun_turn body ≡ Some (task, turn + 1) → ReachesSuspensions tasks task seen

-- so it is with each creation or suspension that is a step before a record with this body
pub record ReachesTasks (tasks : KeptTable) (body : Body) (seen : ℕ) : Type 0 where
  pub next : ReachesNext tasks body seen
  pub discards : ReachesAny tasks (discarded body) seen
  pub fulfils : ReachesAny tasks (fulfilled body) seen

-- ---- what is kept behind a record

-- on the thread no greater length was known than the record names, and this one is known now
pub record IsAdvancedBy (old new : Lengths) (thread seen known : ℕ) : Type 0 where
  pub before : ℕ
  pub here : slice_get old.threads.items thread ≡ Some before
  pub enough : before ≤ seen
  pub threads : new.threads.items ≡ set old.threads.items thread known
  pub entries : new.entries + seen ≡ old.entries + known
  pub tasks : new.tasks ≡ old.tasks

-- the lengths of a task with a suspension more, after which this length is known
abbrev pub with_suspension : ℕ → Known → Known
with_suspension after known = record {
  created = known.created;
  suspended = max known.suspended after;
}

-- the task that is suspended, if one is, has a suspension more, after which this length is known
abbrev pub AddsSuspension : KeptTable → KeptTable → Option ℕ → ℕ → Type 0
AddsSuspension old new task length =
    (other : ℕ) → kept_of new other
    ≡ (if is_task other task then option_map (with_suspension length) (kept_of old other)
    else kept_of old other)

-- the task that is made, if one is, is put into the table; this length is known after its creation
abbrev pub AddsMade : KeptTable → KeptTable → Option ℕ → ℕ → Type 0
AddsMade old new task length =
    (other : ℕ) → kept_of new other
    ≡ (if is_task other task then Some (record { created = length; suspended = 0 }) else kept_of old other)
