-- What tasks watchable records name, and which of them are made there.
use Rattle.std.proofs.Common.{◌≡◌, ◌∙◌, ℕ, ◌<◌, ◌≤◌, List, ◌++◌, length, Some, None, sym, ap, inl, inr, arith}
use Rattle.std.proofs.Common.{Bool, true, false}
use Rattle.std.specs.Prelude.{Contains, if◌then◌else◌}
use Rattle.std.proofs.lemmas.Bool.{cases_lt}
use Rattle.std.proofs.lemmas.Option.{none-some, same_Some}
use Rattle.std.proofs.lemmas.List.{length-append}
use Rattle.ompt_events.specs.declared.records.Record.{Record}
use Rattle.ompt_events.specs.declared.records.Body.{Body}
use Rattle.ompt_events.specs.declared.records.Body.TheVariants.{ParallelBegin, ParallelEnd, ImplicitTask}
use Rattle.ompt_events.specs.declared.records.Body.TheVariants.{TaskCreate, TaskSchedule, SyncRegion, Cancel}
use Rattle.ompt_events.specs.declared.names.Status.TheVariants.{TaskwaitComplete}
use Rattle.ompt_events.specs.declared.names.Endpoint.TheVariants.{End}
use Rattle.ompt_events.specs.Names.{demands_next}
use Rattle.ompt_events.specs.Flags.{has_flag}
use Rattle.ompt_events.specs.Flags as flag
use Rattle.ompt_events.specs.Records.{made, created, creation, begun_root, begun_initial, joined, named}
use Rattle.ompt_events.specs.Records.{running, started, wait_completed}
use Rattle.ompt_events.specs.Places.{at}
use Rattle.ompt_events.specs.Tree.{IsRoot, IsExplicit, IsCreatedAt}
use Rattle.ompt_events.specs.Teams.{IsInitial, IsMember}
use Rattle.ompt_events.specs.Causes.{IsNamedAt, IsFreeOf, created_twice}
use Rattle.ompt_events.specs.declared.cause.Cause.TheVariants.{CreatedTwice}
use Rattle.ompt_events.proofs.RecordLemmas.{begun_at_made, created_at_made, creation_at_created, initial_made}
use Rattle.ompt_events.proofs.RecordLemmas.{member_made, at_through}
use Rattle.ompt_events.proofs.PlaceLemmas.{at_within}
use Rattle.online.specs.Online.{IsWatchable}
use Rattle.online.proofs.ReadLemmas.{IsSameTo, same_append, at_same}

-- ---- the names in one record

pub started_named : (task : ℕ) (b : Body) → started b ≡ Some task → Contains (named b) task
started_named task (TaskSchedule status turns prior (Some next) claimed) says =
    (1, omega arith, same_Some next task says)
started_named task _ says = absurd (none-some task says)

pub wait_named : (task : ℕ) (b : Body) → wait_completed b ≡ Some task → Contains (named b) task
wait_named task (TaskSchedule TaskwaitComplete turns prior next claimed) says =
    (0, omega arith, same_Some prior task says)
wait_named task _ says = absurd (none-some task says)

pub running_named : (task : ℕ) (b : Body) → running b ≡ Some task → Contains (named b) task
running_named task (ParallelBegin requested own parallel) says = (0, omega arith, same_Some own task says)
running_named task (ParallelEnd own parallel) says = (0, omega arith, same_Some own task says)
running_named task (ImplicitTask End actual index given parallel own) says =
    (0, omega arith, same_Some own task says)
running_named task (TaskCreate deps given own child) says = (0, omega arith, same_Some own task says)
running_named task (TaskSchedule status turns prior next claimed) says =
    (0, omega arith, of (demands_next status) says)
  where
    of : (b : Bool) → (if b then Some prior else None) ≡ Some task → prior ≡ task
    of true is = same_Some prior task is
    of false is = absurd (none-some task is)
running_named task (SyncRegion kind endpoint parallel own) says = (0, omega arith, same_Some own task says)
running_named task (Cancel given own claimed) says =
    (0, omega arith, of (has_flag given.0 flag.discarded_task) says)
  where
    of : (b : Bool) → (if b then None else Some own) ≡ Some task → own ≡ task
    of true is = absurd (none-some task is)
    of false is = same_Some own task is
running_named task _ says = absurd (none-some task says)

-- ---- which tasks are made among the first records

-- each task that the first n records name is made by one of them, and by no other record
pub record IsRead (n : ℕ) (rs : List Record) : Type 0 where
  pub named : (i task : ℕ) → i < n → IsNamedAt rs i task → (k : ℕ) × (k < n) × (at made rs k ≡ Some task)
  pub once : (k j task : ℕ) → k < n → at made rs k ≡ Some task → at made rs j ≡ Some task → j < n

-- the task is made by one of the first records
abbrev pub IsMadeBelow : ℕ → List Record → ℕ → Type 0
IsMadeBelow n rs task = (k : ℕ) × (k < n) × (at made rs k ≡ Some task)

pub made_low : (n : ℕ) (rs : List Record) (task j : ℕ) → IsRead n rs → IsMadeBelow n rs task
    → at made rs j ≡ Some task → j < n
made_low n rs task j read (k, low, makes) again = read.once k j task low makes again

pub root_same : (n : ℕ) (xs ys : List Record) → IsSameTo n xs ys → IsRead n xs → (task : ℕ)
    → IsMadeBelow n xs task → IsRoot xs task → IsRoot ys task
root_same n xs ys same read task below (j, begins) =
    let low = made_low n xs task j read below (begun_at_made task xs j begins) in
    (j, sym (at_same begun_root n xs ys same j low) ∙ begins)

pub explicit_same : (n : ℕ) (xs ys : List Record) → IsSameTo n xs ys → IsRead n xs → (task : ℕ)
    → IsMadeBelow n xs task → IsExplicit xs task → IsExplicit ys task
explicit_same n xs ys same read task below (j, creates) =
    let low = made_low n xs task j read below (created_at_made task xs j creates) in
    (j, sym (at_same created n xs ys same j low) ∙ creates)

pub creation_same : (n : ℕ) (xs ys : List Record) → IsSameTo n xs ys → IsRead n xs → (task j parent : ℕ)
    → IsMadeBelow n xs task → IsCreatedAt xs j parent task → IsCreatedAt ys j parent task
creation_same n xs ys same read task j parent below creates =
    let low =
    made_low n xs task j read below
    (created_at_made task xs j (creation_at_created parent task xs j creates)) in
    sym (at_same creation n xs ys same j low) ∙ creates

pub initial_same : (n : ℕ) (xs ys : List Record) → IsSameTo n xs ys → IsRead n xs → (task : ℕ)
    → IsMadeBelow n xs task → IsInitial xs task → IsInitial ys task
initial_same n xs ys same read task below (j, begins) =
    let low =
    made_low n xs task j read below
    (at_through begun_initial made task task xs j (initial_made task) begins) in
    (j, sym (at_same begun_initial n xs ys same j low) ∙ begins)

pub member_same : (n : ℕ) (xs ys : List Record) → IsSameTo n xs ys → IsRead n xs → (task : ℕ)
    → IsMadeBelow n xs task → IsMember xs task → IsMember ys task
member_same n xs ys same read task below (j, m, joins, is) =
    let makes : at made xs j ≡ Some task =
    at_through joined made m m.member xs j (member_made m) joins ∙ ap Some is in
    let low = made_low n xs task j read below makes in
    (j, m, sym (at_same joined n xs ys same j low) ∙ joins, is)

-- ---- the first records of watchable ones, among all and alone

pub read_whole : (before after : List Record) → IsWatchable (before ++ after)
    → IsFreeOf (before ++ after) CreatedTwice → IsRead (length before) (before ++ after)
read_whole before after watchable once = record {
  named = λ i task below name.
      let found = watchable.named i task name in
      (found.0, (let low = found.1 in omega (arith, low, below)), found.2);
  once = λ k j task low makes again. elim (cases_lt j (length before)) [
    | inl inside ↦ inside
    | inr past ↦ absurd (once j (created_twice (task, k, omega (arith, low, past), makes, again)))
  ];
}

pub read_part : (before after : List Record) → IsWatchable (before ++ after) → IsRead (length before) before
read_part before after watchable = record {
  named = λ i task below name.
      let same = same_append before after in
      let found = watchable.named i task (name.0, same.there i below ∙ name.1, name.2) in
      let low : found.0 < length before = let l = found.1 in omega (arith, l, below) in
      (found.0, low, sym (at_same made (length before) (before ++ after) before same found.0 low) ∙ found.2);
  once = λ k j task low makes again. at_within made before j task again;
}

pub whole_long : (before after : List Record) → length before ≤ length (before ++ after)
whole_long before after = let l = length-append before after in omega (arith, l)
