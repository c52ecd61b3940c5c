-- The credit that the end of a region waits for: that of some children of one task, or of some of each
-- member of a team.
use Rattle.std.specs.Prelude.{◌≡◌, ◌<◌, ℕ, List, [], ◌∷◌, true, Some, Contains, length, slice_get, take}
use Rattle.ompt_events.specs.declared.records.Record.{Record}
use Rattle.ompt_events.specs.declared.names.SyncKind.{SyncKind}
use Rattle.ompt_events.specs.declared.names.SyncKind.TheVariants.{Taskwait, Taskgroup}
use Rattle.ompt_events.specs.Places.{seen_at}
use Rattle.ompt_events.specs.Tree.{child_number, HasPath}
use Rattle.ompt_events.specs.Regions.{IsRegion, is_barrier, IsBarrierBegin}
use Rattle.ompt_events.specs.Coverage.{Covers}
use Rattle.ompt_events.specs.Completion.{IsCompleteAt}
use Rattle.credit_ledger.specs.declared.entry.Entry.{Entry}
use Rattle.credit_ledger.specs.declared.entry.Span.{Span}
use Rattle.credit_ledger.specs.declared.entry.Cover.{Cover}
use Rattle.credit_ledger.specs.Entries.{IsSpanHeld}
use Rattle.teams.specs.Teams.{IsMemberNumbered}

-- the children of the task with these numbers, given by the task's path below its root
pub record IsSpan (rs : List Record) (task from to : ℕ) (span : Span) : Type 0 where
  pub stands : HasPath rs span.root task span.path
  pub from_there : span.from ≡ from
  pub to_there : span.to ≡ to

-- for each member of the task's team, by its number there: the children that it created before its barrier
-- with this number began
pub record AreMemberSpans (rs : List Record) (task number : ℕ) (spans : List Span) : Type 0 where
  pub each : (index : ℕ) (span : Span) → slice_get spans index ≡ Some span → (member start : ℕ)
      × IsMemberNumbered rs task index member × IsBarrierBegin rs member number start
      × IsSpan rs member 0 (child_number rs member start) span
  pub all : (index member : ℕ) → IsMemberNumbered rs task index member → index < length spans

-- what the end at i waits for: the children that the task created before a taskwait began (OpenMP 5.2,
-- 15.5), while a taskgroup was open (15.4), or that the members of the team created before their barriers
-- (15.3)
pub data AreSpans (rs : List Record) (i : ℕ) : Cover → List Span → Type 0 where
  waited : {task begin : ℕ} {span : Span} → IsRegion rs i task Taskwait begin
      → IsSpan rs task 0 (child_number rs task begin) span → AreSpans rs i Cover.Children (span ∷ [])
  grouped : {task begin : ℕ} {span : Span} → IsRegion rs i task Taskgroup begin
      → IsSpan rs task (child_number rs task begin) (child_number rs task i) span
      → AreSpans rs i Cover.Descendants (span ∷ [])
  synchronised : {task begin : ℕ} {kind : SyncKind} {spans : List Span} (number : ℕ)
      → IsRegion rs i task kind begin → is_barrier kind ≡ true → IsBarrierBegin rs task number begin
      → AreMemberSpans rs task number spans → AreSpans rs i Cover.Descendants spans

-- the first entries, as many as the record at i has seen, hold the start share of each child of the spans
abbrev pub AreHeldAt : List Record → List Entry → ℕ → Cover → List Span → Type 0
AreHeldAt rs entries i cover spans =
    (span : Span) → Contains spans span → IsSpanHeld (take (seen_at rs i) entries) span cover

-- each task that the end at i covers is complete there
abbrev pub IsCoverComplete : List Record → ℕ → Type 0
IsCoverComplete rs i = (task : ℕ) → Covers rs i task → IsCompleteAt rs task i
