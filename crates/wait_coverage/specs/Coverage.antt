-- What the coverage of the waits of a trace knows.
use Rattle.std.specs.Prelude.{ℕ, ◌≡◌, ◌<◌, ◌≤◌, ◌↔◌, true, List, [], ◌∷◌, length, Option, Some, MatchOption}
use Rattle.std.specs.Prelude.{Contains, slice_get, take}
use Rattle.std.specs.Global.{Vec}
use Rattle.ompt_events.specs.declared.records.Record.{Record}
use Rattle.ompt_events.specs.declared.names.SyncKind.{SyncKind}
use Rattle.ompt_events.specs.declared.names.SyncKind.TheVariants.{Taskwait}
use Rattle.ompt_events.specs.Tree.{child_number}
use Rattle.ompt_events.specs.Regions.{IsRegion, IsBarrierBegin, waits_for_tasks}
use Rattle.task_states.specs.Rows.{row_at}
use Rattle.credit_ledger.specs.declared.entry.Entry.{Entry}
use Rattle.credit_ledger.specs.declared.entry.Span.{Span}
use Rattle.credit_ledger.specs.Entries.{IsSpanHeld}
use Rattle.credit_ledger.specs.declared.entry.Cover.{Cover}
use Rattle.credit_ledger.specs.declared.entry.Cover.TheVariants.{Children}
use Rattle.task_tree.specs.Paths.{TreeView, IsTreeOf}
use Rattle.task_tree.specs.Families.{IsOwnOf}
use Rattle.task_tree.specs.Own.{OwnView}
use Rattle.teams.specs.Teams.{TeamsView, own_of, IsTeams}
use Rattle.wait_coverage.specs.Numbers.{AreNumbers}
use Rattle.wait_coverage.specs.Spans.{IsSpan, IsCoverComplete}
use Rattle.wait_coverage.specs.Waits.{IsWaitAt, IsFirstCoveredUnfinished}
use Rattle.wait_coverage.specs.declared.waits.Wait.{Wait}

-- a region that waits for tasks ends at i (OpenMP 5.2, 15.3 to 15.5)
abbrev pub IsEnd : List Record → ℕ → Type 0
IsEnd rs i = (task begin : ℕ) × (kind : SyncKind) × IsRegion rs i task kind begin
    × (waits_for_tasks kind ≡ true)

-- such a region ends at the place in the file
abbrev pub IsEndPlace : OwnView → ℕ → Type 0
IsEndPlace own place =
    (number : ℕ) × (slice_get own.places number ≡ Some place) × IsEnd own.run.records number

-- the ends at the first n places in the file, in file order
pub record AreWaitEnds (own : OwnView) (n : ℕ) (ends : List ℕ) : Type 0 where
  pub each : (place : ℕ) → place < n → IsEndPlace own place → Contains ends place
  pub only : (k place : ℕ) → slice_get ends k ≡ Some place → (place < n) × IsEndPlace own place
  pub rising : (k j place after : ℕ) → k < j → slice_get ends k ≡ Some place
      → slice_get ends j ≡ Some after → place < after

-- what each end waits for
pub record AreWaits (own : OwnView) (ends : List ℕ) (waits : List Wait) : Type 0 where
  pub all : length waits ≡ length ends
  pub each : (k place number : ℕ) (wait : Wait) → slice_get ends k ≡ Some place
      → slice_get own.places number ≡ Some place → slice_get waits k ≡ Some wait
      → IsWaitAt own.run.records own.run.family.tasks number wait

-- a region that waits for tasks ends at i: for the children alone if it is a taskwait, and for all
-- descendants if it is of another kind
abbrev pub IsCoverAt : List Record → ℕ → Cover → Type 0
IsCoverAt rs i cover = (task begin : ℕ) × (kind : SyncKind) × IsRegion rs i task kind begin
    × (waits_for_tasks kind ≡ true) × ((cover ≡ Children) ↔ (kind ≡ Taskwait))

-- ---- spans

-- one span, which is of the children of the task with these numbers
pub record IsOnly (rs : List Record) (task from to : ℕ) (spans : List Span) : Type 0 where
  pub span : Span
  pub only : spans ≡ span ∷ []
  pub is_span : IsSpan rs task from to span

-- the task at the index begins a barrier with this number
abbrev pub HasBegun : List (Vec ℕ) → ℕ → ℕ → Type 0
HasBegun begins number index = number < length (row_at begins index)

-- each member of the roster begins one, and no slot is empty
abbrev pub HaveBegun : List (Vec ℕ) → ℕ → List (Option ℕ) → Type 0
HaveBegun begins number roster = (place : ℕ) → place < length roster
    → (index : ℕ) × (slice_get roster place ≡ Some (Some index)) × HasBegun begins number index

-- the span is of the children that the member created before its barrier with this number began
abbrev pub IsMemberSpan : List Record → ℕ → ℕ → Span → Type 0
IsMemberSpan rs member number span = (start : ℕ) × IsBarrierBegin rs member number start
    × IsSpan rs member 0 (child_number rs member start) span

-- that span for each of the first n members of the roster
pub record AreRosterSpans (rs : List Record) (tasks : List ℕ) (number : ℕ) (roster : List (Option ℕ)) (n : ℕ)
    (spans : List Span) : Type 0 where
  pub count : length spans ≡ n
  pub each : (place index member : ℕ) (span : Span) → slice_get roster place ≡ Some (Some index)
      → slice_get tasks index ≡ Some member → slice_get spans place ≡ Some span
      → IsMemberSpan rs member number span

-- the first n entries hold each of the spans
abbrev pub AreAllHeld : List Entry → ℕ → Cover → List Span → Type 0
AreAllHeld entries n cover spans =
    (span : Span) → Contains spans span → IsSpanHeld (take n entries) span cover

-- no span is of a task deeper than a ledger can enter
abbrev pub AreShallow : List Span → Type 0
AreShallow spans = (span : Span) → Contains spans span → length span.path ≤ 1024

-- ---- the whole

pub record CoverageView : Type 0 where
  pub tree : TreeView
  pub teams : TeamsView
  pub numbers : List ℕ
  pub ends : List ℕ
  pub waits : List Wait

-- the tree is that of a trace, and the run has its records in the tasks' own order
abbrev pub IsTreeOfOwn : OwnView → TreeView → Type 0
IsTreeOfOwn own tree = (rs : List Record) × IsTreeOf rs tree × IsOwnOf rs own

-- all tables are those of the run of the teams
pub record IsCoverage (coverage : CoverageView) : Type 0 where
  pub teams : IsTeams coverage.teams
  pub tree : IsTreeOfOwn (own_of coverage.teams) coverage.tree
  pub numbers : AreNumbers coverage.teams.run.records (length coverage.teams.run.records) coverage.numbers
  pub ends : AreWaitEnds (own_of coverage.teams) (length coverage.teams.run.records) coverage.ends
  pub waits : AreWaits (own_of coverage.teams) coverage.ends coverage.waits

-- the end with this index among the ends is the record with this number
abbrev pub IsEndNumber : CoverageView → ℕ → ℕ → Type 0
IsEndNumber coverage index number = (place : ℕ) × (slice_get coverage.ends index ≡ Some place)
    × (slice_get coverage.teams.places number ≡ Some place)

-- the result is the first unfinished task at the end with this number, or none if all that it covers is
-- complete
abbrev pub IsFirstUnfinishedAnswer : CoverageView → ℕ → Option ℕ → Type 0
IsFirstUnfinishedAnswer coverage end answer =
    MatchOption answer (IsCoverComplete coverage.teams.run.records end)
    (IsFirstCoveredUnfinished (own_of coverage.teams) end)

-- the result for each of the first n of these ends, given by their indices among the ends
pub record AreFirstUnfinished (coverage : CoverageView) (of : List ℕ) (n : ℕ)
    (found : List (Option ℕ)) : Type 0 where
  pub count : length found ≡ n
  pub each : (k index end : ℕ) (answer : Option ℕ) → slice_get of k ≡ Some index
      → IsEndNumber coverage index end → slice_get found k ≡ Some answer
      → IsFirstUnfinishedAnswer coverage end answer
