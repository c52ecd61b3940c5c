-- The regions of a run, and how those of each task open and close.
use Rattle.std.specs.Prelude.{ℕ, ◌≡◌, ◌<◌, ◌≤◌, ◌⊎◌, Bool, true, false, List, [], ◌∷◌, length, Option, Some}
use Rattle.std.specs.Prelude.{None, MatchOption, slice_get, slice_index_or}
use Rattle.ompt_events.specs.declared.records.Record.{Record}
use Rattle.ompt_events.specs.declared.cause.Cause.{Cause}
use Rattle.ompt_events.specs.declared.cause.Cause.TheVariants.{RegionOrder}
use Rattle.ompt_events.specs.declared.names.Endpoint.{Endpoint}
use Rattle.ompt_events.specs.declared.names.Endpoint.TheVariants.{Begin, End, BeginEnd}
use Rattle.ompt_events.specs.declared.names.SyncKind.{SyncKind}
use Rattle.ompt_events.specs.Records.{region}
use Rattle.ompt_events.specs.Places.{at}
use Rattle.ompt_events.specs.Regions.{EndsRegion, IsRegion, open_regions}
use Rattle.ompt_events.specs.Causes.{HasCause}
use Rattle.task_tree.specs.Runs.{RunView}
use Rattle.task_tree.specs.Own.{OwnView, IsOwn, HasCauseAt}

-- what clauses see of regions: the run in its tasks' own order, and by number of a record that ends a region
-- that of its begin
pub record RegionsView : Type 0 where
  pub own : OwnView
  pub begins : List (Option ℕ)

-- the end at i belongs to a begin, whose number the link is
abbrev pub IsEndLinked : List Record → ℕ → ℕ → SyncKind → Option (Option ℕ) → Type 0
IsEndLinked rs i task kind link = (begin : ℕ) × (link ≡ Some (Some begin)) × EndsRegion rs i task kind begin

-- the end of each region that one of the first n records ends has the number of its begin
abbrev pub AreLinked : List Record → ℕ → List (Option ℕ) → Type 0
AreLinked rs n links =
    (i task : ℕ) (kind : SyncKind) → i < n → at region rs i ≡ Some (task, kind, End)
    → IsEndLinked rs i task kind (slice_get links i)

-- the begins are those of the run
pub record AreRegions (regions : RegionsView) : Type 0 where
  pub own : IsOwn regions.own
  pub begins : AreLinked regions.own.run.records (length regions.own.run.records) regions.begins

-- the region that ends at i began there; a begin and end in one began at its own place
abbrev pub IsRegionBegin : List Record → ℕ → ℕ → Type 0
IsRegionBegin rs i begin = (task : ℕ) (kind : SyncKind) (endpoint : Endpoint)
    → at region rs i ≡ Some (task, kind, endpoint) → IsRegion rs i task kind begin

-- ---- the search

-- the region that is open below the one that begins there
abbrev pub below_of : List (Option ℕ) → Option ℕ → Option ℕ
below_of links None = None
below_of links (Some begin) = slice_index_or links begin None

-- the innermost open region after a record at i begins or ends one
abbrev pub top_after : List (Option ℕ) → Option ℕ → ℕ → Endpoint → Option ℕ
top_after links opened i Begin = Some i
top_after links opened i End = below_of links opened
top_after links opened i BeginEnd = opened

-- the regions that are open, all begun before n, the innermost first: each has the number of the one below
-- it
abbrev pub IsStack : List (Option ℕ) → ℕ → Option ℕ → List ℕ → Type 0
IsStack links n top [] = top ≡ None
IsStack links n top (begin ∷ below) =
    (top ≡ Some begin) × (begin < n) × IsStack links n (below_of links top) below

-- the innermost region of the task at the index that is open before the record at i
abbrev pub IsInnermost : RunView → ℕ → ℕ → Option ℕ → Type 0
IsInnermost run i index opened = (task : ℕ) → slice_get run.family.tasks index ≡ Some task
    → opened ≡ slice_get (open_regions run.records task i) 0

-- where this region is the innermost open one, an end at i belongs to it, and the record hasn't the cause
pub record IsInPlace (rs : List Record) (i : ℕ) (opened : Option ℕ) : Type 0 where
  pub linked : (task : ℕ) (kind : SyncKind) → at region rs i ≡ Some (task, kind, End)
      → IsEndLinked rs i task kind (Some opened)
  pub free : HasCause rs i RegionOrder → ⊥

-- the region may not begin or end there, or it may
abbrev pub IsPlaceJudged : List Record → ℕ → Option ℕ → Bool → Type 0
IsPlaceJudged rs i opened true = HasCause rs i RegionOrder
IsPlaceJudged rs i opened false = IsInPlace rs i opened

-- the end of each region that one of the first n records ends has the number of its begin, if it has one
abbrev pub AreLinkedOrNot : List Record → ℕ → List (Option ℕ) → Type 0
AreLinkedOrNot rs n links =
    (i task : ℕ) (kind : SyncKind) → i < n → at region rs i ≡ Some (task, kind, End)
    → HasCause rs i RegionOrder ⊎ IsEndLinked rs i task kind (slice_get links i)

-- each of the first n records that begins or ends a region has the innermost one of its task that is open
-- before it
abbrev pub AreOpened : List Record → ℕ → List (Option ℕ) → Type 0
AreOpened rs n links =
    (i task : ℕ) (kind : SyncKind) (endpoint : Endpoint) → i < n
    → at region rs i ≡ Some (task, kind, endpoint)
    → slice_get links i ≡ Some (slice_get (open_regions rs task i) 0)

-- this is the first place in the file of those of the first n records that have the cause
pub record IsEarliestPlace (own : OwnView) (cause : Cause) (n place : ℕ) : Type 0 where
  pub has : HasCauseAt own cause place
  pub least : (number other : ℕ) → number < n → slice_get own.places number ≡ Some other
      → HasCause own.run.records number cause → place ≤ other

-- and of them none has it where none is found
abbrev pub IsEarliest : OwnView → Cause → ℕ → Option ℕ → Type 0
IsEarliest own cause n found =
    MatchOption found ((k : ℕ) → k < n → HasCause own.run.records k cause → ⊥) (IsEarliestPlace own cause n)
