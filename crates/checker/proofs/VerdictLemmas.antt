-- From what the searches find to the verdict.
use Rattle.std.proofs.Common.{◌≡◌, ℕ, ◌<◌, ◌⊎◌, List, Option, Some, None, refl}
use Rattle.std.proofs.Common.{ap, arith, inl, inr}
use Rattle.std.specs.Prelude.{is_some, Contains, slice_get, option_and_then}
use Rattle.std.proofs.lemmas.Option.{none-some}
use Rattle.ompt_events.specs.declared.records.Record.{Record}
use Rattle.ompt_events.specs.declared.records.Part.{Part}
use Rattle.ompt_events.specs.declared.records.Part.TheVariants as part
use Rattle.ompt_events.specs.declared.cause.Cause.{Cause}
use Rattle.ompt_events.specs.declared.cause.Cause.TheVariants.{SeqGap, CreatedTwice, Rootless, NotCurrent}
use Rattle.ompt_events.specs.declared.cause.Cause.TheVariants.{Moved, TurnGap, StatusOrder, RegionOrder}
use Rattle.ompt_events.specs.declared.cause.Cause.TheVariants.{TeamShort, NestedParallel, RegionNesting}
use Rattle.ompt_events.specs.declared.cause.Cause.TheVariants.{DepsPlace}
use Rattle.ompt_events.specs.declared.cause.Cause.TheVariants.{ShareWrong, EntryTwice, LengthAhead}
use Rattle.ompt_events.specs.declared.cause.Cause.TheVariants.{LengthBack, NoOrder, TargetTask}
use Rattle.ompt_events.specs.Records.{finish, region, started, wait_completed}
use Rattle.ompt_events.specs.Places.{at, places}
use Rattle.ompt_events.specs.HappensBefore.{IsStep, ledger, step}
use Rattle.ompt_events.specs.Linearization.{IsLinearization, IsGreedy}
use Rattle.ompt_events.specs.Completion.{IsPartFinished, CountsIn, CountsAt, IsCompleteIn, IsCompleteAt}
use Rattle.ompt_events.specs.Coverage.{Covers}
use Rattle.ompt_events.specs.Coverage as coverage
use Rattle.ompt_events.specs.Regions.{IsRegion, ended, at_once}
use Rattle.ompt_events.specs.declared.records.Body.{Body}
use Rattle.ompt_events.specs.declared.records.Body.TheVariants.{SyncRegion}
use Rattle.ompt_events.specs.declared.names.SyncKind.{SyncKind}
use Rattle.ompt_events.specs.declared.names.SyncKind.TheVariants.{Taskwait, Taskgroup}
use Rattle.ompt_events.specs.declared.names.Endpoint.{Endpoint}
use Rattle.ompt_events.specs.declared.names.Endpoint.TheVariants.{End, BeginEnd}
use Rattle.ompt_events.specs.Causes.{IsFreeOf, no_order}
use Rattle.ompt_events.specs.CauseNames.{all_causes}
use Rattle.checker.specs.Readings.{Reading, IsPrecededBy}
use Rattle.checker.specs.Verdicts.{ShowsNone, AreComplete, IsAlwaysComplete, IsUnfinished}
use Rattle.checker.specs.Verdicts.{IsCoveredUnfinishedBy, IsPredecessorUnfinishedBy}
use Rattle.checker.specs.Verdicts.{IsApproved}
use Rattle.ompt_events.proofs.TurnLemmas.{start_starts}
use Rattle.ompt_events.proofs.PlaceLemmas.{contains_place}
use Rattle.ompt_events.proofs.LinearizationLemmas.{greedy_grounded}
use Rattle.ompt_events.proofs.FileOrderLemmas.{file_greedy}

-- a finishing record that counts by what the record at i has seen counts in every order
counts_in : (rs : List Record) (order : List ℕ) (i k task : ℕ) (p : Part) → IsLinearization rs order
    → at finish rs k ≡ Some (task, p) → CountsAt rs i k → CountsIn rs order i k
counts_in rs order i k task p linear finishes (inl less) =
    inl (linear.rising k i (step (ledger (ap is_some finishes) less)))
counts_in rs order i k task p linear finishes (inr starts) = inr starts

part_in : (rs : List Record) (order : List ℕ) (i task : ℕ) (p : Part) → IsLinearization rs order
    → IsPartFinished rs (CountsAt rs i) task p → IsPartFinished rs (CountsIn rs order i) task p
part_in rs order i task p linear (k, finishes, counts) =
    (k, finishes, counts_in rs order i k task p linear finishes counts)

-- so what is complete by what the record has seen is complete in every order
pub complete_in : (rs : List Record) (order : List ℕ) (i task : ℕ) → IsLinearization rs order
    → IsCompleteAt rs task i → IsCompleteIn rs order task i
complete_in rs order i task linear (inl whole) = inl (part_in rs order i task part.Whole linear whole)
complete_in rs order i task linear (inr (body, event)) =
    inr (part_in rs order i task part.Body linear body, part_in rs order i task part.Event linear event)

-- ---- what is unfinished

-- what is unfinished is open where a wait ends, or late where a task starts or a taskwait is complete
pub covered_unfinished : (reading : Reading) (i task : ℕ) → IsCoveredUnfinishedBy reading i task
    → IsUnfinished reading i task
covered_unfinished reading i task is = record { required = inl is.0; incomplete = is.1 }

pub late_unfinished : (reading : Reading) (i task : ℕ) → IsPredecessorUnfinishedBy reading i task
    → IsUnfinished reading i task
late_unfinished reading i task is = record { required = inr is.0; incomplete = is.1 }

pub unfinished_cases : (reading : Reading) (i task : ℕ) → IsUnfinished reading i task
    → IsCoveredUnfinishedBy reading i task ⊎ IsPredecessorUnfinishedBy reading i task
unfinished_cases reading i task is = elim is.required [
  | inl covers ↦ inl (covers, is.incomplete)
  | inr precedes ↦ inr (precedes, is.incomplete)
]

-- a record that ends a region starts nothing
region_or_schedule : (b : Body) (own : ℕ × SyncKind × Endpoint) (task : ℕ) → region b ≡ Some own
    → (started b ≡ Some task) ⊎ (wait_completed b ≡ Some task) → ⊥
region_or_schedule (SyncRegion kind endpoint parallel own) says task ends (inl starts) = none-some task starts
region_or_schedule (SyncRegion kind endpoint parallel own) says task ends (inr completes) =
    none-some task completes
region_or_schedule _ says task ends starts = none-some says ends

pub at_cases : (rs : List Record) (i task : ℕ) (own : ℕ × SyncKind × Endpoint) → at region rs i ≡ Some own
    → (at started rs i ≡ Some task) ⊎ (at wait_completed rs i ≡ Some task) → ⊥
at_cases rs i task own ends starts = of (slice_get rs i) ends starts
  where
    of : (o : Option Record) → option_and_then (λ (r : Record). region r.body) o ≡ Some own
        → (option_and_then (λ (r : Record). started r.body) o ≡ Some task)
        ⊎ (option_and_then (λ (r : Record). wait_completed r.body) o ≡ Some task)
        → ⊥
    of None ends starts = none-some own ends
    of (Some r) ends starts = region_or_schedule r.body own task ends starts

region_ends : (rs : List Record) (i task begin : ℕ) (kind : SyncKind) → IsRegion rs i task kind begin
    → (own : ℕ × SyncKind × Endpoint) × (at region rs i ≡ Some own)
region_ends rs i task begin kind (ended ends) = ((task, kind, End), ends.ends)
region_ends rs i task begin kind (at_once says) = ((task, kind, BeginEnd), says)

pub cover_ends : (rs : List Record) (i task : ℕ) → Covers rs i task
    → (own : ℕ × SyncKind × Endpoint) × (at region rs i ≡ Some own)
cover_ends rs i task (coverage.waited {parent = parent} {begin = begin} is found) =
    region_ends rs i parent begin Taskwait is
cover_ends rs i task (coverage.grouped {parent = parent} {begin = begin} is found of) =
    region_ends rs i parent begin Taskgroup is
cover_ends rs i task
    (coverage.synchronised {own = own} {begin = begin} {kind = kind} number is barrier begins mate
    other found of) =
    region_ends rs i own begin kind is

pub preceded_starts : (reading : Reading) (i task : ℕ) → IsPrecededBy reading i task
    → (own : ℕ)
    × ((at started reading.records i ≡ Some own) ⊎ (at wait_completed reading.records i ≡ Some own))
preceded_starts reading i task (inl (dependent, explicit, start, before)) =
    (dependent, inl (start_starts reading.records i dependent start))
preceded_starts reading i task (inr (dependent, completes, before)) = (dependent, inr completes)

-- ---- a yes

-- where each required task is complete by what the record there has seen, each is complete in every order
pub always_complete : (reading : Reading) → ((i : ℕ) → AreComplete reading i) → IsAlwaysComplete reading
always_complete reading complete order linear i task required =
    complete_in reading.records order i task linear (complete i task required)

-- a yes
pub approved : (reading : Reading) (order : List ℕ) → ShowsNone reading
    → IsLinearization reading.records order → IsGreedy reading.records order
    → ((i : ℕ) → AreComplete reading i) → IsApproved reading order
approved reading order clear linear greedy complete = record {
  well_formed = clear;
  linearization = linear;
  greedy = greedy;
  finished = λ i task unfinished. unfinished.incomplete (complete i task unfinished.required);
  always_complete = always_complete reading complete;
}

-- then every record has an order
pub file_orders : (rs : List Record) → ((a b : ℕ) → IsStep rs a b → a < b) → IsFreeOf rs NoOrder
file_orders rs steps i (no_order h) =
    h.never (places rs) (greedy_grounded rs (places rs) (file_greedy rs steps)) (contains_place rs i h.within)

-- ---- causes by their numbers

pub listed : (cause : Cause) → Contains all_causes cause
listed SeqGap = (0, omega arith, refl)
listed CreatedTwice = (1, omega arith, refl)
listed Rootless = (2, omega arith, refl)
listed NotCurrent = (3, omega arith, refl)
listed Moved = (4, omega arith, refl)
listed TurnGap = (5, omega arith, refl)
listed StatusOrder = (6, omega arith, refl)
listed RegionOrder = (7, omega arith, refl)
listed TeamShort = (8, omega arith, refl)
listed NestedParallel = (9, omega arith, refl)
listed RegionNesting = (10, omega arith, refl)
listed DepsPlace = (11, omega arith, refl)
listed ShareWrong = (12, omega arith, refl)
listed EntryTwice = (13, omega arith, refl)
listed LengthAhead = (14, omega arith, refl)
listed LengthBack = (15, omega arith, refl)
listed NoOrder = (16, omega arith, refl)
listed TargetTask = (17, omega arith, refl)
