-- What the first records say of a place among them, all records say.
use Rattle.std.proofs.Common.{◌≡◌, ◌∙◌, ℕ, ◌<◌, ◌≤◌, true, List, ◌++◌, length, refl, sym, subst, arith}
use Rattle.std.specs.Prelude.{◌↔◌}
use Rattle.std.proofs.lemmas.Option.{same_Some}
use Rattle.ompt_events.specs.declared.records.Record.{Record}
use Rattle.ompt_events.specs.declared.names.SyncKind.{SyncKind}
use Rattle.ompt_events.specs.declared.cause.Cause.TheVariants.{CreatedTwice, TeamShort}
use Rattle.ompt_events.specs.Records.{running}
use Rattle.ompt_events.specs.Tree.{children_before}
use Rattle.ompt_events.specs.Teams.{IsTeammate}
use Rattle.ompt_events.specs.Regions.{open_regions, IsRegion, IsBarrierBegin, is_barrier}
use Rattle.ompt_events.specs.Causes.{IsFreeOf}
use Rattle.ompt_events.proofs.PlaceLemmas.{at_within}
use Rattle.online.specs.Online.{IsWatchable, HasTeamBegun, AreBegun, HasWholeTeam}
use Rattle.online.proofs.ReadLemmas.{same_append, same_whole}
use Rattle.online.proofs.NameLemmas.{IsRead, IsMadeBelow, running_named, read_whole, whole_long}
use Rattle.online.proofs.CurrentLemmas.{named_by, open_same}
use Rattle.online.proofs.ChildLemmas.{children_read}
use Rattle.online.proofs.BarrierLemmas.{region_same, region_begin, barrier_begin_back, barrier_begin_stays}
use Rattle.online.proofs.BarrierLemmas.{barrier_runs}
use Rattle.online.proofs.SizeLemmas.{mates_whole, whole_of_free}

pub children_kept : (before after : List Record) (parent i : ℕ) → i ≤ length before
    → children_before (before ++ after) parent i ≡ children_before before parent i
children_kept before after = children_read (length before) (before ++ after) before (same_append before after)

pub opened_kept : (before after : List Record) (task i : ℕ) → i ≤ length before
    → open_regions (before ++ after) task i ≡ open_regions before task i
opened_kept before after = open_same (length before) (before ++ after) before (same_append before after)

pub region_kept : (before after : List Record) (i task begin : ℕ) (kind : SyncKind) → i < length before
    → IsRegion before i task kind begin ↔ IsRegion (before ++ after) i task kind begin
region_kept before after i task begin kind below = (
  region_same (length before) before (before ++ after) (same_whole before after) i task kind begin below,
  region_same (length before) (before ++ after) before (same_append before after) i task kind begin below,
)

pub barrier_kept : (before after : List Record) (task number start : ℕ) → start < length before
    → IsBarrierBegin before task number start ↔ IsBarrierBegin (before ++ after) task number start
barrier_kept before after task number start low = (
  barrier_begin_stays (length before) before (before ++ after) (same_whole before after) refl
      (whole_long before after) task number start,
  barrier_begin_back (length before) (before ++ after) before (same_append before after)
      (whole_long before after) refl task number start low,
)

-- where a barrier ends among the first, its task was made there, and what is known of its team there
pub record EndsThere (before after : List Record) (own number : ℕ) : Type 0 where
  pub read : IsRead (length before) (before ++ after)
  pub made : IsMadeBelow (length before) (before ++ after) own
  pub whole : HasWholeTeam before own
  pub begun : (member : ℕ) → IsTeammate before own member
      → (start : ℕ) × IsBarrierBegin before member number start

ends_there : (before after : List Record) (i own begin number : ℕ) (kind : SyncKind)
    → IsWatchable (before ++ after) → IsFreeOf (before ++ after) CreatedTwice → i < length before
    → HasTeamBegun before i → IsRegion (before ++ after) i own kind begin → is_barrier kind ≡ true
    → IsBarrierBegin (before ++ after) own number begin → EndsThere before after own number
ends_there before after i own begin number kind watchable once below begun is barrier begins =
    let early = region_begin (before ++ after) i own kind begin is in
    let inside : begin < length before = omega (arith, early, below) in
    let read = read_whole before after watchable once in
    let begins_here = (barrier_kept before after own number begin inside).1 begins in
    let ends_here = (region_kept before after i own begin kind below).1 is in
    let team = begun own begin number kind ends_here barrier begins_here in
    let runs =
    named_by running running_named (before ++ after) begin own
    (barrier_runs (before ++ after) own number begin begins) in
    record {
      read = read;
      made = read.named begin own inside runs;
      whole = team.0;
      begun = team.1;
    }

-- a member's begin among the first
begin_low : (rs : List Record) (member number start : ℕ) → IsBarrierBegin rs member number start
    → start < length rs
begin_low rs member number start is =
    at_within running rs start member (barrier_runs rs member number start is)

-- the begins that count stand before n where the records before n have those of the whole team
pub begun_there : (before after : List Record) (i : ℕ) → IsWatchable (before ++ after)
    → IsFreeOf (before ++ after) CreatedTwice → IsFreeOf (before ++ after) TeamShort → i < length before
    → HasTeamBegun before i → AreBegun (before ++ after) (length before) i
begun_there before after i watchable once free below begun own begin member number start kind is barrier
    begins mate starts =
    let team = ends_there before after i own begin number kind watchable once below begun is barrier begins in
    let found =
    team.begun member
    (mates_whole before after (whole_of_free (before ++ after) free) team.read own member team.made team.whole
    mate) in
    let low = begin_low before member number found.0 found.1 in
    let same : found.0 ≡ start =
    same_Some found.0 start
    (sym ((barrier_kept before after member number found.0 low).0 found.1) ∙ starts) in
    subst (λ k. k < length before) same low
