-- Where no team lacks a member, and the whole team has begun each barrier that ends, no record has the cause
-- TeamShort.
use Rattle.std.proofs.Common.{ℕ, ◌<◌, ◌⊎◌, List, length, inl, inr}
use Rattle.ompt_events.specs.declared.records.Record.{Record}
use Rattle.ompt_events.specs.declared.cause.Cause.TheVariants.{TeamShort}
use Rattle.ompt_events.specs.declared.names.SyncKind.{SyncKind}
use Rattle.ompt_events.specs.declared.names.Endpoint.TheVariants.{End, BeginEnd}
use Rattle.ompt_events.specs.Records.{region}
use Rattle.ompt_events.specs.Regions.{IsRegion, ended, at_once}
use Rattle.ompt_events.proofs.PlaceLemmas.{at_within}
use Rattle.ompt_events.specs.Causes.{HasCause, team_short, IsFreeOf, IsShort, outside, same_index, other_size}
use Rattle.ompt_events.specs.Causes.{few, missed}
use Rattle.online.specs.Online.{HasTeamBegun}
use Rattle.online.specs.Rosters as rosters
use Rattle.online.specs.Rosters.{IsShortRoster, AreWhole, MissesBegin}

-- the cause is one of rosters, or of a barrier
pub short_cases : (rs : List Record) (i : ℕ) → IsShort rs i → IsShortRoster rs i ⊎ MissesBegin rs i
short_cases rs i (outside m says high) = inl (rosters.outside m says high)
short_cases rs i (same_index m e says among same) = inl (rosters.same_index m e says among same)
short_cases rs i (other_size m e says among differ) = inl (rosters.other_size m e says among differ)
short_cases rs i (few m says less) = inl (rosters.few m says less)
short_cases rs i (missed task member begin number kind ends barrier begins mate none) =
    inr (record {
      task = task;
      member = member;
      begin = begin;
      number = number;
      kind = kind;
      ends = ends;
      barrier = barrier;
      begins = begins;
      mate = mate;
      none = none;
    })

none_misses : (rs : List Record) (i : ℕ) → HasTeamBegun rs i → MissesBegin rs i → ⊥
none_misses rs i begun misses =
    let team =
    begun misses.task misses.begin misses.number misses.kind misses.ends misses.barrier misses.begins in
    let (start, is) = team.1 misses.member misses.mate in
    misses.none start is

pub none_lacks : (rs : List Record) → AreWhole rs → ((i : ℕ) → HasTeamBegun rs i) → IsFreeOf rs TeamShort
none_lacks rs whole begun i cause = of cause
  where
    of : HasCause rs i TeamShort → ⊥
    of (team_short is) = elim (short_cases rs i is) [
      | inl short ↦ whole i short
      | inr misses ↦ none_misses rs i (begun i) misses
    ]

-- a region ends only at a record
pub end_within : (rs : List Record) (i own begin : ℕ) (kind : SyncKind) → IsRegion rs i own kind begin
    → i < length rs
end_within rs i own _ kind (ended is) = at_within region rs i (own, kind, End) is.ends
end_within rs i own _ kind (at_once says) = at_within region rs i (own, kind, BeginEnd) says
