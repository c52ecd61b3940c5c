-- What the end of a region covers, by the places of the creations.
use Rattle.std.proofs.Common.{◌≡◌, ◌∙◌, ℕ, ◌<◌, ◌≤◌, true, List, length}
use Rattle.std.proofs.Common.{Some, sym, subst, arith, inl, inr, ◌⊎◌}
use Rattle.std.proofs.lemmas.Bool.{cases_lt}
use Rattle.std.proofs.lemmas.Option.{same_Some, slice_get_within}
use Rattle.std.specs.Prelude.{slice_get, Contains}
use Rattle.ompt_events.specs.declared.records.Record.{Record}
use Rattle.ompt_events.specs.declared.names.SyncKind.{SyncKind}
use Rattle.ompt_events.specs.declared.names.SyncKind.TheVariants.{Taskwait, Taskgroup}
use Rattle.ompt_events.specs.Records.{creation}
use Rattle.ompt_events.specs.Places.{at}
use Rattle.ompt_events.specs.Tree.{children_before, children_between, child_number}
use Rattle.ompt_events.specs.Regions.{IsRegion, is_barrier, IsBarrierBegin}
use Rattle.ompt_events.specs.Teams.{IsTeammate}
use Rattle.ompt_events.specs.Coverage.{Covers, IsFamily, waited, grouped, synchronised}
use Rattle.ompt_events.proofs.TreeLemmas.{before_child, child_place}
use Rattle.teams.proofs.RegionEndLemmas.{ends_at}
use Rattle.wait_coverage.proofs.CoverLemmas.{child_with, number_between}
use Rattle.credit_ledger.proofs.StandLemmas.{created_child}

-- a child created before a taskwait began
pub record IsWaited (rs : List Record) (i task : ℕ) : Type 0 where
  pub parent : ℕ
  pub begin : ℕ
  pub place : ℕ
  pub is_region : IsRegion rs i parent Taskwait begin
  pub before : place < begin
  pub creates : at creation rs place ≡ Some (parent, task)

-- one of the family of a child created in a taskgroup
pub record IsGrouped (rs : List Record) (i task : ℕ) : Type 0 where
  pub parent : ℕ
  pub begin : ℕ
  pub child : ℕ
  pub place : ℕ
  pub is_region : IsRegion rs i parent Taskgroup begin
  pub from : begin ≤ place
  pub before : place < i
  pub creates : at creation rs place ≡ Some (parent, child)
  pub of : IsFamily rs child task

-- one of the family of a child that a member of the team created before its barrier with the same number
-- began
pub record IsMet (rs : List Record) (i task : ℕ) : Type 0 where
  pub own : ℕ
  pub begin : ℕ
  pub kind : SyncKind
  pub number : ℕ
  pub member : ℕ
  pub start : ℕ
  pub child : ℕ
  pub place : ℕ
  pub is_region : IsRegion rs i own kind begin
  pub barrier : is_barrier kind ≡ true
  pub begins : IsBarrierBegin rs own number begin
  pub mate : IsTeammate rs own member
  pub starts : IsBarrierBegin rs member number start
  pub before : place < start
  pub creates : at creation rs place ≡ Some (member, child)
  pub of : IsFamily rs child task

-- where a contained child was created
pub created_between : (rs : List Record) (parent begin i child : ℕ) → i ≤ length rs
    → Contains (children_between rs parent begin i) child
    → (c : ℕ) × (begin ≤ c) × (c < i) × (at creation rs c ≡ Some (parent, child))
created_between rs parent begin i child inside found =
    let numbered = number_between rs parent i (child_number rs parent begin) child inside found in
    let few = numbered.few in
    let enough = numbered.enough in
    let other = child_with rs parent i numbered.number inside few in
    let is_child : other.0 ≡ child = same_Some other.0 child (sym other.1.numbered ∙ numbered.numbered) in
    let P : ℕ → Type 0 = λ t. slice_get (children_before rs parent i) numbered.number ≡ Some t in
    let place = child_place rs parent i numbered.number child (subst P is_child other.1.there) in (
      place.0,
      after begin place.0 place.2 (let same = place.3 in omega (arith, enough, same)),
      place.1,
      place.2,
    )
  where
    after : (b c : ℕ) → at creation rs c ≡ Some (parent, child)
        → child_number rs parent b ≤ child_number rs parent c → b ≤ c
    after b c creates low = elim (cases_lt c b) [
      | inl less ↦
          let few =
          slice_get_within (children_before rs parent b) (child_number rs parent c) child
          (created_child rs c parent child b creates less) in
          absurd (omega (arith, few, low))
      | inr at_most ↦ at_most
    ]

pub covers_cases : (rs : List Record) (i task : ℕ) → Covers rs i task
    → IsWaited rs i task ⊎ (IsGrouped rs i task ⊎ IsMet rs i task)
covers_cases rs i task (waited {parent = parent} {begin = begin} there found) =
    let place = before_child rs parent task begin found in
    inl record {
      parent = parent;
      begin = begin;
      place = place.0;
      is_region = there;
      before = place.1;
      creates = place.2;
    }
covers_cases rs i task (grouped {parent = parent} {begin = begin} {child = child} there found of) =
    let inside = (ends_at rs i parent begin Taskgroup there).inside in
    let place = created_between rs parent begin i child (omega (arith, inside)) found in
    inr
    (inl record {
      parent = parent;
      begin = begin;
      child = child;
      place = place.0;
      is_region = there;
      from = place.1;
      before = place.2;
      creates = place.3;
      of = of;
    })
covers_cases rs i task
    (synchronised {own = own} {begin = begin} {member = member} {start = start} {child = child}
    {kind = kind} number there barrier begins mate starts found of) =
    let place = before_child rs member child start found in
    inr
    (inr record {
      own = own;
      begin = begin;
      kind = kind;
      number = number;
      member = member;
      start = start;
      child = child;
      place = place.0;
      is_region = there;
      barrier = barrier;
      begins = begins;
      mate = mate;
      starts = starts;
      before = place.1;
      creates = place.2;
      of = of;
    })
