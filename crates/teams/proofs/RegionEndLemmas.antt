-- What the record that ends a region says of it.
use Rattle.std.proofs.Common.{◌≡◌, ◌∙◌, ℕ, ◌<◌, ◌≤◌, List, length, Some, refl, sym, subst, arith}
use Rattle.std.specs.Prelude.{slice_get}
use Rattle.std.proofs.lemmas.Option.{same_Some}
use Rattle.ompt_events.specs.declared.records.Record.{Record}
use Rattle.ompt_events.specs.declared.names.Endpoint.{Endpoint}
use Rattle.ompt_events.specs.declared.names.Endpoint.TheVariants.{End, BeginEnd}
use Rattle.ompt_events.specs.declared.names.SyncKind.{SyncKind}
use Rattle.ompt_events.specs.Records.{region}
use Rattle.ompt_events.specs.Places.{at}
use Rattle.ompt_events.specs.Regions.{IsRegion, ended, at_once, EndsRegion}
use Rattle.ompt_events.proofs.PlaceLemmas.{at_within}
use Rattle.ompt_events.proofs.RegionLemmas.{begin_before, same_says}

-- ---- one region ends at a record

-- what ends there
pub record EndsAt (rs : List Record) (i task begin : ℕ) (kind : SyncKind) : Type 0 where
  pub endpoint : Endpoint
  pub says : at region rs i ≡ Some (task, kind, endpoint)
  pub below : begin ≤ i
  pub inside : i < length rs

pub ends_at : (rs : List Record) (i task begin : ℕ) (kind : SyncKind) → IsRegion rs i task kind begin
    → EndsAt rs i task begin kind
ends_at rs i task begin kind (ended ends) =
    record {
      endpoint = End;
      says = ends.ends;
      below = let before = begin_before rs i task begin kind ends in omega (arith, before);
      inside = at_within region rs i (task, kind, End) ends.ends;
    }
ends_at rs i task begin kind (at_once says) =
    record {
      endpoint = BeginEnd;
      says = says;
      below = omega arith;
      inside = at_within region rs i (task, kind, BeginEnd) says;
    }

pub record IsSameRegion (task other begin start : ℕ) (kind another : SyncKind) : Type 0 where
  pub task_is : task ≡ other
  pub kind_is : kind ≡ another
  pub begin_is : begin ≡ start

pub one_region : (rs : List Record) (i task other begin start : ℕ) (kind another : SyncKind)
    → IsRegion rs i task kind begin → IsRegion rs i other another start
    → IsSameRegion task other begin start kind another
one_region rs i task other begin start kind another (ended here) (ended there) =
    let same = same_says rs i task other kind another End End here.ends there.ends in
    let P : ℕ → Type 0 =
    λ t. slice_get (Rattle.ompt_events.specs.Regions.open_regions rs t i) 0 ≡ Some start in
    record {
      task_is = same.0;
      kind_is = same.1;
      begin_is = same_Some begin start (sym here.innermost ∙ subst P (sym same.0) there.innermost);
    }
one_region rs i task other begin start kind another (ended here) (at_once there) =
    let same = same_says rs i task other kind another End BeginEnd here.ends there in absurd (cc)
one_region rs i task other begin start kind another (at_once here) (ended there) =
    let same = same_says rs i task other kind another BeginEnd End here there.ends in absurd (cc)
one_region rs i task other begin start kind another (at_once here) (at_once there) =
    let same = same_says rs i task other kind another BeginEnd BeginEnd here there in
    record { task_is = same.0; kind_is = same.1; begin_is = refl }
