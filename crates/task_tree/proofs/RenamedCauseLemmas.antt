-- Records in another order: the causes of a refusal that are read of regions, of teams and of the tree.
use Rattle.std.proofs.Common.{◌≡◌, ◌∙◌, ℕ, ◌<◌, List, length, Some, sym, ap, subst}
use Rattle.std.specs.Prelude.{is_some, Contains}
use Rattle.ompt_events.specs.declared.records.Record.{Record}
use Rattle.ompt_events.specs.declared.records.Claim.{Claim}
use Rattle.ompt_events.specs.declared.records.Membership.{Membership}
use Rattle.ompt_events.specs.declared.cause.Cause.TheVariants.{RegionOrder, TeamShort, ShareWrong}
use Rattle.ompt_events.specs.declared.names.Endpoint.TheVariants.{End}
use Rattle.ompt_events.specs.Records.{joined, region, finish, claim}
use Rattle.ompt_events.specs.Places.{at}
use Rattle.ompt_events.specs.Teams.{members_before}
use Rattle.ompt_events.specs.Causes.{HasCause, IsShort, outside, same_index, other_size, few, missed}
use Rattle.ompt_events.specs.Causes.{IsRightClaim, region_order, barrier_order, team_short, share_wrong}
use Rattle.ompt_events.proofs.PlaceLemmas.{at_within}
use Rattle.task_tree.proofs.BlindLemmas.{blind_claim, blind_finish, blind_joined, blind_region}
use Rattle.task_tree.proofs.RenamedPlaceLemmas.{IsReordered, DoMembersRise, moved_at, own_within}
use Rattle.task_tree.proofs.RenamedPlaceLemmas.{reordered_back}
use Rattle.task_tree.proofs.RenamedTreeLemmas.{same_children, moved_explicit, moved_path, same_members_before}
use Rattle.task_tree.proofs.RenamedTreeLemmas.{same_members, moved_teammate}
use Rattle.task_tree.proofs.RenamedRegionLemmas.{moved_region, moved_no_region, moved_barrier_begin}
use Rattle.task_tree.proofs.RenamedRegionLemmas.{end_of_region}

pub moved_order : {rs ss : List Record} {to back : ℕ → ℕ} → IsReordered rs ss to back → (i : ℕ)
    → HasCause rs i RegionOrder → HasCause ss (to i) RegionOrder
moved_order r i (region_order (task, kind, is)) = region_order (task, kind, moved_no_region r i task kind is)
moved_order r i (barrier_order (task, kind, endpoint, says, called, explicit)) =
    barrier_order (
      task,
      kind,
      endpoint,
      moved_at region blind_region (task, kind, endpoint) r i says,
      called,
      moved_explicit r task explicit,
    )

pub order_within : (rs : List Record) (i : ℕ) → HasCause rs i RegionOrder → i < length rs
order_within rs i (region_order (task, kind, is)) = at_within region rs i (task, kind, End) is.ends
order_within rs i (barrier_order (task, kind, endpoint, says, called, explicit)) =
    at_within region rs i (task, kind, endpoint) says

moved_earlier : {rs ss : List Record} {to back : ℕ → ℕ} → IsReordered rs ss to back → DoMembersRise rs to
    → (i : ℕ) (m e : Membership) → at joined rs i ≡ Some m → Contains (members_before rs m.parallel i) e
    → Contains (members_before ss m.parallel (to i)) e
moved_earlier r rise i m e joins has =
    let P : List Membership → Type 0 = λ l. Contains l e in
    subst P (sym (same_members_before r rise m.parallel i (ap is_some joins))) has

moved_is_short : {rs ss : List Record} {to back : ℕ → ℕ} → IsReordered rs ss to back → DoMembersRise rs to
    → (i : ℕ) → IsShort rs i → IsShort ss (to i)
moved_is_short r rise i (outside m joins out) = outside m (moved_at joined blind_joined m r i joins) out
moved_is_short r rise i (same_index m e joins has same) =
    same_index m e (moved_at joined blind_joined m r i joins) (moved_earlier r rise i m e joins has) same
moved_is_short r rise i (other_size m e joins has different) =
    other_size m e (moved_at joined blind_joined m r i joins) (moved_earlier r rise i m e joins has) different
moved_is_short r rise i (few m joins less) =
    let P : List Membership → Type 0 = λ l. length l < m.actual in
    few m (moved_at joined blind_joined m r i joins) (subst P (sym (same_members r rise m.parallel)) less)
moved_is_short {to = to} {back = back} r rise i
    (missed task member begin number kind ends barrier numbered mate never) =
    missed task member (to begin) number kind (moved_region r i task kind begin ends) barrier
    (moved_barrier_begin r task number begin numbered) (moved_teammate r rise task member mate)
    (λ start starts. never (back start) (moved_barrier_begin (reordered_back r) member number start starts))

pub short_within : (rs : List Record) (i : ℕ) → IsShort rs i → i < length rs
short_within rs i (outside m joins out) = at_within joined rs i m joins
short_within rs i (same_index m e joins has same) = at_within joined rs i m joins
short_within rs i (other_size m e joins has different) = at_within joined rs i m joins
short_within rs i (few m joins less) = at_within joined rs i m joins
short_within rs i (missed task member begin number kind ends barrier numbered mate never) =
    own_within rs task i (end_of_region rs i task kind begin ends)

pub moved_short : {rs ss : List Record} {to back : ℕ → ℕ} → IsReordered rs ss to back → DoMembersRise rs to
    → (i : ℕ) → HasCause rs i TeamShort → HasCause ss (to i) TeamShort
moved_short r rise i (team_short is) = team_short (moved_is_short r rise i is)

pub team_within : (rs : List Record) (i : ℕ) → HasCause rs i TeamShort → i < length rs
team_within rs i (team_short is) = short_within rs i is

moved_claim : {rs ss : List Record} {to back : ℕ → ℕ} → IsReordered rs ss to back
    → (task : ℕ) (claimed : Claim) → IsRightClaim rs task claimed → IsRightClaim ss task claimed
moved_claim r task claimed right = record {
  stands = moved_path r claimed.root task claimed.path right.stands;
  kept = right.kept ∙ ap length (sym (same_children r task));
}

pub moved_share : {rs ss : List Record} {to back : ℕ → ℕ} → IsReordered rs ss to back → (i : ℕ)
    → HasCause rs i ShareWrong → HasCause ss (to i) ShareWrong
moved_share r i (share_wrong (task, part, claimed, finishes, claims, wrong)) =
    share_wrong (
      task,
      part,
      claimed,
      moved_at finish blind_finish (task, part) r i finishes,
      moved_at claim blind_claim claimed r i claims,
      λ right. wrong (moved_claim (reordered_back r) task claimed right),
    )

pub share_within : (rs : List Record) (i : ℕ) → HasCause rs i ShareWrong → i < length rs
share_within rs i (share_wrong (task, part, claimed, finishes, claims, wrong)) =
    at_within claim rs i claimed claims
