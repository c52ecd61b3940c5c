-- Records in another order, in which each task's own records stand as they did, say the same of tasks, teams,
-- dependences, regions and what the end of a region waits for, and have the same causes of a refusal.
use Rattle.std.proofs.Common.{◌≡◌, ℕ, ◌<◌, List, length, sym, subst, arith, inl, inr}
use Rattle.std.proofs.lemmas.Bool.{cases_lt}
use Rattle.std.specs.Prelude.{◌↔◌}
use Rattle.ompt_events.specs.declared.records.Record.{Record}
use Rattle.ompt_events.specs.declared.cause.Cause.TheVariants.{RegionOrder, TeamShort, ShareWrong}
use Rattle.ompt_events.specs.declared.names.SyncKind.{SyncKind}
use Rattle.ompt_events.specs.declared.names.SyncKind.TheVariants.{Taskwait, Taskgroup}
use Rattle.ompt_events.specs.Tree.{children, HasPath}
use Rattle.ompt_events.specs.Dependences.{IsPredecessor}
use Rattle.ompt_events.specs.Regions.{IsRegion}
use Rattle.ompt_events.specs.Coverage.{Covers, waited, grouped, synchronised}
use Rattle.ompt_events.specs.Causes.{HasCause}
use Rattle.task_tree.specs.Renaming.{IsRenaming}
use Rattle.task_tree.proofs.RenamedPlaceLemmas.{IsReordered, DoMembersRise, reordered, reordered_back}
use Rattle.task_tree.proofs.RenamedPlaceLemmas.{members_back, own_within}
use Rattle.task_tree.proofs.RenamedTreeLemmas.{same_children, moved_path, moved_predecessor}
use Rattle.task_tree.proofs.RenamedRegionLemmas.{end_of_region, moved_covers}
use Rattle.task_tree.proofs.RenamedCauseLemmas.{moved_order, order_within, moved_short, team_within}
use Rattle.task_tree.proofs.RenamedCauseLemmas.{moved_share, share_within}

-- the other way round
renamed_back : {rs ss : List Record} {to back : ℕ → ℕ} → IsRenaming rs ss to back → IsReordered ss rs back to
renamed_back r = reordered_back (reordered r)

members_renamed : {rs ss : List Record} {to back : ℕ → ℕ} → IsRenaming rs ss to back → DoMembersRise ss back
members_renamed r = members_back (reordered r) r.members_rise

-- what stands within the records in the other order stood within them
from_within : {rs ss : List Record} {to back : ℕ → ℕ} → IsRenaming rs ss to back → (i : ℕ) → to i < length ss
    → i < length rs
from_within {rs} r i inside = elim (cases_lt i (length rs)) [
  | inl within ↦ within
  | inr past ↦ absurd (omega (arith, r.to_past i past, inside))
]

-- what is moved both ways holds at a place exactly where it holds in the other order
both_ways : {rs ss : List Record} {to back : ℕ → ℕ} → IsRenaming rs ss to back → (P Q : ℕ → Type 0)
    → ((i : ℕ) → P i → Q (to i)) → ((j : ℕ) → Q j → P (back j)) → ((j : ℕ) → Q j → j < length ss) → (i : ℕ)
    → P i ↔ Q (to i)
both_ways {to = to} r P Q forth other within i =
    (forth i, λ there. subst P (r.back_to i (from_within r i (within (to i) there))) (other (to i) there))

-- ---- the tree

pub renamed_children : {rs ss : List Record} {to back : ℕ → ℕ} → IsRenaming rs ss to back → (parent : ℕ)
    → children rs parent ≡ children ss parent
renamed_children r parent = sym (same_children (reordered r) parent)

pub renamed_path : {rs ss : List Record} {to back : ℕ → ℕ} → IsRenaming rs ss to back
    → (root task : ℕ) (path : List ℕ) → HasPath rs root task path ↔ HasPath ss root task path
renamed_path r root task path =
    (moved_path (reordered r) root task path, moved_path (renamed_back r) root task path)

-- ---- dependences

pub renamed_predecessor : {rs ss : List Record} {to back : ℕ → ℕ} → IsRenaming rs ss to back
    → (task predecessor : ℕ) → IsPredecessor rs task predecessor ↔ IsPredecessor ss task predecessor
renamed_predecessor r task predecessor =
    (moved_predecessor (reordered r) task predecessor, moved_predecessor (renamed_back r) task predecessor)

-- ---- regions

region_within : (rs : List Record) (i task : ℕ) (kind : SyncKind) (begin : ℕ) → IsRegion rs i task kind begin
    → i < length rs
region_within rs i task kind begin is = own_within rs task i (end_of_region rs i task kind begin is)

-- ---- which tasks the end of a region waits for

covers_within : (rs : List Record) (i task : ℕ) → Covers rs i task → i < length rs
covers_within rs i task (waited {parent = parent} {begin = begin} ends has) =
    region_within rs i parent Taskwait begin ends
covers_within rs i task (grouped {parent = parent} {begin = begin} ends has family) =
    region_within rs i parent Taskgroup begin ends
covers_within rs i task
    (synchronised {own = own} {begin = begin} {kind = kind} number ends barrier numbered mate starts
    has family) =
    region_within rs i own kind begin ends

pub renamed_covers : {rs ss : List Record} {to back : ℕ → ℕ} → IsRenaming rs ss to back → (i task : ℕ)
    → Covers rs i task ↔ Covers ss (to i) task
renamed_covers {rs} {ss} r i task =
    both_ways r (λ i. Covers rs i task) (λ j. Covers ss j task)
    (λ i. moved_covers (reordered r) r.members_rise i task)
    (λ j. moved_covers (renamed_back r) (members_renamed r) j task) (λ j. covers_within ss j task) i

-- ---- causes of a refusal

pub renamed_order : {rs ss : List Record} {to back : ℕ → ℕ} → IsRenaming rs ss to back → (i : ℕ)
    → HasCause rs i RegionOrder ↔ HasCause ss (to i) RegionOrder
renamed_order {rs} {ss} r i =
    both_ways r (λ i. HasCause rs i RegionOrder) (λ j. HasCause ss j RegionOrder) (moved_order (reordered r))
    (moved_order (renamed_back r)) (order_within ss) i

pub renamed_short : {rs ss : List Record} {to back : ℕ → ℕ} → IsRenaming rs ss to back → (i : ℕ)
    → HasCause rs i TeamShort ↔ HasCause ss (to i) TeamShort
renamed_short {rs} {ss} r i =
    both_ways r (λ i. HasCause rs i TeamShort) (λ j. HasCause ss j TeamShort)
    (moved_short (reordered r) r.members_rise) (moved_short (renamed_back r) (members_renamed r))
    (team_within ss) i

pub renamed_share : {rs ss : List Record} {to back : ℕ → ℕ} → IsRenaming rs ss to back → (i : ℕ)
    → HasCause rs i ShareWrong ↔ HasCause ss (to i) ShareWrong
renamed_share {rs} {ss} r i =
    both_ways r (λ i. HasCause rs i ShareWrong) (λ j. HasCause ss j ShareWrong) (moved_share (reordered r))
    (moved_share (renamed_back r)) (share_within ss) i
