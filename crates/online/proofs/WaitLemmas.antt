-- What each step of the code leaves of what is kept.
use Rattle.std.proofs.Common.{◌≡◌, ◌≢◌, ◌∙◌, ℕ, ◌≤◌, ◌+◌, Bool, true, false, List, [], ◌∷◌, ◌++◌, length}
use Rattle.std.proofs.Common.{Option, Some, None, refl, sym, ap, subst, arith, inl, inr, ◌⊎◌}
use Rattle.std.specs.Prelude.{is_some}
use Rattle.std.specs.Prelude.{nat_eq}
use Rattle.std.specs.HashMap.{HashMap, get, IsUnchanged}
use Rattle.std.specs.Map.{lookup}
use Rattle.std.proofs.lemmas.Option.{none-some}
use Rattle.ompt_events.specs.declared.records.Record.{Record}
use Rattle.ompt_events.specs.declared.records.Body.{Body}
use Rattle.ompt_events.specs.declared.records.Body.TheVariants.{TaskSchedule, Cancel, ImplicitTask}
use Rattle.ompt_events.specs.declared.records.Part.{Part}
use Rattle.ompt_events.specs.declared.records.Part.TheVariants.{Whole, Body as PartBody, Event}
use Rattle.ompt_events.specs.declared.names.SyncKind.{SyncKind}
use Rattle.ompt_events.specs.declared.names.SyncKind.TheVariants.{Taskgroup}
use Rattle.ompt_events.specs.declared.names.Endpoint.{Endpoint}
use Rattle.ompt_events.specs.declared.names.Endpoint.TheVariants.{Begin, End}
use Rattle.ompt_events.specs.Records.{made, ended_root, finish, region}
use Rattle.ompt_events.specs.Places.{at}
use Rattle.ompt_events.specs.HappensBefore.{IsFinishing}
use Rattle.ompt_events.proofs.PlaceLemmas.{at_within}
use Rattle.ompt_events.proofs.RecordLemmas.{created_at_creation}
use Rattle.ompt_events.proofs.FileOrderLemmas.{entries_less}
use Rattle.online.specs.declared.scope.Scope.{Scope}
use Rattle.online.specs.declared.kin.Kin.{Kin}
use Rattle.online.specs.Online.{IsWatchable}
use Rattle.online.specs.Waits.{IsLive, IsCompleteBelow, ChangesAt, ChangesAbove, CountsChild}
use Rattle.online.specs.Waits.{CompletesChild, SettlesChild, Completes, BeginsGroup, EndsGroup, IsNew, Puts}
use Rattle.online.specs.Waits.{Removes, IsWaitsOf, MayFollow, IsCoverComplete, KeepsWaits, Follows}
use Rattle.online.specs.Waits.{EndsRoot, CreatesTask, CompletesTask, BeginsTaskgroup}
use Rattle.online.specs.Waits.{EndsTaskgroup}
use Rattle.online.specs.Waits.{EndsTaskwait, ChangesNothing, ChangesGroups, AreGroups, IsSameTable}
use Rattle.online.proofs.OpenGroupLemmas.{grouped, at_last}
use Rattle.online.proofs.GrowLemmas.{said_grows, complete_over}
use Rattle.online.proofs.ViewLemmas.{IsFrom, changed_from, kept_same, going_same, none_from}
use Rattle.online.proofs.KinLemmas.{moves_same, KeepsChildren, groups_same, kin_moves, groups_move}
use Rattle.online.proofs.StayLemmas.{waits_stay}
use Rattle.online.proofs.CreateLemmas.{Creates, create_waits}
use Rattle.online.proofs.DoneLemmas.{says_same, number_same, Finishes, finish_waits}
use Rattle.online.proofs.SettleLemmas.{settle_waits}
use Rattle.online.proofs.TaskgroupLemmas.{begin_waits, end_waits}
use Rattle.online.proofs.EndLemmas.{taskwait_covers, taskgroup_covers, seen_last}

-- ---- what single records say

pub finish_made : (task : ℕ) (part : Part) (b : Body) → finish b ≡ Some (task, part) → made b ≡ None
finish_made task part (TaskSchedule status turns prior next claimed) ends = refl
finish_made task part (Cancel flags own claimed) ends = refl
finish_made task part _ ends = cc

pub finish_region : (task : ℕ) (part : Part) (b : Body) → finish b ≡ Some (task, part) → region b ≡ None
finish_region task part (TaskSchedule status turns prior next claimed) ends = refl
finish_region task part (Cancel flags own claimed) ends = refl
finish_region task part _ ends = cc

pub ended_made : (root : ℕ) (b : Body) → ended_root b ≡ Some root → made b ≡ None
ended_made root (ImplicitTask End actual index flags parallel task) ends = refl
ended_made root _ ends = cc

pub ended_region : (root : ℕ) (b : Body) → ended_root b ≡ Some root → region b ≡ None
ended_region root (ImplicitTask End actual index flags parallel task) ends = refl
ended_region root _ ends = cc

-- ---- nothing changes

grouped_none : (o : Option (ℕ × SyncKind × Endpoint)) → ((task : ℕ) → o ≢ Some (task, Taskgroup, Begin))
    → ((task : ℕ) → o ≢ Some (task, Taskgroup, End)) → grouped o ≡ None
grouped_none (Some (task, Taskgroup, Begin)) begins ends = absurd (begins task refl)
grouped_none (Some (task, Taskgroup, End)) begins ends = absurd (ends task refl)
grouped_none _ begins ends = refl

pub nothing_then : (table : ℕ → Option Kin) → Follows ChangesNothing table table
nothing_then table rs r (none, begins, ends) follows is =
    waits_stay rs r table follows.ends none (grouped_none (region r.body) begins ends) is

pub keeps_same : (old new : ℕ → Option Kin) → new ≡ old → KeepsWaits old new
keeps_same old new same rs once is =
    let P : (ℕ → Option Kin) → Type 0 = λ t. IsWaitsOf rs t in subst P (sym same) is

pub keeps_unchanged : {S : Type 0} (old new : HashMap ℕ Kin S) → IsUnchanged old new
    → KeepsWaits (get nat_eq old) (get nat_eq new)
keeps_unchanged old new same =
    let f : List (ℕ × Kin) → ℕ → Option Kin = λ es task. lookup (nat_eq task) es in
    keeps_same (get nat_eq old) (get nat_eq new) (ap f same)

-- a change leaves what is counted of a task, and its taskgroups
pub regroup_keeps : (change : Kin → Kin → Type 0) (old new : ℕ → Option Kin) (task : ℕ)
    → ((was after : Kin) → change was after → ChangesGroups was after)
    → ((was after : Kin) → change was after → after.groups.items ≡ was.groups.items)
    → ChangesAt change task old new → KeepsWaits old new
regroup_keeps change old new task stays items changes rs once is = record {
  made = λ other after kept. let from = from_at other after kept in is.made other from.was from.kept;
  gone = λ other found absent.
      is.gone other found
      (none_from old other (sym (kept_same change task old new changes other) ∙ ap is_some absent));
  each = λ other after kept.
      let from = from_at other after kept in
      kin_moves rs rs old new other from.was after (moves_same rs) (says_same rs other) (keeps other)
      (number_same rs other old new (λ above kin there. let f = from_at above kin there in (f.was, f.kept)))
      (rest from.how) (is.each other from.was from.kept);
  groups = λ other after kept.
      let from = from_at other after kept in
      let P : List Scope → Type 0 = λ gs. AreGroups rs new other gs in
      subst P (same_groups from.how)
      (groups_move rs rs old new other from.was.groups.items (moves_same rs) (says_same rs other)
      (keeps other) refl (is.groups other from.was from.kept));
}
  where
    from_at : (other : ℕ) (after : Kin) → new other ≡ Some after
        → IsFrom change (other ≡ task) old other after
    from_at = changed_from change task old new changes

    keeps : (other : ℕ) → KeepsChildren rs other old new
    keeps other = record {
      kept = λ child created. kept_same change task old new changes child;
      going = λ child created.
          going_same change task old new changes (λ was after h. (stays was after h).done) child;
    }

    rest : {X : Type 0} {was after : Kin} → (X × change was after) ⊎ ((X → ⊥) × (was ≡ after))
        → ChangesGroups was after
    rest {was = was} {after = after} (inl (here, changed)) = stays was after changed
    rest {was = was} (inr (apart, same)) =
        let P : Kin → Type 0 = λ k. ChangesGroups was k in subst P same (groups_same was)

    same_groups : {X : Type 0} {was after : Kin} → (X × change was after) ⊎ ((X → ⊥) × (was ≡ after))
        → was.groups.items ≡ after.groups.items
    same_groups {was = was} {after = after} (inl (here, changed)) = sym (items was after changed)
    same_groups (inr (apart, same)) = ap (λ (k : Kin). k.groups.items) same

-- where the same is kept of each task, it is still right
pub keeps_table : (old new : ℕ → Option Kin) → IsSameTable old new → KeepsWaits old new
keeps_table old new same =
    regroup_keeps (λ was after. was ≡ after) old new 0
    (λ was after is. let P : Kin → Type 0 = λ k. ChangesGroups was k in subst P is (groups_same was))
    (λ was after is. ap (λ (k : Kin). k.groups.items) (sym is))
    (record {
      absent = λ none. same 0 ∙ none;
      present = λ kin found. (kin, same 0 ∙ found, refl);
      others = λ other apart. same other;
    })

-- ---- of a live task something is kept, by which it is not done

pub live_kept : (rs : List Record) (table : ℕ → Option Kin) (task : ℕ) → IsWaitsOf rs table → IsLive rs task
    → (kin : Kin) × (table task ≡ Some kin) × (kin.done ≡ false)
live_kept rs table task is (found, live) = of (table task) refl
  where
    done : (kin : Kin) → table task ≡ Some kin → (b : Bool) → kin.done ≡ b → kin.done ≡ false
    done kin kept false e = e
    done kin kept true e = absurd (live ((is.each task kin kept).place.over e))

    of : (o : Option Kin) → table task ≡ o → (kin : Kin) × (table task ≡ Some kin) × (kin.done ≡ false)
    of None e = absurd (live (is.gone task found e))
    of (Some kin) e = (kin, e, done kin e kin.done refl)

-- ---- a task creates a child

-- the creation, as the lemmas on it have it
pub create_case : (old with_child new : ℕ → Option Kin) (parent child number : ℕ) (kin : Kin)
    → ((above : Kin) → old parent ≡ Some above → number ≡ length above.groups.items)
    → IsNew (Some parent) number kin → Puts child kin old with_child
    → ChangesAt CountsChild parent with_child new → (rs : List Record) (r : Record)
    → CreatesTask parent child r → MayFollow rs r → IsWaitsOf rs old
    → (above : Kin) × Creates rs r parent child old with_child new above kin
create_case old with_child new parent child number kin numbers fresh puts counts rs r says follows is =
    let (above, found, going) = live_kept rs old parent is (follows.creates parent child says) in
    let P : ℕ → Type 0 = λ n. IsNew (Some parent) n kin in (
      above,
      record {
        says = says;
        follows = follows;
        found = found;
        fresh = subst P (numbers above found) fresh;
        puts = puts;
        counts = counts;
        before = is;
      },
    )

pub create_then : (old with_child new : ℕ → Option Kin) (parent child number : ℕ) (kin : Kin)
    → ((above : Kin) → old parent ≡ Some above → number ≡ length above.groups.items)
    → IsNew (Some parent) number kin → Puts child kin old with_child
    → ChangesAt CountsChild parent with_child new → Follows (CreatesTask parent child) old new
create_then old with_child new parent child number kin numbers fresh puts counts rs r says follows is =
    let (above, c) =
    create_case old with_child new parent child number kin numbers fresh puts counts rs r says follows is in
    create_waits rs r parent child old with_child new above kin c

-- where nothing is kept of the parent, no record may follow
pub create_never : (old new : ℕ → Option Kin) (parent child : ℕ) → old parent ≡ None
    → Follows (CreatesTask parent child) old new
create_never old new parent child none rs r says follows is =
    let (above, found, going) = live_kept rs old parent is (follows.creates parent child says) in
    absurd (none-some above (sym none ∙ found))

-- ---- a task is complete

-- by the record that finishes it whole or its event the task is complete
pub complete_now : (rs : List Record) (r : Record) (task : ℕ) (part : Part) → IsWatchable (rs ++ r ∷ [])
    → ((own : ℕ) → finish r.body ≡ Some (own, Event) → (k : ℕ) × (at finish rs k ≡ Some (own, PartBody)))
    → finish r.body ≡ Some (task, part) → part ≢ PartBody
    → IsCompleteBelow (rs ++ r ∷ []) (r.seen + 1) task
complete_now rs r task Whole watchable fulfils says apart =
    let seen = seen_last rs r in
    inl (length rs, at_last finish rs r ∙ says, omega (arith, seen))
complete_now rs r task PartBody watchable fulfils says apart = absurd (apart refl)
complete_now rs r task Event watchable fulfils says apart =
    let (k, ends) = fulfils task says in
    let low = at_within finish rs k (task, PartBody) ends in
    let there = said_grows finish rs r k (task, PartBody) ends in
    let order = watchable.in_order in
    let makes : IsFinishing (rs ++ r ∷ []) k = ap is_some there in
    let makes_last : IsFinishing (rs ++ r ∷ []) (length rs) = ap is_some (at_last finish rs r ∙ says) in
    let early = order.enters k makes in
    let late = order.enters (length rs) makes_last in
    let less = entries_less (rs ++ r ∷ []) k (length rs) makes low in
    let seen = seen_last rs r in
    inr (
      (k, there, omega (arith, early, late, less, seen)),
      (length rs, at_last finish rs r ∙ says, omega (arith, seen)),
    )

-- a task that is complete, as the lemmas on it have it
pub finish_case : (old marked done : ℕ → Option Kin) (task seen : ℕ) (parent : Option ℕ)
    → ChangesAt (Completes (seen + 1)) task old marked
    → ((kin : Kin) → old task ≡ Some kin → parent ≡ kin.parent)
    → ChangesAbove (CompletesChild (seen + 1)) parent marked done → (rs : List Record) (r : Record)
    → CompletesTask task seen r → MayFollow rs r → IsWaitsOf rs old
    → (kin : Kin) × Finishes (rs ++ r ∷ []) task (seen + 1) old marked done kin
finish_case old marked done task seen parent marks parents above rs r ((part, says, apart), is_seen)
    follows is =
    let (kin, found, going) = live_kept rs old task is (follows.finishes task part says apart) in
    let P : Option ℕ → Type 0 = λ p. ChangesAbove (CompletesChild (seen + 1)) p marked done in
    let complete = complete_now rs r task part follows.watchable follows.fulfils says apart in (
      kin,
      record {
        found = found;
        going = going;
        over = complete_over (rs ++ r ∷ []) task (r.seen + 1) complete;
        complete = λ explicit.
            let Q : ℕ → Type 0 = λ n. IsCompleteBelow (rs ++ r ∷ []) (n + 1) task in
            subst Q is_seen complete;
        marks = marks;
        above = subst P (parents kin found) above;
        before =
            waits_stay rs r old follows.ends (finish_made task part r.body says)
            (ap grouped (finish_region task part r.body says)) is;
      },
    )

pub finish_then : (old marked done new : ℕ → Option Kin) (task seen : ℕ) (parent : Option ℕ)
    → ChangesAt (Completes (seen + 1)) task old marked
    → ((kin : Kin) → old task ≡ Some kin → parent ≡ kin.parent)
    → ChangesAbove (CompletesChild (seen + 1)) parent marked done → KeepsWaits done new
    → Follows (CompletesTask task seen) old new
finish_then old marked done new task seen parent marks parents above keeps rs r says follows is =
    let (kin, f) = finish_case old marked done task seen parent marks parents above rs r says follows is in
    keeps (rs ++ r ∷ []) follows.once
    (finish_waits (rs ++ r ∷ []) task (seen + 1) old marked done kin f)

-- ---- a root ends

-- a root that ends, as the lemmas on it have it
pub root_end_case : (old marked : ℕ → Option Kin) (root : ℕ)
    → ((kin : Kin) → old root ≡ Some kin → kin.parent ≡ None) → ChangesAt (Completes 0) root old marked
    → (rs : List Record) (r : Record) → EndsRoot root r → MayFollow rs r → IsWaitsOf rs old
    → (kin : Kin) × Finishes (rs ++ r ∷ []) root 0 old marked marked kin
root_end_case old marked root rooted marks rs r says follows is =
    let (kin, found, going) = live_kept rs old root is (follows.stops root says) in
    let P : Option ℕ → Type 0 = λ p. ChangesAbove (CompletesChild 0) p marked marked in
    let after =
    waits_stay rs r old follows.ends (ended_made root r.body says)
    (ap grouped (ended_region root r.body says)) is in (
      kin,
      record {
        found = found;
        going = going;
        over = inr (length rs, at_last ended_root rs r ∙ says);
        complete = λ explicit.
            let (k, creates) = explicit in
            let (parent, by) = created_at_creation root (rs ++ r ∷ []) k creates in
            absurd
            (none-some parent
            (sym (rooted kin found) ∙ (after.each root kin found).place.created k parent by));
        marks = marks;
        above = subst P (sym (rooted kin found)) (λ other. refl);
        before = after;
      },
    )

pub root_end_then : (old marked new : ℕ → Option Kin) (root : ℕ)
    → ((kin : Kin) → old root ≡ Some kin → kin.parent ≡ None) → ChangesAt (Completes 0) root old marked
    → KeepsWaits marked new → Follows (EndsRoot root) old new
root_end_then old marked new root rooted marks keeps rs r says follows is =
    let (kin, f) = root_end_case old marked root rooted marks rs r says follows is in
    keeps (rs ++ r ∷ []) follows.once (finish_waits (rs ++ r ∷ []) root 0 old marked marked kin f)

-- where a task has a parent, the end of a root says nothing of it
pub root_end_never : (table : ℕ → Option Kin) (root : ℕ) → Follows (EndsRoot root) table table
root_end_never table root rs r says follows is =
    waits_stay rs r table follows.ends (ended_made root r.body says)
    (ap grouped (ended_region root r.body says)) is

-- ---- a settled task is taken out

pub settle_then : (old without new : ℕ → Option Kin) (task : ℕ) (was : Kin) → old task ≡ Some was
    → was.done ≡ true → was.family.left ≡ 0 → Removes task old without
    → ChangesAbove (SettlesChild was.group was.family.greatest) was.parent without new → KeepsWaits old new
settle_then old without new task was found done none removes above rs once is =
    settle_waits rs task old without new was (record {
      once = once;
      found = found;
      done = done;
      none = none;
      removes = removes;
      above = above;
      before = is;
    })

-- ---- taskgroups and taskwaits

pub begin_then : (old new : ℕ → Option Kin) (task : ℕ) → ChangesAt BeginsGroup task old new
    → Follows (BeginsTaskgroup task) old new
begin_then old new task changes rs r says follows is =
    begin_waits rs r task old new follows.ends says changes is

pub end_then : (old new : ℕ → Option Kin) (task seen : ℕ) (was : Kin) → old task ≡ Some was
    → ChangesAt (EndsGroup seen) task old new → Follows (EndsTaskgroup task seen) old new
end_then old new task seen was found changes rs r (says, is_seen) follows is =
    let (begin, closes) = follows.ends task Taskgroup says in
    end_waits rs r task begin seen old new
    (record {
      begins = follows.ends;
      region_ends = closes;
      says = says;
      changes = changes;
      before = is;
    })
    was found

pub end_covers : (old new : ℕ → Option Kin) (task seen : ℕ) (was : Kin) → old task ≡ Some was
    → ChangesAt (EndsGroup seen) task old new → (rs : List Record) (r : Record) → EndsTaskgroup task seen r
    → MayFollow rs r → IsWaitsOf rs old → IsCoverComplete rs r
end_covers old new task seen was found changes rs r (says, is_seen) follows is =
    let P : ℕ → Type 0 = λ n. ChangesAt (EndsGroup n) task old new in
    taskgroup_covers rs r old new task was follows.ends is says found (subst P (sym is_seen) changes)

pub wait_covers : (table : ℕ → Option Kin) (task seen : ℕ) (kin : Kin) → table task ≡ Some kin
    → kin.children.left ≡ 0 → kin.children.greatest ≤ seen → (rs : List Record) (r : Record)
    → EndsTaskwait task seen r → IsWaitsOf rs table → IsCoverComplete rs r
wait_covers table task seen kin found none most rs r ((endpoint, says), is_seen) is =
    taskwait_covers rs r table task kin endpoint is says found none (omega (arith, most, is_seen))
