-- What is complete at the end of a taskwait or a taskgroup.
use Rattle.std.proofs.Common.{◌≡◌, ◌∙◌, ℕ, zero, suc, ◌<◌, ◌≤◌, ◌+◌, ◌-◌, List, [], ◌∷◌, ◌++◌}
use Rattle.std.proofs.Common.{length, Option, Some, None, refl, sym, ap, subst, arith, inl, inr}
use Rattle.std.specs.Prelude.{slice_get, drop, Contains}
use Rattle.std.specs.Option.{option_map_or}
use Rattle.std.proofs.lemmas.Bool.{cases_lt, cases_eq, false≢true}
use Rattle.std.proofs.lemmas.Option.{none-some, same_Some, slice_get_within}
use Rattle.std.proofs.lemmas.List.{length_push}
use Rattle.ompt_events.specs.declared.records.Record.{Record}
use Rattle.ompt_events.specs.declared.records.Part.{Part}
use Rattle.ompt_events.specs.declared.records.Part.TheVariants.{Whole, Body, Event}
use Rattle.ompt_events.specs.declared.names.SyncKind.{SyncKind}
use Rattle.ompt_events.specs.declared.names.SyncKind.TheVariants.{Taskwait, Taskgroup}
use Rattle.ompt_events.specs.declared.names.Endpoint.{Endpoint}
use Rattle.ompt_events.specs.declared.names.Endpoint.TheVariants.{Begin, End, BeginEnd}
use Rattle.ompt_events.specs.Records.{creation, region}
use Rattle.ompt_events.specs.Places.{at, seen_at}
use Rattle.ompt_events.specs.Tree.{IsParent, children_before, children_between, child_number}
use Rattle.ompt_events.specs.Regions.{IsRegion, ended, at_once, is_barrier, EndsRegion}
use Rattle.ompt_events.specs.Completion.{IsPartFinished, CountsAt, IsCompleteAt}
use Rattle.ompt_events.specs.Coverage.{waited, grouped, synchronised}
use Rattle.ompt_events.proofs.PlaceLemmas.{get_at}
use Rattle.ompt_events.proofs.ListLemmas.{contains_get, get_last}
use Rattle.ompt_events.proofs.TreeLemmas.{before_child, child_place, children_more}
use Rattle.ompt_events.proofs.RegionLemmas.{own_begin, same_says}
use Rattle.online.specs.declared.kin.Kin.{Kin}
use Rattle.online.specs.Waits.{ChangesAt, EndsGroup, is_going, IsCompleteBelow, IsWaitsOf}
use Rattle.online.specs.Waits.{IsCoverComplete}
use Rattle.online.proofs.ChildLemmas.{number_rises}
use Rattle.online.proofs.CoverLemmas.{region_says}
use Rattle.online.proofs.ScopeLemmas.{scope_empty}
use Rattle.online.proofs.OpenGroupLemmas.{HasBegin, at_last}
use Rattle.online.proofs.GrowLemmas.{said_before, complete_grows, settled_grows}
use Rattle.online.proofs.StayLemmas.{made_none, by_none, creation_region}
use Rattle.online.proofs.TaskgroupLemmas.{region_made, covered}

-- the length that the new record names
pub seen_last : (rs : List Record) (r : Record) → seen_at (rs ++ r ∷ []) (length rs) ≡ r.seen
seen_last rs r = ap (λ o. option_map_or (λ (q : Record). q.seen) o 0) (get_last rs r (length rs) refl)

-- what is complete below a length is complete at a record that names it
pub complete_at : (rs : List Record) (task i n : ℕ) → n ≤ seen_at rs i → IsCompleteBelow rs n task
    → IsCompleteAt rs task i
complete_at rs task i n most complete = of complete
  where
    part_at : (part : Part) → IsPartFinished rs (λ k. seen_at rs k < n) task part
        → IsPartFinished rs (CountsAt rs i) task part
    part_at part (k, says, counts) = (k, says, inl (omega (arith, counts, most)))

    of : IsCompleteBelow rs n task → IsCompleteAt rs task i
    of (inl whole) = inl (part_at Whole whole)
    of (inr (body, event)) = inr (part_at Body body, part_at Event event)

-- ---- which region ends

-- the kind and the task of the region are those that the record names
pub record IsSame (task own : ℕ) (kind other : SyncKind) : Type 0 where
  pub task_is : own ≡ task
  pub kind_is : other ≡ kind

pub region_is : (rs : List Record) (r : Record) (task own begin : ℕ) (kind other : SyncKind) (endpoint :
    Endpoint)
    → region r.body ≡ Some (task, kind, endpoint) → IsRegion (rs ++ r ∷ []) (length rs) own other begin
    → IsSame task own kind other
region_is rs r task own begin kind other endpoint says is =
    let there = region_says (rs ++ r ∷ []) (length rs) own other begin is in
    let same =
    same_says (rs ++ r ∷ []) (length rs) own task other kind there.0 endpoint there.1
    (at_last region rs r ∙ says) in
    record { task_is = same.0; kind_is = same.1 }

-- ---- a taskwait

pub taskwait_covers : (rs : List Record) (r : Record) (table : ℕ → Option Kin) (own : ℕ) (kin : Kin)
    (endpoint : Endpoint) → IsWaitsOf rs table → region r.body ≡ Some (own, Taskwait, endpoint)
    → table own ≡ Some kin → kin.children.left ≡ 0 → kin.children.greatest ≤ r.seen → IsCoverComplete rs r
taskwait_covers rs r table own kin endpoint is says kept none most task
    (waited {parent = parent} {begin = begin} ends has) =
    let same = region_is rs r own parent begin Taskwait Taskwait endpoint says ends in
    let (i, low, creates) = before_child (rs ++ r ∷ []) parent task begin has in
    let here =
    said_before creation rs r (made_none r.body (region_made own Taskwait endpoint r.body says)) i
    (parent, task) creates in
    let P : ℕ → Type 0 = λ t. IsParent rs t task in
    let mine : IsParent rs own task = subst P same.task_is (i, here) in
    let (gone, complete) =
    scope_empty (length rs) (IsParent rs own) (is_going table) (IsCompleteBelow rs) kin.children
    (is.each own kin kept).children none task mine in
    let seen = seen_last rs r in
    complete_at (rs ++ r ∷ []) task (length rs) kin.children.greatest (omega (arith, most, seen))
    (complete_grows rs r task kin.children.greatest complete)
taskwait_covers rs r table own kin endpoint is says kept none most task
    (grouped {parent = parent} {begin = begin} ends has family) =
    let same = region_is rs r own parent begin Taskwait Taskgroup endpoint says ends in
    absurd (apart same.kind_is)
  where
    apart : Taskgroup ≡ Taskwait → ⊥
    apart e = cc
taskwait_covers rs r table own kin endpoint is says kept none most task
    (synchronised {own = member} {begin = begin} {kind = kind} number ends barrier begins mate starts has
    family) =
    let same = region_is rs r own member begin Taskwait kind endpoint says ends in
    absurd (false≢true (ap is_barrier (sym same.kind_is) ∙ barrier))

-- ---- a taskgroup

drop_get : {X : Type 0} (k : ℕ) (xs : List X) (j : ℕ) (x : X) → slice_get (drop k xs) j ≡ Some x
    → slice_get xs (k + j) ≡ Some x
drop_get zero xs j x is = let e : 0 + j ≡ j = omega arith in ap (slice_get xs) e ∙ is
drop_get (suc k) [] j x is = absurd (none-some x is)
drop_get (suc k) (y ∷ ys) j x is =
    let e : suc k + j ≡ suc (k + j) = omega arith in
    ap (slice_get (y ∷ ys)) e ∙ drop_get k ys j x is

-- a child that was created since the begin of a region
between_child : (rs : List Record) (parent begin i child : ℕ) (kind : SyncKind)
    → at region rs begin ≡ Some (parent, kind, Begin) → begin < i
    → Contains (children_between rs parent begin i) child
    → (k : ℕ) × (begin < k) × (at creation rs k ≡ Some (parent, child))
between_child rs parent begin i child kind begins low has =
    of (contains_get (children_between rs parent begin i) child has)
  where
    of : (j : ℕ) × (slice_get (children_between rs parent begin i) j ≡ Some child)
        → (k : ℕ) × (begin < k) × (at creation rs k ≡ Some (parent, child))
    of (j, at_j) =
        let (k, inside, creates, number) =
        child_place rs parent i (child_number rs parent begin + j) child
        (drop_get (child_number rs parent begin) (children_before rs parent i) j child at_j) in
        elim (cases_lt begin k) [
          | inl less ↦ (k, less, creates)
          | inr most ↦ elim (cases_eq k begin) [
            | inl same ↦ absurd (both (ap (at creation rs) (sym same) ∙ creates))
            | inr apart ↦
                let early : k + 1 ≤ begin = omega (arith, most, apart) in
                let left : k + 1 + (begin - (k + 1)) ≡ begin = omega (arith, early) in
                let rises = number_rises rs parent (k + 1) (begin - (k + 1)) in
                let up = ap (child_number rs parent) left in
                let more =
                ap length (children_more rs parent child k creates)
                ∙ length_push (children_before rs parent k) child in
                absurd (omega (arith, rises, up, more, number))
          ]
        ]
      where
        both : at creation rs begin ≡ Some (parent, child) → ⊥
        both creates' =
            let (q, there, says) = get_at creation rs begin (parent, child) creates' in
            let (p, here, tells) = get_at region rs begin (parent, kind, Begin) begins in
            let e : q ≡ p = same_Some q p (sym there ∙ here) in
            none-some (parent, kind, Begin)
            (sym (creation_region parent child q.body says)
            ∙ ap (λ (t : Record). region t.body) e ∙ tells)

-- all that a taskgroup covers is complete where it ends
pub taskgroup_covers : (rs : List Record) (r : Record) (old new : ℕ → Option Kin) (own : ℕ) (was : Kin)
    → HasBegin rs r → IsWaitsOf rs old → region r.body ≡ Some (own, Taskgroup, End) → old own ≡ Some was
    → ChangesAt (EndsGroup r.seen) own old new → IsCoverComplete rs r
taskgroup_covers rs r old new own was begins is says kept changes task
    (waited {parent = parent} {begin = begin} ends has) =
    let same = region_is rs r own parent begin Taskgroup Taskwait End says ends in
    absurd (apart same.kind_is)
  where
    apart : Taskwait ≡ Taskgroup → ⊥
    apart e = cc
taskgroup_covers rs r old new own was begins is says kept changes task
    (synchronised {own = member} {begin = begin} {kind = kind} number ends barrier begins' mate starts has
    family) =
    let same = region_is rs r own member begin Taskgroup kind End says ends in
    absurd (false≢true (ap is_barrier (sym same.kind_is) ∙ barrier))
taskgroup_covers rs r old new own was begins is says kept changes task
    (grouped {parent = parent} {begin = begin} {child = first} ends has family) =
    of parent begin ends (region_is rs r own parent begin Taskgroup Taskgroup End says ends).task_is has
  where
    none : creation r.body ≡ None
    none = made_none r.body (region_made own Taskgroup End r.body says)

    here : (start : ℕ) → EndsRegion (rs ++ r ∷ []) (length rs) own Taskgroup start
        → Contains (children_between (rs ++ r ∷ []) own start (length rs)) first
        → IsCompleteAt (rs ++ r ∷ []) task (length rs)
    here start closes inside =
        let opens = own_begin (rs ++ r ∷ []) (length rs) own start Taskgroup closes in
        let (k, later, creates) =
        between_child (rs ++ r ∷ []) own start (length rs) first opens.kind opens.begins opens.before
        inside in
        let (after, now, changed) = changes.present was kept in
        let settled =
        covered rs r own start r.seen old new
        (record { begins = begins; region_ends = closes; says = says; changes = changes; before = is })
        was after kept changed k first (said_before creation rs r none k (own, first) creates) later in
        let seen = seen_last rs r in
        complete_at (rs ++ r ∷ []) task (length rs) r.seen (omega (arith, seen))
        (settled_grows rs r (by_none rs r none) first r.seen settled task family)

    of : (parent' start : ℕ) → IsRegion (rs ++ r ∷ []) (length rs) parent' Taskgroup start → parent' ≡ own
        → Contains (children_between (rs ++ r ∷ []) parent' start (length rs)) first
        → IsCompleteAt (rs ++ r ∷ []) task (length rs)
    of parent' start (ended closes) same inside =
        let P : ℕ → Type 0 = λ t. EndsRegion (rs ++ r ∷ []) (length rs) t Taskgroup start in
        let Q : ℕ → Type 0 = λ t. Contains (children_between (rs ++ r ∷ []) t start (length rs)) first in
        here start (subst P same closes) (subst Q same inside)
    of parent' _ (at_once once) same inside =
        let same_end =
        same_says (rs ++ r ∷ []) (length rs) parent' own Taskgroup Taskgroup BeginEnd End once
        (at_last region rs r ∙ says) in
        absurd (apart same_end.2)
      where
        apart : BeginEnd ≡ End → ⊥
        apart e = cc

-- a taskgroup that begins and ends in one record covers nothing
pub at_once_covers : (rs : List Record) (r : Record) (own : ℕ)
    → region r.body ≡ Some (own, Taskgroup, BeginEnd)
    → IsCoverComplete rs r
at_once_covers rs r own says task (waited {parent = parent} {begin = begin} ends has) =
    let same = region_is rs r own parent begin Taskgroup Taskwait BeginEnd says ends in
    absurd (apart same.kind_is)
  where
    apart : Taskwait ≡ Taskgroup → ⊥
    apart e = cc
at_once_covers rs r own says task
    (synchronised {own = member} {begin = begin} {kind = kind} number ends barrier begins' mate starts has
    family) =
    let same = region_is rs r own member begin Taskgroup kind BeginEnd says ends in
    absurd (false≢true (ap is_barrier (sym same.kind_is) ∙ barrier))
at_once_covers rs r own says task
    (grouped {parent = parent} {begin = begin} {child = first} ends has family) =
    of begin ends has
  where
    of : (start : ℕ) → IsRegion (rs ++ r ∷ []) (length rs) parent Taskgroup start
        → Contains (children_between (rs ++ r ∷ []) parent start (length rs)) first
        → IsCompleteAt (rs ++ r ∷ []) task (length rs)
    of start (ended closes) inside =
        let same_end =
        same_says (rs ++ r ∷ []) (length rs) parent own Taskgroup Taskgroup End BeginEnd closes.ends
        (at_last region rs r ∙ says) in
        absurd (apart same_end.2)
      where
        apart : End ≡ BeginEnd → ⊥
        apart e = cc
    of _ (at_once once) inside =
        let (j, at_j) =
        contains_get (children_between (rs ++ r ∷ []) parent (length rs) (length rs)) first inside in
        let xs = children_before (rs ++ r ∷ []) parent (length rs) in
        let within =
        slice_get_within xs (length xs + j) first (drop_get (length xs) xs j first at_j) in
        absurd (omega (arith, within))
