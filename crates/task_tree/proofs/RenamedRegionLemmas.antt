-- Records in another order: regions, barriers and which tasks the end of a region waits for.
use Rattle.std.proofs.Common.{◌≡◌, ◌∙◌, ℕ, zero, suc, ◌<◌, List, [], ◌∷◌, length, drop, Option, Some, None}
use Rattle.std.proofs.Common.{true, false, refl, sym, ap, subst, arith, inl, inr, ◌⊎◌, map}
use Rattle.std.proofs.lemmas.Bool.{eq-eqb}
use Rattle.std.proofs.lemmas.Option.{slice_get-map}
use Rattle.std.specs.Prelude.{◌==◌, slice_get, option_map, filter, fold, Contains}
use Rattle.std.specs.Option.{option_map_or}
use Rattle.ompt_events.specs.declared.records.Record.{Record}
use Rattle.ompt_events.specs.declared.names.Endpoint.{Endpoint}
use Rattle.ompt_events.specs.declared.names.Endpoint.TheVariants.{Begin, End, BeginEnd}
use Rattle.ompt_events.specs.declared.names.SyncKind.{SyncKind}
use Rattle.ompt_events.specs.declared.names.SyncKind.TheVariants.{Taskwait, Taskgroup}
use Rattle.ompt_events.specs.Records.{region, running}
use Rattle.ompt_events.specs.Places.{at, is_own, own_before}
use Rattle.ompt_events.specs.Tree.{children_before, children_between}
use Rattle.ompt_events.specs.Regions.{after_region, open_regions, kind_at, EndsRegion, IsRegion, ended}
use Rattle.ompt_events.specs.Regions.{at_once, EndsNoRegion, barrier_begun, begins_barrier, barrier_begins}
use Rattle.ompt_events.specs.Regions.{IsBarrierBegin}
use Rattle.ompt_events.specs.Coverage.{Covers, waited, grouped, synchronised}
use Rattle.ompt_events.proofs.RecordLemmas.{at_through, region_running}
use Rattle.ompt_events.proofs.PlaceLemmas.{at_within}
use Rattle.ompt_events.proofs.ListLemmas.{get_contains}
use Rattle.task_tree.proofs.RisingListLemmas.{IsIn, filter_in, filter-map, IsCut}
use Rattle.task_tree.proofs.BlindLemmas.{blind_region}
use Rattle.task_tree.proofs.RenamedPlaceLemmas.{IsReordered, same_at, moved_at, own_within, own_cut, past_cut}
use Rattle.task_tree.proofs.RenamedPlaceLemmas.{DoMembersRise, own_before_cut, own_in, reordered_back}
use Rattle.task_tree.proofs.RenamedTreeLemmas.{children_cut, moved_family, moved_teammate}

-- ---- open regions

after_mapped : (to : ℕ → ℕ) (opened : List ℕ) (k : ℕ) (o : Option (ℕ × SyncKind × Endpoint))
    → after_region (map to opened) (to k) o ≡ map to (after_region opened k o)
after_mapped to opened k None = refl
after_mapped to opened k (Some (task, kind, Begin)) = refl
after_mapped to [] k (Some (task, kind, End)) = refl
after_mapped to (x ∷ xs) k (Some (task, kind, End)) = refl
after_mapped to opened k (Some (task, kind, BeginEnd)) = refl

opened_mapped : (to : ℕ → ℕ) (g h : ℕ → Option (ℕ × SyncKind × Endpoint)) (opened xs : List ℕ)
    → ((k : ℕ) → IsIn k xs → g (to k) ≡ h k)
    → fold (λ o k. after_region o k (g k)) (map to opened) (map to xs)
    ≡ map to (fold (λ o k. after_region o k (h k)) opened xs)
opened_mapped to g h opened [] same = refl
opened_mapped to g h opened (x ∷ xs) same =
    ap (λ l. fold (λ o k. after_region o k (g k)) l (map to xs))
    (ap (after_region (map to opened) (to x)) (same x (inl refl)) ∙ after_mapped to opened x (h x))
    ∙ opened_mapped to g h (after_region opened x (h x)) xs (λ k is. same k (inr is))

pub open_cut : {rs ss : List Record} {to back : ℕ → ℕ} → IsReordered rs ss to back → (task n m : ℕ)
    → IsCut (is_own rs task) to n m → open_regions ss task m ≡ map to (open_regions rs task n)
open_cut {rs} {ss} {to} r task n m cut =
    ap (fold (λ opened k. after_region opened k (at region ss k)) []) (own_before_cut r task n m cut)
    ∙ opened_mapped to (at region ss) (at region rs) [] (own_before rs task n)
    (λ k is. same_at region blind_region r k (own_within rs task k (own_in rs task n k is)))

-- an open region began at one of the places
after_in : (z k : ℕ) (opened : List ℕ) (o : Option (ℕ × SyncKind × Endpoint))
    → IsIn z (after_region opened k o) → IsIn z opened ⊎ (z ≡ k)
after_in z k opened None is = inl is
after_in z k opened (Some (task, kind, Begin)) (inl same) = inr same
after_in z k opened (Some (task, kind, Begin)) (inr is) = inl is
after_in z k [] (Some (task, kind, End)) is = inl is
after_in z k (x ∷ xs) (Some (task, kind, End)) is = inl (inr is)
after_in z k opened (Some (task, kind, BeginEnd)) is = inl is

opened_in : (h : ℕ → Option (ℕ × SyncKind × Endpoint)) (z : ℕ) (opened xs : List ℕ)
    → IsIn z (fold (λ o k. after_region o k (h k)) opened xs) → IsIn z opened ⊎ IsIn z xs
opened_in h z opened [] is = inl is
opened_in h z opened (x ∷ xs) is = elim (opened_in h z (after_region opened x (h x)) xs is) [
  | inr later ↦ inr (inr later)
  | inl before ↦ elim (after_in z x opened (h x) before) [
    | inl old ↦ inl old
    | inr same ↦ inr (inl same)
  ]
]

contains_in : (z : ℕ) (xs : List ℕ) → Contains xs z → IsIn z xs
contains_in z [] (k, below, is) = absurd (omega (arith, below))
contains_in z (x ∷ xs) (zero, below, is) = inl (sym is)
contains_in z (x ∷ xs) (suc k, below, is) = inr (contains_in z xs (k, omega (arith, below), is))

get_in : (z number : ℕ) (xs : List ℕ) → slice_get xs number ≡ Some z → IsIn z xs
get_in z number xs is = contains_in z xs (get_contains xs z number is)

pub region_own : (rs : List Record) (i task : ℕ) (kind : SyncKind) (endpoint : Endpoint)
    → at region rs i ≡ Some (task, kind, endpoint) → is_own rs task i ≡ true
region_own rs i task kind endpoint says =
    ap (λ (o : Option ℕ). option_map_or (λ t. t == task) o false)
    (at_through region running (task, kind, endpoint) task rs i (region_running task kind endpoint) says)
    ∙ eq-eqb task task refl

begin_own : (rs : List Record) (i task : ℕ) (kind : SyncKind) (begin : ℕ) → EndsRegion rs i task kind begin
    → is_own rs task begin ≡ true
begin_own rs i task kind begin is_end =
    elim
    (opened_in (at region rs) begin [] (own_before rs task i)
    (get_in begin 0 (open_regions rs task i) is_end.innermost)) [
      | inl none ↦ absurd none
      | inr is ↦ own_in rs task i begin is
    ]

-- the begin of a region is a record of its task's own, and so is its end
pub begin_of_region : (rs : List Record) (i task : ℕ) (kind : SyncKind) (begin : ℕ)
    → IsRegion rs i task kind begin → is_own rs task begin ≡ true
begin_of_region rs i task kind begin (ended is) = begin_own rs i task kind begin is
begin_of_region rs i task kind begin (at_once says) = region_own rs i task kind BeginEnd says

pub end_of_region : (rs : List Record) (i task : ℕ) (kind : SyncKind) (begin : ℕ)
    → IsRegion rs i task kind begin → is_own rs task i ≡ true
end_of_region rs i task kind begin (ended is) = region_own rs i task kind End is.ends
end_of_region rs i task kind begin (at_once says) = region_own rs i task kind BeginEnd says

-- ---- regions

same_kind_at : {rs ss : List Record} {to back : ℕ → ℕ} → IsReordered rs ss to back → (i : ℕ) → i < length rs
    → kind_at ss (to i) ≡ kind_at rs i
same_kind_at r i within =
    ap (option_map (λ (r : ℕ × SyncKind × Endpoint). r.1)) (same_at region blind_region r i within)

pub moved_end : {rs ss : List Record} {to back : ℕ → ℕ} → IsReordered rs ss to back
    → (i task : ℕ) (kind : SyncKind) (begin : ℕ) → EndsRegion rs i task kind begin
    → EndsRegion ss (to i) task kind (to begin)
moved_end {rs} {ss} {to} r i task kind begin is_end = record {
  ends = moved_at region blind_region (task, kind, End) r i is_end.ends;
  innermost =
      ap (λ l. slice_get l 0)
      (open_cut r task i (to i) (own_cut r task i (region_own rs i task kind End is_end.ends)))
      ∙ slice_get-map to (open_regions rs task i) 0
      ∙ ap (option_map to) is_end.innermost;
  same_kind =
      same_kind_at r begin (own_within rs task begin (begin_own rs i task kind begin is_end))
      ∙ is_end.same_kind;
}

pub moved_region : {rs ss : List Record} {to back : ℕ → ℕ} → IsReordered rs ss to back
    → (i task : ℕ) (kind : SyncKind) (begin : ℕ) → IsRegion rs i task kind begin
    → IsRegion ss (to i) task kind (to begin)
moved_region r i task kind begin (ended is) = ended (moved_end r i task kind begin is)
moved_region r i task kind begin (at_once says) =
    at_once (moved_at region blind_region (task, kind, BeginEnd) r i says)

-- the same of a place in the other order
pub moved_no_region : {rs ss : List Record} {to back : ℕ → ℕ} → IsReordered rs ss to back
    → (i task : ℕ) (kind : SyncKind) → EndsNoRegion rs i task kind → EndsNoRegion ss (to i) task kind
moved_no_region {rs} {ss} {to} {back} r i task kind is = record { ends = ends; none = none }
  where
    ends : at region ss (to i) ≡ Some (task, kind, End)
    ends = moved_at region blind_region (task, kind, End) r i is.ends

    none : (begin : ℕ) → slice_get (open_regions ss task (to i)) 0 ≡ Some begin → kind_at ss begin ≡ Some kind
        → ⊥
    none begin innermost same =
        let there : EndsRegion ss (to i) task kind begin = record {
          ends = ends;
          innermost = innermost;
          same_kind = same;
        } in
        let moved : EndsRegion rs (back (to i)) task kind (back begin) =
        moved_end (reordered_back r) (to i) task kind begin there in
        let P : ℕ → Type 0 = λ k. EndsRegion rs k task kind (back begin) in
        let here : EndsRegion rs i task kind (back begin) =
        subst P (r.back_to i (at_within region rs i (task, kind, End) is.ends)) moved in
        is.none (back begin) here.innermost here.same_kind

-- ---- barriers

pub same_barriers : {rs ss : List Record} {to back : ℕ → ℕ} → IsReordered rs ss to back → (task : ℕ)
    → barrier_begins ss task ≡ map to (barrier_begins rs task)
same_barriers {rs} {ss} {to} r task =
    ap (filter (begins_barrier ss task))
    (own_before_cut r task (length rs) (length ss)
    (past_cut r task (length rs) (length ss) (omega arith) (omega arith)))
    ∙ filter-map to (begins_barrier rs task) (begins_barrier ss task) (own_before rs task (length rs)) (
    λ k is.
    ap (λ (o : Option (ℕ × SyncKind × Endpoint)). option_map_or (λ t. t == task) (barrier_begun o) false)
    (same_at region blind_region r k (own_within rs task k (own_in rs task (length rs) k is))))

pub moved_barrier_begin : {rs ss : List Record} {to back : ℕ → ℕ} → IsReordered rs ss to back
    → (task number start : ℕ) → IsBarrierBegin rs task number start → IsBarrierBegin ss task number (to start)
moved_barrier_begin {rs} {ss} {to} r task number start is =
    ap (λ l. slice_get l number) (same_barriers r task) ∙ slice_get-map to (barrier_begins rs task) number
    ∙ ap (option_map to) is

pub barrier_own : (rs : List Record) (task number start : ℕ) → IsBarrierBegin rs task number start
    → is_own rs task start ≡ true
barrier_own rs task number start is =
    own_in rs task (length rs) start
    (filter_in (begins_barrier rs task) start (own_before rs task (length rs))
    (get_in start number (barrier_begins rs task) is)).0

-- ---- which tasks the end of a region waits for

moved_children_before : {rs ss : List Record} {to back : ℕ → ℕ} → IsReordered rs ss to back
    → (parent i task : ℕ) → is_own rs parent i ≡ true → Contains (children_before rs parent i) task
    → Contains (children_before ss parent (to i)) task
moved_children_before {to = to} r parent i task own has =
    let P : List ℕ → Type 0 = λ l. Contains l task in
    subst P (sym (children_cut r parent i (to i) (own_cut r parent i own))) has

pub same_children_between : {rs ss : List Record} {to back : ℕ → ℕ} → IsReordered rs ss to back
    → (parent begin i : ℕ) → is_own rs parent begin ≡ true → is_own rs parent i ≡ true
    → children_between ss parent (to begin) (to i) ≡ children_between rs parent begin i
same_children_between {rs} {ss} {to} r parent begin i own_begin own =
    ap (λ l. drop (length l) (children_before ss parent (to i)))
    (children_cut r parent begin (to begin) (own_cut r parent begin own_begin))
    ∙ ap (drop (length (children_before rs parent begin)))
    (children_cut r parent i (to i) (own_cut r parent i own))

pub moved_covers : {rs ss : List Record} {to back : ℕ → ℕ} → IsReordered rs ss to back → DoMembersRise rs to
    → (i task : ℕ) → Covers rs i task → Covers ss (to i) task
moved_covers {rs} r rise i task (waited {parent = parent} {begin = begin} ends has) =
    waited (moved_region r i parent Taskwait begin ends)
    (moved_children_before r parent begin task (begin_of_region rs i parent Taskwait begin ends) has)
moved_covers {rs} r rise i task (grouped {parent = parent} {begin = begin} {child = child} ends has family) =
    let P : List ℕ → Type 0 = λ l. Contains l child in
    grouped (moved_region r i parent Taskgroup begin ends)
    (subst P
    (sym
    (same_children_between r parent begin i (begin_of_region rs i parent Taskgroup begin ends)
    (end_of_region rs i parent Taskgroup begin ends)))
    has)
    (moved_family r child task family)
moved_covers {rs} r rise i task
    (synchronised {own = own} {begin = begin} {member = member} {start = start} {child = child}
    {kind = kind} number ends barrier numbered mate starts has family) =
    synchronised number (moved_region r i own kind begin ends) barrier
    (moved_barrier_begin r own number begin numbered) (moved_teammate r rise own member mate)
    (moved_barrier_begin r member number start starts)
    (moved_children_before r member start child (barrier_own rs member number start starts) has)
    (moved_family r child task family)
