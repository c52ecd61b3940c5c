-- How the open regions change from record to record, the first place in the file at which a region may not
-- begin or end, and where a region began.
use Rattle.std.proofs.Common.{◌≡◌, ◌≢◌, ◌∙◌, ℕ, ◌<◌, ◌≤◌, ◌+◌, min, Bool, List, [], ◌∷◌, length, Option, Some}
use Rattle.std.proofs.Common.{None, true, false, refl, sym, ap, subst, arith, inl, inr, ◌⊎◌, set}
use Rattle.std.proofs.Math.Nat.{min-le_left, min-le_right, min-eq_left, min-eq_right}
use Rattle.std.proofs.lemmas.Bool.{cases_eq, cases_lt, false≢true}
use Rattle.std.proofs.lemmas.Option.{none-some, same_Some, slice_get_within, slice_get-get_or}
use Rattle.std.proofs.lemmas.Option.{get_or_from_slice_get}
use Rattle.std.proofs.lemmas.List.Elements.{All-nil}
use Rattle.std.proofs.lemmas.List.{length-set, get_or-set_same, get_or-set_other}
use Rattle.std.specs.Prelude.{◌↔◌, IsTrue, All, MatchOption, slice_get, slice_index_or}
use Rattle.ompt_events.specs.declared.records.Record.{Record}
use Rattle.ompt_events.specs.declared.names.Endpoint.{Endpoint}
use Rattle.ompt_events.specs.declared.names.Endpoint.TheVariants.{Begin, End, BeginEnd}
use Rattle.ompt_events.specs.declared.names.SyncKind.{SyncKind}
use Rattle.ompt_events.specs.declared.cause.Cause.{Cause}
use Rattle.ompt_events.specs.declared.cause.Cause.TheVariants.{RegionOrder}
use Rattle.ompt_events.specs.Records.{region}
use Rattle.ompt_events.specs.Places.{at}
use Rattle.ompt_events.specs.Tree.{IsExplicit}
use Rattle.ompt_events.specs.Regions.{after_region, open_regions, kind_at, is_called_barrier, EndsRegion}
use Rattle.ompt_events.specs.Regions.{IsRegion, ended, at_once}
use Rattle.ompt_events.specs.Causes.{HasCause, region_order, barrier_order, IsFreeOf}
use Rattle.ompt_events.specs.Shown.{AreAllBelow}
use Rattle.ompt_events.proofs.ShownLemmas.{none_below}
use Rattle.ompt_events.proofs.RegionLemmas.{open_none, open_other, open_own, same_says}
use Rattle.ompt_events.proofs.PlaceLemmas.{at_within}
use Rattle.index_tables.specs.Numbering.{AreApart}
use Rattle.task_tree.proofs.LinkLemmas.{get_set_same, get_set_other}
use Rattle.task_tree.specs.OwnOrder.{AreAllPlaces}
use Rattle.task_tree.specs.Own.{OwnView, HasCauseAt, IsFirstPlaceWith, AreAllPlacesWith}
use Rattle.task_tree.specs.Own.{FindsFirstPlace}
use Rattle.task_tree.specs.Runs.{RunView, IsRegionEvent}
use Rattle.task_tree.proofs.RenamedCauseLemmas.{order_within}
use Rattle.task_states.specs.Regions.{RegionsView, AreRegions, IsEndLinked, IsRegionBegin, below_of}
use Rattle.task_states.specs.Regions.{top_after}
use Rattle.task_states.specs.Regions.{IsStack, IsInnermost, IsInPlace, IsPlaceJudged, AreLinkedOrNot}
use Rattle.task_states.specs.Regions.{AreOpened, AreLinked}
use Rattle.task_states.specs.Regions.{IsEarliestPlace, IsEarliest}

-- a stack stays when one more link is written, or none
stack_more : (links : List (Option ℕ)) (n : ℕ) (link top : Option ℕ) (stack : List ℕ)
    → IsStack links n top stack → IsStack (set links n link) (n + 1) top stack
stack_more links n link top [] is = is
stack_more links n link top (begin ∷ below) (is, within, rest) =
    let apart : begin ≢ n = λ e. absurd (omega (arith, within, e)) in
    let same : below_of (set links n link) top ≡ below_of links top =
    ap (below_of (set links n link)) is ∙ get_or-set_other links n begin link None apart
    ∙ ap (below_of links) (sym is) in
    (is, omega (arith, within), rw same (stack_more links n link (below_of links top) below rest))

stack_still : (links : List (Option ℕ)) (n : ℕ) (top : Option ℕ) (stack : List ℕ) → IsStack links n top stack
    → IsStack links (n + 1) top stack
stack_still links n top [] is = is
stack_still links n top (begin ∷ below) (is, within, rest) =
    (is, omega (arith, within), stack_still links n (below_of links top) below rest)

-- the innermost open region of the task with this index
abbrev pub top_of : List (Option ℕ) → ℕ → Option ℕ
top_of innermost index = slice_index_or innermost index None

-- what is known of the open regions after n records
pub record AreOpen (rs : List Record) (n : ℕ) (tasks : List ℕ) (innermost links : List (Option ℕ)) : Type 0
  where
    pub all : length links ≡ length rs
    pub tops : length innermost ≡ length tasks
    pub stacks : (index task : ℕ) → slice_get tasks index ≡ Some task
        → IsStack links n (top_of innermost index) (open_regions rs task n)
    pub linked : AreLinkedOrNot rs n links
    pub opened : AreOpened rs n links

-- the innermost open region of a task is at the top of its stack
top_first : (links : List (Option ℕ)) (n : ℕ) (top : Option ℕ) (stack : List ℕ) → IsStack links n top stack
    → top ≡ slice_get stack 0
top_first links n top [] is = is
top_first links n top (begin ∷ below) (is, within, rest) = is

pub innermost_here : (run : RunView) (n index : ℕ) (innermost links : List (Option ℕ)) (link : Option ℕ)
    → AreOpen run.records n run.family.tasks innermost links → link ≡ top_of innermost index
    → IsInnermost run n index link
innermost_here run n index innermost links link are is_top task is =
    is_top
    ∙ top_first links n (top_of innermost index) (open_regions run.records task n)
    (are.stacks index task is)

linked_more : (rs : List Record) (n : ℕ) (links : List (Option ℕ)) (link : Option ℕ) (misplaced : Bool)
    → n < length links → AreLinkedOrNot rs n links → IsPlaceJudged rs n link misplaced
    → AreLinkedOrNot rs (n + 1) (set links n link)
linked_more rs n links link misplaced low linked judged i task kind below ends = elim (cases_eq i n) [
  | inl same ↦
      let P : ℕ → Type 0 =
      λ j. HasCause rs j RegionOrder ⊎ IsEndLinked rs j task kind (slice_get (set links n link) j) in
      subst P (sym same) (here misplaced judged (ap (at region rs) (sym same) ∙ ends))
  | inr apart ↦
      let P : Option (Option ℕ) → Type 0 = λ o. HasCause rs i RegionOrder ⊎ IsEndLinked rs i task kind o in
      subst P (sym (get_set_other links n i link apart))
      (linked i task kind (omega (arith, below, apart)) ends)
]
  where
    here : (misplaced : Bool) → IsPlaceJudged rs n link misplaced → at region rs n ≡ Some (task, kind, End)
        → HasCause rs n RegionOrder ⊎ IsEndLinked rs n task kind (slice_get (set links n link) n)
    here true has ends' = inl has
    here false fine ends' =
        let P : Option (Option ℕ) → Type 0 = IsEndLinked rs n task kind in
        inr (subst P (sym (get_set_same links n link low)) (fine.linked task kind ends'))

linked_still : (rs : List Record) (n : ℕ) (links : List (Option ℕ)) → AreLinkedOrNot rs n links
    → at region rs n ≡ None → AreLinkedOrNot rs (n + 1) links
linked_still rs n links linked none i task kind below ends = elim (cases_eq i n) [
  | inl same ↦ absurd (none-some (task, kind, End) (sym none ∙ ap (at region rs) (sym same) ∙ ends))
  | inr apart ↦ linked i task kind (omega arith) ends
]

-- the region that is open before the record at n is noted there
opened_more : (run : RunView) (n index : ℕ) (kind : SyncKind) (endpoint : Endpoint) (links : List (Option ℕ))
    (link : Option ℕ)
    → n < length links → IsRegionEvent run n index kind endpoint → IsInnermost run n index link
    → AreOpened run.records n links → AreOpened run.records (n + 1) (set links n link)
opened_more run n index kind endpoint links link low own top opened i task kind' endpoint' below says =
    elim (cases_eq i n) [
      | inl same ↦
          let is_task : own.task ≡ task =
          ap (λ (p : ℕ × SyncKind × Endpoint). p.0)
          (same_Some (own.task, kind, endpoint) (task, kind', endpoint')
          (sym own.says ∙ ap (at region run.records) (sym same) ∙ says)) in
          ap (slice_get (set links n link)) same ∙ get_set_same links n link low
          ∙ ap Some
          (top own.task own.indexed ∙ ap (λ t. slice_get (open_regions run.records t n) 0) is_task
          ∙ ap (λ j. slice_get (open_regions run.records task j) 0) (sym same))
      | inr apart ↦
          get_set_other links n i link apart
          ∙ opened i task kind' endpoint' (omega (arith, below, apart)) says
    ]

opened_still : (rs : List Record) (n : ℕ) (links : List (Option ℕ)) → AreOpened rs n links
    → at region rs n ≡ None → AreOpened rs (n + 1) links
opened_still rs n links opened none i task kind endpoint below says = elim (cases_eq i n) [
  | inl same ↦ absurd (none-some (task, kind, endpoint) (sym none ∙ ap (at region rs) (sym same) ∙ says))
  | inr apart ↦ opened i task kind endpoint (omega (arith, below, apart)) says
]

-- a record of no region
pub open_more_none : (rs : List Record) (n : ℕ) (tasks : List ℕ) (innermost links : List (Option ℕ))
    → AreOpen rs n tasks innermost links → at region rs n ≡ None → AreOpen rs (n + 1) tasks innermost links
open_more_none rs n tasks innermost links are none = record {
  all = are.all;
  tops = are.tops;
  stacks =
      λ index task is.
      rw (open_none rs task n none)
      (stack_still links n (top_of innermost index) (open_regions rs task n)
      (are.stacks index task is));
  linked = linked_still rs n links are.linked none;
  opened = opened_still rs n links are.opened none;
}

-- the stack of a task after its own record
own_stack : (links : List (Option ℕ)) (n own : ℕ) (kind : SyncKind) (endpoint : Endpoint) (link : Option ℕ)
    (stack : List ℕ)
    → n < length links → IsStack links n link stack
    → IsStack (set links n link) (n + 1) (top_after links link n endpoint)
    (after_region stack n (Some (own, kind, endpoint)))
own_stack links n own kind Begin link stack low is =
    let here : below_of (set links n link) (Some n) ≡ link = get_or-set_same links n link None low in
    (refl, omega arith, rw here (stack_more links n link link stack is))
own_stack links n own kind BeginEnd link stack low is = stack_more links n link link stack is
own_stack links n own kind End link [] low is = ap (below_of links) is
own_stack links n own kind End link (begin ∷ below) low (is, within, rest) =
    stack_more links n link (below_of links link) below rest

-- a record that begins or ends a region
pub open_more_own : (run : RunView) (n index : ℕ) (kind : SyncKind) (endpoint : Endpoint)
    (innermost links : List (Option ℕ)) (link : Option ℕ) (misplaced : Bool)
    → AreApart run.family.tasks → AreOpen run.records n run.family.tasks innermost links
    → IsRegionEvent run n index kind endpoint → link ≡ top_of innermost index → n < length run.records
    → IsPlaceJudged run.records n link misplaced
    → AreOpen run.records (n + 1) run.family.tasks (set innermost index (top_after links link n endpoint))
    (set links n link)
open_more_own run n index kind endpoint innermost links link misplaced apart_all are own is_top inside judged
    =
    record {
      all = length-set links n link ∙ are.all;
      tops = length-set innermost index (top_after links link n endpoint) ∙ are.tops;
      stacks = λ other task is. elim (cases_eq other index) [
        | inl same ↦
            let is_task : task ≡ own.task =
            same_Some task own.task (sym is ∙ ap (slice_get run.family.tasks) same ∙ own.indexed) in
            rw (
              same,
              get_or-set_same innermost index (top_after links link n endpoint) None within,
              is_task,
              open_own run.records own.task n kind endpoint own.says,
            )
            (own_stack links n own.task kind endpoint link (open_regions run.records own.task n) low own_one)
        | inr apart ↦
            rw (
              get_or-set_other innermost index other (top_after links link n endpoint) None apart,
              open_other run.records task own.task n kind endpoint own.says
                  (λ e. apart (apart_all other index own.task (is ∙ ap Some e) own.indexed)),
            )
            (stack_more links n link (top_of innermost other) (open_regions run.records task n)
            (are.stacks other task is))
      ];
      linked = linked_more run.records n links link misplaced low are.linked judged;
      opened =
          opened_more run n index kind endpoint links link low own
          (innermost_here run n index innermost links link are is_top) are.opened;
    }
  where
    low : n < length links
    low = let all = are.all in omega (arith, all, inside)

    within : index < length innermost
    within =
        let inside = slice_get_within run.family.tasks index own.task own.indexed in
        let tops = are.tops in omega (arith, inside, tops)

    own_one : IsStack links n link (open_regions run.records own.task n)
    own_one =
        let P : Option ℕ → Type 0 = λ t. IsStack links n t (open_regions run.records own.task n) in
        subst P (sym is_top) (are.stacks index own.task own.indexed)

-- ---- the cause

-- an end that misses its begin
pub misses_here : (run : RunView) (i index : ℕ) (kind : SyncKind) (endpoint : Endpoint) (link : Option ℕ)
    → IsRegionEvent run i index kind endpoint → IsInnermost run i index link
    → (endpoint ≡ End) × ((begin : ℕ) → link ≡ Some begin → kind_at run.records begin ≢ Some kind)
    → HasCause run.records i RegionOrder
misses_here run i index kind endpoint link own top (is_end, none) = region_order (
  own.task,
  kind,
  record {
    ends = own.says ∙ ap (λ e. Some (own.task, kind, e)) is_end;
    none = λ begin is. none begin (top own.task own.indexed ∙ is);
  },
)

-- a barrier of an explicit task
pub barred_here : (run : RunView) (i index : ℕ) (kind : SyncKind) (endpoint : Endpoint)
    (own : IsRegionEvent run i index kind endpoint)
    → (is_called_barrier kind ≡ true) × IsExplicit run.records own.task → HasCause run.records i RegionOrder
barred_here run i index kind endpoint own (called, explicit) =
    barrier_order (own.task, kind, endpoint, own.says, called, explicit)

-- a record that has its begin, or needs none, and is no such barrier
pub placed_here : (run : RunView) (n index : ℕ) (kind : SyncKind) (endpoint : Endpoint) (link : Option ℕ)
    (own : IsRegionEvent run n index kind endpoint)
    → IsInnermost run n index link
    → (endpoint ≡ End → (begin : ℕ) × (link ≡ Some begin) × (kind_at run.records begin ≡ Some kind))
    → ((is_called_barrier kind ≡ true) × IsExplicit run.records own.task → ⊥) → IsInPlace run.records n link
placed_here run n index kind endpoint link own top found unbarred = record { linked = linked; free = free }
  where
    linked : (task : ℕ) (kind' : SyncKind) → at region run.records n ≡ Some (task, kind', End)
        → IsEndLinked run.records n task kind' (Some link)
    linked task kind' ends =
        let same = same_Some (own.task, kind, endpoint) (task, kind', End) (sym own.says ∙ ends) in
        let is_end : endpoint ≡ End = ap (λ (p : ℕ × SyncKind × Endpoint). p.2) same in
        let is_task : own.task ≡ task = ap (λ (p : ℕ × SyncKind × Endpoint). p.0) same in
        let is_kind : kind ≡ kind' = ap (λ (p : ℕ × SyncKind × Endpoint). p.1) same in
        let h = found is_end in (
          h.0,
          ap Some h.1,
          record {
            ends = ends;
            innermost =
                ap (λ t. slice_get (open_regions run.records t n) 0) (sym is_task)
                ∙ sym (top own.task own.indexed) ∙ h.1;
            same_kind = h.2 ∙ ap Some is_kind;
          },
        )

    free : HasCause run.records n RegionOrder → ⊥
    free (region_order (task, kind', h)) =
        let is = linked task kind' h.ends in
        h.none is.0 is.2.innermost is.2.same_kind
    free (barrier_order (task, kind', endpoint', says, called, explicit)) =
        let same = same_Some (own.task, kind, endpoint) (task, kind', endpoint') (sym own.says ∙ says) in
        let is_task : task ≡ own.task = sym (ap (λ (p : ℕ × SyncKind × Endpoint). p.0) same) in
        let is_kind : kind ≡ kind' = ap (λ (p : ℕ × SyncKind × Endpoint). p.1) same in
        let P : ℕ → Type 0 = IsExplicit run.records in
        unbarred (ap is_called_barrier is_kind ∙ called, subst P is_task explicit)

-- a record of no region
pub no_region_here : (rs : List Record) (n : ℕ) → at region rs n ≡ None → HasCause rs n RegionOrder → ⊥
no_region_here rs n none (region_order (task, kind, h)) = none-some (task, kind, End) (sym none ∙ h.ends)
no_region_here rs n none (barrier_order (task, kind, endpoint, says, called, explicit)) =
    none-some (task, kind, endpoint) (sym none ∙ says)

free_of_order : (rs : List Record) (n : ℕ) → ((k : ℕ) → k < n → HasCause rs k RegionOrder → ⊥)
    → length rs ≤ n → IsFreeOf rs RegionOrder
free_of_order rs n free all i has = free i (let inside = order_within rs i has in omega arith) has

pub judged_has : (rs : List Record) (i : ℕ) (link : Option ℕ) (misplaced : Bool)
    → IsPlaceJudged rs i link misplaced → IsTrue misplaced ↔ HasCause rs i RegionOrder
judged_has rs i link true has = (λ yes. has, λ h. refl)
judged_has rs i link false fine = (λ never. absurd (false≢true never), λ h. absurd (fine.free h))

-- ---- the earliest place

earliest_still : (own : OwnView) (cause : Cause) (n : ℕ) (found : Option ℕ)
    → (HasCause own.run.records n cause → ⊥) → IsEarliest own cause n found
    → IsEarliest own cause (n + 1) found
earliest_still own cause n None none free = λ k below has. elim (cases_eq k n) [
  | inl same ↦ let P : ℕ → Type 0 = λ j. HasCause own.run.records j cause in none (subst P same has)
  | inr apart ↦ free k (omega (arith, below, apart)) has
]
earliest_still own cause n (Some place) none is = record {
  has = is.has;
  least = λ number other below stands has. elim (cases_eq number n) [
    | inl same ↦
        let P : ℕ → Type 0 = λ j. HasCause own.run.records j cause in absurd (none (subst P same has))
    | inr apart ↦ is.least number other (omega (arith, below, apart)) stands has
  ];
}

-- a record of no region
pub earliest_silent : (own : OwnView) (n : ℕ) (found : Option ℕ) → at region own.run.records n ≡ None
    → IsEarliest own RegionOrder n found → IsEarliest own RegionOrder (n + 1) found
earliest_silent own n found none is =
    earliest_still own RegionOrder n found (no_region_here own.run.records n none) is

-- another one that has it
pub earlier_other : (own : OwnView) (cause : Cause) (n before place : ℕ) → slice_get own.places n ≡ Some place
    → HasCause own.run.records n cause → IsEarliestPlace own cause n before
    → IsEarliestPlace own cause (n + 1) (min before place)
earlier_other own cause n before place stands has is = record {
  has = elim (cases_lt before place) [
    | inl low ↦
        let P : ℕ → Type 0 = HasCauseAt own cause in subst P (sym (min-eq_left (omega (arith, low)))) is.has
    | inr high ↦
        let P : ℕ → Type 0 = HasCauseAt own cause in subst P (sym (min-eq_right high)) (n, stands, has)
  ];
  least = λ number other below there has'. elim (cases_eq number n) [
    | inl same ↦
        let e = same_Some other place (sym there ∙ ap (slice_get own.places) same ∙ stands) in
        let low = min-le_right before place in
        omega (arith, e, low)
    | inr apart ↦
        let least = is.least number other (omega (arith, below, apart)) there has' in
        let low = min-le_left before place in
        omega (arith, least, low)
  ];
}

-- once all records are gone over, it is the first in the file
earliest_first : (own : OwnView) (cause : Cause) (n place : ℕ)
    → AreAllPlaces own.places (length own.run.records) → length own.run.records ≤ n
    → IsEarliestPlace own cause n place → IsFirstPlaceWith own cause place
earliest_first own cause n place all last is = record {
  has = is.has;
  first = λ k below there.
      let inside = slice_get_within own.places there.0 k there.1 in
      let long = all.all in
      let least = is.least there.0 k (omega (arith, inside, long, last)) there.1 there.2 in
      omega (arith, below, least);
}

pub found_first : (own : OwnView) (n : ℕ) (found : Option ℕ)
    → AreAllPlaces own.places (length own.run.records) → length own.run.records ≤ n
    → IsEarliest own RegionOrder n found → FindsFirstPlace own RegionOrder found
found_first own n None all last free = free_of_order own.run.records n free last
found_first own n (Some place) all last is = earliest_first own RegionOrder n place all last is

-- where no record has the cause, each end has its begin
pub linked_all : (rs : List Record) (n : ℕ) (links : List (Option ℕ)) → IsFreeOf rs RegionOrder
    → AreLinkedOrNot rs n links → AreLinked rs n links
linked_all rs n links free linked i task kind below ends = elim (linked i task kind below ends) [
  | inl has ↦ absurd (free i has)
  | inr is ↦ is
]

-- ---- all places

-- the innermost region that is open before the record stands in the table
pub opened_here : (run : RunView) (n index : ℕ) (kind : SyncKind) (endpoint : Endpoint)
    (links : List (Option ℕ)) (found : Option ℕ)
    → n < length run.records → AreOpened run.records (length run.records) links
    → IsRegionEvent run n index kind endpoint → found ≡ slice_index_or links n None
    → IsInnermost run n index found
opened_here run n index kind endpoint links found within opened own read task stands =
    let rs = run.records in
    let is_task : own.task ≡ task = same_Some own.task task (sym own.indexed ∙ stands) in
    let first = slice_get (open_regions rs own.task n) 0 in
    let there = opened n own.task kind endpoint within own.says in
    read ∙ get_or_from_slice_get links n first None there
    ∙ ap (λ t. slice_get (open_regions rs t n) 0) is_task

-- the record that has a place in the file is the only one that does
pub at_its_place : (own : OwnView) (cause : Cause) (number place : ℕ) (has : Bool)
    → AreAllPlaces own.places (length own.run.records) → slice_get own.places number ≡ Some place
    → IsTrue has ↔ HasCause own.run.records number cause → IsTrue has ↔ HasCauseAt own cause place
at_its_place own cause number place has all stands is = (
  λ so. (number, stands, is.0 so),
  λ (other, there, causes).
      let P : ℕ → Type 0 = λ n. HasCause own.run.records n cause in
      is.1 (subst P (all.apart other number place there stands) causes),
)

-- the places that were found up to the end are all
pub all_places : (own : OwnView) (cause : Cause) (n : ℕ) (places : List ℕ)
    → AreAllPlaces own.places (length own.run.records) → length own.run.records ≡ n
    → AreAllBelow (HasCauseAt own cause) n places → AreAllPlacesWith own cause places
all_places own cause n places order all are = record {
  rising = are.rising;
  within = subst (λ m. All (λ place. place < m) places) (sym all) are.within;
  hold = are.hold;
  complete = λ place has.
      are.complete place (let below = order.below has.0 place has.1 in omega (arith, below, all)) has;
}

-- where no record has the cause there are none
pub no_places_with : (own : OwnView) (cause : Cause) (places : List ℕ) → places ≡ []
    → IsFreeOf own.run.records cause → AreAllPlacesWith own cause places
no_places_with own cause places empty free =
    let P : List ℕ → Type 0 = AreAllPlacesWith own cause in
    subst P (sym empty) (record {
      rising = (none_below (HasCauseAt own cause)).rising;
      within = All-nil (λ place. place < length own.run.records);
      hold = All-nil (HasCauseAt own cause);
      complete = λ place has. absurd (free has.0 has.2);
    })

-- ---- where a region began

-- a begin and end in one began there
pub once_begin : (rs : List Record) (i own : ℕ) (kind : SyncKind)
    → at region rs i ≡ Some (own, kind, BeginEnd) → IsRegionBegin rs i i
once_begin rs i own kind says task other endpoint there =
    let same = same_says rs i own task kind other BeginEnd endpoint says there in
    let P : Endpoint → Type 0 = λ e. at region rs i ≡ Some (task, other, e) in
    at_once (subst P (sym same.2) there)

later_begin : (rs : List Record) (i own begin : ℕ) (kind : SyncKind) → at region rs i ≡ Some (own, kind, End)
    → EndsRegion rs i own kind begin → IsRegionBegin rs i begin
later_begin rs i own begin kind says ends task other endpoint there =
    let same = same_says rs i own task kind other End endpoint says there in
    let P : ℕ → Type 0 = λ t. IsRegion rs i t other begin in
    let Q : SyncKind → Type 0 = λ k. IsRegion rs i own k begin in
    subst P same.0 (subst Q same.1 (ended ends))

-- the begin of an end stands in the table
pub linked_begin : (regions : RegionsView) (i own : ℕ) (kind : SyncKind) (found : Option ℕ)
    → AreRegions regions → at region regions.own.run.records i ≡ Some (own, kind, End)
    → found ≡ slice_index_or regions.begins i None
    → MatchOption found
    ((task begin : ℕ) (other : SyncKind) → IsRegion regions.own.run.records i task other begin → ⊥)
    (IsRegionBegin regions.own.run.records i)
linked_begin regions i own kind found are says read =
    let rs = regions.own.run.records in
    let there = are.begins i own kind (at_within region rs i (own, kind, End) says) says in
    let within = slice_get_within regions.begins i (Some there.0) there.1 in
    let same : Some there.0 ≡ found =
    sym
    (same_Some (slice_index_or regions.begins i None) (Some there.0)
    (sym (slice_get-get_or regions.begins i None within) ∙ there.1))
    ∙ sym read in
    let P : Option ℕ → Type 0 =
    λ o.
    MatchOption o ((task begin : ℕ) (other : SyncKind) → IsRegion rs i task other begin → ⊥)
    (IsRegionBegin rs i) in
    subst P same (later_begin rs i own there.0 kind says there.2)
