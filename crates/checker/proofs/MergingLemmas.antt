-- The merge of the threads, one record on.
use Rattle.std.proofs.Common.{zero, suc, ◌≡◌, ◌≢◌, ◌∙◌, ℕ, ◌<◌, ◌≤◌, ◌+◌, List, [], ◌∷◌, ◌++◌, length, get_or}
use Rattle.std.proofs.Common.{Some, Bool, true, false, refl, sym, ap, subst, arith, inl, inr}
use Rattle.std.proofs.Common.{◌⊎◌}
use Rattle.std.proofs.lemmas.Bool.{cases_eq, cases_lt, false≢true}
use Rattle.std.proofs.lemmas.Option.{same_Some, slice_get-get_or, slice_get_within}
use Rattle.std.proofs.lemmas.List.{length-set, length-replicate, get_or-set_same, get_or-set_other}
use Rattle.std.proofs.lemmas.List.{get_or-replicate, get_or_default, get_or-take, length-take, append-nil}
use Rattle.std.proofs.lemmas.List.{append_assoc, take-append-le, take_all, get_or_append_left, get_or_push}
use Rattle.std.proofs.lemmas.List.{length_push}
use Rattle.std.proofs.lemmas.List.Elements.{Contains-push, Contains-push_cases, Contains-append_left}
use Rattle.std.proofs.lemmas.List.Elements.{Contains-append_cases, All-weaker}
use Rattle.std.proofs.lemmas.List.Sorted.{IsPermutation-refl, IsPermutation-more, Contains-permutation}
use Rattle.std.specs.List.Sorted.{IsPermutation}
use Rattle.std.specs.List.{remove}
use Rattle.ompt_events.proofs.PlaceLemmas.{contains_place, nothing_left}
use Rattle.std.proofs.Math.ListN.{set}
use Rattle.std.specs.Prelude.{slice_get, slice_index, Contains, ⊤, replicate, sum_by, take, All}
use Rattle.std.proofs.lemmas.List.Sums.{sum_by-set}
use Rattle.ompt_events.specs.declared.records.Record.{Record}
use Rattle.ompt_events.specs.Places.{places, thread_at}
use Rattle.ompt_events.specs.HappensBefore.{HappensBefore, step}
use Rattle.ompt_events.specs.declared.cause.Cause.TheVariants.{NoOrder}
use Rattle.ompt_events.specs.Causes.{HasCause, no_order, HasNoOrder, IsFreeOf}
use Rattle.ompt_events.specs.Shown.{AreAllBelow, AreAll, AreAllWith}
use Rattle.ompt_events.specs.Linearization.{IsDue, IsReady, IsFirstReady, IsGreedy, IsGrounded}
use Rattle.ompt_events.specs.Linearization.{IsLinearization}
use Rattle.checker.specs.Merge.{IsPlacedPrefix, Stands, IsUnplaced, MayStandNext, AreHeads, AreInTurn}
use Rattle.checker.specs.Merge.{IsGreedyBehind, IsMerged, ArePlaced}
use Rattle.checker.specs.Lists.{AreLists, IsNextWith, LeadsOn}
use Rattle.checker.proofs.MergeLemmas.{stands_or_not, is_head}
use Rattle.ompt_events.proofs.LinearizationLemmas.{IsClosed, due_from_steps, grounded_rising}
use Rattle.ompt_events.proofs.HappensBeforeLemmas.{before_to, before_from}

-- what stands is one of the places
pub stands_within : (placed : List Bool) (i : ℕ) → Stands placed i → i < length placed
stands_within placed i stands = slice_get_within placed i true stands

-- the place that is marked stands, and the others as before
pub stands_here : (placed : List Bool) (place : ℕ) → place < length placed
    → Stands (set placed place true) place
stands_here placed place within =
    slice_get-get_or (set placed place true) place false (rw (length-set placed place true) within)
    ∙ ap Some (get_or-set_same placed place true false within)

pub get_other : (placed : List Bool) (place i : ℕ) → i ≢ place → i < length placed
    → slice_get (set placed place true) i ≡ slice_get placed i
get_other placed place i apart within =
    slice_get-get_or (set placed place true) i false (rw (length-set placed place true) within)
    ∙ ap Some (get_or-set_other placed place i true false apart)
    ∙ sym (slice_get-get_or placed i false within)

pub stands_still : (placed : List Bool) (place i : ℕ) → Stands placed i → Stands (set placed place true) i
stands_still placed place i stands = elim (cases_eq i place) [
  | inl same ↦
      let P : ℕ → Type 0 = λ j. Stands (set placed place true) j in
      subst P (sym same) (stands_here placed place (rw (← same) (stands_within placed i stands)))
  | inr apart ↦ get_other placed place i apart (stands_within placed i stands) ∙ stands
]

pub stands_cases : (placed : List Bool) (place i : ℕ) → Stands (set placed place true) i
    → Stands placed i ⊎ (i ≡ place)
stands_cases placed place i stands = elim (cases_eq i place) [
  | inl same ↦ inr same
  | inr apart ↦
      inl
      (sym
      (get_other placed place i apart
      (rw (← length-set placed place true) (stands_within (set placed place true) i stands)))
      ∙ stands)
]

pub none_stands : (n i : ℕ) → Stands (replicate n false) i → ⊥
none_stands n i stands =
    let within : i < n = rw (length-replicate n false) at (stands_within (replicate n false) i stands) in
    let e : false ≡ true =
    sym (get_or-replicate n i false false within)
    ∙ same_Some (get_or (replicate n false) i false) true
    (sym
    (slice_get-get_or (replicate n false) i false
    (stands_within (replicate n false) i stands))
    ∙ stands) in
    false≢true e

-- what is in the first part of a list is in the list
contains_taken : (n : ℕ) (xs : List ℕ) (x : ℕ) → Contains (take n xs) x → Contains xs x
contains_taken n xs x (k, below, is) =
    let low : k < n = let t = length-take n xs in omega (arith, below, t) in
    let inside : k < length xs = let t = length-take n xs in omega (arith, below, t) in
    (k, inside, sym (get_or-take n xs k x low) ∙ is)

-- what may stand next where those before it do has all that happens before it earlier
pub turn_grounded : (rs : List Record) (order : List ℕ) → AreInTurn rs order → IsGrounded rs order
turn_grounded rs order in_turn k below = (in_turn k below).due

pub turn_closed : (rs : List Record) (order : List ℕ) → AreInTurn rs order → IsClosed rs order
turn_closed rs order in_turn b (k, inside, is) a before =
    let there : slice_index order k ≡ b = get_or_default order k 0 b inside ∙ is in
    let P : ℕ → Type 0 = HappensBefore rs a in
    contains_taken k order a ((in_turn k inside).due a (subst P (sym there) before))

-- what holds of each place and those before it goes on to hold with one more place of which it holds
pub each_more : (P : List ℕ → ℕ → Type 0) (order : List ℕ) (place : ℕ)
    → ((k : ℕ) → k < length order → P (take k order) (slice_index order k)) → P order place → (k : ℕ)
    → k < length (order ++ place ∷ [])
    → P (take k (order ++ place ∷ [])) (slice_index (order ++ place ∷ []) k)
each_more P order place each next k below = elim (cases_lt k (length order)) [
  | inl old ↦
      let old_too : k ≤ length order = omega arith in
      rw (take-append-le k order (place ∷ []), get_or_append_left order (place ∷ []) 0 k old) (each k old)
  | inr new ↦
      let is_last : k ≡ length order = let b = below in omega (arith, length_push order place) in
      rw (is_last, take_whole, get_or_push order place 0 (length order) refl) next
]
  where
    take_whole : take (length order) (order ++ place ∷ []) ≡ order
    take_whole =
        take-append-le (length order) order (place ∷ []) (omega arith)
        ∙ take_all (length order) order (omega arith)

-- what stands does so with all that happens before it
pub standing_closed : (rs : List Record) (placed : List Bool) (heads links order : List ℕ)
    → ArePlaced rs placed heads links order → IsPlacedPrefix rs placed
standing_closed rs placed heads links order standing a b before stands =
    standing.from_order a (turn_closed rs order standing.in_turn b (standing.to_order b stands) a before)

contains_none : (i : ℕ) → Contains (let l : List ℕ = [] in l) i → ⊥
contains_none i (k, below, is) = absurd (omega arith)

pub none_standing : (rs : List Record) (heads links : List ℕ) (placed : List Bool)
    → placed ≡ replicate (length rs) false → AreLists (thread_at rs) (length rs) 0 heads links
    → ((i thread : ℕ) → thread_at rs i ≡ Some thread → thread < length heads) → LeadsOn (length rs) links
    → ArePlaced rs placed heads links []
none_standing rs heads links placed is lists all rising = rw is (record {
  all = length-replicate (length rs) false;
  to_order = λ i stands. absurd (none_stands (length rs) i stands);
  from_order = λ i c. absurd (contains_none i c);
  in_turn = λ k below. absurd (omega (arith, below));
  are_heads = record {
    all = all;
    below =
        λ thread i runs below.
        absurd ((lists.first thread (all i thread runs)).none i (omega arith) below runs);
    head = λ thread low inside. (lists.first thread low).found inside;
    missing = λ thread low stands. none_stands (length rs) (slice_index heads thread) stands;
  };
  above = λ thread i runs stands. absurd (none_stands (length rs) i stands);
  rising = rising;
  next = λ i thread within runs. lists.next i thread (omega arith) within runs;
  left = places rs;
  permutation = IsPermutation-refl (places rs);
})

-- the heads after the head of a thread was placed
heads_more : (rs : List Record) (placed : List Bool) (heads links order : List ℕ) (place thread next : ℕ)
    → ArePlaced rs placed heads links order → MayStandNext rs placed place → thread_at rs place ≡ Some thread
    → IsNextWith (thread_at rs) (length rs) thread (place + 1) next
    → AreHeads rs (set placed place true) (set heads thread next)
heads_more rs placed heads links order place thread next merging may runs is_next = record {
  all = λ i other runs_there. rw (length-set heads thread next) (merging.are_heads.all i other runs_there);
  below = λ other i runs_there below. elim (cases_eq other thread) [
    | inl same ↦ stands_below i (runs_there ∙ ap Some same) (rw (same, here) at below)
    | inr apart ↦
        stands_still placed place i
        (merging.are_heads.below other i runs_there (rw (there other apart) at below))
  ];
  head = λ other low inside. elim (cases_eq other thread) [
    | inl same ↦ rw (same, here) (is_next.found (rw (same, here) at inside))
    | inr apart ↦
        rw (there other apart)
        (merging.are_heads.head other (rw (length-set heads thread next) at low)
        (rw (there other apart) at inside))
  ];
  missing = λ other low stands. elim (cases_eq other thread) [
    | inl same ↦ next_missing (rw (same, here) at stands)
    | inr apart ↦
        elim (stands_cases placed place (slice_index heads other) (rw (there other apart) at stands)) [
          | inl old ↦ merging.are_heads.missing other (rw (length-set heads thread next) at low) old
          | inr is ↦
              apart
              (same_Some other thread
              (sym
              (merging.are_heads.head other (rw (length-set heads thread next) at low)
              (rw is may.within))
              ∙ ap (thread_at rs) is ∙ runs))
        ]
  ];
}
  where
    low_thread : thread < length heads
    low_thread = merging.are_heads.all place thread runs

    here : slice_index (set heads thread next) thread ≡ next
    here = get_or-set_same heads thread next 0 low_thread

    there : (other : ℕ) → other ≢ thread → slice_index (set heads thread next) other ≡ slice_index heads other
    there other apart = get_or-set_other heads thread other next 0 apart

    head_is : slice_index heads thread ≡ place
    head_is = is_head rs placed heads place thread merging.are_heads runs may

    stands_below : (i : ℕ) → thread_at rs i ≡ Some thread → i < next → Stands (set placed place true) i
    stands_below i runs_there below = elim (cases_lt i place) [
      | inl earlier ↦
          stands_still placed place i (merging.are_heads.below thread i runs_there (rw head_is earlier))
      | inr later ↦ elim (cases_eq i place) [
        | inl same ↦
            let P : ℕ → Type 0 = λ j. Stands (set placed place true) j in
            subst P (sym same) (stands_here placed place (rw merging.all may.within))
        | inr apart ↦ absurd (is_next.none i (omega arith) below runs_there)
      ]
    ]

    next_missing : Stands (set placed place true) next → ⊥
    next_missing stands = elim (stands_cases placed place next stands) [
      | inl old ↦ elim (cases_lt next (length rs)) [
        | inl inside ↦
            absurd (let h = merging.above thread next (is_next.found inside) old in omega (arith, head_is, h))
        | inr past ↦ let h = stands_within placed next old in absurd (omega (arith, h, merging.all))
      ]
      | inr is ↦ absurd (let h = is_next.behind in omega (arith, h, is))
    ]

-- one more record stands, which may stand next
pub standing_more : (rs : List Record) (placed : List Bool) (heads links order : List ℕ) (place thread : ℕ)
    → ArePlaced rs placed heads links order → MayStandNext rs placed place → thread_at rs place ≡ Some thread
    → ArePlaced rs (set placed place true) (set heads thread (slice_index links place)) links
    (order ++ place ∷ [])
standing_more rs placed heads links order place thread standing may runs = record {
  all = length-set placed place true ∙ standing.all;
  to_order = λ i stands. elim (stands_cases placed place i stands) [
    | inl old ↦ Contains-append_left order (place ∷ []) i (standing.to_order i old)
    | inr same ↦ rw same (Contains-push order place)
  ];
  from_order = λ i c. elim (Contains-push_cases order place i c) [
    | inl old ↦ stands_still placed place i (standing.from_order i old)
    | inr same ↦
        let P : ℕ → Type 0 = λ j. Stands (set placed place true) j in
        subst P same (stands_here placed place (rw standing.all may.within))
  ];
  in_turn = each_more (IsReady rs (λ _. ⊤)) order place standing.in_turn (record {
    within = may.within;
    taken = tt;
    missing = λ c. may.missing (standing.from_order place c);
    due = due;
  });
  are_heads = heads_more rs placed heads links order place thread next standing may runs is_next;
  above = λ other i runs_there stands. elim (cases_eq other thread) [
    | inl same ↦ rw (same, here) (elim (stands_cases placed place i stands) [
      | inl old ↦
          let h = standing.above thread i (runs_there ∙ ap Some same) old in
          let behind = is_next.behind in omega (arith, h, head_is, behind)
      | inr is ↦ let behind = is_next.behind in omega (arith, is, behind)
    ])
    | inr apart ↦ rw (there other apart) (elim (stands_cases placed place i stands) [
      | inl old ↦ standing.above other i runs_there old
      | inr is ↦ absurd (apart (same_Some other thread (sym runs_there ∙ ap (thread_at rs) is ∙ runs)))
    ])
  ];
  rising = standing.rising;
  next = standing.next;
  left = left_after.0;
  permutation = left_after.1;
}
  where
    next : ℕ
    next = slice_index links place

    is_next : IsNextWith (thread_at rs) (length rs) thread (place + 1) next
    is_next = standing.next place thread may.within runs

    here : slice_index (set heads thread next) thread ≡ next
    here = get_or-set_same heads thread next 0 (standing.are_heads.all place thread runs)

    there : (other : ℕ) → other ≢ thread → slice_index (set heads thread next) other ≡ slice_index heads other
    there other apart = get_or-set_other heads thread other next 0 apart

    head_is : slice_index heads thread ≡ place
    head_is = is_head rs placed heads place thread standing.are_heads runs may

    left_after : (rest : List ℕ) × IsPermutation (places rs) ((order ++ place ∷ []) ++ rest)
    left_after =
        elim
        (Contains-append_cases order standing.left place
        (Contains-permutation (places rs) (order ++ standing.left) place standing.permutation
        (contains_place rs place may.within))) [
          | inl c ↦ absurd (may.missing (standing.from_order place c))
          | inr c ↦ (
            remove standing.left c.0,
            IsPermutation-more (places rs) order standing.left c.0 place c.1 (sym c.2) standing.permutation,
          )
        ]

    due : IsDue rs order place
    due a before =
        due_from_steps rs order (turn_closed rs order standing.in_turn) a place before
        (λ c s. standing.to_order c (may.steps c s))

-- what may stand next in the list may follow what stands
pub ready_follows : (rs : List Record) (placed : List Bool) (heads links order : List ℕ) (place : ℕ)
    → ArePlaced rs placed heads links order → IsReady rs (λ _. ⊤) order place → MayStandNext rs placed place
ready_follows rs placed heads links order place standing ready = record {
  within = ready.within;
  missing = λ stands. ready.missing (standing.to_order place stands);
  steps = λ a s. standing.from_order a (ready.due a (step s));
}

-- the base stands, and behind it the order goes on greedily
pub record IsMerging (rs : List Record) (placed : List Bool) (heads links base order : List ℕ) : Type 0 where
  pub standing : ArePlaced rs placed heads links order
  pub behind : IsGreedyBehind rs base order

pub merging_start : (rs : List Record) (placed : List Bool) (heads links base : List ℕ)
    → ArePlaced rs placed heads links base → IsMerging rs placed heads links base base
merging_start rs placed heads links base standing = record {
  standing = standing;
  behind = record {
    more = [];
    parts = sym (append-nil base);
    greedy = λ k below. absurd (omega (arith, below));
  };
}

-- the first record that may follow
pub merging_more : (rs : List Record) (placed : List Bool) (heads links base order : List ℕ)
    (place thread : ℕ)
    → IsMerging rs placed heads links base order → MayStandNext rs placed place
    → ((i : ℕ) → i < place → MayStandNext rs placed i → ⊥) → thread_at rs place ≡ Some thread
    → IsMerging rs (set placed place true) (set heads thread (slice_index links place)) links base
    (order ++ place ∷ [])
merging_more rs placed heads links base order place thread merging may first runs = record {
  standing = now;
  behind = record {
    more = merging.behind.more ++ place ∷ [];
    parts =
        ap (λ l. l ++ place ∷ []) merging.behind.parts ∙ append_assoc base merging.behind.more (place ∷ []);
    greedy =
        each_more (λ xs i. IsFirstReady rs (λ _. ⊤) (base ++ xs) i) merging.behind.more place
        merging.behind.greedy (
        let P : List ℕ → Type 0 = λ l. IsFirstReady rs (λ _. ⊤) l place in
        subst P merging.behind.parts first_ready);
  };
}
  where
    now : ArePlaced rs (set placed place true) (set heads thread (slice_index links place)) links
        (order ++ place ∷ [])
    now = standing_more rs placed heads links order place thread merging.standing may runs

    first_ready : IsFirstReady rs (λ _. ⊤) order place
    first_ready = record {
      ready = record {
        within = may.within;
        taken = tt;
        missing = λ c. may.missing (merging.standing.from_order place c);
        due =
            λ a before.
            due_from_steps rs order (turn_closed rs order merging.standing.in_turn) a place before
            (λ c s. merging.standing.to_order c (may.steps c s));
      };
      first =
          λ k earlier ready.
          first k earlier (ready_follows rs placed heads links order k merging.standing ready);
    }

-- where no record may follow, none is ready
pub none_ready : (rs : List Record) (placed : List Bool) (heads links order : List ℕ)
    → ArePlaced rs placed heads links order → ((i : ℕ) → MayStandNext rs placed i → ⊥) → (i : ℕ)
    → IsReady rs (λ _. ⊤) order i → ⊥
none_ready rs placed heads links order standing none i ready =
    none i (ready_follows rs placed heads links order i standing ready)

-- with every place filled the order is a linearization
pub all_ordered : (rs : List Record) (placed : List Bool) (heads links order : List ℕ)
    → ArePlaced rs placed heads links order → ((i : ℕ) → i < length rs → Stands placed i)
    → IsLinearization rs order
all_ordered rs placed heads links order standing full = record {
  all_once =
      rw (
        nothing_left rs order standing.left standing.permutation
            (λ i inside. standing.to_order i (full i inside)),
        append-nil,
      )
      at standing.permutation;
  rising =
      λ a b before.
      grounded_rising rs order (turn_grounded rs order standing.in_turn) a b before
      (standing.to_order b (full b (before_to rs a b before)));
}

-- each record that stands has an order
pub stands_ordered : (rs : List Record) (placed : List Bool) (heads links order : List ℕ) (i : ℕ)
    → ArePlaced rs placed heads links order → Stands placed i → HasCause rs i NoOrder → ⊥
stands_ordered rs placed heads links order i standing stands (no_order h) =
    h.never order (turn_grounded rs order standing.in_turn) (standing.to_order i stands)

-- and where no record may follow, one that doesn't stand has none
pub missing_unordered : (rs : List Record) (placed : List Bool) (heads links order : List ℕ) (i : ℕ)
    → ArePlaced rs placed heads links order → ((j : ℕ) → MayStandNext rs placed j → ⊥) → i < length rs
    → (Stands placed i → ⊥) → HasNoOrder rs i
missing_unordered rs placed heads links order i standing none within missing = record {
  within = within;
  never = λ other grounded c. missing (standing.from_order i (
      let P : ℕ → Type 0 = λ j. Contains order j in
      let is : slice_index other c.0 ≡ i = get_or_default other c.0 0 i c.1 ∙ c.2 in
      subst P is
      (grounded_stands rs placed heads links order other standing none grounded (c.0 + 1) c.0
      (omega arith) c.1 (rw is within))
      ));
}
  where
    grounded_stands : (rs' : List Record) (placed' : List Bool) (heads' links' order' other : List ℕ)
        → ArePlaced rs' placed' heads' links' order' → ((j : ℕ) → MayStandNext rs' placed' j → ⊥)
        → IsGrounded rs' other → (n q : ℕ) → q < n → q < length other → slice_index other q < length rs'
        → Contains order' (slice_index other q)
    grounded_stands rs' placed' heads' links' order' other standing' none' grounded zero q below inside real =
        absurd (omega arith)
    grounded_stands rs' placed' heads' links' order' other standing' none' grounded (suc n) q below inside
        real =
        elim (stands_or_not placed' (slice_index other q)) [
          | inl stands ↦ standing'.to_order (slice_index other q) stands
          | inr missing' ↦
              absurd (none_ready rs' placed' heads' links' order' standing' none' (slice_index other q) (
              record {
                within = real;
                taken = tt;
                missing = λ c. missing' (standing'.from_order (slice_index other q) c);
                due = λ a before.
                    let earlier = grounded q inside a before in
                    let p_low : earlier.0 < q =
                    let e = earlier.1 in let t = length-take q other in omega (arith, e, t) in
                    let is : slice_index other earlier.0 ≡ a =
                    get_or_default other earlier.0 0 a (omega arith)
                    ∙ sym (get_or-take q other earlier.0 a p_low)
                    ∙ earlier.2 in
                    let P : ℕ → Type 0 = λ j. Contains order' j in
                    subst P is
                    (grounded_stands rs' placed' heads' links' order' other standing' none' grounded n
                    earlier.0
                    (omega arith) (omega arith) (rw is (before_from rs' a (slice_index other q) before)));
              }))
        ]

abbrev pub is_missing : Bool → ℕ
is_missing true = 0
is_missing false = 1

not_standing : (placed : List Bool) (i : ℕ) → i < length placed → (Stands placed i → ⊥)
    → get_or placed i false ≡ false
not_standing placed i within missing = flag (get_or placed i false) refl
  where
    flag : (b : Bool) → get_or placed i false ≡ b → get_or placed i false ≡ false
    flag true e = absurd (missing (slice_get-get_or placed i false within ∙ ap Some e))
    flag false e = e

-- one record less is missing
pub missing_less : (placed : List Bool) (place : ℕ) → place < length placed → (Stands placed place → ⊥)
    → sum_by is_missing (set placed place true) < sum_by is_missing placed
missing_less placed place within missing =
    let change : sum_by is_missing (set placed place true) + is_missing (get_or placed place false)
    ≡ sum_by is_missing placed + 0 =
    sum_by-set is_missing placed place true false within in
    let one : is_missing (get_or placed place false) ≡ 1 =
    ap is_missing (not_standing placed place within missing) in
    omega (arith, change, one)

-- the makers of the entries before one stand after one more record does
pub passed_more : (placed : List Bool) (makers : List ℕ) (low next place : ℕ)
    → ((k : ℕ) → k < low → slice_index makers k < length placed → Stands placed (slice_index makers k))
    → ((k : ℕ) → low ≤ k → k < next → slice_index makers k < length (set placed place true)
    → Stands (set placed place true) (slice_index makers k))
    → (k : ℕ) → k < next → slice_index makers k < length (set placed place true)
    → Stands (set placed place true) (slice_index makers k)
passed_more placed makers low next place old new k below real = elim (cases_lt k low) [
  | inl before ↦
      stands_still placed place (slice_index makers k)
      (old k before (rw (length-set placed place true) at real))
  | inr after ↦ new k after below real
]

unordered_within : (rs : List Record) (i : ℕ) → HasCause rs i NoOrder → i < length rs
unordered_within rs i (no_order h) = h.within

-- where no record may follow, those that don't stand are all without an order
pub all_unordered : (rs : List Record) (base order : List ℕ) (placed : List Bool) (places : List ℕ)
    → IsMerged rs base order placed → AreAll (IsUnplaced placed) (length placed) places
    → AreAllWith rs NoOrder places
all_unordered rs base order placed places merged are = record {
  rising = are.rising;
  within = subst (λ m. All (λ place. place < m) places) merged.standing.all are.within;
  hold =
      All-weaker (IsUnplaced placed) (λ i. HasCause rs i NoOrder)
      (λ i is.
      no_order
      (missing_unordered rs placed merged.heads merged.links order i merged.standing merged.ended
      (rw merged.standing.all at is.within) is.missing))
      places are.hold;
  complete = λ i has.
      are.complete i (record {
        within = rw merged.standing.all (unordered_within rs i has);
        missing =
            λ stands.
            stands_ordered rs placed merged.heads merged.links order i merged.standing stands has;
      });
}

-- the records that don't stand so far are, along all, all
pub all_unplaced : (placed : List Bool) (n : ℕ) (places : List ℕ) → length placed ≡ n
    → AreAllBelow (IsUnplaced placed) n places → AreAll (IsUnplaced placed) (length placed) places
all_unplaced placed n places all are = record {
  rising = are.rising;
  within = subst (λ m. All (λ place. place < m) places) (sym all) are.within;
  hold = are.hold;
  complete = λ i is. let within = is.within in are.complete i (omega (arith, within, all)) is;
}

-- where each record has an order, all stand
pub all_stand : (rs : List Record) (placed : List Bool) (heads links order : List ℕ)
    → ArePlaced rs placed heads links order → ((j : ℕ) → MayStandNext rs placed j → ⊥) → IsFreeOf rs NoOrder
    → (i : ℕ) → i < length rs → Stands placed i
all_stand rs placed heads links order standing none free i within = elim (stands_or_not placed i) [
  | inl stands ↦ stands
  | inr missing ↦
      absurd
      (free i (no_order (missing_unordered rs placed heads links order i standing none within missing)))
]

-- behind nothing the order is the greedy one
pub greedy_alone : (rs : List Record) (order : List ℕ) → IsGreedyBehind rs [] order → IsGreedy rs order
greedy_alone rs order behind =
    let P : List ℕ → Type 0 = λ l. IsGreedy rs l in subst P (sym behind.parts) behind.greedy
