-- What the records name is gathered, and when a record makes something again.
use Rattle.std.proofs.Common.{get_or, ◌≡◌, ◌∙◌, ℕ, ◌<◌, ◌+◌, List, [], ◌∷◌, length, Option, Some, None}
use Rattle.std.proofs.Common.{Result, Ok, Err, refl, sym, ap, arith, inl, inr, ◌⊎◌, ◌≤◌, Bool, true, false}
use Rattle.std.proofs.Math.Nat.{min-eq_left, min-eq_right}
use Rattle.std.proofs.lemmas.Bool.{cases_eq, cases_order, cases_lt, false≢true}
use Rattle.std.proofs.lemmas.Option.{none-some, same_Some, slice_get_within, slice_get-get_or}
use Rattle.std.proofs.lemmas.List.{length_push, append-nil}
use Rattle.std.proofs.lemmas.List.Elements.{filter_map-append}
use Rattle.std.specs.List.{filter_map, range_with_len, cons_option}
use Rattle.std.specs.Result.{result_err}
use Rattle.std.specs.Prelude.{◌↔◌, ◌++◌, slice_get, option_and_then, option_map, IfOk, IfErr, IsTrue}
use Rattle.ompt_events.specs.declared.records.Record.{Record}
use Rattle.ompt_events.specs.declared.records.Body.{Body}
use Rattle.ompt_events.specs.declared.cause.Cause.TheVariants.{CreatedTwice}
use Rattle.ompt_events.specs.Records.{made, forked}
use Rattle.ompt_events.specs.Places.{at}
use Rattle.ompt_events.specs.Causes.{HasCause, created_twice, forked_twice, IsFirstWith, IsFreeOf}
use Rattle.ompt_events.specs.Shown.{AreAllBelow, AreAllWith}
use Rattle.ompt_events.proofs.PlaceLemmas.{at_within, range_more}
use Rattle.ompt_events.proofs.ShownLemmas.{all_with}
use Rattle.ompt_events.proofs.ListLemmas.{get_pushed, get_last, get_contains, contains_get, pushed_cases}
use Rattle.index_tables.specs.Numbering.{AreApart}
use Rattle.task_tree.specs.declared.makers.Names.{Names}
use Rattle.task_tree.specs.Makers.{AreNoted, ArePlacesBelow, AreMade, AreGathered, AddsName, IsPlaceAgain}
use Rattle.task_tree.specs.Makers.{ids_named, least_of, MakesAgain, Repeats}
use Rattle.packed_trace.specs.Packed.{forked_region}

-- a region that begins is begun by a task
forked_by : (region : ℕ) (b : Body) → forked_region b ≡ Some region
    → (task : ℕ) × (forked b ≡ Some (task, region))
forked_by region b says = there (forked b) refl says
  where
    there : (o : Option (ℕ × ℕ)) → forked b ≡ o → option_map (λ (p : ℕ × ℕ). p.1) o ≡ Some region
        → (task : ℕ) × (forked b ≡ Some (task, region))
    there None e is = absurd (none-some region is)
    there (Some (task, own)) e is = (task, e ∙ ap (λ r. Some (task, r)) (same_Some own region is))

pub forked_at : (rs : List Record) (i region : ℕ) → at forked_region rs i ≡ Some region
    → (task : ℕ) × (at forked rs i ≡ Some (task, region))
forked_at rs i region says = there (slice_get rs i) says
  where
    there : (o : Option Record) → option_and_then (λ (r : Record). forked_region r.body) o ≡ Some region
        → (task : ℕ) × (option_and_then (λ (r : Record). forked r.body) o ≡ Some (task, region))
    there None is = absurd (none-some region is)
    there (Some r) is = forked_by region r.body is

pub region_at : (rs : List Record) (i task region : ℕ) → at forked rs i ≡ Some (task, region)
    → at forked_region rs i ≡ Some region
region_at rs i task region says = there (slice_get rs i) says
  where
    there : (o : Option Record) → option_and_then (λ (r : Record). forked r.body) o ≡ Some (task, region)
        → option_and_then (λ (r : Record). forked_region r.body) o ≡ Some region
    there None is = absurd (none-some (task, region) is)
    there (Some r) is = ap (option_map (λ (p : ℕ × ℕ). p.1)) is

-- a record has the cause where it makes a task or begins a region again
pub twice_cases : (rs : List Record) (i : ℕ) → HasCause rs i CreatedTwice
    → Repeats made rs i ⊎ Repeats forked_region rs i
twice_cases rs i (created_twice again) = inl again
twice_cases rs i (forked_twice (region, k, own, other, below, there, here)) =
    inr (region, k, below, region_at rs k other region there, region_at rs i own region here)

pub twice_task : (rs : List Record) (i : ℕ) → Repeats made rs i → HasCause rs i CreatedTwice
twice_task rs i again = created_twice again

pub twice_region : (rs : List Record) (i : ℕ) → Repeats forked_region rs i → HasCause rs i CreatedTwice
twice_region rs i (region, k, below, there, here) =
    let first = forked_at rs k region there in
    let second = forked_at rs i region here in
    forked_twice (region, k, second.0, first.0, below, first.1, second.1)

-- a record with the cause is one of the records
pub twice_within : (rs : List Record) (i : ℕ) → HasCause rs i CreatedTwice → i < length rs
twice_within rs i has = elim (twice_cases rs i has) [
  | inl again ↦ at_within made rs i again.0 again.4
  | inr again ↦ at_within forked_region rs i again.0 again.4
]

-- the first record with a cause, and none up to the last
pub first_here : (rs : List Record) (i : ℕ) → ((k : ℕ) → k < i → HasCause rs k CreatedTwice → ⊥)
    → HasCause rs i CreatedTwice → IsFirstWith rs CreatedTwice i
first_here rs i before has = record { within = twice_within rs i has; has = has; first = before }

-- ---- places in their order

in_order_still : (n : ℕ) (places : List ℕ) → ArePlacesBelow n places → ArePlacesBelow (n + 1) places
in_order_still n places are = record {
  below = λ index place is. let low = are.below index place is in omega (arith, low);
  rising = are.rising;
}

in_order_more : (n : ℕ) (places : List ℕ) → ArePlacesBelow n places
    → ArePlacesBelow (n + 1) (places ++ n ∷ [])
in_order_more n places are = record {
  below = λ index place is. elim (pushed_cases places n place index is) [
    | inl before ↦ let low = are.below index place before in omega (arith, low)
    | inr last ↦ omega (arith, last.1)
  ];
  rising = λ a b place later less at_a at_b. elim (pushed_cases places n place a at_a) [
    | inl before_a ↦ elim (pushed_cases places n later b at_b) [
      | inl before_b ↦ are.rising a b place later less before_a before_b
      | inr last_b ↦ let low = are.below a place before_a in omega (arith, low, last_b.1)
    ]
    | inr last_a ↦ absurd (elim (pushed_cases places n later b at_b) [
      | inl before_b ↦
          let inside = slice_get_within places b later before_b in omega (arith, inside, less, last_a.0)
      | inr last_b ↦ omega (arith, less, last_a.0, last_b.0)
    ])
  ];
}

-- a record with a lesser place is named at a lesser index
index_before : (n : ℕ) (places : List ℕ) (a b place later : ℕ) → ArePlacesBelow n places
    → slice_get places a ≡ Some place → slice_get places b ≡ Some later → place < later → a < b
index_before n places a b place later are at_a at_b less = elim (cases_order a b) [
  | inl same ↦
      let equal = same_Some place later (sym at_a ∙ ap (slice_get places) same ∙ at_b) in
      omega (arith, equal, less)
  | inr (inl before) ↦ before
  | inr (inr after) ↦ let more = are.rising b a later place after at_b at_a in omega (arith, more, less)
]

-- ---- the ids that the records name in one way

module _ (says : Body → Option ℕ) (rs : List Record) where
  -- one record more
  named_more : (n : ℕ)
      → ids_named says rs (n + 1) ≡ ids_named says rs n ++ cons_option (at says rs n) []
  named_more n =
      ap (filter_map (at says rs)) (range_more n)
      ∙ filter_map-append (at says rs) (range_with_len 0 n) (n ∷ [])

  gathered_other : (n : ℕ) (ids places : List ℕ) → AreGathered says rs n ids places → at says rs n ≡ None
      → AreGathered says rs (n + 1) ids places
  gathered_other n ids places are none = record {
    listed =
        are.listed ∙ sym (append-nil (ids_named says rs n))
        ∙ ap (λ o. ids_named says rs n ++ cons_option o []) (sym none)
        ∙ sym (named_more n);
    all = are.all;
    few = let few = are.few in omega (arith, few);
    each = λ i id below names. elim (cases_eq i n) [
      | inl same ↦ absurd (none-some id (sym none ∙ ap (at says rs) (sym same) ∙ names))
      | inr apart ↦ are.each i id (omega arith) names
    ];
    only =
        λ index id place is stands.
        let old = are.only index id place is stands in (omega (arith, old.0), old.1);
    in_order = in_order_still n places are.in_order;
  }

  gathered_more : (n id : ℕ) (ids places : List ℕ) → AreGathered says rs n ids places
      → at says rs n ≡ Some id → AreGathered says rs (n + 1) (ids ++ id ∷ []) (places ++ n ∷ [])
  gathered_more n id ids places are names = record {
    listed =
        ap (λ l. l ++ id ∷ []) are.listed ∙ ap (λ o. ids_named says rs n ++ cons_option o []) (sym names)
        ∙ sym (named_more n);
    all = length_push places n ∙ ap (λ k. k + 1) are.all ∙ sym (length_push ids id);
    few = let few = are.few in let longer = length_push ids id in omega (arith, few, longer);
    each = λ i other below names_it. elim (cases_eq i n) [
      | inl same ↦
          let is_id : id ≡ other =
          same_Some id other (sym names ∙ ap (at says rs) (sym same) ∙ names_it) in (
            length ids,
            get_last ids id (length ids) refl ∙ ap Some is_id,
            get_last places n (length ids) (sym are.all) ∙ ap Some (sym same),
          )
      | inr apart ↦
          let old = are.each i other (omega arith) names_it in
          (old.0, get_pushed ids id other old.0 old.1, get_pushed places n i old.0 old.2)
    ];
    only = λ index other place is stands. elim (pushed_cases ids id other index is) [
      | inl before ↦ elim (pushed_cases places n place index stands) [
        | inl there ↦ let old = are.only index other place before there in (omega (arith, old.0), old.1)
        | inr last ↦
            absurd
            (let inside = slice_get_within ids index other before in
            let long = last.0 in let all = are.all in omega (arith, inside, long, all))
      ]
      | inr last ↦ elim (pushed_cases places n place index stands) [
        | inl there ↦
            absurd
            (let inside = slice_get_within places index place there in
            let long = last.0 in let all = are.all in omega (arith, inside, long, all))
        | inr too ↦ (omega (arith, too.1), ap (at says rs) (sym too.1) ∙ names ∙ ap Some last.1)
      ]
    ];
    in_order = in_order_more n places are.in_order;
  }

  -- one record more
  pub gathered_step : (n : ℕ) (old new : Names) (found : Option ℕ)
      → AreGathered says rs n old.ids.items old.places.items → at says rs n ≡ found → AddsName old new found n
      → AreGathered says rs (n + 1) new.ids.items new.places.items
  gathered_step n old new None are names (same, still) =
      rw (same, still) (gathered_other n old.ids.items old.places.items are names)
  gathered_step n old new (Some id) are names (more, one) =
      rw (more, one) (gathered_more n id old.ids.items old.places.items are names)

  place_of : (ids places : List ℕ) → AreGathered says rs (length rs) ids places → (index id : ℕ)
      → slice_get ids index ≡ Some id
      → (place : ℕ) × (slice_get places index ≡ Some place) × (place < length rs)
      × (at says rs place ≡ Some id)
  place_of ids places are index id is =
      let inside = slice_get_within ids index id is in
      let all = are.all in
      let stands : slice_get places index ≡ Some (get_or places index 0) =
      slice_get-get_or places index 0 (omega (arith, inside, all)) in
      let found = are.only index id (get_or places index 0) is stands in
      (get_or places index 0, stands, found.0, found.1)

  pub gathered_noted : (ids places : List ℕ) → AreGathered says rs (length rs) ids places
      → AreNoted says rs (length rs) ids
  gathered_noted ids places are = record {
    each =
        λ i id below names.
        let there = are.each i id below names in get_contains ids id there.0 there.1;
    only =
        λ id has.
        let index = contains_get ids id has in
        let place = place_of ids places are index.0 id index.1 in (place.0, place.2, place.3);
  }

  -- if each id is there once, no record names one again
  pub never_again : (ids places : List ℕ) → AreGathered says rs (length rs) ids places → AreApart ids
      → (i : ℕ) → Repeats says rs i → ⊥
  never_again ids places are apart i (id, k, below, there, here) =
      let first = are.each k id (at_within says rs k id there) there in
      let second = are.each i id (at_within says rs i id here) here in
      let same : k ≡ i =
      same_Some k i
      (sym first.2 ∙ ap (slice_get places) (apart first.0 second.0 id first.1 second.1) ∙ second.2) in
      omega (arith, below, same)

  -- and else the record at the place of the first id that is there again is the first that does
  pub place_again : (ids places : List ℕ) (place : ℕ) → AreGathered says rs (length rs) ids places
      → IsPlaceAgain ids places place → Repeats says rs place
  place_again ids places place are (index, first, stands) =
      let again = first.again in
      let id = again.1 in
      let before = place_of ids places are again.0 id again.3 in
      let here = are.only index id place again.4 stands in (
        id,
        before.0,
        are.in_order.rising again.0 index before.0 place again.2 before.1 stands,
        before.3,
        here.1,
      )

  pub not_before : (ids places : List ℕ) (place : ℕ) → AreGathered says rs (length rs) ids places
      → IsPlaceAgain ids places place → (k : ℕ) → k < place → Repeats says rs k → ⊥
  not_before ids places place are (index, first, stands) k less (id, j, below, there, here) =
      let one = are.each j id (at_within says rs j id there) there in
      let other = are.each k id (at_within says rs k id here) here in
      first.first other.0
      (index_before (length rs) places other.0 index k place are.in_order other.2 stands less) (
        one.0,
        id,
        index_before (length rs) places one.0 other.0 j k are.in_order one.2 other.2 below,
        one.1,
        other.1,
      )

-- where each task is made, if none is made again
pub gathered_made : (rs : List Record) (tasks places : List ℕ) → AreGathered made rs (length rs) tasks places
    → AreApart tasks → AreMade rs (length rs) tasks places
gathered_made rs tasks places are apart = record {
  all = are.all;
  few = are.few;
  apart = apart;
  each = place_of made rs tasks places are;
  in_order = are.in_order;
}

-- ---- records that make nothing again, and the first that does

pub never_twice : (rs : List Record) → ((i : ℕ) → Repeats made rs i → ⊥)
    → ((i : ℕ) → Repeats forked_region rs i → ⊥) → IsFreeOf rs CreatedTwice
never_twice rs tasks regions i has = elim (twice_cases rs i has) [
  | inl again ↦ tasks i again
  | inr again ↦ regions i again
]

pub first_twice : (rs : List Record) (i : ℕ) → Repeats made rs i ⊎ Repeats forked_region rs i
    → ((k : ℕ) → k < i → Repeats made rs k → ⊥) → ((k : ℕ) → k < i → Repeats forked_region rs k → ⊥)
    → IsFirstWith rs CreatedTwice i
first_twice rs i here tasks regions = first_here rs i (λ k less has. elim (twice_cases rs k has) [
  | inl again ↦ tasks k less again
  | inr again ↦ regions k less again
]) (elim here [
  | inl again ↦ twice_task rs i again
  | inr again ↦ twice_region rs i again
])

-- a task is made again, and perhaps a region
pub task_again : {X : Type 0} (rs : List Record) (tasks places regions begins : List ℕ) (task : ℕ)
    (found : Result X ℕ)
    → AreGathered made rs (length rs) tasks places → AreGathered forked_region rs (length rs) regions begins
    → IsPlaceAgain tasks places task → IfOk found (λ _. AreApart regions)
    → IfErr found (IsPlaceAgain regions begins)
    → IsFirstWith rs CreatedTwice (least_of task (result_err found))
task_again rs tasks places regions begins task (Ok x) are begun again apart none =
    first_twice rs task (inl (place_again made rs tasks places task are again))
    (not_before made rs tasks places task are again)
    (λ k _. never_again forked_region rs regions begins begun apart k)
task_again rs tasks places regions begins task (Err region) are begun again none too =
    elim (cases_lt region task) [
      | inl less ↦
          let low : region ≤ task = omega (arith, less) in
          rw (min-eq_right low)
          (first_twice rs region (inr (place_again forked_region rs regions begins region begun too))
          (λ k before. not_before made rs tasks places task are again k (omega (arith, before, less)))
          (not_before forked_region rs regions begins region begun too))
      | inr low ↦
          rw (min-eq_left low)
          (first_twice rs task (inl (place_again made rs tasks places task are again))
          (not_before made rs tasks places task are again)
          (λ k before.
          not_before forked_region rs regions begins region begun too k (omega (arith, before, low))))
    ]

-- or no task, and a region
pub region_again : (rs : List Record) (tasks places regions begins : List ℕ) (region : ℕ)
    → AreGathered made rs (length rs) tasks places → AreGathered forked_region rs (length rs) regions begins
    → AreApart tasks → IsPlaceAgain regions begins region → IsFirstWith rs CreatedTwice region
region_again rs tasks places regions begins region are begun apart again =
    first_twice rs region (inr (place_again forked_region rs regions begins region begun again))
    (λ k _. never_again made rs tasks places are apart k)
    (not_before forked_region rs regions begins region begun again)

-- ---- all records that do

-- one of two tests says that the record makes something again
pub again_either : (rs : List Record) (i : ℕ) (task region shows : Bool) → (IsTrue task ↔ Repeats made rs i)
    → (IsTrue region ↔ Repeats forked_region rs i)
    → ((task ≡ true) × (shows ≡ task)) ⊎ ((task ≡ false) × (shows ≡ region)) → IsTrue shows ↔ MakesAgain rs i
again_either rs i task region shows tasks regions (inl (made_it, is)) =
    (λ _. inl (tasks.0 made_it), λ _. is ∙ made_it)
again_either rs i task region shows tasks regions (inr (not_made, is)) = (
  λ shown. inr (regions.0 (sym is ∙ shown)),
  λ again. elim again [
    | inl by_task ↦ absurd (false≢true (sym not_made ∙ tasks.1 by_task))
    | inr by_region ↦ is ∙ regions.1 by_region
  ],
)

pub all_again : (rs : List Record) (n : ℕ) (places : List ℕ) → length rs ≡ n
    → AreAllBelow (MakesAgain rs) n places → AreAllWith rs CreatedTwice places
all_again rs n places long are =
    all_with rs CreatedTwice (MakesAgain rs) n places long (λ i again. elim again [
      | inl task ↦ twice_task rs i task
      | inr region ↦ twice_region rs i region
    ]) (λ i has. (let inside = twice_within rs i has in omega (arith, inside, long), twice_cases rs i has))
    are
