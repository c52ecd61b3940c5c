-- Intervals of ids: which ids they have, and that they stay apart with one id more.
use Rattle.std.proofs.Common.{◌≡◌, ◌≢◌, ◌∙◌, ℕ, ◌<◌, ◌≤◌, ◌+◌, ◌⊎◌, Bool, true, false, List, ◌&&◌, ◌||◌, ◌^◌}
use Rattle.std.proofs.Common.{Option, Some, None, refl, sym, ap, subst, arith, inl, inr, cond, eqb, leb}
use Rattle.std.specs.Prelude.{nat_lt, ◌==◌}
use Rattle.std.specs.Option.{is_some}
use Rattle.std.specs.Ordering.{nat_cmp, is_gt}
use Rattle.std.specs.declared.cmp.Ordering.TheVariants.{Less, Equal}
use Rattle.std.specs.Cmp.{nat_cmp_is}
use Rattle.std.specs.BTreeMap.{BTreeMap, IsOrdered, IsUnchanged, is_at}
use Rattle.std.specs.Map.{lookup}
use Rattle.std.proofs.lemmas.Bool.{cases_lt, cases_eq, leb-true, le-leb, lt-ltb, le-ltb, eqb-true, eq-eqb}
use Rattle.std.proofs.lemmas.Bool.{ne_eqb, and_parts, and_from, or_left, or_right, or_cases, false≢true}
use Rattle.std.proofs.lemmas.Bool.{false_from_ne_true}
use Rattle.std.proofs.lemmas.Option.{none-some, same_Some}
use Rattle.std.proofs.lemmas.List.Folds.{Any-from_list_any, list_any-from_Any}
use Rattle.std.proofs.lemmas.Map.Views.{btree_map_get_iff}
use Rattle.std.proofs.lemmas.Map.Lookups.{exact_unsigned}
use Rattle.std.proofs.lemmas.Cmp.{nat_cmp_total}
use Rattle.online.specs.Spans.{last_from, is_in_span, is_in, AreSpans, AreApart, IsNearest, IsFirstWith}
use Rattle.online.specs.Spans.{IsLastWith, extends, begins, goes_on, ends, IsJoined}

-- ---- which ids the intervals have

-- an interval has the id
pub record HasId (spans : ℕ → Option ℕ) (id : ℕ) : Type 0 where
  pub first : ℕ
  pub last : ℕ
  pub found : spans first ≡ Some last
  pub low : first ≤ id
  pub high : id ≤ last

pub in_has : (m : BTreeMap ℕ ℕ) → IsOrdered nat_cmp m → (id : ℕ) → is_in m id ≡ true → HasId (last_from m) id
in_has m ordered id is =
    let (k, span, low, here, within) = Any-from_list_any (is_in_span id) m.entries is in
    let both = and_parts (leb span.0 id) (leb id span.1) within in
    record {
      first = span.0;
      last = span.1;
      found = (btree_map_get_iff nat_cmp_total exact_unsigned m ordered span.0 span.1).1 (k, low, here);
      low = leb-true span.0 id both.0;
      high = leb-true id span.1 both.1;
    }

pub has_in : (m : BTreeMap ℕ ℕ) → IsOrdered nat_cmp m → (id : ℕ) → HasId (last_from m) id → is_in m id ≡ true
has_in m ordered id has =
    let (k, low, here) =
    (btree_map_get_iff nat_cmp_total exact_unsigned m ordered has.first has.last).0 has.found in
    list_any-from_Any (is_in_span id) m.entries (
      k,
      (has.first, has.last),
      low,
      here,
      and_from (leb has.first id) (leb id has.last) (le-leb has.first id has.low)
          (le-leb id has.last has.high),
    )

-- ---- the nearest interval tells

pub not_gt_from_le : (a b : ℕ) → a ≤ b → is_gt (nat_cmp a b) ≡ false
not_gt_from_le a b most = elim (cases_lt a b) [
  | inl less ↦ ap is_gt (sym (nat_cmp_is a b Less less))
  | inr high ↦ ap is_gt (sym (nat_cmp_is a b Equal (omega (arith, most, high))))
]

-- it has the id, or none does
pub nearest_has : (spans : ℕ → Option ℕ) (id first last : ℕ) → IsNearest spans id (Some (first, last))
    → id ≤ last → HasId spans id
nearest_has spans id first last (low, found, greatest) high =
    record { first = first; last = last; found = found; low = low; high = high }

-- another interval that begins at the id or before it ends before the nearest begins
ends_before : (spans : ℕ → Option ℕ) (id first last other end : ℕ) → AreApart spans
    → IsNearest spans id (Some (first, last)) → spans other ≡ Some end → other ≤ id
    → ((other ≡ first) × (end ≡ last)) ⊎ (end + 1 < first)
ends_before spans id first last other end apart (low, found, greatest) there most =
    let below = greatest other most (ap is_some there) in
    elim (cases_eq other first) [
      | inl same ↦ inl (same, same_Some end last (sym there ∙ ap spans same ∙ found))
      | inr differ ↦ inr (apart other end first last there found (omega (arith, below, differ)))
    ]

pub nearest_only : (spans : ℕ → Option ℕ) (id first last : ℕ) → AreApart spans
    → IsNearest spans id (Some (first, last)) → last < id → HasId spans id → ⊥
nearest_only spans id first last apart near less has =
    let high = has.high in
    let low = near.0 in
    elim (ends_before spans id first last has.first has.last apart near has.found has.low) [
      | inl (same, ended) ↦ omega (arith, ended, high, less)
      | inr early ↦ omega (arith, early, high, low)
    ]

pub nearest_none : (spans : ℕ → Option ℕ) (id : ℕ) → IsNearest spans id None → HasId spans id → ⊥
nearest_none spans id none has =
    none-some has.last (sym (none has.first has.low) ∙ has.found)

-- ---- where the interval of one id more begins and ends

pub begins_behind : (spans : ℕ → Option ℕ) (id first last : ℕ) → IsNearest spans id (Some (first, last))
    → (last + 1 ≢ id) → IsFirstWith spans id id
begins_behind spans id first last near behind = begins (λ within apart other end there touch.
    let low = near.0 in
    let held = within other end there in
    let rises = held.0 in
    elim (ends_before spans id first last other end apart near there (omega (arith, rises, touch))) [
      | inl (same, ended) ↦ behind (omega (arith, ended, touch))
      | inr early ↦ omega (arith, early, touch, low)
    ])

pub begins_alone : (spans : ℕ → Option ℕ) (id : ℕ) → IsNearest spans id None → IsFirstWith spans id id
begins_alone spans id none = begins (λ within apart other end there touch.
    let held = within other end there in
    let rises = held.0 in
    none-some end (sym (none other (omega (arith, rises, touch))) ∙ there))

-- ---- an interval is put in

-- what is known where the intervals get one id more
pub record AddsId (old new : ℕ → Option ℕ) (first id last : ℕ) : Type 0 where
  pub within : AreSpans old
  pub apart : AreApart old
  pub absent : HasId old id → ⊥
  pub small : id < 2 ^ 64
  pub first_with : IsFirstWith old id first
  pub last_with : IsLastWith old id last
  pub joined : IsJoined old new first id last

module _ (old new : ℕ → Option ℕ) (first id last : ℕ) (adds : AddsId old new first id last) where
  -- the interval that begins right behind the id
  record Behind (start : ℕ) : Type 0 where
    pub less : id < last
    pub next : start ≡ id + 1

  begins_low : first ≤ id
  begins_low = of first adds.first_with
    where
      of : (f : ℕ) → IsFirstWith old id f → f ≤ id
      of f (extends _ e found touch) =
          let held = adds.within f e found in let rises = held.0 in omega (arith, rises, touch)
      of _ (begins none) = omega arith

  ends_high : (id ≤ last) × (last < 2 ^ 64)
  ends_high = of last adds.last_with
    where
      of : (l : ℕ) → IsLastWith old id l → (id ≤ l) × (l < 2 ^ 64)
      of l (goes_on _ found) =
          let held = adds.within (id + 1) l found in
          let rises = held.0 in
          (omega (arith, rises), held.1)
      of _ (ends none) = (omega arith, adds.small)

  -- the new intervals, one by one
  here : new first ≡ Some last
  here = adds.joined first
      ∙ ap (λ b. cond (nat_lt id last && b) None (cond (eqb first first) (Some last) (old first)))
      (ne_eqb first (id + 1) (λ is. let low = begins_low in omega (arith, low, is)))
      ∙ of (nat_lt id last)
    where
      of : (b : Bool)
          → cond (b && false) None (cond (eqb first first) (Some last) (old first)) ≡ Some last
      of true = ap (λ b. cond b (Some last) (old first)) (eq-eqb first first refl)
      of false = ap (λ b. cond b (Some last) (old first)) (eq-eqb first first refl)

  -- any other is an old one, that does not begin right behind the id
  there : (start : ℕ) → start ≢ first → (Behind start → ⊥) → new start ≡ old start
  there start differ apart = adds.joined start
      ∙ ap (λ b. cond (nat_lt id last && eqb start (id + 1)) None (cond b (Some last) (old start)))
      (ne_eqb start first differ)
      ∙ elim (cases_lt id last) [
        | inl less ↦
            ap (λ b. cond (nat_lt id last && b) None (old start))
            (ne_eqb start (id + 1) (λ next. apart (record { less = less; next = next })))
            ∙ ap (λ b. cond (b && false) None (old start)) (lt-ltb id last less)
        | inr most ↦ ap (λ b. cond (b && eqb start (id + 1)) None (old start)) (le-ltb id last most)
      ]

  taken : (start : ℕ) → Behind start → new start ≡ None
  taken start behind = adds.joined start
      ∙ ap (λ b. cond (b && eqb start (id + 1)) None (cond (eqb start first) (Some last) (old start)))
      (lt-ltb id last behind.less)
      ∙ ap (λ b. cond b None (cond (eqb start first) (Some last) (old start)))
      (eq-eqb start (id + 1) behind.next)

  record IsOther (start end : ℕ) : Type 0 where
    pub old_one : old start ≡ Some end
    pub other : start ≢ first
    pub apart : Behind start → ⊥

  -- one is the joined one, or was there
  which : (start end : ℕ) → new start ≡ Some end
      → ((start ≡ first) × (end ≡ last)) ⊎ IsOther start end
  which start end is = elim (cases_eq start first) [
    | inl same ↦ inl (same, same_Some end last (sym is ∙ ap new same ∙ here))
    | inr differ ↦
        let none = λ (behind : Behind start). none-some end (sym (taken start behind) ∙ is) in
        inr (record { old_one = sym (there start differ none) ∙ is; other = differ; apart = none })
  ]

  -- an interval that begins before the joined one ends before it, and does not touch it
  before : (start end : ℕ) → old start ≡ Some end → start < first → end + 1 < first
  before start end found early = of first adds.first_with early
    where
      of : (f : ℕ) → IsFirstWith old id f → start < f → end + 1 < f
      of f (extends _ e there touch) early = adds.apart start end f e found there early
      of _ (begins none) early =
          let apart = none adds.within adds.apart start end found in
          elim (cases_lt end id) [
            | inl less ↦ omega (arith, less, apart)
            | inr high ↦
                absurd (adds.absent (record {
                  first = start;
                  last = end;
                  found = found;
                  low = omega (arith, early);
                  high = high;
                }))
          ]

  -- one that begins behind the joined one's first id, and is kept, begins behind its end
  behind : (start end : ℕ) → IsOther start end → first < start → last + 1 < start
  behind start end kept late = elim (cases_lt id start) [
    | inl past ↦ of last adds.last_with refl past
    | inr most ↦ absurd (inside first adds.first_with late most)
  ]
    where
      inside : (f : ℕ) → IsFirstWith old id f → f < start → start ≤ id → ⊥
      inside f (extends _ e found touch) late most =
          let apart = adds.apart f e start end found kept.old_one late in
          omega (arith, apart, touch, most)
      inside _ (begins none) late most = omega (arith, late, most)

      of : (l : ℕ) → IsLastWith old id l → l ≡ last → id < start → l + 1 < start
      of l (goes_on _ found) same past =
          let high = ends_high in
          let held = adds.within (id + 1) l found in
          let rises = held.0 in
          elim (cases_eq start (id + 1)) [
            | inl next ↦ absurd (kept.apart (record { less = omega (arith, rises, same); next = next }))
            | inr differ ↦
                adds.apart (id + 1) l start end found kept.old_one (omega (arith, past, differ))
          ]
      of _ (ends none) same past = elim (cases_eq start (id + 1)) [
        | inl next ↦
            let held = adds.within start end kept.old_one in
            absurd (none-some end
            (sym (none (let low = held.0 in let high = held.1 in omega (arith, low, high, next)))
            ∙ ap old (sym next) ∙ kept.old_one))
        | inr differ ↦ omega (arith, past, differ)
      ]

  pub joined_within : AreSpans new
  joined_within start end is = elim (which start end is) [
    | inl (same, ended) ↦
        let low = begins_low in
        let high = ends_high in
        let most = high.0 in
        let small = high.1 in
        (omega (arith, same, ended, low, most), omega (arith, ended, small))
    | inr kept ↦ adds.within start end kept.old_one
  ]

  pub joined_apart : AreApart new
  joined_apart start end other stop is its early = elim (which start end is) [
    | inl (same, ended) ↦ elim (which other stop its) [
      | inl (again, stopped) ↦ absurd (omega (arith, same, again, early))
      | inr kept ↦
          let far = behind other stop kept (omega (arith, same, early)) in omega (arith, far, ended)
    ]
    | inr kept ↦ elim (which other stop its) [
      | inl (again, stopped) ↦
          let far = before start end kept.old_one (omega (arith, again, early)) in
          omega (arith, far, again)
      | inr more ↦ adds.apart start end other stop kept.old_one more.old_one early
    ]
  ]

  -- the joined interval has the id, and what the intervals had that it takes in
  new_has : (other : ℕ) → first ≤ other → other ≤ last → HasId new other
  new_has other low high =
      record { first = first; last = last; found = here; low = low; high = high }

  joined_more : (other : ℕ) → HasId old other → HasId new other
  joined_more other has = elim (cases_eq has.first first) [
    | inl same ↦ of first adds.first_with refl same
    | inr differ ↦ elim (cases_lt id last) [
      | inl less ↦ elim (cases_eq has.first (id + 1)) [
        | inl next ↦ over last adds.last_with refl less next
        | inr far ↦ stays differ (λ is. far is.next)
      ]
      | inr most ↦ stays differ (λ is. let less = is.less in omega (arith, less, most))
    ]
  ]
    where
      stays : has.first ≢ first → (Behind has.first → ⊥) → HasId new other
      stays differ apart = record {
        first = has.first;
        last = has.last;
        found = there has.first differ apart ∙ has.found;
        low = has.low;
        high = has.high;
      }

      of : (f : ℕ) → IsFirstWith old id f → f ≡ first → has.first ≡ f → HasId new other
      of f (extends _ e found touch) is same =
          let ended : has.last ≡ e = same_Some has.last e (sym has.found ∙ ap old same ∙ found) in
          let low = has.low in
          let high = has.high in
          let ends_there = ends_high in
          let most = ends_there.0 in
          new_has other (omega (arith, is, same, low)) (omega (arith, ended, high, touch, most))
      of _ (begins none) is same =
          let held = adds.within has.first has.last has.found in
          let rises = held.0 in
          absurd (adds.absent (record {
            first = has.first;
            last = has.last;
            found = has.found;
            low = omega (arith, same);
            high = omega (arith, same, rises);
          }))

      over : (l : ℕ) → IsLastWith old id l → l ≡ last → id < last → has.first ≡ id + 1 → HasId new other
      over l (goes_on _ found) same less next =
          let ended : has.last ≡ l = same_Some has.last l (sym has.found ∙ ap old next ∙ found) in
          let low = has.low in
          let high = has.high in
          let begins_there = begins_low in
          new_has other (omega (arith, begins_there, next, low)) (omega (arith, ended, same, high))
      over _ (ends none) same less next = absurd (omega (arith, same, less))

  joined_less : (other : ℕ) → HasId new other → (other ≡ id) ⊎ HasId old other
  joined_less other has = elim (which has.first has.last has.found) [
    | inl (same, ended) ↦ elim (cases_eq other id) [
      | inl is ↦ inl is
      | inr differ ↦ elim (cases_lt other id) [
        | inl less ↦ inr (of first adds.first_with same less)
        | inr past ↦ inr (over last adds.last_with ended (omega (arith, past, differ)))
      ]
    ]
    | inr kept ↦ inr (record {
      first = has.first;
      last = has.last;
      found = kept.old_one;
      low = has.low;
      high = has.high;
    })
  ]
    where
      of : (f : ℕ) → IsFirstWith old id f → has.first ≡ f → other < id → HasId old other
      of f (extends _ e found touch) same less =
          let low = has.low in record {
            first = f;
            last = e;
            found = found;
            low = omega (arith, same, low);
            high = omega (arith, touch, less);
          }
      of _ (begins none) same less = let low = has.low in absurd (omega (arith, same, low, less))

      over : (l : ℕ) → IsLastWith old id l → has.last ≡ l → id < other → HasId old other
      over l (goes_on _ found) same past =
          let high = has.high in record {
            first = id + 1;
            last = l;
            found = found;
            low = omega (arith, past);
            high = omega (arith, same, high);
          }
      over _ (ends none) same past = let high = has.high in absurd (omega (arith, same, high, past))

  pub joined_id : HasId new id
  joined_id = let most = ends_high in new_has id begins_low most.0

-- two tests that hold in the same cases
equal_tests : (a b : Bool) → (a ≡ true → b ≡ true) → (b ≡ true → a ≡ true) → a ≡ b
equal_tests true b forth back = sym (forth refl)
equal_tests false true forth back = back refl
equal_tests false false forth back = refl

pub in_joined : (old new : BTreeMap ℕ ℕ) (first id last : ℕ) → IsOrdered nat_cmp old → IsOrdered nat_cmp new
    → AddsId (last_from old) (last_from new) first id last → (other : ℕ)
    → is_in new other ≡ ((other == id) || is_in old other)
in_joined old new first id last was is adds other =
    equal_tests (is_in new other) ((other == id) || is_in old other)
    (λ holds. elim
    (joined_less (last_from old) (last_from new) first id last adds other (in_has new is other holds)) [
      | inl same ↦ or_left (eqb other id) (is_in old other) (eq-eqb other id same)
      | inr has ↦ or_right (eqb other id) (is_in old other) (has_in old was other has)
    ])
    (λ holds. has_in new is other (elim (or_cases (eqb other id) (is_in old other) holds) [
      | inl same ↦
          subst (HasId (last_from new)) (sym (eqb-true other id same))
          (joined_id (last_from old) (last_from new) first id last adds)
      | inr has ↦
          joined_more (last_from old) (last_from new) first id last adds other (in_has old was other has)
    ]))

-- the entries are the same
pub unchanged_from : (old new : BTreeMap ℕ ℕ) → IsUnchanged old new → (first : ℕ)
    → last_from new first ≡ last_from old first
unchanged_from old new same first = ap (λ (es : List (ℕ × ℕ)). lookup (is_at (nat_cmp first)) es) same

pub unchanged_within : (old new : BTreeMap ℕ ℕ) → IsUnchanged old new → AreSpans (last_from old)
    → AreSpans (last_from new)
unchanged_within old new same within first last is =
    within first last (sym (unchanged_from old new same first) ∙ is)

pub unchanged_apart : (old new : BTreeMap ℕ ℕ) → IsUnchanged old new → AreApart (last_from old)
    → AreApart (last_from new)
unchanged_apart old new same apart first last other end is its =
    apart first last other end (sym (unchanged_from old new same first) ∙ is)
    (sym (unchanged_from old new same other) ∙ its)

-- an id that no interval has is in none
pub absent_id : (m : BTreeMap ℕ ℕ) → IsOrdered nat_cmp m → (id : ℕ) → is_in m id ≡ false
    → HasId (last_from m) id → ⊥
absent_id m ordered id none has = false≢true (sym none ∙ has_in m ordered id has)

pub nearest_in : (m : BTreeMap ℕ ℕ) → IsOrdered nat_cmp m → AreApart (last_from m) → (id first last : ℕ)
    → IsNearest (last_from m) id (Some (first, last)) → leb id last ≡ is_in m id
nearest_in m ordered apart id first last near =
    equal_tests (leb id last) (is_in m id)
    (λ holds. has_in m ordered id (nearest_has (last_from m) id first last near (leb-true id last holds)))
    (λ holds. elim (cases_lt last id) [
      | inl less ↦
          absurd (nearest_only (last_from m) id first last apart near less (in_has m ordered id holds))
      | inr most ↦ le-leb id last most
    ])

pub none_in : (m : BTreeMap ℕ ℕ) → IsOrdered nat_cmp m → (id : ℕ) → IsNearest (last_from m) id None
    → is_in m id ≡ false
none_in m ordered id none =
    false_from_ne_true (is_in m id) (λ holds. nearest_none (last_from m) id none (in_has m ordered id holds))
