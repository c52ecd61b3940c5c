-- The parallel regions that records begin and name, with one record more.
use Rattle.std.proofs.Common.{ℕ, ◌≡◌, ◌∙◌, ◌==◌, List, [], ◌∷◌, ◌++◌, length, Option, Some, None}
use Rattle.std.proofs.Common.{true, false, refl, sym, ap, subst, arith, inl, inr}
use Rattle.std.specs.Ordering.{nat_cmp}
use Rattle.std.specs.BTreeSet.{contains, btree_set_len}
use Rattle.std.proofs.lemmas.Bool.{cases_eq, or_cases, or_left, or_right, eqb-true, eq-eqb, false≢true}
use Rattle.std.proofs.lemmas.Option.{none-some, same_Some}
use Rattle.ompt_events.specs.declared.records.Record.{Record}
use Rattle.ompt_events.specs.declared.records.Body.{Body}
use Rattle.ompt_events.specs.declared.records.Body.TheVariants.{ParallelBegin}
use Rattle.ompt_events.specs.Causes.{IsForked}
use Rattle.ompt_events.specs.Records.{forked, region_named}
use Rattle.ompt_events.proofs.ListLemmas.{get_pushed, get_last, pushed_cases}
use Rattle.ompt_events.proofs.PlaceLemmas.{at_get, get_at}
use Rattle.online.specs.declared.regions.Regions.{Regions}
use Rattle.online.specs.Ids.{has}
use Rattle.online.specs.Online.{AreForked}
use Rattle.online.specs.Watches.{AreRegionsOf, BeginsNewRegion, NamesOne, BeginsOne}

-- ---- a region that a record begins

forked_names_none : (body : Body) (task parallel : ℕ) → forked body ≡ Some (task, parallel)
    → region_named body ≡ None
forked_names_none (ParallelBegin requested own region) task parallel is = refl
forked_names_none _ task parallel is = absurd (none-some (task, parallel) is)

named_forks_none : (body : Body) (parallel : ℕ) → region_named body ≡ Some parallel → forked body ≡ None
named_forks_none body parallel names = of (forked body) refl
  where
    of : (o : Option (ℕ × ℕ)) → forked body ≡ o → forked body ≡ None
    of None is = is
    of (Some (task, region)) is =
        absurd (none-some parallel (sym (forked_names_none body task region is) ∙ names))

forked_stays : (rs : List Record) (r : Record) (parallel : ℕ) → IsForked rs parallel
    → IsForked (rs ++ r ∷ []) parallel
forked_stays rs r parallel (k, task, begins) =
    let (q, is, says) = get_at forked rs k (task, parallel) begins in
    (k, task, at_get forked (rs ++ r ∷ []) k q (get_pushed rs r q k is) ∙ says)

-- a region that is begun there is begun before, where the record begins none
forked_back : (rs : List Record) (r : Record) (parallel : ℕ) → forked r.body ≡ None
    → IsForked (rs ++ r ∷ []) parallel → IsForked rs parallel
forked_back rs r parallel none (k, task, begins) =
    let (q, is, says) = get_at forked (rs ++ r ∷ []) k (task, parallel) begins in
    elim (pushed_cases rs r q k is) [
      | inl old ↦ (k, task, at_get forked rs k q old ∙ says)
      | inr (last, same) ↦
          absurd (none-some (task, parallel) (sym none ∙ ap (λ (x : Record). forked x.body) same ∙ says))
    ]

none_begun : (rs : List Record) (r : Record) → forked r.body ≡ None → BeginsNewRegion rs r
none_begun rs r none task parallel is forks = none-some (task, parallel) (sym none ∙ is)

-- ---- a record that names a region

pub regions_named : (rs : List Record) (r : Record) (old new : Regions) (parallel : ℕ) → AreRegionsOf rs old
    → region_named r.body ≡ Some parallel → NamesOne old new parallel
    → BeginsNewRegion rs r × AreRegionsOf (rs ++ r ∷ []) new
regions_named rs r old new parallel are names one = (
  none_begun rs r (named_forks_none r.body parallel names),
  record {
    begun = λ region there.
        forked_stays rs r region (are.begun region (ap (λ ids. has ids region) (sym one.begun) ∙ there));
    all = λ region forks.
        ap (λ ids. has ids region) one.begun
        ∙ are.all region (forked_back rs r region (named_forks_none r.body parallel names) forks);
    named = λ i region says_it.
        let (q, is, says) = get_at region_named (rs ++ r ∷ []) i region says_it in
        elim (pushed_cases rs r q i is) [
          | inl before ↦ elim (are.named i region (at_get region_named rs i q before ∙ says)) [
            | inl forks ↦ inl (forked_stays rs r region forks)
            | inr waits ↦ inr (one.others region waits)
          ]
          | inr (last, same) ↦
              let equal : parallel ≡ region =
              same_Some parallel region
              (sym names ∙ ap (λ (x : Record). region_named x.body) same ∙ says) in
              elim one.here [
                | inl there ↦ inl
                    (subst (IsForked (rs ++ r ∷ [])) equal
                    (forked_stays rs r parallel (are.begun parallel there)))
                | inr waits ↦
                    inr (subst (λ p. contains nat_cmp new.awaited p ≡ true) equal waits)
              ]
        ];
  },
)

-- one that does neither
pub regions_none : (rs : List Record) (r : Record) (kept : Regions) → AreRegionsOf rs kept
    → region_named r.body ≡ None → forked r.body ≡ None
    → BeginsNewRegion rs r × AreRegionsOf (rs ++ r ∷ []) kept
regions_none rs r kept are names begins = (
  none_begun rs r begins,
  record {
    begun = λ region there. forked_stays rs r region (are.begun region there);
    all = λ region forks. are.all region (forked_back rs r region begins forks);
    named = λ i region says_it.
        let (q, is, says) = get_at region_named (rs ++ r ∷ []) i region says_it in
        elim (pushed_cases rs r q i is) [
          | inl before ↦ elim (are.named i region (at_get region_named rs i q before ∙ says)) [
            | inl forks ↦ inl (forked_stays rs r region forks)
            | inr waits ↦ inr waits
          ]
          | inr (last, same) ↦
              absurd
              (none-some region (sym names ∙ ap (λ (x : Record). region_named x.body) same ∙ says))
        ];
  },
)

-- ---- one that begins a new region

pub regions_begun : (rs : List Record) (r : Record) (old new : Regions) (task parallel : ℕ)
    → AreRegionsOf rs old → forked r.body ≡ Some (task, parallel) → BeginsOne old new parallel
    → BeginsNewRegion rs r × AreRegionsOf (rs ++ r ∷ []) new
regions_begun rs r old new task parallel are begins one = (
  λ own region is forks.
      let same : parallel ≡ region =
      ap (λ (f : ℕ × ℕ). f.1) (same_Some (task, parallel) (own, region) (sym begins ∙ is)) in
      false≢true (sym one.fresh ∙ are.all parallel (subst (IsForked rs) (sym same) forks)),
  record {
    begun = λ region there. elim
        (or_cases (region == parallel) (has old.begun region) (sym (one.begun region) ∙ there)) [
          | inl same ↦ subst (IsForked (rs ++ r ∷ [])) (sym (eqb-true region parallel same)) here
          | inr before ↦ forked_stays rs r region (are.begun region before)
        ];
    all = λ region (k, own, forks).
        let (q, is, says) = get_at forked (rs ++ r ∷ []) k (own, region) forks in
        one.begun region ∙ elim (pushed_cases rs r q k is) [
          | inl before ↦
              or_right (region == parallel) (has old.begun region)
              (are.all region (k, own, at_get forked rs k q before ∙ says))
          | inr (last, equal) ↦
              let same : (task, parallel) ≡ (own, region) =
              same_Some (task, parallel) (own, region)
              (sym begins ∙ ap (λ (x : Record). forked x.body) equal ∙ says) in
              or_left (region == parallel) (has old.begun region)
              (eq-eqb region parallel (sym (ap (λ (f : ℕ × ℕ). f.1) same)))
        ];
    named = λ i region says_it.
        let (q, is, says) = get_at region_named (rs ++ r ∷ []) i region says_it in
        elim (pushed_cases rs r q i is) [
          | inl before ↦ elim (are.named i region (at_get region_named rs i q before ∙ says)) [
            | inl forks ↦ inl (forked_stays rs r region forks)
            | inr waits ↦ elim (cases_eq region parallel) [
              | inl same ↦ inl (subst (IsForked (rs ++ r ∷ [])) (sym same) here)
              | inr apart ↦ inr (one.others region apart waits)
            ]
          ]
          | inr (last, same) ↦
              absurd
              (none-some region
              (sym (forked_names_none r.body task parallel begins)
              ∙ ap (λ (x : Record). region_named x.body) same ∙ says))
        ];
  },
)
  where
    here : IsForked (rs ++ r ∷ []) parallel
    here = (
      length rs,
      task,
      at_get forked (rs ++ r ∷ []) (length rs) r (get_last rs r (length rs) refl) ∙ begins,
    )

-- ---- where none is awaited

none_has : (keys : List ℕ) (region : ℕ) → length keys ≡ 0
    → contains nat_cmp (record { keys = keys }) region ≡ false
none_has [] region none = refl
none_has (key ∷ keys) region none = absurd (omega (arith, none))

pub regions_all : (rs : List Record) (kept : Regions) → btree_set_len kept.awaited ≡ 0 → AreRegionsOf rs kept
    → AreForked rs
regions_all rs kept none are i parallel names = elim (are.named i parallel names) [
  | inl forks ↦ forks
  | inr waits ↦ absurd (false≢true (sym (none_has kept.awaited.keys parallel none) ∙ waits))
]
