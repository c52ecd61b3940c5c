-- How the greatest lengths grow, and what is read of them.
use Rattle.std.proofs.Common.{◌≡◌, ◌≢◌, ◌∙◌, ℕ, ◌≤◌, ◌+◌, List, Option, Some, refl, sym, ap, subst, arith}
use Rattle.std.proofs.Common.{inl, inr, ◌⊎◌, max}
use Rattle.std.proofs.lemmas.Bool.{cases_eq, cases_lt, false≢true}
use Rattle.std.proofs.lemmas.Option.{same_Some}
use Rattle.std.specs.Prelude.{slice_get, true}
use Rattle.std.specs.Option.{option_map_or}
use Rattle.std.specs.Ordering.{nat_cmp}
use Rattle.std.specs.BTreeMap.{BTreeMap, Updates}
use Rattle.ompt_events.specs.declared.deps.Dep.{Dep}
use Rattle.ompt_events.specs.declared.names.DepKind.{DepKind}
use Rattle.ompt_events.specs.declared.names.DepKind.TheVariants.{In, Out, Inout, Mutexinoutset, Inoutset}
use Rattle.ompt_events.specs.Names.{conflict}
use Rattle.ompt_events.proofs.ListLemmas.{get_contains}
use Rattle.ompt_events.proofs.NumberMaps.{updated_here, updated_there}
use Rattle.depend_edges.specs.declared.maxima.Maxima.{Maxima}
use Rattle.depend_edges.specs.Maxima.{maximum, maximum_at, IsKindRaised, IsGreatestConflicting}
use Rattle.depend_edges.specs.Maxima.{AreLengthsEntered, IsGreatest}

-- the greater of two numbers
pub max_cases : (a b : ℕ) → (max a b ≡ a) ⊎ (max a b ≡ b)
max_cases a b = elim (cases_lt b a) [
  | inl less ↦ inl (omega arith)
  | inr more ↦ inr (omega arith)
]

-- ---- what an item waits for

-- an item that conflicts with the kinds of three running maxima waits for the greatest of these
awaited_three : (m : Maxima) (kind first second third : DepKind) (a r : ℕ) → conflict first kind ≡ true
    → conflict second kind ≡ true → conflict third kind ≡ true → a ≡ max (maximum m first) (maximum m second)
    → r ≡ max a (maximum m third)
    → ((other : DepKind) → conflict other kind ≡ true → maximum m other ≤ r)
    → IsGreatestConflicting m kind r
awaited_three m kind first second third a r one two three low high bound = record {
  bound = bound;
  reached = elim (max_cases a (maximum m third)) [
    | inr last ↦ (third, three, sym (high ∙ last))
    | inl lower ↦ elim (max_cases (maximum m first) (maximum m second)) [
      | inl is ↦ (first, one, sym (high ∙ lower ∙ low ∙ is))
      | inr is ↦ (second, two, sym (high ∙ lower ∙ low ∙ is))
    ]
  ];
}

pub awaited_in : (m : Maxima) (a r : ℕ) → a ≡ max m.writers m.mutexes → r ≡ max a m.sets
    → IsGreatestConflicting m In r
awaited_in m a r first second =
    awaited_three m In Out Mutexinoutset Inoutset a r refl refl refl first second bound
  where
    bound : (other : DepKind) → conflict other In ≡ true → maximum m other ≤ r
    bound In e = absurd (false≢true e)
    bound _ e = omega (arith, first, second)

pub awaited_out : (m : Maxima) (kind : DepKind) (a b r : ℕ) → ((other : DepKind) → conflict other kind ≡ true)
    → a ≡ max m.writers m.mutexes → b ≡ max a m.sets → r ≡ max b m.readers → IsGreatestConflicting m kind r
awaited_out m kind a b r all first second third = record {
  bound = λ other e. bound other;
  reached = elim (max_cases b m.readers) [
    | inr reader ↦ (In, all In, sym (third ∙ reader))
    | inl low ↦ elim (max_cases a m.sets) [
      | inr set ↦ (Inoutset, all Inoutset, sym (third ∙ low ∙ second ∙ set))
      | inl lower ↦ elim (max_cases m.writers m.mutexes) [
        | inl writer ↦ (Out, all Out, sym (third ∙ low ∙ second ∙ lower ∙ first ∙ writer))
        | inr mutex ↦ (Mutexinoutset, all Mutexinoutset, sym (third ∙ low ∙ second ∙ lower ∙ first ∙ mutex))
      ]
    ]
  ];
}
  where
    bound : (other : DepKind) → maximum m other ≤ r
    bound In = omega (arith, first, second, third)
    bound _ = omega (arith, first, second, third)

pub all_out : (other : DepKind) → conflict other Out ≡ true
all_out In = refl
all_out _ = refl

pub all_inout : (other : DepKind) → conflict other Inout ≡ true
all_inout In = refl
all_inout _ = refl

pub awaited_mutex : (m : Maxima) (a r : ℕ) → a ≡ max m.writers m.sets → r ≡ max a m.readers
    → IsGreatestConflicting m Mutexinoutset r
awaited_mutex m a r first second =
    awaited_three m Mutexinoutset Out Inoutset In a r refl refl refl first second bound
  where
    bound : (other : DepKind) → conflict other Mutexinoutset ≡ true → maximum m other ≤ r
    bound Mutexinoutset e = absurd (false≢true e)
    bound _ e = omega (arith, first, second)

pub awaited_set : (m : Maxima) (a r : ℕ) → a ≡ max m.writers m.mutexes → r ≡ max a m.readers
    → IsGreatestConflicting m Inoutset r
awaited_set m a r first second =
    awaited_three m Inoutset Out Mutexinoutset In a r refl refl refl first second bound
  where
    bound : (other : DepKind) → conflict other Inoutset ≡ true → maximum m other ≤ r
    bound Inoutset e = absurd (false≢true e)
    bound _ e = omega (arith, first, second)

-- ---- one item more is entered

-- what the map has at a location, once it was raised there
raised_here : (old new : BTreeMap ℕ Maxima) (var : ℕ) (raised : Maxima)
    → Updates nat_cmp old new var (Some raised) → (kind : DepKind)
    → maximum_at new var kind ≡ maximum raised kind
raised_here old new var raised updates kind =
    ap (λ (o : Option Maxima). option_map_or (λ (m : Maxima). maximum m kind) o 0)
    (updated_here old new var (Some raised) updates)

raised_there : (old new : BTreeMap ℕ Maxima) (var other : ℕ) (raised : Maxima)
    → Updates nat_cmp old new var (Some raised) → other ≢ var → (kind : DepKind)
    → maximum_at new other kind ≡ maximum_at old other kind
raised_there old new var other raised updates apart kind =
    ap (λ (o : Option Maxima). option_map_or (λ (m : Maxima). maximum m kind) o 0)
    (updated_there old new var (Some raised) updates other apart)

pub entered_more : (start old new : BTreeMap ℕ Maxima) (items : List Dep) (n task_length : ℕ) (item : Dep)
    (was raised : Maxima)
    → slice_get items n ≡ Some item → ((kind : DepKind) → maximum was kind ≡ maximum_at old item.var kind)
    → IsKindRaised was raised item.kind task_length → Updates nat_cmp old new item.var (Some raised)
    → AreLengthsEntered start old items n task_length → AreLengthsEntered start new items (n + 1) task_length
entered_more start old new items n task_length item was raised here reads rise updates are = record {
  rises =
      λ var kind.
      let before = are.rises var kind in let after = rises var kind in omega (arith, before, after);
  entered = λ k other below is. elim (cases_lt k n) [
    | inl less ↦
        let before = are.entered k other less is in
        let after = rises other.var other.kind in omega (arith, before, after)
    | inr more ↦
        let same : n ≡ k = omega arith in
        let its : item ≡ other = same_Some item other (sym here ∙ ap (slice_get items) same ∙ is) in
        let P : Dep → Type 0 = λ d. task_length ≤ maximum_at new d.var d.kind in
        subst P its
        (let entered = rise.entered in
        let now = raised_here old new item.var raised updates item.kind in omega (arith, entered, now))
  ];
  only = λ var kind. elim (cases_eq var item.var) [
    | inr apart ↦
        let same = raised_there old new item.var var raised updates apart kind in elim (are.only var kind) [
          | inl before ↦ inl (same ∙ before)
          | inr (other, has, location, alike, is) ↦ inr (other, has, location, alike, same ∙ is)
        ]
    | inl same ↦ elim (rise.only kind) [
      | inl kept ↦
          let now : maximum_at new var kind ≡ maximum_at old var kind =
          ap (λ v. maximum_at new v kind) same ∙ raised_here old new item.var raised updates kind ∙ kept
          ∙ reads kind ∙ ap (λ v. maximum_at old v kind) (sym same) in
          elim (are.only var kind) [
            | inl before ↦ inl (now ∙ before)
            | inr (other, has, location, alike, is) ↦ inr (other, has, location, alike, now ∙ is)
          ]
      | inr (is, alike) ↦
          inr (
            item,
            get_contains items item n here,
            sym same,
            alike,
            ap (λ v. maximum_at new v kind) same ∙ raised_here old new item.var raised updates kind
                ∙ is,
          )
    ]
  ];
}
  where
    rises : (var : ℕ) (kind : DepKind) → maximum_at old var kind ≤ maximum_at new var kind
    rises var kind = elim (cases_eq var item.var) [
      | inl same ↦
          let P : ℕ → Type 0 = λ v. maximum_at old v kind ≤ maximum_at new v kind in
          let rose = rise.rises kind in
          let before = reads kind in
          let after = raised_here old new item.var raised updates kind in
          subst P (sym same) (omega (arith, rose, before, after))
      | inr apart ↦
          let same = raised_there old new item.var var raised updates apart kind in omega (arith, same)
    ]

-- ---- one item more is compared

pub greatest_more : (map : BTreeMap ℕ Maxima) (items : List Dep) (n old waits new : ℕ) (item : Dep)
    (maxima : Maxima)
    → slice_get items n ≡ Some item → ((kind : DepKind) → maximum maxima kind ≡ maximum_at map item.var kind)
    → IsGreatestConflicting maxima item.kind waits → new ≡ max old waits → IsGreatest map items n old
    → IsGreatest map items (n + 1) new
greatest_more map items n old waits new item maxima here reads awaited is are = record {
  bound = λ k other kind below stands conflicts. elim (cases_lt k n) [
    | inl less ↦ let before = are.bound k other kind less stands conflicts in omega (arith, before, is)
    | inr more ↦
        let same : n ≡ k = omega arith in
        let its : item ≡ other = same_Some item other (sym here ∙ ap (slice_get items) same ∙ stands) in
        let P : Dep → Type 0 = λ d. conflict kind d.kind ≡ true → maximum_at map d.var kind ≤ new in
        subst P its
        (λ clash.
        let low = awaited.bound kind clash in let read = reads kind in omega (arith, low, read, is))
        conflicts
  ];
  reached = elim (max_cases old waits) [
    | inl kept ↦ elim (are.reached) [
      | inl zero_there ↦ inl (is ∙ kept ∙ zero_there)
      | inr (other, kind, has, conflicts, reached) ↦
          inr (other, kind, has, conflicts, reached ∙ sym (is ∙ kept))
    ]
    | inr more ↦
        let top = awaited.reached in
        inr (item, top.0, get_contains items item n here, top.1, sym (reads top.0) ∙ top.2 ∙ sym (is ∙ more))
  ];
}
