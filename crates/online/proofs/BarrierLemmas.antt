-- Regions, barriers and teams of the first records.
use Rattle.std.proofs.Common.{◌≡◌, ◌∙◌, ℕ, zero, suc, ◌<◌, ◌≤◌, ◌+◌, ◌-◌, List, [], ◌∷◌, ◌++◌, length, Bool}
use Rattle.std.proofs.Common.{Option, Some, true, false, cond, refl, sym, ap, arith, inl, inr, ◌⊎◌}
use Rattle.std.specs.Prelude.{◌==◌, slice_get, option_map, filter, Contains}
use Rattle.std.specs.Option.{option_map_or}
use Rattle.std.specs.List.{range_with_len}
use Rattle.std.proofs.lemmas.List.{append-nil}
use Rattle.std.proofs.lemmas.List.Elements.{filter-append, filter_passes, All-filter, All-contains}
use Rattle.std.proofs.lemmas.List.Elements.{All-contains_itself}
use Rattle.ompt_events.specs.declared.records.Record.{Record}
use Rattle.ompt_events.specs.declared.names.SyncKind.{SyncKind}
use Rattle.ompt_events.specs.declared.names.Endpoint.{Endpoint}
use Rattle.ompt_events.specs.Records.{region, running}
use Rattle.ompt_events.specs.Places.{at, is_own, own_before}
use Rattle.ompt_events.specs.Regions.{IsRegion, ended, at_once, barrier_begun, begins_barrier, IsBarrierBegin}
use Rattle.ompt_events.proofs.ListLemmas.{get_pushed, pushed_cases, get_contains}
use Rattle.ompt_events.proofs.PlaceLemmas.{own_more, is_the_task}
use Rattle.ompt_events.proofs.RegionLemmas.{begin_before}
use Rattle.online.proofs.ReadLemmas.{IsSameTo, at_same}
use Rattle.online.proofs.CurrentLemmas.{own_same, open_same}

-- ---- regions

pub region_same : (n : ℕ) (xs ys : List Record) → IsSameTo n xs ys → (i task : ℕ) (kind : SyncKind)
    (begin : ℕ)
    → i < n → IsRegion xs i task kind begin → IsRegion ys i task kind begin
region_same n xs ys same i task kind begin below (ended is) =
    let earlier = begin_before xs i task begin kind is in
    ended (record {
      ends = sym (at_same region n xs ys same i below) ∙ is.ends;
      innermost =
          sym (ap (λ l. slice_get l 0) (open_same n xs ys same task i (omega (arith, below)))) ∙ is.innermost;
      same_kind =
          sym
          (ap (option_map (λ (q : ℕ × SyncKind × Endpoint). q.1))
          (at_same region n xs ys same begin (omega (arith, earlier, below))))
          ∙ is.same_kind;
    })
region_same n xs ys same i task kind _ below (at_once says) =
    at_once (sym (at_same region n xs ys same i below) ∙ says)

-- a region begins no later than it ends
pub region_begin : (rs : List Record) (i task : ℕ) (kind : SyncKind) (begin : ℕ)
    → IsRegion rs i task kind begin → begin ≤ i
region_begin rs i task kind begin (ended is) =
    let earlier = begin_before rs i task begin kind is in omega (arith, earlier)
region_begin rs i task kind _ (at_once says) = omega arith

-- ---- barriers

-- where the task began its barriers before the place
abbrev pub begins_before : List Record → ℕ → ℕ → List ℕ
begins_before rs task i = filter (begins_barrier rs task) (own_before rs task i)

-- a place that is one of the task's own, or is not, and begins a barrier of it, or does not
abbrev pub one_begin : Bool → Bool → ℕ → List ℕ
one_begin own begins i = cond own (cond begins (i ∷ []) []) []

pub begins_more : (rs : List Record) (task i : ℕ)
    → begins_before rs task (i + 1)
    ≡ begins_before rs task i ++ one_begin (is_own rs task i) (begins_barrier rs task i) i
begins_more rs task i =
    ap (filter (begins_barrier rs task)) (own_more rs task i)
    ∙ filter-append (begins_barrier rs task) (own_before rs task i) (cond (is_own rs task i) (i ∷ []) [])
    ∙ ap (λ l. filter (begins_barrier rs task) (own_before rs task i) ++ l) (of (is_own rs task i))
  where
    of : (own : Bool)
        → filter (begins_barrier rs task) (cond own (i ∷ []) [])
        ≡ cond own (cond (begins_barrier rs task i) (i ∷ []) []) []
    of true = refl
    of false = refl

pub begins_same : (n : ℕ) (xs ys : List Record) → IsSameTo n xs ys → (task i : ℕ) → i ≤ n
    → begins_before xs task i ≡ begins_before ys task i
begins_same n xs ys same task zero most = refl
begins_same n xs ys same task (suc i) most =
    let next : suc i ≡ i + 1 = omega arith in
    let below : i < n = omega (arith, most) in
    let begins : begins_barrier xs task i ≡ begins_barrier ys task i =
    ap (λ (o : Option (ℕ × SyncKind × Endpoint)). option_map_or (λ t. t == task) (barrier_begun o) false)
    (at_same region n xs ys same i below) in
    ap (begins_before xs task) next ∙ begins_more xs task i
    ∙ ap (λ l. l ++ one_begin (is_own xs task i) (begins_barrier xs task i) i)
    (begins_same n xs ys same task i (omega (arith, most)))
    ∙ ap (λ b. begins_before ys task i ++ one_begin b (begins_barrier xs task i) i)
    (own_same n xs ys same task i below)
    ∙ ap (λ b. begins_before ys task i ++ one_begin (is_own ys task i) b i) begins
    ∙ sym (begins_more ys task i) ∙ ap (begins_before ys task) (sym next)

-- what stands in a list stands there when one place, or none, is put behind it, and the other way round
begin_stays : (l : List ℕ) (own begins : Bool) (i number start : ℕ) → slice_get l number ≡ Some start
    → slice_get (l ++ one_begin own begins i) number ≡ Some start
begin_stays l true true i number start is = get_pushed l i start number is
begin_stays l true false i number start is = ap (λ k. slice_get k number) (append-nil l) ∙ is
begin_stays l false begins i number start is = ap (λ k. slice_get k number) (append-nil l) ∙ is

begin_cases : (l : List ℕ) (own begins : Bool) (i number start : ℕ)
    → slice_get (l ++ one_begin own begins i) number ≡ Some start
    → (slice_get l number ≡ Some start) ⊎ (i ≡ start)
begin_cases l true true i number start is = elim (pushed_cases l i start number is) [
  | inl there ↦ inl there
  | inr last ↦ inr last.1
]
begin_cases l true false i number start is = inl (sym (ap (λ k. slice_get k number) (append-nil l)) ∙ is)
begin_cases l false begins i number start is = inl (sym (ap (λ k. slice_get k number) (append-nil l)) ∙ is)

-- a begin keeps its number behind later records
pub begins_later : (rs : List Record) (task n more number start : ℕ)
    → slice_get (begins_before rs task n) number ≡ Some start
    → slice_get (begins_before rs task (n + more)) number ≡ Some start
begins_later rs task n zero number start is =
    let same : n ≡ n + zero = omega arith in
    ap (λ m. slice_get (begins_before rs task m) number) (sym same) ∙ is
begins_later rs task n (suc more) number start is =
    let next : n + suc more ≡ n + more + 1 = omega arith in
    ap (λ m. slice_get (begins_before rs task m) number) next
    ∙ ap (λ l. slice_get l number) (begins_more rs task (n + more))
    ∙ begin_stays (begins_before rs task (n + more)) (is_own rs task (n + more))
    (begins_barrier rs task (n + more)) (n + more) number start
    (begins_later rs task n more number start is)

-- and a begin that stands before n has its number among those
pub begins_sooner : (rs : List Record) (task n more number start : ℕ) → start < n
    → slice_get (begins_before rs task (n + more)) number ≡ Some start
    → slice_get (begins_before rs task n) number ≡ Some start
begins_sooner rs task n zero number start low is =
    let same : n ≡ n + zero = omega arith in
    ap (λ m. slice_get (begins_before rs task m) number) same ∙ is
begins_sooner rs task n (suc more) number start low is =
    let next : n + suc more ≡ n + more + 1 = omega arith in
    begins_sooner rs task n more number start low
    (elim
    (begin_cases (begins_before rs task (n + more)) (is_own rs task (n + more))
    (begins_barrier rs task (n + more)) (n + more) number start
    (sym (ap (λ l. slice_get l number) (begins_more rs task (n + more)))
    ∙ sym (ap (λ m. slice_get (begins_before rs task m) number) next) ∙ is)) [
      | inl there ↦ there
      | inr last ↦ absurd (omega (arith, last, low))
    ])

-- the task's barrier begins among all records, where one list begins with the first n of the other
pub barrier_begin_back : (n : ℕ) (xs ys : List Record) → IsSameTo n xs ys → n ≤ length xs → length ys ≡ n
    → (task number start : ℕ) → start < n → IsBarrierBegin xs task number start
    → IsBarrierBegin ys task number start
barrier_begin_back n xs ys same long all task number start low is =
    let rest : n + (length xs - n) ≡ length xs = omega (arith, long) in
    let first : slice_get (begins_before xs task n) number ≡ Some start =
    begins_sooner xs task n (length xs - n) number start low
    (ap (λ m. slice_get (begins_before xs task m) number) rest ∙ is) in
    ap (λ m. slice_get (begins_before ys task m) number) all
    ∙ sym (ap (λ l. slice_get l number) (begins_same n xs ys same task n (omega arith))) ∙ first

pub barrier_begin_stays : (n : ℕ) (xs ys : List Record) → IsSameTo n xs ys → length xs ≡ n → n ≤ length ys
    → (task number start : ℕ) → IsBarrierBegin xs task number start → IsBarrierBegin ys task number start
barrier_begin_stays n xs ys same all long task number start is =
    let rest : n + (length ys - n) ≡ length ys = omega (arith, long) in
    sym (ap (λ m. slice_get (begins_before ys task m) number) rest)
    ∙ begins_later ys task n (length ys - n) number start
    (sym (ap (λ l. slice_get l number) (begins_same n xs ys same task n (omega arith)))
    ∙ sym (ap (λ m. slice_get (begins_before xs task m) number) all) ∙ is)

-- ---- what a filter keeps

pub filter_from : {X : Type 0} (p : X → Bool) (xs : List X) (x : X) → Contains (filter p xs) x
    → Contains xs x × (p x ≡ true)
filter_from p xs x has = (
  All-contains (Contains xs) (filter p xs) x (All-filter p (Contains xs) xs (All-contains_itself xs)) has,
  All-contains (λ y. p y ≡ true) (filter p xs) x (filter_passes p xs) has,
)

-- the record that begins a barrier is one of the task's own
pub barrier_runs : (rs : List Record) (task number start : ℕ) → IsBarrierBegin rs task number start
    → at running rs start ≡ Some task
barrier_runs rs task number start is =
    let own =
    (filter_from (begins_barrier rs task) (own_before rs task (length rs)) start
    (get_contains (filter (begins_barrier rs task) (own_before rs task (length rs))) start number is)).0 in
    is_the_task task (at running rs start)
    (filter_from (is_own rs task) (range_with_len 0 (length rs)) start own).1
