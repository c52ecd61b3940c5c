-- Which regions of a task are open at a place: since when, and until when.
use Rattle.std.proofs.Common.{◌≡◌, ◌≢◌, ◌∙◌, ℕ, zero, suc, ◌<◌, ◌≤◌, ◌+◌, ◌-◌, ◌⊎◌, Bool, true, false, cond}
use Rattle.std.proofs.Common.{List, [], ◌∷◌, length, Option, Some, None, refl, sym, ap, subst, arith}
use Rattle.std.proofs.Common.{inl, inr}
use Rattle.std.specs.Prelude.{◌==◌, Contains, drop, slice_get, option_map}
use Rattle.std.specs.Option.{option_map_or}
use Rattle.std.specs.List.{range_with_len}
use Rattle.std.proofs.lemmas.Bool.{cases_eq, cases_lt, eqb-true, eq-eqb, false≢true}
use Rattle.std.proofs.lemmas.List.Elements.{Contains-append_right, Contains-append_cases}
use Rattle.std.proofs.lemmas.Option.{none-some, same_Some, slice_get_within}
use Rattle.ompt_events.specs.declared.records.Record.{Record}
use Rattle.ompt_events.specs.declared.names.SyncKind.{SyncKind}
use Rattle.ompt_events.specs.declared.names.Endpoint.{Endpoint}
use Rattle.ompt_events.specs.declared.names.Endpoint.TheVariants.{Begin, End, BeginEnd}
use Rattle.ompt_events.specs.Records.{region, running}
use Rattle.ompt_events.specs.Places.{at, is_own, own_before}
use Rattle.ompt_events.specs.Regions.{open_regions, EndsRegion, IsRegion, ended, at_once, is_barrier}
use Rattle.ompt_events.specs.Regions.{begins_barrier, barrier_begun, barrier_begins, IsBarrierBegin}
use Rattle.ompt_events.proofs.ListLemmas.{contains_get, get_contains, contains_range}
use Rattle.ompt_events.proofs.PlaceLemmas.{at_within, Contains-filter}
use Rattle.ompt_events.proofs.RecordLemmas.{at_through, region_running}
use Rattle.ompt_events.proofs.RegionLemmas.{open_none, open_other, open_own}
use Rattle.online.specs.Teams.{phase_at}
use Rattle.online.proofs.BarrierLemmas.{begins_before, begins_sooner, filter_from, barrier_runs}
use Rattle.online.proofs.OpenGroupLemmas.{IsFalling, open_falling}
use Rattle.online.proofs.PhaseLemmas.{phase_number}

-- ---- since when

contains_rest : (xs : List ℕ) (x : ℕ) → Contains (drop 1 xs) x → Contains xs x
contains_rest [] x has = has
contains_rest (y ∷ ys) x has = Contains-append_right (y ∷ []) ys x has

-- what is open behind a record was open before, but for what it begins
open_before : (rs : List Record) (task n begin : ℕ) → Contains (open_regions rs task (n + 1)) begin
    → (begin ≡ n) ⊎ Contains (open_regions rs task n) begin
open_before rs task n begin found = of (at region rs n) refl
  where
    same : (xs : List ℕ) → open_regions rs task (n + 1) ≡ xs → Contains xs begin
    same xs is = let P : List ℕ → Type 0 = λ l. Contains l begin in subst P is found

    only_one : Contains (n ∷ []) begin → begin ≡ n
    only_one (zero, below, is) = sym is
    only_one (suc k, below, is) = absurd (omega (arith, below))

    after : (kind : SyncKind) (endpoint : Endpoint) → at region rs n ≡ Some (task, kind, endpoint)
        → (begin ≡ n) ⊎ Contains (open_regions rs task n) begin
    after kind Begin says =
        elim
        (Contains-append_cases (n ∷ []) (open_regions rs task n) begin
        (same _ (open_own rs task n kind Begin says))) [
          | inl own ↦ inl (only_one own)
          | inr more ↦ inr more
        ]
    after kind BeginEnd says = inr (same _ (open_own rs task n kind BeginEnd says))
    after kind End says =
        inr (contains_rest (open_regions rs task n) begin (same _ (open_own rs task n kind End says)))

    of : (o : Option (ℕ × SyncKind × Endpoint)) → at region rs n ≡ o
        → (begin ≡ n) ⊎ Contains (open_regions rs task n) begin
    of None e = inr (same _ (open_none rs task n e))
    of (Some (own, kind, endpoint)) e = elim (cases_eq task own) [
      | inl is_own ↦ after kind endpoint (e ∙ ap (λ t. Some (t, kind, endpoint)) (sym is_own))
      | inr apart ↦ inr (same _ (open_other rs task own n kind endpoint e apart))
    ]

-- a region that is open at a place was open at each one since its begin
pub open_since : (rs : List Record) (task begin i more : ℕ) → Contains (open_regions rs task (i + more)) begin
    → begin < i → Contains (open_regions rs task i) begin
open_since rs task begin i zero found low =
    let P : ℕ → Type 0 = λ n. Contains (open_regions rs task n) begin in
    let e : i + zero ≡ i = omega arith in
    subst P e found
open_since rs task begin i (suc more) found low =
    let P : ℕ → Type 0 = λ n. Contains (open_regions rs task n) begin in
    let e : i + suc more ≡ i + more + 1 = omega arith in
    elim (open_before rs task (i + more) begin (subst P e found)) [
      | inl last ↦ absurd (omega (arith, last, low))
      | inr before ↦ open_since rs task begin i more before low
    ]

-- ---- until when

-- each end of a region has its begin
abbrev pub HaveBegins : List Record → Type 0
HaveBegins rs =
    (e task : ℕ) (kind : SyncKind) → at region rs e ≡ Some (task, kind, End)
    → (begin : ℕ) × EndsRegion rs e task kind begin

-- the region that began there has ended before the place n
pub record HasEndedBefore (rs : List Record) (task begin n : ℕ) : Type 0 where
  pub place : ℕ
  pub before : place < n
  pub kind : SyncKind
  pub ends : EndsRegion rs place task kind begin

ended_later : (rs : List Record) (task begin n : ℕ) → HasEndedBefore rs task begin n
    → HasEndedBefore rs task begin (n + 1)
ended_later rs task begin n is = record {
  place = is.place;
  before = let less = is.before in omega (arith, less);
  kind = is.kind;
  ends = is.ends;
}

-- the first of a list, or one of the others
first_or_rest : (xs : List ℕ) (x : ℕ) → Contains xs x → (slice_get xs 0 ≡ Some x) ⊎ Contains (drop 1 xs) x
first_or_rest [] x has = inr has
first_or_rest (y ∷ ys) x (zero, below, is) = inl (ap Some is)
first_or_rest (y ∷ ys) x (suc k, below, is) = inr (k, omega (arith, below), is)

-- a region that is open is open behind one record more, or has ended there
open_or_ended : (rs : List Record) (task begin n : ℕ) → HaveBegins rs
    → Contains (open_regions rs task n) begin
    → Contains (open_regions rs task (n + 1)) begin ⊎ HasEndedBefore rs task begin (n + 1)
open_or_ended rs task begin n begins found = of (at region rs n) refl
  where
    still : (xs : List ℕ) → open_regions rs task (n + 1) ≡ xs → Contains xs begin
        → Contains (open_regions rs task (n + 1)) begin ⊎ HasEndedBefore rs task begin (n + 1)
    still xs is has = let P : List ℕ → Type 0 = λ l. Contains l begin in inl (subst P (sym is) has)

    after : (kind : SyncKind) (endpoint : Endpoint) → at region rs n ≡ Some (task, kind, endpoint)
        → Contains (open_regions rs task (n + 1)) begin ⊎ HasEndedBefore rs task begin (n + 1)
    after kind Begin says =
        still (n ∷ open_regions rs task n) (open_own rs task n kind Begin says)
        (Contains-append_right (n ∷ []) (open_regions rs task n) begin found)
    after kind BeginEnd says =
        still (open_regions rs task n) (open_own rs task n kind BeginEnd says) found
    after kind End says = elim (first_or_rest (open_regions rs task n) begin found) [
      | inr rest ↦ still (drop 1 (open_regions rs task n)) (open_own rs task n kind End says) rest
      | inl first ↦
          let (other, ends) = begins n task kind says in
          let same : other ≡ begin = same_Some other begin (sym ends.innermost ∙ first) in
          let P : ℕ → Type 0 = λ b. EndsRegion rs n task kind b in
          inr (record { place = n; before = omega arith; kind = kind; ends = subst P same ends })
    ]

    of : (o : Option (ℕ × SyncKind × Endpoint)) → at region rs n ≡ o
        → Contains (open_regions rs task (n + 1)) begin ⊎ HasEndedBefore rs task begin (n + 1)
    of None e = still (open_regions rs task n) (open_none rs task n e) found
    of (Some (own, kind, endpoint)) e = elim (cases_eq task own) [
      | inl is_own ↦ after kind endpoint (e ∙ ap (λ t. Some (t, kind, endpoint)) (sym is_own))
      | inr apart ↦ still (open_regions rs task n) (open_other rs task own n kind endpoint e apart) found
    ]

-- a region that has begun is open, or has ended
open_until : (rs : List Record) (task begin : ℕ) (kind : SyncKind) → HaveBegins rs
    → at region rs begin ≡ Some (task, kind, Begin) → (more : ℕ)
    → Contains (open_regions rs task (begin + 1 + more)) begin
    ⊎ HasEndedBefore rs task begin (begin + 1 + more)
open_until rs task begin kind begins says zero =
    let P : List ℕ → Type 0 = λ l. Contains l begin in
    let Q : ℕ → Type 0 = λ n. Contains (open_regions rs task n) begin in
    let e : begin + 1 ≡ begin + 1 + zero = omega arith in
    inl (subst Q e (subst P (sym (open_own rs task begin kind Begin says)) (0, omega arith, refl)))
open_until rs task begin kind begins says (suc more) =
    let e : begin + 1 + more + 1 ≡ begin + 1 + suc more = omega arith in
    let P : ℕ → Type 0 =
    λ n. Contains (open_regions rs task n) begin ⊎ HasEndedBefore rs task begin n in
    subst P e
    (elim (open_until rs task begin kind begins says more) [
      | inl found ↦ open_or_ended rs task begin (begin + 1 + more) begins found
      | inr is ↦ inr (ended_later rs task begin (begin + 1 + more) is)
    ])

-- ---- the barrier that a task began last

-- what a record says that begins a barrier
barrier_says : (rs : List Record) (task begin : ℕ) → begins_barrier rs task begin ≡ true
    → (kind : SyncKind) × (is_barrier kind ≡ true)
    × ((at region rs begin ≡ Some (task, kind, Begin)) ⊎ (at region rs begin ≡ Some (task, kind, BeginEnd)))
barrier_says rs task begin begins = of (at region rs begin) refl begins
  where
    own : (other : ℕ) (b : Bool) → option_map_or (λ t. t == task) (cond b (Some other) None) false ≡ true
        → (other ≡ task) × (b ≡ true)
    own other true is = (eqb-true other task is, refl)
    own other false is = absurd (false≢true is)

    of : (o : Option (ℕ × SyncKind × Endpoint)) → at region rs begin ≡ o
        → option_map_or (λ t. t == task) (barrier_begun o) false ≡ true
        → (kind : SyncKind) × (is_barrier kind ≡ true)
        × ((at region rs begin ≡ Some (task, kind, Begin))
        ⊎ (at region rs begin ≡ Some (task, kind, BeginEnd)))
    of None e is = absurd (false≢true is)
    of (Some (other, kind, End)) e is = absurd (false≢true is)
    of (Some (other, kind, Begin)) e is =
        let (same, barrier) = own other (is_barrier kind) is in
        (kind, barrier, inl (e ∙ ap (λ t. Some (t, kind, Begin)) same))
    of (Some (other, kind, BeginEnd)) e is =
        let (same, barrier) = own other (is_barrier kind) is in
        (kind, barrier, inr (e ∙ ap (λ t. Some (t, kind, BeginEnd)) same))

-- the barrier begin with a number is one of a region of the task
pub barrier_region : (rs : List Record) (task number start : ℕ) → IsBarrierBegin rs task number start
    → (kind : SyncKind) × (endpoint : Endpoint) × (at region rs start ≡ Some (task, kind, endpoint))
barrier_region rs task number start starts =
    of
    (barrier_says rs task start
    (filter_from (begins_barrier rs task) (own_before rs task (length rs)) start
    (get_contains (barrier_begins rs task) start number starts)).1)
  where
    of : (kind : SyncKind) × (is_barrier kind ≡ true)
        × ((at region rs start ≡ Some (task, kind, Begin))
        ⊎ (at region rs start ≡ Some (task, kind, BeginEnd)))
        → (kind : SyncKind) × (endpoint : Endpoint) × (at region rs start ≡ Some (task, kind, endpoint))
    of (kind, barrier, inl says) = (kind, Begin, says)
    of (kind, barrier, inr says) = (kind, BeginEnd, says)

-- each of a falling list is below its bound, and none is above the first
pub falling_below : (n : ℕ) (xs : List ℕ) (x : ℕ) → IsFalling n xs → Contains xs x → x < n
falling_below n [] x falls (k, below, is) = absurd (omega (arith, below))
falling_below n (y ∷ ys) x (low, falls) (zero, below, is) = let e : y ≡ x = is in omega (arith, low, e)
falling_below n (y ∷ ys) x (low, falls) (suc k, below, is) =
    let less = falling_below y ys x falls (k, omega (arith, below), is) in omega (arith, less, low)

first_greatest : (n : ℕ) (xs : List ℕ) (first x : ℕ) → IsFalling n xs → slice_get xs 0 ≡ Some first
    → Contains xs x → x ≤ first
first_greatest n [] first x falls is has = absurd (none-some first is)
first_greatest n (y ∷ ys) first x (low, falls) is has =
    let e : y ≡ first = same_Some y first is in
    let less = falling_below (y + 1) (y ∷ ys) x (omega arith, falls) has in
    omega (arith, e, less)

-- the barrier of the task that began there has ended
pub record HasEndedBarrier (rs : List Record) (task begin : ℕ) : Type 0 where
  pub place : ℕ
  pub before : place < length rs
  pub kind : SyncKind
  pub barrier : is_barrier kind ≡ true
  pub ends : IsRegion rs place task kind begin

-- where a barrier is the innermost region of the task, it is the one that the task began last, or that one
-- has ended
pub last_barrier : (rs : List Record) (task number start begin : ℕ) (kind : SyncKind) → HaveBegins rs
    → phase_at rs task (length rs) ≡ number + 1 → IsBarrierBegin rs task number start
    → slice_get (open_regions rs task (length rs)) 0 ≡ Some begin
    → at region rs begin ≡ Some (task, kind, Begin) → is_barrier kind ≡ true
    → (begin ≡ start) ⊎ HasEndedBarrier rs task start
last_barrier rs task number start begin kind begins many starts first says barrier = elim
    (cases_eq start begin) [
      | inl same ↦ inl (sym same)
      | inr apart ↦ inr (of (barrier_says rs task start start_says) apart)
    ]
  where
    n : ℕ
    n = length rs

    begin_low : begin < length rs
    begin_low = at_within region rs begin (task, kind, Begin) says

    start_low : start < length rs
    start_low = at_within running rs start task (barrier_runs rs task number start starts)

    start_says : begins_barrier rs task start ≡ true
    start_says =
        (filter_from (begins_barrier rs task) (own_before rs task (length rs)) start
        (get_contains (barrier_begins rs task) start number starts)).1

    begins_there : begins_barrier rs task begin ≡ true
    begins_there =
        ap (λ o. option_map_or (λ t. t == task) (barrier_begun o) false) says
        ∙ ap (λ b. option_map_or (λ t. t == task) (cond b (Some task) None) false) barrier
        ∙ eq-eqb task task refl

    own_there : is_own rs task begin ≡ true
    own_there =
        ap (λ (o : Option ℕ). option_map_or (λ t. t == task) o false)
        (at_through region running (task, kind, Begin) task rs begin (region_running task kind Begin) says)
        ∙ eq-eqb task task refl

    numbered : (j : ℕ) × (slice_get (barrier_begins rs task) j ≡ Some begin)
    numbered =
        contains_get (barrier_begins rs task) begin
        (Contains-filter (begins_barrier rs task) (own_before rs task (length rs)) begin
        (Contains-filter (is_own rs task) (range_with_len 0 (length rs)) begin
        (contains_range (length rs) begin begin_low) own_there) begins_there)

    -- the other one began later
    later : start ≢ begin → begin < start
    later apart =
        let (j, at_j) = numbered in
        let within = slice_get_within (barrier_begins rs task) j begin at_j in
        elim (cases_lt begin start) [
          | inl less ↦ less
          | inr most ↦
              let less : start < begin = omega (arith, most, apart) in
              let rest : begin + (length rs - begin) ≡ length rs = omega (arith, begin_low) in
              let sooner =
              begins_sooner rs task begin (length rs - begin) number start less
              (ap (λ m. slice_get (begins_before rs task m) number) rest ∙ starts) in
              let many_there = slice_get_within (begins_before rs task begin) number start sooner in
              let few = phase_number rs task j begin begin at_j (omega arith) begin_low in
              absurd (omega (arith, many_there, few, within, many))
        ]

    closed : (other : SyncKind) → is_barrier other ≡ true → at region rs start ≡ Some (task, other, Begin)
        → start ≢ begin → HasEndedBarrier rs task start
    closed other is tells apart = elim (subst P rest (open_until rs task start other begins tells more)) [
      | inl found ↦
          let less = later apart in
          let most = first_greatest (length rs) (open_regions rs task (length rs)) begin start
          (open_falling rs task (length rs)) first found in
          absurd (omega (arith, less, most))
      | inr e ↦
          let same : other ≡ e.kind =
          same_Some other e.kind
          (sym (ap (option_map (λ (q : ℕ × SyncKind × Endpoint). q.1)) tells) ∙ e.ends.same_kind) in
          record {
            place = e.place;
            before = e.before;
            kind = e.kind;
            barrier = ap is_barrier (sym same) ∙ is;
            ends = ended e.ends;
          }
    ]
      where
        more : ℕ
        more = length rs - (start + 1)

        P : ℕ → Type 0
        P m = Contains (open_regions rs task m) start ⊎ HasEndedBefore rs task start m

        rest : start + 1 + (length rs - (start + 1)) ≡ length rs
        rest = omega (arith, start_low)

    of : (other : SyncKind) × (is_barrier other ≡ true)
        × ((at region rs start ≡ Some (task, other, Begin))
        ⊎ (at region rs start ≡ Some (task, other, BeginEnd)))
        → start ≢ begin → HasEndedBarrier rs task start
    of (other, is, inl tells) apart = closed other is tells apart
    of (other, is, inr tells) apart = record {
      place = start;
      before = start_low;
      kind = other;
      barrier = is;
      ends = at_once tells;
    }
