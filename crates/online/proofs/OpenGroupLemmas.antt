-- The open taskgroups of a task, and how a record changes them.
use Rattle.std.proofs.Common.{◌≡◌, ◌≢◌, ◌∙◌, ℕ, zero, suc, ◌<◌, ◌≤◌, ◌+◌, Bool, true, false, cond, List, []}
use Rattle.std.proofs.Common.{◌∷◌, ◌++◌, length, Option, Some, None, refl, sym, ap, subst, arith, inl, inr}
use Rattle.std.specs.Prelude.{slice_get, filter, option_map, drop, nat_lt, if◌then◌else◌}
use Rattle.std.proofs.lemmas.Bool.{cases_eq, lt-ltb, le-ltb}
use Rattle.std.proofs.lemmas.Option.{none-some, same_Some}
use Rattle.std.proofs.lemmas.List.{length_push}
use Rattle.ompt_events.specs.declared.records.Record.{Record}
use Rattle.ompt_events.specs.declared.records.Body.{Body}
use Rattle.ompt_events.specs.declared.names.SyncKind.{SyncKind}
use Rattle.ompt_events.specs.declared.names.SyncKind.TheVariants.{Taskgroup}
use Rattle.ompt_events.specs.declared.names.Endpoint.{Endpoint}
use Rattle.ompt_events.specs.declared.names.Endpoint.TheVariants.{Begin, End, BeginEnd}
use Rattle.ompt_events.specs.Records.{region}
use Rattle.ompt_events.specs.Places.{at}
use Rattle.ompt_events.specs.Regions.{open_regions, after_region, kind_at, EndsRegion}
use Rattle.ompt_events.proofs.PlaceLemmas.{at_get}
use Rattle.ompt_events.proofs.ListLemmas.{get_last}
use Rattle.ompt_events.proofs.RegionLemmas.{open_none, open_other, open_own}
use Rattle.online.specs.Waits.{is_taskgroup, open_groups, number_before}
use Rattle.online.proofs.ReadLemmas.{same_append, at_same}
use Rattle.online.proofs.CurrentLemmas.{open_same}

-- ---- falling lists of places

-- each is less than the one before it, and the first is less than n
abbrev pub IsFalling : ℕ → List ℕ → Type 0
IsFalling n [] = Unit {0}
IsFalling n (b ∷ bs) = (b < n) × IsFalling b bs

falling_more : (n m : ℕ) (bs : List ℕ) → n ≤ m → IsFalling n bs → IsFalling m bs
falling_more n m [] most falls = tt
falling_more n m (b ∷ bs) most (low, falls) = (omega (arith, low, most), falls)

falling_filter : (p : ℕ → Bool) (n : ℕ) (bs : List ℕ) → IsFalling n bs → IsFalling n (filter p bs)
falling_filter p n [] falls = tt
falling_filter p n (b ∷ bs) (low, falls) = of (p b) (falling_filter p b bs falls)
  where
    of : (keeps : Bool) → IsFalling b (filter p bs) → IsFalling n (cond keeps (b ∷ filter p bs) (filter p bs))
    of true rest = (low, rest)
    of false rest = falling_more b n (filter p bs) (omega (arith, low)) rest

falling_drop : (n : ℕ) (bs : List ℕ) → IsFalling n bs → IsFalling n (drop 1 bs)
falling_drop n [] falls = tt
falling_drop n (b ∷ bs) (low, falls) = falling_more b n bs (omega (arith, low)) falls

filter_falling : (p q : ℕ → Bool) (n : ℕ) (bs : List ℕ) → IsFalling n bs
    → ((b : ℕ) → b < n → p b ≡ q b) → filter p bs ≡ filter q bs
filter_falling p q n [] falls same = refl
filter_falling p q n (b ∷ bs) (low, falls) same =
    ap (λ keeps. cond keeps (b ∷ filter p bs) (filter p bs)) (same b low)
    ∙ ap (λ l. cond (q b) (b ∷ l) l)
    (filter_falling p q b bs falls (λ c less. same c (omega (arith, low, less))))

-- ---- how many are before a place

pub number_most : (bs : List ℕ) (i : ℕ) → number_before bs i ≤ length bs
number_most [] i = omega arith
number_most (b ∷ bs) i = of (nat_lt b i) (number_most bs i)
  where
    of : (less : Bool) → number_before bs i ≤ length bs
        → (if less then 1 else 0) + number_before bs i ≤ length (b ∷ bs)
    of true most = omega (arith, most)
    of false most = omega (arith, most)

pub number_less : (b : ℕ) (bs : List ℕ) (i : ℕ) → b < i → number_before (b ∷ bs) i ≡ number_before bs i + 1
number_less b bs i low =
    ap (λ t. (if t then 1 else 0) + number_before bs i) (lt-ltb b i low) ∙ last
  where
    last : 1 + number_before bs i ≡ number_before bs i + 1
    last = omega arith

pub number_past : (b : ℕ) (bs : List ℕ) (i : ℕ) → i ≤ b → number_before (b ∷ bs) i ≡ number_before bs i
number_past b bs i high =
    ap (λ t. (if t then 1 else 0) + number_before bs i) (le-ltb b i high) ∙ last
  where
    last : 0 + number_before bs i ≡ number_before bs i
    last = omega arith

pub number_all : (n : ℕ) (bs : List ℕ) (i : ℕ) → IsFalling n bs → n ≤ i → number_before bs i ≡ length bs
number_all n [] i falls most = refl
number_all n (b ∷ bs) i (low, falls) most =
    let rest = number_all b bs i falls (omega (arith, low, most)) in
    let first = number_less b bs i (omega (arith, low, most)) in
    omega (arith, rest, first)

-- ---- the open regions of a task

open_step : (rs : List Record) (task n : ℕ) → IsFalling n (open_regions rs task n)
    → IsFalling (n + 1) (open_regions rs task (n + 1))
open_step rs task n falls = more (at region rs n) refl
  where
    so_far : IsFalling (n + 1) (open_regions rs task n)
    so_far = falling_more n (n + 1) (open_regions rs task n) (omega arith) falls

    after : (kind : SyncKind) (endpoint : Endpoint)
        → IsFalling (n + 1) (after_region (open_regions rs task n) n (Some (task, kind, endpoint)))
    after kind Begin = (omega arith, falls)
    after kind BeginEnd = so_far
    after kind End = falling_drop (n + 1) (open_regions rs task n) so_far

    more : (o : Option (ℕ × SyncKind × Endpoint)) → at region rs n ≡ o
        → IsFalling (n + 1) (open_regions rs task (n + 1))
    more None e =
        let P : List ℕ → Type 0 = λ l. IsFalling (n + 1) l in subst P (sym (open_none rs task n e)) so_far
    more (Some (own, kind, endpoint)) e = elim (cases_eq task own) [
      | inl same ↦
          let says : at region rs n ≡ Some (task, kind, endpoint) =
          e ∙ ap (λ t. Some (t, kind, endpoint)) (sym same) in
          let P : List ℕ → Type 0 = λ l. IsFalling (n + 1) l in
          subst P (sym (open_own rs task n kind endpoint says)) (after kind endpoint)
      | inr apart ↦
          let P : List ℕ → Type 0 = λ l. IsFalling (n + 1) l in
          subst P (sym (open_other rs task own n kind endpoint e apart)) so_far
    ]

pub open_falling : (rs : List Record) (task n : ℕ) → IsFalling n (open_regions rs task n)
open_falling rs task zero = tt
open_falling rs task (suc n) =
    let P : ℕ → Type 0 = λ m. IsFalling m (open_regions rs task m) in
    let e : n + 1 ≡ suc n = omega arith in
    subst P e (open_step rs task n (open_falling rs task n))

pub groups_falling : (rs : List Record) (task : ℕ) → IsFalling (length rs) (open_groups rs task)
groups_falling rs task =
    falling_filter (λ b. is_taskgroup (kind_at rs b)) (length rs) (open_regions rs task (length rs))
    (open_falling rs task (length rs))

-- ---- by one more record

pub at_last : {X : Type 0} (f : Body → Option X) (rs : List Record) (r : Record)
    → at f (rs ++ r ∷ []) (length rs) ≡ f r.body
at_last f rs r = at_get f (rs ++ r ∷ []) (length rs) r (get_last rs r (length rs) refl)

-- the open taskgroups before the new record
groups_before : (rs : List Record) (r : Record) (task : ℕ)
    → filter (λ b. is_taskgroup (kind_at (rs ++ r ∷ []) b)) (open_regions (rs ++ r ∷ []) task (length rs))
    ≡ open_groups rs task
groups_before rs r task =
    ap (filter (λ b. is_taskgroup (kind_at (rs ++ r ∷ []) b)))
    (open_same (length rs) (rs ++ r ∷ []) rs (same_append rs (r ∷ [])) task (length rs) (omega arith))
    ∙ filter_falling (λ b. is_taskgroup (kind_at (rs ++ r ∷ []) b)) (λ b. is_taskgroup (kind_at rs b))
    (length rs) (open_regions rs task (length rs)) (open_falling rs task (length rs))
    (λ b low.
    ap (λ o. is_taskgroup (option_map (λ (q : ℕ × SyncKind × Endpoint). q.1) o))
    (at_same region (length rs) (rs ++ r ∷ []) rs (same_append rs (r ∷ [])) b low))

-- what they are behind it, where it leaves these regions open
groups_after : (rs : List Record) (r : Record) (task : ℕ) (opened : List ℕ)
    → open_regions (rs ++ r ∷ []) task (length rs + 1) ≡ opened
    → open_groups (rs ++ r ∷ []) task ≡ filter (λ b. is_taskgroup (kind_at (rs ++ r ∷ []) b)) opened
groups_after rs r task opened is =
    ap (λ n. filter (λ b. is_taskgroup (kind_at (rs ++ r ∷ []) b)) (open_regions (rs ++ r ∷ []) task n))
    (length_push rs r)
    ∙ ap (filter (λ b. is_taskgroup (kind_at (rs ++ r ∷ []) b))) is

-- the task of which a taskgroup begins or ends, not both
abbrev pub grouped : Option (ℕ × SyncKind × Endpoint) → Option ℕ
grouped (Some (task, Taskgroup, Begin)) = Some task
grouped (Some (task, Taskgroup, End)) = Some task
grouped _ = None

-- the end of a region has a begin
abbrev pub HasBegin : List Record → Record → Type 0
HasBegin rs r =
    (task : ℕ) (kind : SyncKind) → region r.body ≡ Some (task, kind, End)
    → (begin : ℕ) × EndsRegion (rs ++ r ∷ []) (length rs) task kind begin

-- the kind that the record has
kind_last : (rs : List Record) (r : Record) (task : ℕ) (kind : SyncKind) (endpoint : Endpoint)
    → region r.body ≡ Some (task, kind, endpoint) → kind_at (rs ++ r ∷ []) (length rs) ≡ Some kind
kind_last rs r task kind endpoint says =
    ap (option_map (λ (q : ℕ × SyncKind × Endpoint). q.1)) (at_last region rs r ∙ says)

-- a list with its first
first_is : (xs : List ℕ) (x : ℕ) → slice_get xs 0 ≡ Some x → xs ≡ x ∷ drop 1 xs
first_is [] x is = absurd (none-some x is)
first_is (y ∷ ys) x is = ap (λ z. z ∷ ys) (same_Some y x is)

pub groups_begun : (rs : List Record) (r : Record) (task : ℕ) → region r.body ≡ Some (task, Taskgroup, Begin)
    → open_groups (rs ++ r ∷ []) task ≡ length rs ∷ open_groups rs task
groups_begun rs r task says =
    groups_after rs r task (length rs ∷ open_regions (rs ++ r ∷ []) task (length rs))
    (open_own (rs ++ r ∷ []) task (length rs) Taskgroup Begin (at_last region rs r ∙ says))
    ∙ ap
    (λ k.
    cond (is_taskgroup k)
    (length rs ∷ filter (λ b. is_taskgroup (kind_at (rs ++ r ∷ []) b))
    (open_regions (rs ++ r ∷ []) task (length rs)))
    (filter (λ b. is_taskgroup (kind_at (rs ++ r ∷ []) b)) (open_regions (rs ++ r ∷ []) task (length rs))))
    (kind_last rs r task Taskgroup Begin says)
    ∙ ap (λ l. length rs ∷ l) (groups_before rs r task)

-- what an end closes
closed : (rs : List Record) (r : Record) (task : ℕ) (kind : SyncKind) (begin : ℕ)
    → EndsRegion (rs ++ r ∷ []) (length rs) task kind begin
    → open_groups rs task
    ≡ cond (is_taskgroup (Some kind)) (begin ∷ open_groups (rs ++ r ∷ []) task)
    (open_groups (rs ++ r ∷ []) task)
closed rs r task kind begin is =
    sym (groups_before rs r task)
    ∙ ap (filter (λ b. is_taskgroup (kind_at (rs ++ r ∷ []) b)))
    (first_is (open_regions (rs ++ r ∷ []) task (length rs)) begin is.innermost)
    ∙ ap
    (λ k.
    cond (is_taskgroup k)
    (begin ∷ filter (λ b. is_taskgroup (kind_at (rs ++ r ∷ []) b))
    (drop 1 (open_regions (rs ++ r ∷ []) task (length rs))))
    (filter (λ b. is_taskgroup (kind_at (rs ++ r ∷ []) b))
    (drop 1 (open_regions (rs ++ r ∷ []) task (length rs)))))
    is.same_kind
    ∙ ap (λ l. cond (is_taskgroup (Some kind)) (begin ∷ l) l)
    (sym
    (groups_after rs r task (drop 1 (open_regions (rs ++ r ∷ []) task (length rs)))
    (open_own (rs ++ r ∷ []) task (length rs) kind End is.ends)))

pub groups_ended : (rs : List Record) (r : Record) (task begin : ℕ)
    → EndsRegion (rs ++ r ∷ []) (length rs) task Taskgroup begin
    → open_groups rs task ≡ begin ∷ open_groups (rs ++ r ∷ []) task
groups_ended rs r task begin is = closed rs r task Taskgroup begin is

pub groups_kept : (rs : List Record) (r : Record) (task : ℕ) → HasBegin rs r
    → grouped (region r.body) ≢ Some task → open_groups (rs ++ r ∷ []) task ≡ open_groups rs task
groups_kept rs r task ends apart = of (region r.body) refl
  where
    same : open_regions (rs ++ r ∷ []) task (length rs + 1) ≡ open_regions (rs ++ r ∷ []) task (length rs)
        → open_groups (rs ++ r ∷ []) task ≡ open_groups rs task
    same is =
        groups_after rs r task (open_regions (rs ++ r ∷ []) task (length rs)) is ∙ groups_before rs r task

    own : (kind : SyncKind) (endpoint : Endpoint) (group : Bool) → is_taskgroup (Some kind) ≡ group
        → region r.body ≡ Some (task, kind, endpoint)
        → open_groups (rs ++ r ∷ []) task ≡ open_groups rs task
    own kind BeginEnd group is says =
        same (open_own (rs ++ r ∷ []) task (length rs) kind BeginEnd (at_last region rs r ∙ says))
    own kind Begin true is says = absurd (apart (ap grouped says ∙ begins kind is))
      where
        begins : (k : SyncKind) → is_taskgroup (Some k) ≡ true → grouped (Some (task, k, Begin)) ≡ Some task
        begins Taskgroup e = refl
        begins _ e = cc
    own kind Begin false is says =
        groups_after rs r task (length rs ∷ open_regions (rs ++ r ∷ []) task (length rs))
        (open_own (rs ++ r ∷ []) task (length rs) kind Begin (at_last region rs r ∙ says))
        ∙ ap
        (λ k.
        cond k
        (length rs ∷ filter (λ b. is_taskgroup (kind_at (rs ++ r ∷ []) b))
        (open_regions (rs ++ r ∷ []) task (length rs)))
        (filter (λ b. is_taskgroup (kind_at (rs ++ r ∷ []) b))
        (open_regions (rs ++ r ∷ []) task (length rs))))
        (ap is_taskgroup (kind_last rs r task kind Begin says) ∙ is)
        ∙ groups_before rs r task
    own kind End true is says = absurd (apart (ap grouped says ∙ closes kind is))
      where
        closes : (k : SyncKind) → is_taskgroup (Some k) ≡ true → grouped (Some (task, k, End)) ≡ Some task
        closes Taskgroup e = refl
        closes _ e = cc
    own kind End false is says =
        let (begin, closes) = ends task kind says in
        sym
        (closed rs r task kind begin closes
        ∙ ap
        (λ t. cond t (begin ∷ open_groups (rs ++ r ∷ []) task) (open_groups (rs ++ r ∷ []) task)) is)

    of : (o : Option (ℕ × SyncKind × Endpoint)) → region r.body ≡ o
        → open_groups (rs ++ r ∷ []) task ≡ open_groups rs task
    of None e = same (open_none (rs ++ r ∷ []) task (length rs) (at_last region rs r ∙ e))
    of (Some (other, kind, endpoint)) e = elim (cases_eq task other) [
      | inl is ↦
          own kind endpoint (is_taskgroup (Some kind)) refl
          (e ∙ ap (λ t. Some (t, kind, endpoint)) (sym is))
      | inr away ↦
          same
          (open_other (rs ++ r ∷ []) task other (length rs) kind endpoint (at_last region rs r ∙ e) away)
    ]
