-- How the open regions of a task change from record to record, and where its regions begin.
use Rattle.std.proofs.Common.{◌≡◌, ◌≢◌, ◌∙◌, ℕ, ◌<◌, ◌+◌, List, [], ◌∷◌, ◌++◌, Option, Some, None, true}
use Rattle.std.proofs.Common.{false, Bool, cond, refl, sym, ap, subst, arith, inl, inr, zero, suc, get_or}
use Rattle.std.proofs.Common.{add-one}
use Rattle.std.proofs.lemmas.Bool.{cases_eq, eq-eqb, ne_eqb}
use Rattle.std.proofs.lemmas.Option.{none-some, same_Some, slice_get-get_or, slice_get_within}
use Rattle.std.proofs.lemmas.List.{append-nil}
use Rattle.std.proofs.lemmas.List.Elements.{All-nil, All-cons, All-drop, All-same, All-weaker, All-get_or}
use Rattle.std.proofs.lemmas.List.Sums.{fold_push}
use Rattle.std.specs.Prelude.{◌==◌, slice_get, fold, All, option_and_then, option_map}
use Rattle.std.specs.Option.{option_map_or}
use Rattle.ompt_events.specs.declared.records.Record.{Record}
use Rattle.ompt_events.specs.declared.names.Endpoint.{Endpoint}
use Rattle.ompt_events.specs.declared.names.Endpoint.TheVariants.{Begin, End, BeginEnd}
use Rattle.ompt_events.specs.declared.names.SyncKind.{SyncKind}
use Rattle.ompt_events.specs.Records.{region, running, next_turn, begun_turn}
use Rattle.ompt_events.specs.Places.{at, is_own, own_before}
use Rattle.ompt_events.specs.Regions.{after_region, open_regions, EndsRegion}
use Rattle.ompt_events.specs.Completion.{StartsTask}
use Rattle.ompt_events.proofs.RecordLemmas.{at_through, region_running, region_starts}
use Rattle.ompt_events.proofs.PlaceLemmas.{own_more}

-- nor does its place
pub region_starts_none : (rs : List Record) (i task : ℕ) (kind : SyncKind) (endpoint : Endpoint)
    → at region rs i ≡ Some (task, kind, endpoint) → StartsTask rs i → ⊥
region_starts_none rs i task kind endpoint says (next, explicit, start) =
    none-some (next, 0) (sym (there (slice_get rs i) says) ∙ start.starts)
  where
    there : (o : Option Record)
        → option_and_then (λ (r : Record). region r.body) o ≡ Some (task, kind, endpoint)
        → option_and_then (λ (r : Record). begun_turn r.body) o ≡ None
    there None says' = refl
    there (Some r) says' =
        ap (option_map {U = ℕ × ℕ} (λ next. (next, next_turn r.body)))
        (region_starts task kind endpoint r.body says')

-- what the open regions become by one more place of the task
open_more : (rs : List Record) (task n : ℕ) (own : Bool) → is_own rs task n ≡ own
    → open_regions rs task (n + 1)
    ≡ cond own (after_region (open_regions rs task n) n (at region rs n)) (open_regions rs task n)
open_more rs task n true own =
    ap (fold (λ opened k. after_region opened k (at region rs k)) [])
    (own_more rs task n ∙ ap (λ b. own_before rs task n ++ cond b (n ∷ []) []) own)
    ∙ fold_push (λ opened k. after_region opened k (at region rs k)) [] (own_before rs task n) n
open_more rs task n false own =
    ap (fold (λ opened k. after_region opened k (at region rs k)) [])
    (own_more rs task n ∙ ap (λ b. own_before rs task n ++ cond b (n ∷ []) []) own
    ∙ append-nil (own_before rs task n))

-- a record of no region changes nothing
pub open_none : (rs : List Record) (task n : ℕ) → at region rs n ≡ None
    → open_regions rs task (n + 1) ≡ open_regions rs task n
open_none rs task n none =
    open_more rs task n (is_own rs task n) refl
    ∙ ap
    (λ r.
    cond (is_own rs task n) (after_region (open_regions rs task n) n r) (open_regions rs task n))
    none
    ∙ same (is_own rs task n) (open_regions rs task n)
  where
    same : (b : Bool) (xs : List ℕ) → cond b xs xs ≡ xs
    same true xs = refl
    same false xs = refl

-- nor does one of another task
pub open_other : (rs : List Record) (task own n : ℕ) (kind : SyncKind) (endpoint : Endpoint)
    → at region rs n ≡ Some (own, kind, endpoint) → task ≢ own
    → open_regions rs task (n + 1) ≡ open_regions rs task n
open_other rs task own n kind endpoint says apart =
    let runs =
    at_through region running (own, kind, endpoint) own rs n (region_running own kind endpoint) says in
    open_more rs task n false
    (ap (λ o. option_map_or (λ t. t == task) o false) runs ∙ ne_eqb own task (λ e. apart (sym e)))

-- one of the task itself does
pub open_own : (rs : List Record) (own n : ℕ) (kind : SyncKind) (endpoint : Endpoint)
    → at region rs n ≡ Some (own, kind, endpoint)
    → open_regions rs own (n + 1) ≡ after_region (open_regions rs own n) n (Some (own, kind, endpoint))
open_own rs own n kind endpoint says =
    let runs =
    at_through region running (own, kind, endpoint) own rs n (region_running own kind endpoint) says in
    open_more rs own n true (ap (λ o. option_map_or (λ t. t == own) o false) runs ∙ eq-eqb own own refl)
    ∙ ap (after_region (open_regions rs own n) n) says

-- a region of the task begins there, before n
pub record IsOwnBegin (rs : List Record) (task n begin : ℕ) : Type 0 where
  pub before : begin < n
  pub kind : SyncKind
  pub begins : at region rs begin ≡ Some (task, kind, Begin)

own_begin_later : (rs : List Record) (task n begin : ℕ) → IsOwnBegin rs task n begin
    → IsOwnBegin rs task (n + 1) begin
own_begin_later rs task n begin is = record {
  before = let h = is.before in omega arith;
  kind = is.kind;
  begins = is.begins;
}

-- one more record keeps it so that the open regions of a task are its own
own_begins_more : (rs : List Record) (task n : ℕ) → All (IsOwnBegin rs task n) (open_regions rs task n)
    → All (IsOwnBegin rs task (n + 1)) (open_regions rs task (n + 1))
own_begins_more rs task n all = more (at region rs n) refl
  where
    so_far : All (IsOwnBegin rs task (n + 1)) (open_regions rs task n)
    so_far =
        All-weaker (IsOwnBegin rs task n) (IsOwnBegin rs task (n + 1)) (own_begin_later rs task n)
        (open_regions rs task n) all

    after : (kind : SyncKind) (endpoint : Endpoint) → at region rs n ≡ Some (task, kind, endpoint)
        → All (IsOwnBegin rs task (n + 1))
        (after_region (open_regions rs task n) n (Some (task, kind, endpoint)))
    after kind Begin says =
        All-cons (IsOwnBegin rs task (n + 1)) n (open_regions rs task n)
        (record { before = omega arith; kind = kind; begins = says }) so_far
    after kind BeginEnd says = so_far
    after kind End says = All-drop (IsOwnBegin rs task (n + 1)) 1 (open_regions rs task n) so_far

    more : (o : Option (ℕ × SyncKind × Endpoint)) → at region rs n ≡ o
        → All (IsOwnBegin rs task (n + 1)) (open_regions rs task (n + 1))
    more None e =
        All-same (IsOwnBegin rs task (n + 1)) (open_regions rs task (n + 1)) (open_regions rs task n)
        (open_none rs task n e) so_far
    more (Some (own, kind, endpoint)) e = elim (cases_eq task own) [
      | inl same ↦
          let says : at region rs n ≡ Some (task, kind, endpoint) =
          e ∙ ap (λ t. Some (t, kind, endpoint)) (sym same) in
          All-same (IsOwnBegin rs task (n + 1)) (open_regions rs task (n + 1))
          (after_region (open_regions rs task n) n (Some (task, kind, endpoint)))
          (open_own rs task n kind endpoint says) (after kind endpoint says)
      | inr apart ↦
          All-same (IsOwnBegin rs task (n + 1)) (open_regions rs task (n + 1)) (open_regions rs task n)
          (open_other rs task own n kind endpoint e apart) so_far
    ]

open_own_begins : (rs : List Record) (task n : ℕ) → All (IsOwnBegin rs task n) (open_regions rs task n)
open_own_begins rs task zero = All-nil (IsOwnBegin rs task zero)
open_own_begins rs task (suc n) =
    let P : ℕ → Type 0 = λ m. All (IsOwnBegin rs task m) (open_regions rs task m) in
    subst P (add-one n) (own_begins_more rs task n (open_own_begins rs task n))

-- the begin that an end belongs to is earlier, and of the same task
pub own_begin : (rs : List Record) (i task begin : ℕ) (kind : SyncKind) → EndsRegion rs i task kind begin
    → IsOwnBegin rs task i begin
own_begin rs i task begin kind is_end =
    let stack = open_regions rs task i in
    let within = slice_get_within stack 0 begin is_end.innermost in
    let is : get_or stack 0 begin ≡ begin =
    same_Some (get_or stack 0 begin) begin
    (sym (slice_get-get_or stack 0 begin within) ∙ is_end.innermost) in
    let P : ℕ → Type 0 = λ b. IsOwnBegin rs task i b in
    subst P is (All-get_or (IsOwnBegin rs task i) stack 0 begin within (open_own_begins rs task i))

pub begin_before : (rs : List Record) (i task begin : ℕ) (kind : SyncKind) → EndsRegion rs i task kind begin
    → begin < i
begin_before rs i task begin kind is_end = (own_begin rs i task begin kind is_end).before

pub same_says : (rs : List Record) (i own task : ℕ) (kind other : SyncKind) (first second : Endpoint)
    → at region rs i ≡ Some (own, kind, first) → at region rs i ≡ Some (task, other, second)
    → (own ≡ task) × (kind ≡ other) × (first ≡ second)
same_says rs i own task kind other first second says there =
    let same : (own, kind, first) ≡ (task, other, second) =
    same_Some (own, kind, first) (task, other, second) (sym says ∙ there) in (
      ap (λ (r : ℕ × SyncKind × Endpoint). r.0) same,
      ap (λ (r : ℕ × SyncKind × Endpoint). r.1) same,
      ap (λ (r : ℕ × SyncKind × Endpoint). r.2) same,
    )
