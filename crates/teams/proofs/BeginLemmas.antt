-- Where tasks begin barriers.
use Rattle.std.proofs.Common.{◌≡◌, ◌∙◌, ℕ, zero, suc, ◌<◌, ◌≤◌, ◌+◌, List, [], ◌∷◌, ◌++◌, length, Option}
use Rattle.std.proofs.Common.{Some, None, Bool, true, false, cond, refl, sym, ap, subst, arith, inl, inr, ◌⊎◌}
use Rattle.std.proofs.Common.{add-one}
use Rattle.std.proofs.lemmas.Bool.{cases_eq, cases_lt, eq-eqb, ne_eqb}
use Rattle.std.proofs.lemmas.Option.{none-some, same_Some, slice_get_within}
use Rattle.std.proofs.lemmas.List.{length_push, length-set, append-nil}
use Rattle.std.proofs.lemmas.List.Elements.{filter-append}
use Rattle.std.proofs.Math.ListN.{set}
use Rattle.std.specs.Global.{Vec}
use Rattle.std.specs.Option.{option_map_or}
use Rattle.std.specs.Prelude.{◌==◌, slice_get, filter}
use Rattle.ompt_events.specs.declared.records.Record.{Record}
use Rattle.ompt_events.specs.declared.names.Endpoint.{Endpoint}
use Rattle.ompt_events.specs.declared.names.Endpoint.TheVariants.{Begin, End, BeginEnd}
use Rattle.ompt_events.specs.declared.names.SyncKind.{SyncKind}
use Rattle.ompt_events.specs.Records.{region, running}
use Rattle.ompt_events.specs.Places.{at, is_own, own_before}
use Rattle.ompt_events.specs.Regions.{is_barrier, barrier_begun, begins_barrier, IsBarrierBegin}
use Rattle.ompt_events.proofs.ListLemmas.{get_pushed, get_last}
use Rattle.ompt_events.proofs.PlaceLemmas.{own_more}
use Rattle.ompt_events.proofs.RecordLemmas.{at_through, region_running}
use Rattle.index_tables.specs.Numbering.{AreApart}
use Rattle.task_tree.proofs.LinkLemmas.{get_set_same, get_set_other}
use Rattle.teams.specs.Begins.{AreBeginsNumbered, IsBeginAdded}
use Rattle.task_states.specs.Rows.{row_at}
use Rattle.teams.specs.Teams.{begins_before, AreBarrierBegins, IsNumberOf, AreBeginNumbers}

-- ---- the record that begins a barrier

-- a barrier that begins is a region of its task
pub record IsBegun (says : Option (ℕ × SyncKind × Endpoint)) (task : ℕ) : Type 0 where
  pub kind : SyncKind
  pub endpoint : Endpoint
  pub is : says ≡ Some (task, kind, endpoint)
  pub barrier : is_barrier kind ≡ true

if_begun : (own task : ℕ) (kind : SyncKind) (endpoint : Endpoint) (b : Bool) → is_barrier kind ≡ b
    → cond b (Some own) None ≡ Some task → IsBegun (Some (own, kind, endpoint)) task
if_begun own task kind endpoint true is says = record {
  kind = kind;
  endpoint = endpoint;
  is = ap (λ t. Some (t, kind, endpoint)) (same_Some own task says);
  barrier = is;
}
if_begun own task kind endpoint false is says = absurd (none-some task says)

pub begun_region : (says : Option (ℕ × SyncKind × Endpoint)) (task : ℕ) → barrier_begun says ≡ Some task
    → IsBegun says task
begun_region None task is = absurd (none-some task is)
begun_region (Some (own, kind, End)) task is = absurd (none-some task is)
begun_region (Some (own, kind, Begin)) task is = if_begun own task kind Begin (is_barrier kind) refl is
begun_region (Some (own, kind, BeginEnd)) task is = if_begun own task kind BeginEnd (is_barrier kind) refl is

begun_own : (rs : List Record) (task i : ℕ) → barrier_begun (at region rs i) ≡ Some task
    → is_own rs task i ≡ true
begun_own rs task i begins =
    let is = begun_region (at region rs i) task begins in
    ap (λ (o : Option ℕ). option_map_or (λ t. t == task) o false)
    (at_through region running (task, is.kind, is.endpoint) task rs i
    (region_running task is.kind is.endpoint) is.is)
    ∙ eq-eqb task task refl

-- ---- the places at which a task begins barriers

-- one record more
begins_step : (rs : List Record) (task n : ℕ)
    → begins_before rs task (n + 1)
    ≡ begins_before rs task n ++ filter (begins_barrier rs task) (cond (is_own rs task n) (n ∷ []) [])
begins_step rs task n =
    ap (filter (begins_barrier rs task)) (own_more rs task n)
    ∙ filter-append (begins_barrier rs task) (own_before rs task n) (cond (is_own rs task n) (n ∷ []) [])

-- that begins a barrier of the task, or does not
pub begins_pushed : (rs : List Record) (task n : ℕ) → barrier_begun (at region rs n) ≡ Some task
    → begins_before rs task (n + 1) ≡ begins_before rs task n ++ n ∷ []
begins_pushed rs task n begins =
    begins_step rs task n
    ∙ ap (λ b. begins_before rs task n ++ filter (begins_barrier rs task) (cond b (n ∷ []) []))
    (begun_own rs task n begins)
    ∙ ap (λ b. begins_before rs task n ++ cond b (n ∷ []) [])
    (ap (λ (o : Option ℕ). option_map_or (λ t. t == task) o false) begins ∙ eq-eqb task task refl)

begins_none : (rs : List Record) (task n : ℕ) → begins_barrier rs task n ≡ false
    → begins_before rs task (n + 1) ≡ begins_before rs task n
begins_none rs task n none =
    begins_step rs task n ∙ ap (λ l. begins_before rs task n ++ l) (nothing (is_own rs task n))
    ∙ append-nil (begins_before rs task n)
  where
    nothing : (b : Bool) → filter (begins_barrier rs task) (cond b (n ∷ []) []) ≡ []
    nothing false = refl
    nothing true = ap (λ b. cond b (n ∷ []) []) none

pub begins_same : (rs : List Record) (task n : ℕ) → (barrier_begun (at region rs n) ≡ Some task → ⊥)
    → begins_before rs task (n + 1) ≡ begins_before rs task n
begins_same rs task n other = begins_none rs task n (there (barrier_begun (at region rs n)) refl)
  where
    there : (o : Option ℕ) → barrier_begun (at region rs n) ≡ o
        → option_map_or (λ t. t == task) o false ≡ false
    there None e = refl
    there (Some own) e = ne_eqb own task (λ same. other (e ∙ ap Some same))

pub begins_cases : (rs : List Record) (task n : ℕ)
    → (begins_before rs task (n + 1) ≡ begins_before rs task n)
    ⊎ (begins_before rs task (n + 1) ≡ begins_before rs task n ++ n ∷ [])
begins_cases rs task n = there (barrier_begun (at region rs n)) refl
  where
    there : (o : Option ℕ) → barrier_begun (at region rs n) ≡ o
        → (begins_before rs task (n + 1) ≡ begins_before rs task n)
        ⊎ (begins_before rs task (n + 1) ≡ begins_before rs task n ++ n ∷ [])
    there None e = inl (begins_same rs task n (λ is. none-some task (sym e ∙ is)))
    there (Some own) e = elim (cases_eq own task) [
      | inl same ↦ inr (begins_pushed rs task n (e ∙ ap Some same))
      | inr apart ↦ inl (begins_same rs task n (λ is. apart (same_Some own task (sym e ∙ is))))
    ]

-- a task begins no more barriers than there are records
pub begins_few : (rs : List Record) (task n : ℕ) → length (begins_before rs task n) ≤ n
begins_few rs task zero = omega arith
begins_few rs task (suc n) =
    let P : ℕ → Type 0 = λ m. length (begins_before rs task m) ≤ m in
    subst P (add-one n) (more (begins_few rs task n) (begins_cases rs task n))
  where
    more : length (begins_before rs task n) ≤ n
        → (begins_before rs task (n + 1) ≡ begins_before rs task n)
        ⊎ (begins_before rs task (n + 1) ≡ begins_before rs task n ++ n ∷ [])
        → length (begins_before rs task (n + 1)) ≤ n + 1
    more few (inl same) = let is = ap length same in omega arith
    more few (inr pushed) =
        let longer = ap length pushed ∙ length_push (begins_before rs task n) n in omega arith

-- a barrier keeps its number
begins_stay : (rs : List Record) (task n number start : ℕ)
    → slice_get (begins_before rs task n) number ≡ Some start
    → slice_get (begins_before rs task (n + 1)) number ≡ Some start
begins_stay rs task n number start is = elim (begins_cases rs task n) [
  | inl same ↦ ap (λ l. slice_get l number) same ∙ is
  | inr more ↦ ap (λ l. slice_get l number) more ∙ get_pushed (begins_before rs task n) n start number is
]

begin_stays : (rs : List Record) (task n m number start : ℕ)
    → slice_get (begins_before rs task n) number ≡ Some start → n ≤ m
    → slice_get (begins_before rs task m) number ≡ Some start
begin_stays rs task n zero number start is less =
    let P : ℕ → Type 0 = λ k. slice_get (begins_before rs task k) number ≡ Some start in
    let same : n ≡ zero = omega (arith, less) in subst P same is
begin_stays rs task n (suc m) number start is less =
    let P : ℕ → Type 0 = λ k. slice_get (begins_before rs task k) number ≡ Some start in
    elim (cases_lt n (suc m)) [
      | inl earlier ↦
          let step : m + 1 ≡ suc m = omega arith in
          subst P step
          (begins_stay rs task m number start
          (begin_stays rs task n m number start is (omega (arith, earlier))))
      | inr here ↦ let same : n ≡ suc m = omega (arith, here, less) in subst P same is
    ]

-- the number of a barrier is how many its task began before
pub begun_number : (rs : List Record) (task n : ℕ) → n < length rs
    → barrier_begun (at region rs n) ≡ Some task → IsBarrierBegin rs task (length (begins_before rs task n)) n
begun_number rs task n within begins =
    begin_stays rs task (n + 1) (length rs) (length (begins_before rs task n)) n
    (ap (λ l. slice_get l (length (begins_before rs task n))) (begins_pushed rs task n begins)
    ∙ get_last (begins_before rs task n) n (length (begins_before rs task n)) refl)
    (omega (arith, within))

-- ---- the tables

pub begins_other : (rs : List Record) (n : ℕ) (tasks : List ℕ) (begins : List (Vec ℕ))
    → AreBarrierBegins rs n tasks begins → barrier_begun (at region rs n) ≡ None
    → AreBarrierBegins rs (n + 1) tasks begins
begins_other rs n tasks begins are none = record {
  within = are.within;
  each =
      λ index task is_task.
      are.each index task is_task ∙ sym (begins_same rs task n (λ is. none-some task (sym none ∙ is)));
}

-- one place more in the row of a task
pub begins_added : (rs : List Record) (n own parent : ℕ) (tasks : List ℕ) (before after : List (Vec ℕ))
    → AreApart tasks → AreBarrierBegins rs n tasks before → slice_get tasks own ≡ Some parent
    → barrier_begun (at region rs n) ≡ Some parent → IsBeginAdded before after own n
    → AreBarrierBegins rs (n + 1) tasks after
begins_added rs n own parent tasks before after apart are is_own begun added = record {
  within = added.few (length tasks) are.within (slice_get_within tasks own parent is_own);
  each = λ index task is_task. elim (cases_eq index own) [
    | inl same ↦
        let is_parent : task ≡ parent =
        same_Some task parent (sym is_task ∙ ap (slice_get tasks) same ∙ is_own) in
        ap (row_at after) same ∙ added.here ∙ ap (λ l. l ++ n ∷ []) (are.each own parent is_own)
        ∙ sym (begins_pushed rs parent n begun) ∙ ap (λ t. begins_before rs t (n + 1)) (sym is_parent)
    | inr different ↦
        added.others index different
        ∙ are.each index task is_task
        ∙ sym
        (begins_same rs task n
        (λ is.
        different
        (apart index own parent (is_task ∙ ap Some (same_Some task parent (sym is ∙ begun)))
        is_own)))
  ];
}

-- no number is owed where no barrier begins
pub number_none : (rs : List Record) (n number : ℕ) → barrier_begun (at region rs n) ≡ None
    → IsNumberOf rs n number
number_none rs n number none = λ task is. absurd (none-some task (sym none ∙ is))

pub number_here : (rs : List Record) (n own parent number : ℕ) (tasks : List ℕ) (begins : List (Vec ℕ))
    → AreBarrierBegins rs n tasks begins → n < length rs → slice_get tasks own ≡ Some parent
    → barrier_begun (at region rs n) ≡ Some parent → number ≡ length (row_at begins own)
    → IsNumberOf rs n number
number_here rs n own parent number tasks begins are within is_own begun is = λ task begins_too.
    let same : parent ≡ task = same_Some parent task (sym begun ∙ begins_too) in
    let P : ℕ → Type 0 = λ t. IsBarrierBegin rs t number n in
    let Q : ℕ → Type 0 = λ k. IsBarrierBegin rs parent k n in
    let is_number : number ≡ length (begins_before rs parent n) =
    is ∙ ap length (are.each own parent is_own) in
    subst P same (subst Q (sym is_number) (begun_number rs parent n within begun))

pub numbered_other : (rs : List Record) (n : ℕ) (numbers : List ℕ) → AreBeginsNumbered rs n numbers
    → barrier_begun (at region rs n) ≡ None → AreBeginsNumbered rs (n + 1) numbers
numbered_other rs n numbers are none = record {
  all = are.all;
  each = λ i number below stands. elim (cases_eq i n) [
    | inl same ↦
        let P : ℕ → Type 0 = λ k. IsNumberOf rs k number in subst P (sym same) (number_none rs n number none)
    | inr apart ↦ are.each i number (omega (arith, below, apart)) stands
  ];
}

pub numbered_more : (rs : List Record) (n here : ℕ) (numbers : List ℕ) → AreBeginsNumbered rs n numbers
    → n < length rs → IsNumberOf rs n here → AreBeginsNumbered rs (n + 1) (set numbers n here)
numbered_more rs n here numbers are within is = record {
  all = length-set numbers n here ∙ are.all;
  each = λ i number below stands. elim (cases_eq i n) [
    | inl same ↦
        let told : here ≡ number =
        same_Some here number
        (sym (get_set_same numbers n here (let all = are.all in omega (arith, within, all)))
        ∙ ap (slice_get (set numbers n here)) (sym same) ∙ stands) in
        let P : ℕ → Type 0 = λ k. IsNumberOf rs k number in
        let Q : ℕ → Type 0 = IsNumberOf rs n in
        subst P (sym same) (subst Q told is)
    | inr apart ↦
        are.each i number (omega (arith, below, apart)) (sym (get_set_other numbers n i here apart) ∙ stands)
  ];
}

pub numbered_all : (rs : List Record) (n : ℕ) (numbers : List ℕ) → AreBeginsNumbered rs n numbers
    → length rs ≤ n
    → AreBeginNumbers rs (length rs) numbers
numbered_all rs n numbers are end = record {
  all = are.all;
  each =
      λ i number stands.
      are.each i number
      (let within = slice_get_within numbers i number stands in
      let all = are.all in omega (arith, end, within, all))
      stands;
}

pub row_few : (rs : List Record) (n own parent : ℕ) (tasks : List ℕ) (begins : List (Vec ℕ))
    → AreBarrierBegins rs n tasks begins → slice_get tasks own ≡ Some parent → length (row_at begins own) ≤ n
row_few rs n own parent tasks begins are is_own =
    let same = ap length (are.each own parent is_own) in
    let few = begins_few rs parent n in
    omega (arith, same, few)
