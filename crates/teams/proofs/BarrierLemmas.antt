-- Where barriers begin, and their numbers.
use Rattle.std.proofs.Common.{◌≡◌, ◌∙◌, ℕ, ◌<◌, Bool, true, false, List, length, Option, Some, None, refl}
use Rattle.std.proofs.Common.{sym, ap, arith, inl, inr}
use Rattle.std.specs.Prelude.{if◌then◌else◌, option_map, ◌==◌}
use Rattle.std.specs.Option.{option_map_or}
use Rattle.std.specs.List.{AllPairs, range_with_len}
use Rattle.std.proofs.lemmas.Bool.{false≢true, cases_lt, eqb-true}
use Rattle.std.proofs.lemmas.Option.{none-some, same_Some, slice_get_within, get_or_from_slice_get}
use Rattle.std.proofs.lemmas.List.Kept.{AllPairs-filter}
use Rattle.std.proofs.lemmas.List.Elements.{filter_passes}
use Rattle.std.proofs.lemmas.List.FromFn.{length-range_with_len, get_or-range_with_len}
use Rattle.ompt_events.specs.declared.records.Record.{Record}
use Rattle.ompt_events.specs.declared.names.Endpoint.{Endpoint}
use Rattle.ompt_events.specs.declared.names.Endpoint.TheVariants.{Begin, End, BeginEnd}
use Rattle.ompt_events.specs.declared.names.SyncKind.{SyncKind}
use Rattle.ompt_events.specs.Records.{region}
use Rattle.ompt_events.specs.Places.{at, own_before, is_own}
use Rattle.ompt_events.specs.Regions.{IsRegion, ended, at_once, is_barrier, barrier_begun, begins_barrier}
use Rattle.ompt_events.specs.Regions.{barrier_begins, IsBarrierBegin}
use Rattle.ompt_events.proofs.RecordLemmas.{at_through}
use Rattle.ompt_events.proofs.RegionLemmas.{own_begin}
use Rattle.packed_trace.specs.Named.{subject}
use Rattle.task_tree.proofs.NamedLemmas.{region_subject}

-- a region that is a barrier begins where its begin stands
pub barrier_begins_at : (rs : List Record) (i task begin : ℕ) (kind : SyncKind)
    → IsRegion rs i task kind begin → is_barrier kind ≡ true → barrier_begun (at region rs begin) ≡ Some task
barrier_begins_at rs i task begin kind (ended ends) barrier =
    let begins = own_begin rs i task begin kind ends in
    let kinds : begins.kind ≡ kind =
    same_Some begins.kind kind
    (sym (ap (option_map (λ (r : ℕ × SyncKind × Endpoint). r.1)) begins.begins) ∙ ends.same_kind) in
    ap barrier_begun begins.begins ∙ ap (λ b. if b then Some task else None) (ap is_barrier kinds ∙ barrier)
barrier_begins_at rs i task begin kind (at_once once) barrier =
    ap barrier_begun once ∙ ap (λ b. if b then Some task else None) barrier

-- a barrier is of another kind than a taskwait or a taskgroup
pub barrier_is_other : (kind other : SyncKind) → is_barrier kind ≡ true → is_barrier other ≡ false
    → kind ≡ other → ⊥
barrier_is_other kind other barrier none same = false≢true (sym none ∙ ap is_barrier (sym same) ∙ barrier)

-- what begins a barrier
pub begun_region : (rs : List Record) (i task : ℕ) → barrier_begun (at region rs i) ≡ Some task
    → (kind : SyncKind) × (endpoint : Endpoint) × (at region rs i ≡ Some (task, kind, endpoint))
    × (is_barrier kind ≡ true)
begun_region rs i task begun = of (at region rs i) refl begun
  where
    kept : (b : Bool) (own : ℕ) → (if b then Some own else None) ≡ Some task → (own ≡ task) × (b ≡ true)
    kept true own is = (same_Some own task is, refl)
    kept false own is = absurd (none-some task is)

    of : (o : Option (ℕ × SyncKind × Endpoint)) → at region rs i ≡ o → barrier_begun o ≡ Some task
        → (kind : SyncKind) × (endpoint : Endpoint) × (at region rs i ≡ Some (task, kind, endpoint))
        × (is_barrier kind ≡ true)
    of None e is = absurd (none-some task is)
    of (Some (own, kind, Begin)) e is =
        let known = kept (is_barrier kind) own is in
        (kind, Begin, e ∙ ap (λ t. Some (t, kind, Begin)) known.0, known.1)
    of (Some (own, kind, BeginEnd)) e is =
        let known = kept (is_barrier kind) own is in
        (kind, BeginEnd, e ∙ ap (λ t. Some (t, kind, BeginEnd)) known.0, known.1)
    of (Some (own, kind, End)) e is = absurd (none-some task is)

-- a record of a region of another kind, or of none, begins none
pub begun_other : (rs : List Record) (i task own : ℕ) (kind : SyncKind) (endpoint : Endpoint)
    → at region rs i ≡ Some (own, kind, endpoint) → is_barrier kind ≡ false
    → barrier_begun (at region rs i) ≡ Some task → ⊥
begun_other rs i task own kind endpoint says other begun =
    let known = begun_region rs i task begun in
    let same = same_Some (own, kind, endpoint) (task, known.0, known.1) (sym says ∙ known.2) in
    let kinds : kind ≡ known.0 = ap (λ (r : ℕ × SyncKind × Endpoint). r.1) same in
    false≢true (sym other ∙ ap is_barrier kinds ∙ known.3)

-- its record is of the task
pub begun_subject : (rs : List Record) (i task : ℕ) → barrier_begun (at region rs i) ≡ Some task
    → at subject rs i ≡ Some task
begun_subject rs i task begun =
    let known = begun_region rs i task begun in
    at_through region subject (task, known.0, known.1) task rs i (region_subject task known.0 known.1) known.2

-- ---- numbers

-- a begin with a number is the begin of a barrier of the task
pub begin_says : (rs : List Record) (task number start : ℕ) → IsBarrierBegin rs task number start
    → barrier_begun (at region rs start) ≡ Some task
begin_says rs task number start is =
    let list = barrier_begins rs task in
    let within = slice_get_within list number start is in
    let passes =
    filter_passes (begins_barrier rs task) (own_before rs task (length rs)) number start within in
    let same = get_or_from_slice_get list number start start is in
    of (barrier_begun (at region rs start)) refl (ap (begins_barrier rs task) (sym same) ∙ passes)
  where
    of : (o : Option ℕ) → barrier_begun (at region rs start) ≡ o
        → option_map_or (λ t. t == task) (barrier_begun (at region rs start)) false ≡ true
        → barrier_begun (at region rs start) ≡ Some task
    of None e holds = absurd (false≢true (sym (ap (λ o. option_map_or (λ t. t == task) o false) e) ∙ holds))
    of (Some t) e holds =
        e ∙ ap Some (eqb-true t task (sym (ap (λ o. option_map_or (λ t. t == task) o false) e) ∙ holds))

rising : (n : ℕ) → AllPairs (λ x y. x < y) (range_with_len 0 n)
rising n i j d less within =
    let inside : j < n = rw (length-range_with_len 0 n) at within in
    let first = get_or-range_with_len 0 n i d (omega (arith, less, inside)) in
    let second = get_or-range_with_len 0 n j d inside in
    omega (arith, less, first, second)

begins_rise : (rs : List Record) (task : ℕ) → AllPairs (λ x y. x < y) (barrier_begins rs task)
begins_rise rs task =
    AllPairs-filter (λ x y. x < y) (begins_barrier rs task) (own_before rs task (length rs))
    (AllPairs-filter (λ x y. x < y) (is_own rs task) (range_with_len 0 (length rs)) (rising (length rs)))

-- it has one number only
pub one_number : (rs : List Record) (task a b start : ℕ) → IsBarrierBegin rs task a start
    → IsBarrierBegin rs task b start → a ≡ b
one_number rs task a b start here there = elim (cases_lt a b) [
  | inl less ↦ absurd (never a b less here there)
  | inr more ↦ elim (cases_lt b a) [
    | inl less ↦ absurd (never b a less there here)
    | inr same ↦ omega (arith, more, same)
  ]
]
  where
    never : (x y : ℕ) → x < y → IsBarrierBegin rs task x start → IsBarrierBegin rs task y start → ⊥
    never x y less first second =
        let list = barrier_begins rs task in
        let rises = begins_rise rs task x y start less (slice_get_within list y start second) in
        let low = get_or_from_slice_get list x start start first in
        let high = get_or_from_slice_get list y start start second in
        omega (arith, rises, low, high)
