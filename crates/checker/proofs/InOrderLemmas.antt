-- From the records so far in the order of the ledger to the causes that this excludes; and what is kept of
-- the tasks.
use Rattle.std.proofs.Common.{[], ◌≡◌, ◌∙◌, ℕ, ◌<◌, ◌≤◌, ◌+◌, Bool, true, false, cond, List, length}
use Rattle.std.proofs.Common.{set, Some, refl, sym, ap, subst, arith, inl, inr}
use Rattle.std.specs.Prelude.{is_some, slice_get}
use Rattle.std.proofs.lemmas.Bool.{cases_eq, cases_lt}
use Rattle.std.proofs.lemmas.Option.{none-some, same_Some, some_pair_parts, slice_get_within}
use Rattle.std.proofs.lemmas.Option.{slice_get-get_or}
use Rattle.std.proofs.lemmas.List.{length-set, get_or-set_same, get_or-set_other}
use Rattle.std.proofs.Math.Nat.{max-eq_left, max-eq_right}
use Rattle.std.specs.Prelude.{max}
use Rattle.ompt_events.specs.declared.records.Record.{Record}
use Rattle.ompt_events.specs.declared.cause.Cause.TheVariants.{EntryTwice, LengthAhead}
use Rattle.ompt_events.specs.Records.{finish, suspended_turn}
use Rattle.ompt_events.specs.Places.{at, seen_at}
use Rattle.ompt_events.specs.HappensBefore.{IsFinishing}
use Rattle.ompt_events.specs.Causes.{known_after, RepeatsEntry, IsAhead, entry, ledger_length, entries_in}
use Rattle.ompt_events.specs.Causes.{IsFreeOf, entries_before}
use Rattle.ompt_events.proofs.PlaceLemmas.{seen_within}
use Rattle.checker.specs.declared.in_order.Suspension.{Suspension}
use Rattle.checker.specs.Schedule.{Awaits, awaits_creation, awaits_end, EachAwaitsOne}
use Rattle.checker.specs.Suspensions.{IsEndOf}
use Rattle.task_tree.specs.Rising.{IsStartOf}
use Rattle.ompt_events.specs.Tree.{IsExplicit}
use Rattle.ompt_events.proofs.HappensBeforeLemmas.{finishing_within}
use Rattle.checker.proofs.ScheduleLemmas.{later_awaits_none}
use Rattle.ompt_events.proofs.FileOrderLemmas.{entries_same, entries_more, entries_le, entries_all}
use Rattle.ompt_events.proofs.FileOrderLemmas.{entries_less}
use Rattle.checker.specs.InOrder.{FitsBehind, AreLastSuspensions}
use Rattle.checker.proofs.EntryLemmas.{free_of_repeats, free_of_ahead}

-- ---- one record more

pub fit_more : (rs : List Record) (n entries : ℕ) → entries ≡ entries_before rs n → FitsBehind rs n entries
    → ((i : ℕ) → i < n → FitsBehind rs i (entries_before rs i)) → (i : ℕ) → i < n + 1
    → FitsBehind rs i (entries_before rs i)
fit_more rs n entries count fits before i below = elim (cases_eq i n) [
  | inl same ↦
      let P : ℕ → Type 0 = λ j. FitsBehind rs j (entries_before rs j) in
      subst P (sym same) (let Q : ℕ → Type 0 = FitsBehind rs n in subst Q count fits)
  | inr apart ↦ before i (omega (arith, below, apart))
]

pub entries_count_more : (rs : List Record) (n entries after : ℕ) → n < length rs
    → entries ≡ entries_before rs n
    → after ≡ cond (is_some (at finish rs n)) (entries + 1) entries → after ≡ entries_before rs (n + 1)
entries_count_more rs n entries after within count is = of (is_some (at finish rs n)) refl is
  where
    of : (b : Bool) → is_some (at finish rs n) ≡ b → after ≡ cond b (entries + 1) entries
        → after ≡ entries_before rs (n + 1)
    of true makes is' = is' ∙ ap (λ k. k + 1) count ∙ sym (entries_more rs n makes)
    of false none is' = is' ∙ count ∙ sym (entries_same rs n within none)

pub entries_most : (rs : List Record) (n entries after : ℕ)
    → after ≡ cond (is_some (at finish rs n)) (entries + 1) entries → after ≤ entries + 1
entries_most rs n entries after is = of (is_some (at finish rs n)) is
  where
    of : (b : Bool) → after ≡ cond b (entries + 1) entries → after ≤ entries + 1
    of true is' = omega (arith, is')
    of false is' = omega (arith, is')

-- what is known after a record that makes an entry is how many entries there are then, and after one that
-- makes none it is no more than there are: the greater of that and the entries before is how many there are
-- behind it
pub entries_by_known : (rs : List Record) (i after entries : ℕ) → after ≡ known_after rs i
    → FitsBehind rs i entries → max entries after ≡ cond (is_some (at finish rs i)) (entries + 1) entries
entries_by_known rs i after entries knows fits = of (is_some (at finish rs i)) refl knows
  where
    of : (b : Bool) → is_some (at finish rs i) ≡ b → after ≡ cond b (seen_at rs i + 1) (seen_at rs i)
        → max entries after ≡ cond b (entries + 1) entries
    of true is knows' =
        let own = fits.own is in
        max-eq_right (omega (arith, own, knows')) ∙ omega (arith, own, knows')
    of false is knows' = let low = fits.named in max-eq_left (omega (arith, low, knows'))

pub awaited_more : (rs : List Record) (n : ℕ) → ((i c : ℕ) → i < n → Awaits rs i c → c < i)
    → ((c : ℕ) → Awaits rs n c → c < n) → (i c : ℕ) → i < n + 1 → Awaits rs i c → c < i
awaited_more rs n before here i c below waits = elim (cases_eq i n) [
  | inl same ↦
      let less = here c (let P : ℕ → Type 0 = λ j. Awaits rs j c in subst P same waits) in
      omega (arith, less, same)
  | inr apart ↦ before i c (omega (arith, below, apart)) waits
]

-- ---- what such an order excludes

-- each record fits behind those before it
abbrev pub AllFit : List Record → Type 0
AllFit rs = (i : ℕ) → i < length rs → FitsBehind rs i (entries_before rs i)

no_repeat : (rs : List Record) (i : ℕ) → AllFit rs → RepeatsEntry rs i → ⊥
no_repeat rs i fit (k, below, earlier, own, same) =
    let first = (fit k (finishing_within rs k earlier)).own earlier in
    let second = (fit i (finishing_within rs i own)).own own in
    let less = entries_less rs k i earlier below in
    omega (arith, first, second, less, same)

pub fit_once : (rs : List Record) → AllFit rs → IsFreeOf rs EntryTwice
fit_once rs fit = free_of_repeats rs (length rs) (λ k below. no_repeat rs k fit) (omega arith)

not_ahead : (rs : List Record) (i : ℕ) → AllFit rs → IsAhead rs i → ⊥
not_ahead rs i fit (entry makes most) =
    let own = (fit i (finishing_within rs i makes)).own makes in
    let less = entries_less rs i (i + 1) makes (omega arith) in
    let all = entries_all rs (i + 1) in
    omega (arith, own, less, all, most)
not_ahead rs i fit (ledger_length most) =
    let named = (fit i (seen_within rs i (entries_in rs) most)).named in
    let all = entries_all rs i in
    omega (arith, named, all, most)

pub fit_reached : (rs : List Record) → AllFit rs → IsFreeOf rs LengthAhead
fit_reached rs fit = free_of_ahead rs (length rs) (λ k below. not_ahead rs k fit) (omega arith)

pub fit_entered : (rs : List Record) → AllFit rs → (a b : ℕ) → IsFinishing rs a → seen_at rs a < seen_at rs b
    → a < b
fit_entered rs fit a b makes less = elim (cases_lt a b) [
  | inl is ↦ is
  | inr past ↦
      let own = (fit a (finishing_within rs a makes)).own makes in
      let named = (fit b (seen_within rs b (seen_at rs a) less)).named in
      let most = entries_le rs b a past in
      absurd (omega (arith, own, named, most, less))
]

-- ---- what is kept of the tasks

pub no_last : (rs : List Record) (tasks : List ℕ) → AreLastSuspensions rs tasks []
no_last rs tasks index task last indexed kept = absurd (none-some last kept)

pub last_more : (rs : List Record) (tasks : List ℕ) (lasts : List Suspension) (i index turn : ℕ)
    → IsEndOf rs tasks i index turn → AreLastSuspensions rs tasks lasts
    → AreLastSuspensions rs tasks (set lasts index (record { turn = turn; place = i }))
last_more rs tasks lasts i index turn end are other task last indexed kept low = elim (cases_eq other index) [
  | inl same ↦
      let new : Suspension = record { turn = turn; place = i } in
      let inside : index < length lasts =
      let within = slice_get_within (set lasts index new) other last kept in
      let all = length-set lasts index new in omega (arith, within, all, same) in
      let here : slice_get (set lasts index new) other ≡ Some new =
      ap (slice_get (set lasts index new)) same
      ∙ slice_get-get_or (set lasts index new) index new
      (let all = length-set lasts index new in omega (arith, inside, all))
      ∙ ap Some (get_or-set_same lasts index new new inside) in
      let is : new ≡ last = same_Some new last (sym here ∙ kept) in
      let own : end.task ≡ task =
      same_Some end.task task (sym end.indexed ∙ ap (slice_get tasks) (sym same) ∙ indexed) in
      let P : Suspension → Type 0 = λ s. at suspended_turn rs s.place ≡ Some (task, s.turn) in
      subst P is (end.suspends ∙ ap (λ t. Some (t, turn)) own)
  | inr apart ↦
      let new : Suspension = record { turn = turn; place = i } in
      let inside : other < length lasts =
      let within = slice_get_within (set lasts index new) other last kept in
      let all = length-set lasts index new in omega (arith, within, all) in
      let old : slice_get (set lasts index new) other ≡ slice_get lasts other =
      slice_get-get_or (set lasts index new) other new
      (slice_get_within (set lasts index new) other last kept)
      ∙ ap Some (get_or-set_other lasts index other new new apart)
      ∙ sym (slice_get-get_or lasts other new inside) in
      are other task last indexed (sym old ∙ kept) low
]

-- the end that is kept is the one that is awaited
pub end_follows : (rs : List Record) (tasks : List ℕ) (lasts : List Suspension) (i index turn : ℕ)
    (last : Suspension)
    → EachAwaitsOne rs → AreLastSuspensions rs tasks lasts → IsStartOf rs tasks i index turn → 0 < turn
    → slice_get lasts index ≡ Some last → turn ≡ last.turn + 1 → last.place < i → i < length rs
    → seen_at rs last.place ≤ seen_at rs i → (c : ℕ) → Awaits rs i c → (c < i) × (seen_at rs c ≤ seen_at rs i)
end_follows rs tasks lasts i index turn last facts are begins later kept next before within low c
    (awaits_creation task waits creates) =
    absurd (none-some task (sym (later_awaits_none rs i begins.task turn facts begins.starts later) ∙ waits))
end_follows rs tasks lasts i index turn last facts are begins later kept next before within low c
    (awaits_end again explicit) =
    let parts =
    some_pair_parts begins.task again.task turn (again.turn + 1) (sym begins.starts ∙ again.resumes) in
    let same : last.turn ≡ again.turn = omega (arith, parts.1, next) in
    let suspends : at suspended_turn rs last.place ≡ Some (again.task, again.turn) =
    are index begins.task last begins.indexed kept (omega (arith, before, within))
    ∙ ap (λ t. Some (t, last.turn)) parts.0 ∙ ap (λ t. Some (again.task, t)) same in
    let one : last.place ≡ c = sym (facts.once c last.place i again explicit suspends) in
    let P : ℕ → Type 0 = λ k. (k < i) × (seen_at rs k ≤ seen_at rs i) in
    subst P one (before, low)

-- a task that is not explicit awaits nothing where it runs on
pub root_follows : (rs : List Record) (tasks : List ℕ) (i index turn : ℕ) → EachAwaitsOne rs
    → (begins : IsStartOf rs tasks i index turn) → 0 < turn → (IsExplicit rs begins.task → ⊥) → (c : ℕ)
    → Awaits rs i c → (c < i) × (seen_at rs c ≤ seen_at rs i)
root_follows rs tasks i index turn facts begins later root c (awaits_creation task waits creates) =
    absurd (none-some task (sym (later_awaits_none rs i begins.task turn facts begins.starts later) ∙ waits))
root_follows rs tasks i index turn facts begins later root c (awaits_end again explicit) =
    let parts =
    some_pair_parts begins.task again.task turn (again.turn + 1) (sym begins.starts ∙ again.resumes) in
    absurd (root (subst (IsExplicit rs) (sym parts.0) explicit))
