-- What the closed recorders of a run's threads have together.
use Rattle.std.proofs.Common.{ℕ, ◌≡◌, ◌≢◌, ◌∙◌, ◌<◌, List, Some, map, length, refl, sym, ap, subst, arith}
use Rattle.std.proofs.Common.{◌≤◌, ◌+◌, drop, append_assoc, inl, inr, Bool, true, false, cond, zero, suc}
use Rattle.std.proofs.Common.{[], ◌∷◌, ◌++◌, Option, take, ◌^◌, ◌⊎◌}
use Rattle.std.specs.Prelude.{slice_get, get_or, nat_eq, option_map, ◌==◌, filter, All, fold, is_some, None}
use Rattle.std.specs.Prelude.{Contains, option_and_then, if◌then◌else◌}
use Rattle.std.specs.List.{AllByRecursion, sum_by, position_from, IsDistinct}
use Rattle.std.specs.Option.{option_map_or}
use Rattle.std.specs.List.Sorted.{IsPermutation}
use Rattle.std.proofs.lemmas.Bool.{cases_Bool, cases_order, leb-true, eqb-true, cases_eq, eq-eqb, ne_eqb}
use Rattle.std.proofs.lemmas.Bool.{false≢true}
use Rattle.std.proofs.lemmas.List.{append-nil, take_all, take-append-drop}
use Rattle.std.proofs.lemmas.List.Elements.{filter-append, All-from_recursion}
use Rattle.std.proofs.lemmas.List.Sums.{count_by-le-length, fold-append, sum_by-cons, sum_by-append}
use Rattle.std.proofs.lemmas.List.Sums.{sum_by_push}
use Rattle.std.proofs.lemmas.List.Concat.{flat_map-cons}
use Rattle.std.proofs.lemmas.List.Sorted.{sum_by-IsPermutation, Contains-permutation, IsPermutation-sym}
use Rattle.std.proofs.lemmas.List.Sorted.{IsPermutation-map}
use Rattle.std.proofs.lemmas.Option.{none-some, same_Some, slice_get_within, slice_get-map}
use Rattle.std.proofs.lemmas.Option.{get_or_from_slice_get}
use Rattle.std.proofs.lemmas.Simd.{map-map}
use Rattle.std.proofs.lemmas.Map.Keys.{IsDistinct-IsPermutation, apart_from_distinct}
use Rattle.ompt_events.specs.declared.records.Body.{Body}
use Rattle.ompt_events.specs.declared.records.Body.TheVariants.{ImplicitTask, TaskSchedule, Cancel}
use Rattle.ompt_events.specs.declared.names.Endpoint.TheVariants.{End}
use Rattle.ompt_events.specs.Flags.{has_flag}
use Rattle.ompt_events.specs.Records.{made, finish}
use Rattle.ompt_events.proofs.ListLemmas.{get_last, get_contains, contains_get, all_get}
use Rattle.ompt_events.specs.declared.records.Record.{Record}
use Rattle.ompt_events.specs.Causes.{entries_in}
use Rattle.ompt_events.specs.Flags as flag
use Rattle.credit_ledger.specs.declared.entry.Entry.{Entry}
use Rattle.credit_ledger.specs.Entries.{is_overlap, is_ledger_full, entry_fault}
use Rattle.credit_ledger.specs.Histories.{entries_after}
use Rattle.credit_ledger.specs.Seats.{AreClaims, StartsWith, claim_of}
use Rattle.credit_ledger.proofs.ExtendsLemmas.{GoOn, starts-go_on}
use Rattle.credit_ledger.specs.declared.view.Step as seat_step
use Rattle.credit_ledger.specs.declared.fault.LedgerFault.TheVariants as ledger
use Rattle.credit_ledger.specs.TraceEntries.{entry_of}
use Rattle.callbacks.specs.Buffers.{BufferView}
use Rattle.scripts.specs.Scripts.{IsShortScript, ScriptView}
use Rattle.scripts.specs.declared.script.Step.{Step}
use Rattle.callbacks.specs.Tasks.{TaskView}
use Rattle.callbacks.specs.Schedules.{discard_body}
use Rattle.callbacks.specs.declared.fault.CallFault.{CallFault}
use Rattle.callbacks.specs.Calls.{ledger_refusal}
use Rattle.callbacks.specs.Recorders.{entries_of, entry_by, RecorderView}
use Rattle.callbacks.specs.Logs.{AreOfKind}
use Rattle.callbacks.specs.declared.fault.CallFault.TheVariants as call
use Rattle.callbacks.proofs.GatherLemmas.{get_first, from_buffer, all_from_get}
use Rattle.callbacks.specs.Closed.{ClosedView, AreClosed, thread_of, recorded_by}
use Rattle.callbacks.specs.Gathered.{gathered, HaveOwnThreads, ArePaired, IsWithinLimits}
use Rattle.callbacks.proofs.PairLaw.{paired_from_count}
use Rattle.scripts.specs.Progress.{refused_at, Progress, progress, progress_to, progress_after}
use Rattle.scripts.specs.Progress.{progress_with, no_progress, own_records, step_refusal, without_seen}
use Rattle.scripts.specs.Progress.{thread_records, value}
use Rattle.scripts.specs.Parts.{IsStepOf, IsLedgerFault, entry_at, HasRun, HasStopped}
use Rattle.scripts.proofs.PlaceLemmas.{step_there}
use Rattle.scripts.proofs.ProgressLemmas.{own_next, accepted_next, record_by}
use Rattle.scripts.specs.RunCalls.{recorded_body, first_given, second_given}
use Rattle.scripts.specs.declared.run_fault.Stop.{Stop}
use Rattle.scripts.proofs.GatherLemmas.{mapped_from, mapped_to}

-- ---- different threads

-- the recorders are of different threads
abbrev pub AreApart : List RecorderView → Type 0
AreApart recorders = IsDistinct nat_eq (map (λ (r : RecorderView). r.thread) recorders)

-- the buffers are those of the recorders
abbrev pub AreOf : List RecorderView → List BufferView → Type 0
AreOf recorders buffers = IsPermutation (map recorded_by recorders) (map thread_of buffers)

equal_flips : (x y : ℕ) → nat_eq x y ≡ nat_eq y x
equal_flips x y = elim (cases_eq x y) [
  | inl same ↦ eq-eqb x y same ∙ sym (eq-eqb y x (sym same))
  | inr apart ↦ ne_eqb x y apart ∙ sym (ne_eqb y x (λ same. apart (sym same)))
]

-- different numbers differ at different indices
apart_at : (xs : List ℕ) (i j a b : ℕ) → IsDistinct nat_eq xs → i < j → slice_get xs i ≡ Some a
    → slice_get xs j ≡ Some b → a ≢ b
apart_at xs i j a b distinct less first second same =
    false≢true
    (sym (apart_from_distinct nat_eq xs i j 0 distinct less (slice_get_within xs j b second))
    ∙ eq-eqb (get_or xs i 0) (get_or xs j 0)
    (get_or_from_slice_get xs i a 0 first ∙ same ∙ sym (get_or_from_slice_get xs j b 0 second)))

threads_permuted : (recorders : List RecorderView) (buffers : List BufferView) → AreOf recorders buffers
    → IsPermutation (map (λ (r : RecorderView). r.thread) recorders)
    (map (λ (b : BufferView). b.thread) buffers)
threads_permuted recorders buffers same =
    let first : ℕ × List Record → ℕ = λ p. p.0 in
    subst (IsPermutation (map (λ (r : RecorderView). r.thread) recorders)) (map-map first thread_of buffers)
    (subst (λ xs. IsPermutation xs (map first (map thread_of buffers))) (map-map first recorded_by recorders)
    (IsPermutation-map first (map recorded_by recorders) (map thread_of buffers) same))

-- no two buffers are of the same thread
pub own_threads : (recorders : List RecorderView) (buffers : List BufferView) → AreApart recorders
    → AreOf recorders buffers → HaveOwnThreads buffers
own_threads recorders buffers apart same i j a b less first second =
    let thread : BufferView → ℕ = λ x. x.thread in
    apart_at (map thread buffers) i j a.thread b.thread
    (IsDistinct-IsPermutation nat_eq equal_flips (map (λ (r : RecorderView). r.thread) recorders)
    (map thread buffers) (threads_permuted recorders buffers same) apart)
    less (slice_get-map thread buffers i ∙ ap (option_map thread) first)
    (slice_get-map thread buffers j ∙ ap (option_map thread) second)

-- ---- the entries

-- the finishing records and the entries pair off
pub pairs : (recorders : List RecorderView) (closed : ClosedView) → AreApart recorders
    → AreOf recorders closed.buffers → AreClosed closed
    → entries_in (gathered closed.buffers) ≡ length closed.entries → ArePaired closed
pairs recorders closed apart same are many =
    paired_from_count closed are (own_threads recorders closed.buffers apart same) many

-- ---- where a record is from

-- the record is one of this recorder's, at this place
record IsOf (recorders : List RecorderView) (x : Record) : Type 0 where
  pub number : ℕ
  pub recorder : RecorderView
  pub stands : slice_get recorders number ≡ Some recorder
  pub place : ℕ
  pub is : slice_get recorder.records place ≡ Some x

-- a record of the buffers is one of a recorder
from_recorder : (recorders : List RecorderView) (buffers : List BufferView) (i : ℕ) (x : Record)
    → AreOf recorders buffers → slice_get (gathered buffers) i ≡ Some x → IsOf recorders x
from_recorder recorders buffers i x same is =
    let from = from_buffer buffers i x is in
    let there = mapped_to thread_of buffers from.buffer
    (get_contains buffers from.buffer from.number from.stands) in
    let (r, among, by) = mapped_from recorded_by recorders (thread_of from.buffer)
    (Contains-permutation (map thread_of buffers) (map recorded_by recorders) (thread_of from.buffer)
    (IsPermutation-sym (map recorded_by recorders) (map thread_of buffers) same) there) in
    let (k, has) = contains_get recorders r among in
    record {
      number = k;
      recorder = r;
      stands = has;
      place = from.place;
      is = ap (λ (p : ℕ × List Record). slice_get p.1 from.place) by ∙ from.is;
    }

-- a list that is filtered has its elements from the list
abbrev IsPassed : {X : Type 0} → (X → Bool) → List X → X → Type 0
IsPassed p xs x = (j : ℕ) × (slice_get xs j ≡ Some x) × (p x ≡ true)

from_filter : {X : Type 0} (p : X → Bool) (xs : List X) (i : ℕ) (x : X)
    → slice_get (filter p xs) i ≡ Some x → IsPassed p xs x
from_filter p [] i x is = absurd (none-some x is)
from_filter {X = X} p (y ∷ xs) i x is =
    by (λ k here. let (j, there, passes) = from_filter p xs k x here in (suc j, there, passes)) (p y) refl i
    is
  where
    by : ((k : ℕ) → slice_get (filter p xs) k ≡ Some x → IsPassed p (y ∷ xs) x) → (b : Bool) → p y ≡ b
        → (k : ℕ) → slice_get (cond b (y ∷ filter p xs) (filter p xs)) k ≡ Some x → IsPassed p (y ∷ xs) x
    by later true passes zero here = (0, here, ap p (sym (same_Some y x here)) ∙ passes)
    by later true passes (suc k) here = later k here
    by later false fails k here = later k here

-- the record without its ledger length is one of the script's
record IsOfScript (script : ScriptView) (n : ℕ) (thread : ℕ) (x : Record) : Type 0 where
  pub index : ℕ
  pub is : slice_get (progress_to script n).records index ≡ Some (without_seen x)
  pub of_thread : x.thread ≡ thread

from_script : (script : ScriptView) (n : ℕ) (r : RecorderView) (place : ℕ) (x : Record) → HasRun script n r
    → slice_get r.records place ≡ Some x → IsOfScript script n r.thread x
from_script script n r place x run is =
    let (j, there, passes) = from_filter (λ (y : Record). y.thread == r.thread)
    (progress_to script n).records place (without_seen x)
    (ap (λ l. slice_get l place) (sym run.records) ∙ slice_get-map without_seen r.records place
    ∙ ap (option_map without_seen) is) in
    record { index = j; is = there; of_thread = eqb-true x.thread r.thread passes }

-- ---- the kind

-- the record that a step adds
abbrev last_of : Bool → Progress → Step → Record
last_of nests p s =
    record_by s.body s.thread nests (thread_records p.records s.thread) (value p.values (first_given s.body))
    (value p.values (second_given s.body))

abbrev AreNesting : Bool → List Record → Type 0
AreNesting nests rs = AllByRecursion (λ (x : Record). x.nests ≡ nests) rs

one_of_kind : (nests : Bool) (rs : List Record) (x : Record) → x.nests ≡ nests → AreNesting nests rs
    → AreNesting nests (rs ++ x ∷ [])
one_of_kind nests [] x is each = (is, tt)
one_of_kind nests (y ∷ rs) x is each = (each.0, one_of_kind nests rs x is each.1)

-- the records of these steps are of the kind of those before them
kind_kept : (capacity : ℕ) (nests : Bool) (steps : List Step) (p : Progress) → AreNesting nests p.records
    → AreNesting nests (fold (progress_after capacity nests) p steps).records
kind_kept capacity nests [] p all = all
kind_kept capacity nests (s ∷ steps) p all =
    kind_kept capacity nests steps (progress_after capacity nests p s)
    (by (is_some (step_refusal capacity nests p s)))
  where
    by : (b : Bool) → AreNesting nests (cond b p (progress_with nests p s)).records
    by true = all
    by false = one_of_kind nests p.records (last_of nests p s) refl all

kind_of_script : (script : ScriptView) (n i : ℕ) (x : Record)
    → slice_get (progress_to script n).records i ≡ Some x → x.nests ≡ script.nests
kind_of_script script n i x is =
    all_get (λ (y : Record). y.nests ≡ script.nests) (progress_to script n).records i x
    (All-from_recursion (λ (y : Record). y.nests ≡ script.nests) (progress_to script n).records
    (kind_kept script.capacity script.nests (take n script.steps) no_progress tt)) is

-- each record of the trace is of the kind of the script
pub of_kind : (script : ScriptView) (stop : Option Stop) (recorders : List RecorderView)
    (closed : ClosedView) → All (HasStopped script stop) recorders → AreOf recorders closed.buffers
    → AreOfKind script.nests (gathered closed.buffers)
of_kind script stop recorders closed each same =
    all_from_get (λ (x : Record). x.nests ≡ script.nests) (gathered closed.buffers) (λ i x is.
    let from = from_recorder recorders closed.buffers i x same is in
    let has = all_get (HasStopped script stop) recorders from.number from.recorder each from.stands in
    let of = from_script script has.at from.recorder from.place x has.run from.is in
    kind_of_script script has.at of.index (without_seen x) of.is)

-- ---- more steps

-- what the steps leave goes on where the records before them end
grown : (capacity : ℕ) (nests : Bool) (steps : List Step) (p : Progress)
    → (more : List Record) × ((fold (progress_after capacity nests) p steps).records ≡ p.records ++ more)
grown capacity nests [] p = ([], sym (append-nil p.records))
grown capacity nests (s ∷ steps) p =
    let (first, is) = one (is_some (step_refusal capacity nests p s)) in
    let (rest, after) = grown capacity nests steps (progress_after capacity nests p s) in
    (first ++ rest, after ∙ ap (λ l. l ++ rest) is ∙ append_assoc p.records first rest)
  where
    one : (b : Bool)
        → (more : List Record) × ((cond b p (progress_with nests p s)).records ≡ p.records ++ more)
    one true = ([], sym (append-nil p.records))
    one false = (last_of nests p s ∷ [], refl)

-- the records of all steps go on where those of the first ones end
reaches : (script : ScriptView) (n : ℕ)
    → (more : List Record)
    × ((progress_to script (length script.steps)).records ≡ (progress_to script n).records ++ more)
reaches script n =
    let (more, is) = grown script.capacity script.nests (drop n script.steps) (progress_to script n) in (
      more,
      ap (λ l. (progress script.capacity script.nests l).records)
          (take_all (length script.steps) script.steps (omega arith) ∙ sym (take-append-drop n script.steps))
          ∙ ap (λ (p : Progress). p.records)
          (fold-append (progress_after script.capacity script.nests) no_progress (take n script.steps)
          (drop n script.steps))
          ∙ is,
    )

-- ---- sums

-- what the records of the steps come to, where each comes to no more than its step
weighed : (f : Record → ℕ) (g : Step → ℕ) (capacity : ℕ) (nests : Bool)
    → ((p : Progress) (s : Step) → f (last_of nests p s) ≤ g s) → (steps : List Step) (p : Progress)
    → sum_by f (fold (progress_after capacity nests) p steps).records ≤ sum_by f p.records + sum_by g steps
weighed f g capacity nests each [] p = omega arith
weighed f g capacity nests each (s ∷ steps) p =
    let rest = weighed f g capacity nests each steps (progress_after capacity nests p s) in
    let first = one (is_some (step_refusal capacity nests p s)) in
    let both = sum_by-cons g s steps in
    omega (arith, rest, first, both)
  where
    one : (b : Bool) → sum_by f (cond b p (progress_with nests p s)).records ≤ sum_by f p.records + g s
    one true = omega arith
    one false =
        let push = sum_by_push f p.records (last_of nests p s) in
        let low = each p s in omega (arith, push, low)

-- the sum over the records of these threads
abbrev own_sum : (Record → ℕ) → List ℕ → List Record → ℕ
own_sum f [] rs = 0
own_sum f (t ∷ threads) rs = sum_by f (thread_records rs t) + own_sum f threads rs

own_none : (f : Record → ℕ) (threads : List ℕ) → own_sum f threads [] ≡ 0
own_none f [] = refl
own_none f (t ∷ threads) = let rest = own_none f threads in omega (arith, rest)

with_more : (f : Record → ℕ) (t : ℕ) (r : Record) (rs : List Record) (b : Bool) → nat_eq r.thread t ≡ b
    → sum_by f (thread_records (r ∷ rs) t) ≡ cond b (f r) 0 + sum_by f (thread_records rs t)
with_more f t r rs b is =
    ap (λ c. sum_by f (cond c (r ∷ thread_records rs t) (thread_records rs t))) is ∙ by b
  where
    by : (c : Bool) → sum_by f (cond c (r ∷ thread_records rs t) (thread_records rs t))
        ≡ cond c (f r) 0 + sum_by f (thread_records rs t)
    by true = sum_by-cons f r (thread_records rs t)
    by false = omega arith

none_more : (f : Record → ℕ) (threads : List ℕ) (r : Record) (rs : List Record)
    → AllByRecursion (λ t. nat_eq r.thread t ≡ false) threads
    → own_sum f threads (r ∷ rs) ≡ own_sum f threads rs
none_more f [] r rs none = refl
none_more f (t ∷ threads) r rs none =
    let first = with_more f t r rs false none.0 in
    let rest = none_more f threads r rs none.1 in omega (arith, first, rest)

one_more : (f : Record → ℕ) (threads : List ℕ) (r : Record) (rs : List Record) → IsDistinct nat_eq threads
    → own_sum f threads (r ∷ rs) ≤ f r + own_sum f threads rs
unfolding IsDistinct
one_more f [] r rs distinct = omega arith
one_more f (t ∷ threads) r rs distinct = elim (cases_Bool (nat_eq r.thread t)) [
  | inl same ↦
      let first = with_more f t r rs true same in
      let rest = none_more f threads r rs
      (subst (λ n. AllByRecursion (λ z. nat_eq n z ≡ false) threads) (sym (eqb-true r.thread t same))
      distinct.0) in
      omega (arith, first, rest)
  | inr other ↦
      let first = with_more f t r rs false other in
      let rest = one_more f threads r rs distinct.1 in omega (arith, first, rest)
]

-- different threads have different records
own_within : (f : Record → ℕ) (threads : List ℕ) (rs : List Record) → IsDistinct nat_eq threads
    → own_sum f threads rs ≤ sum_by f rs
own_within f threads [] distinct = let none = own_none f threads in omega (arith, none)
own_within f threads (r ∷ rs) distinct =
    let first = one_more f threads r rs distinct in
    let rest = own_within f threads rs distinct in
    omega (arith, first, rest, sum_by-cons f r rs)

sum_mapped : {X Y : Type 0} (g : Y → ℕ) (h : X → Y) (xs : List X)
    → sum_by g (map h xs) ≡ sum_by (λ x. g (h x)) xs
sum_mapped g h [] = refl
sum_mapped g h (x ∷ xs) =
    sum_by-cons g (h x) (map h xs) ∙ ap (λ n. g (h x) + n) (sum_mapped g h xs)
    ∙ sym (sum_by-cons (λ y. g (h y)) x xs)

sum_same : {X : Type 0} (f g : X → ℕ) (xs : List X) → ((x : X) → f x ≡ g x) → sum_by f xs ≡ sum_by g xs
sum_same f g [] same = refl
sum_same f g (x ∷ xs) same =
    let first = same x in
    let rest = sum_same f g xs same in
    omega (arith, first, rest, sum_by-cons f x xs, sum_by-cons g x xs)

sum_gathered : (f : Record → ℕ) (buffers : List BufferView)
    → sum_by f (gathered buffers) ≡ sum_by (λ (b : BufferView). sum_by f b.records) buffers
sum_gathered f [] = refl
sum_gathered f (b ∷ buffers) =
    let rest = sum_gathered f buffers in
    let both = sum_by-append f b.records (gathered buffers) in
    let cut = ap (λ l. sum_by f l) (flat_map-cons (λ (it : BufferView). it.records) b buffers) in
    omega (arith, rest, both, cut, sum_by-cons (λ (x : BufferView). sum_by f x.records) b buffers)

-- the sum over the records of the recorders
abbrev total : (Record → ℕ) → List RecorderView → ℕ
total f recorders = sum_by (λ (r : RecorderView). sum_by f r.records) recorders

sum_recorded : (f : Record → ℕ) (recorders : List RecorderView) (buffers : List BufferView)
    → AreOf recorders buffers → sum_by f (gathered buffers) ≡ total f recorders
sum_recorded f recorders buffers same =
    let second : ℕ × List Record → ℕ = λ p. sum_by f p.1 in
    sum_gathered f buffers ∙ sym (sum_mapped second thread_of buffers)
    ∙ sum_by-IsPermutation second (map recorded_by recorders) (map thread_of buffers) same
    ∙ sum_mapped second recorded_by recorders

-- ---- what the recorders have of the script

unseen_sum : (f : Record → ℕ) (own : List Record) → ((x : Record) → f (without_seen x) ≡ f x)
    → sum_by f (map without_seen own) ≡ sum_by f own
unseen_sum f own same = sum_mapped f without_seen own ∙ sum_same (λ x. f (without_seen x)) f own same

-- a recorder has no more than what all steps make on its thread
sum_own : (script : ScriptView) (f : Record → ℕ) (n : ℕ) (r : RecorderView)
    → ((x : Record) → f (without_seen x) ≡ f x) → HasRun script n r
    → sum_by f r.records ≤ sum_by f (own_records script (length script.steps) r.thread)
sum_own script f n r same run =
    let (more, is) = reaches script n in
    let mine = sym (unseen_sum f r.records same) ∙ ap (λ l. sum_by f l) run.records in
    let cut =
    ap (λ l. sum_by f (thread_records l r.thread)) is
    ∙ ap (λ l. sum_by f l)
    (filter-append (λ (x : Record). x.thread == r.thread) (progress_to script n).records more)
    ∙ sum_by-append f (own_records script n r.thread) (thread_records more r.thread) in
    omega (arith, mine, cut)

-- the recorders have no more
total_within : (f : Record → ℕ) (rs : List Record) (recorders : List RecorderView)
    → ((i : ℕ) (r : RecorderView) → slice_get recorders i ≡ Some r
    → sum_by f r.records ≤ sum_by f (thread_records rs r.thread))
    → total f recorders ≤ own_sum f (map (λ (r : RecorderView). r.thread) recorders) rs
total_within f rs [] each = omega arith
total_within f rs (r ∷ recorders) each =
    let first = each 0 r refl in
    let rest = total_within f rs recorders (λ i q is. each (suc i) q is) in
    omega (arith, first, rest, sum_by-cons (λ (q : RecorderView). sum_by f q.records) r recorders)

-- less where one of them has less
total_below : (f : Record → ℕ) (rs : List Record) (recorders : List RecorderView) (k : ℕ) (q : RecorderView)
    → ((i : ℕ) (r : RecorderView) → slice_get recorders i ≡ Some r
    → sum_by f r.records ≤ sum_by f (thread_records rs r.thread))
    → slice_get recorders k ≡ Some q → sum_by f q.records < sum_by f (thread_records rs q.thread)
    → total f recorders < own_sum f (map (λ (r : RecorderView). r.thread) recorders) rs
total_below f rs [] k q each is less = absurd (none-some q is)
total_below f rs (r ∷ recorders) zero q each is less =
    let low = subst (λ (x : RecorderView). sum_by f x.records < sum_by f (thread_records rs x.thread))
    (sym (same_Some r q is)) less in
    let rest = total_within f rs recorders (λ i x at. each (suc i) x at) in
    omega (arith, low, rest, sum_by-cons (λ (x : RecorderView). sum_by f x.records) r recorders)
total_below f rs (r ∷ recorders) (suc k) q each is less =
    let first = each 0 r refl in
    let rest = total_below f rs recorders k q (λ i x at. each (suc i) x at) is less in
    omega (arith, first, rest, sum_by-cons (λ (x : RecorderView). sum_by f x.records) r recorders)

-- what all records of the trace come to, where each comes to no more than its step
sum_within : (script : ScriptView) (stop : Option Stop) (recorders : List RecorderView)
    (buffers : List BufferView) (f : Record → ℕ) (g : Step → ℕ) → All (HasStopped script stop) recorders
    → AreApart recorders → AreOf recorders buffers → ((x : Record) → f (without_seen x) ≡ f x)
    → ((p : Progress) (s : Step) → f (last_of script.nests p s) ≤ g s)
    → sum_by f (gathered buffers) ≤ sum_by g script.steps
sum_within script stop recorders buffers f g each apart same seen low =
    let all = (progress_to script (length script.steps)).records in
    let there = sum_recorded f recorders buffers same in
    let mine = total_within f all recorders (λ i r is.
    let has = all_get (HasStopped script stop) recorders i r each is in
    sum_own script f has.at r seen has.run) in
    let own = own_within f (map (λ (r : RecorderView). r.thread) recorders) all apart in
    let by_step =
    weighed f g script.capacity script.nests low (take (length script.steps) script.steps) no_progress in
    let whole = ap (λ l. sum_by g l) (take_all (length script.steps) script.steps (omega arith)) in
    omega (arith, there, mine, own, by_step, whole)

-- ---- the limits

-- a record makes no more tasks than its step
made_by : (body : Body) (first second : Option TaskView)
    → cond (is_some (made (recorded_body body first second))) 1 0 ≤ cond (is_some (made body)) 1 0
made_by (ImplicitTask End actual index given parallel task) (Some t) second = omega arith
made_by (TaskSchedule status turns prior next claimed) (Some t) second = omega arith
made_by (Cancel given task claimed) (Some t) second = by (has_flag given.0 flag.discarded_task)
  where
    by : (b : Bool)
        → cond (is_some (made (if b then discard_body t given (Some t.claim) else Cancel given task None)))
        1 0 ≤ 0
    by true = omega arith
    by false = omega arith
made_by body first second = omega arith

length_sum : {X : Type 0} (xs : List X) → length xs ≡ sum_by (λ x. 1) xs
length_sum [] = refl
length_sum (x ∷ xs) = let rest = length_sum xs in omega (arith, rest, sum_by-cons (λ y. 1) x xs)

-- the trace is within the limits
pub within_limits : (script : ScriptView) (stop : Option Stop) (recorders : List RecorderView)
    (closed : ClosedView) → All (HasStopped script stop) recorders → AreApart recorders
    → AreOf recorders closed.buffers → IsShortScript script.steps → IsWithinLimits (gathered closed.buffers)
within_limits script stop recorders closed each apart same short =
    let one : Record → ℕ = λ x. 1 in
    let step : Step → ℕ = λ s. 1 in
    let makes : Record → ℕ = λ x. cond (is_some (made x.body)) 1 0 in
    let tasks : Step → ℕ = λ s. cond (is_some (made s.body)) 1 0 in
    let many = sum_within script stop recorders closed.buffers one step each apart same (λ x. refl)
    (λ p s. omega arith) in
    let made_tasks = sum_within script stop recorders closed.buffers makes tasks each apart same (λ x. refl)
    (λ p s. made_by s.body (value p.values (first_given s.body)) (value p.values (second_given s.body))) in (
      omega (arith, many, length_sum (gathered closed.buffers), length_sum script.steps, short.few_steps),
      omega (arith, made_tasks, short.few_tasks),
    )

-- ---- fewer records than steps

-- a step that adds a record that its thread does not have
own_less : (script : ScriptView) (at : ℕ) (s : Step) → slice_get script.steps at ≡ Some s
    → refused_at script at ≡ None
    → sum_by (λ (x : Record). 1) (own_records script at s.thread)
    < sum_by (λ (x : Record). 1) (own_records script (length script.steps) s.thread)
own_less script at s is accepted =
    let one : Record → ℕ = λ x. 1 in
    let (more, on) = reaches script (at + 1) in
    let cut =
    ap (λ l. sum_by one (thread_records l s.thread)) on
    ∙ ap (λ l. sum_by one l)
    (filter-append (λ (x : Record). x.thread == s.thread) (progress_to script (at + 1)).records more)
    ∙ sum_by-append one (own_records script (at + 1) s.thread) (thread_records more s.thread) in
    let next =
    ap (λ l. sum_by one l) (own_next script at s is accepted)
    ∙ sum_by_push one (own_records script at s.thread)
    (record_by s.body s.thread script.nests (own_records script at s.thread)
    (value (progress_to script at).values (first_given s.body))
    (value (progress_to script at).values (second_given s.body))) in
    omega (arith, cut, next)

-- where a thread stopped before a step that no recorder refuses, there are fewer records than steps
pub fewer : (script : ScriptView) (stop : Option Stop) (recorders : List RecorderView)
    (buffers : List BufferView) (k : ℕ) (r : RecorderView) (at : ℕ) → All (HasStopped script stop) recorders
    → AreApart recorders → AreOf recorders buffers → slice_get recorders k ≡ Some r → HasRun script at r
    → IsStepOf script.steps at r.thread → refused_at script at ≡ None
    → length (gathered buffers) < length script.steps
fewer script stop recorders buffers k r at each apart same here run of accepted =
    let one : Record → ℕ = λ x. 1 in
    let step : Step → ℕ = λ s. 1 in
    let all = (progress_to script (length script.steps)).records in
    let (s, is, own) = step_there script.steps at r.thread of in
    let lacks =
    subst
    (λ t. sum_by one (own_records script at t) < sum_by one (own_records script (length script.steps) t)) own
    (own_less script at s is accepted) in
    let mine = sym (unseen_sum one r.records (λ x. refl)) ∙ ap (λ l. sum_by one l) run.records in
    let there = sum_recorded one recorders buffers same in
    let less = total_below one all recorders k r
    (λ i q at_i. let has = all_get (HasStopped script stop) recorders i q each at_i in
    sum_own script one has.at q (λ x. refl) has.run) here (omega (arith, lacks, mine)) in
    let within = own_within one (map (λ (q : RecorderView). q.thread) recorders) all apart in
    let by_step = weighed one step script.capacity script.nests (λ p t. omega arith)
    (take (length script.steps) script.steps) no_progress in
    let whole = ap (λ l. sum_by step l) (take_all (length script.steps) script.steps (omega arith)) in
    let records = length_sum (gathered buffers) in
    let steps = length_sum script.steps in
    omega (arith, there, less, within, by_step, whole, records, steps)

-- ---- what the ledger refuses

-- no two entries of the script's records overlap
abbrev pub AreEntriesApart : ScriptView → Type 0
AreEntriesApart script =
    (n i j : ℕ) (x y : Record) (e f : Entry) → i ≢ j → slice_get (progress_to script n).records i ≡ Some x
    → slice_get (progress_to script n).records j ≡ Some y → entry_of x ≡ Some e → entry_of y ≡ Some f
    → is_overlap e f ≡ false

-- the history begins with what the recorder's seat has seen
claims_at : (history : List seat_step.Step) (recorders : List RecorderView) (k : ℕ) (r : RecorderView)
    → AreClaims history (map (λ (q : RecorderView). claim_of q.seat) recorders)
    → slice_get recorders k ≡ Some r → StartsWith history r.seat.seen
claims_at history [] k r claims is = absurd (none-some r is)
claims_at history (q ∷ recorders) zero r claims is =
    subst (λ (x : RecorderView). StartsWith history x.seat.seen) (same_Some q r is) claims.0.0
claims_at history (q ∷ recorders) (suc k) r claims is = claims_at history recorders k r claims.1 is

no_position : {X : Type 0} (p : X → Bool) (n : ℕ) (xs : List X)
    → ((i : ℕ) (x : X) → slice_get xs i ≡ Some x → p x ≡ false) → position_from p n xs ≡ None
no_position p n [] none = refl
no_position p n (x ∷ xs) none =
    ap (λ b. cond b (Some n) (position_from p (n + 1) xs)) (none 0 x refl)
    ∙ no_position p (n + 1) xs (λ i y is. none (suc i) y is)

not_full : (entries : List Entry) → length entries < 2 ^ 22 → is_ledger_full entries ≡ false
not_full entries few = elim (cases_Bool (is_ledger_full entries)) [
  | inl full ↦ let many = leb-true (2 ^ 22) (length entries) full in absurd (omega (arith, few, many))
  | inr free ↦ free
]

-- an entry that overlaps none is not refused while there is room
not_refused : (entries : List Entry) (e : Entry) → length entries < 2 ^ 22
    → ((i : ℕ) (f : Entry) → slice_get entries i ≡ Some f → is_overlap e f ≡ false)
    → ledger_refusal (entry_fault entries e) ≡ call.Memory
not_refused entries e few none =
    ap
    (λ b. ledger_refusal (cond b ledger.Full (option_map_or (λ index. ledger.Overlap index)
    (position_from (is_overlap e) 0 entries) ledger.Memory)))
    (not_full entries few)
    ∙ ap (λ o. ledger_refusal (option_map_or (λ index. ledger.Overlap index) o ledger.Memory))
    (no_position (is_overlap e) 0 entries none)

-- a record stays at its index
stays : (script : ScriptView) (n i : ℕ) (x : Record) → slice_get (progress_to script n).records i ≡ Some x
    → slice_get (progress_to script (length script.steps)).records i ≡ Some x
stays script n i x is =
    let (more, on) = reaches script n in
    ap (λ l. slice_get l i) on ∙ get_first (progress_to script n).records more i x is

-- where the record of a step is
last_there : (script : ScriptView) (at : ℕ) (s : Step) → slice_get script.steps at ≡ Some s
    → refused_at script at ≡ None
    → slice_get (progress_to script (length script.steps)).records (length (progress_to script at).records)
    ≡ Some (last_of script.nests (progress_to script at) s)
last_there script at s is accepted =
    let p = progress_to script at in
    let last = last_of script.nests p s in
    stays script (at + 1) (length p.records) last
    (ap (λ (q : Progress). slice_get q.records (length p.records)) (accepted_next script at s is accepted)
    ∙ get_last p.records last (length p.records) refl)

the_record : (o : Option Record) (e : Entry) → option_and_then entry_of o ≡ Some e
    → (x : Record) × (o ≡ Some x) × (entry_of x ≡ Some e)
the_record None e is = absurd (none-some e is)
the_record (Some x) e is = (x, refl, is)

pub threads_differ : (recorders : List RecorderView) (i j : ℕ) (q r : RecorderView)
    → AreApart recorders → i ≢ j
    → slice_get recorders i ≡ Some q → slice_get recorders j ≡ Some r → q.thread ≢ r.thread
threads_differ recorders i j q r apart other first second =
    let thread : RecorderView → ℕ = λ x. x.thread in
    let one = slice_get-map thread recorders i ∙ ap (option_map thread) first in
    let two = slice_get-map thread recorders j ∙ ap (option_map thread) second in
    elim (cases_order i j) [
      | inl same ↦ absurd (other same)
      | inr (inl below) ↦ apart_at (map thread recorders) i j q.thread r.thread apart below one two
      | inr (inr above) ↦ λ same.
          apart_at (map thread recorders) j i r.thread q.thread apart above two one (sym same)
    ]

-- the ledger does not refuse the entry of a step that no recorder refuses
pub no_ledger_fault : (script : ScriptView) (stop : Option Stop) (recorders : List RecorderView)
    (closed : ClosedView) (history : List seat_step.Step) (r : RecorderView) (at : ℕ) (entry : Entry)
    (fault : CallFault) → All (HasStopped script stop) recorders → AreApart recorders
    → AreOf recorders closed.buffers → AreClosed closed
    → entries_in (gathered closed.buffers) ≡ length closed.entries → IsShortScript script.steps
    → closed.entries ≡ entries_after history
    → AreClaims history (map (λ (q : RecorderView). claim_of q.seat) recorders) → AreEntriesApart script
    → Contains recorders r → HasRun script at r → IsStepOf script.steps at r.thread
    → refused_at script at ≡ None → entry_at script at ≡ Some entry → IsLedgerFault r entry fault
    → fault ≡ call.Memory
no_ledger_fault script stop recorders closed history r at entry fault each apart same are many short
    is_history claims free among run of accepted makes is_fault =
    is_fault ∙ not_refused (entries_of r.seat) entry few none
  where
    n : ℕ
    n = length script.steps

    p : Progress
    p = progress_to script at

    place : (k : ℕ) × (slice_get recorders k ≡ Some r)
    place = contains_get recorders r among

    on : GoOn (entries_of r.seat) (entries_after history)
    on = starts-go_on history r.seat.seen (claims_at history recorders place.0 r claims place.1)

    few : length (entries_of r.seat) < 2 ^ 22
    few =
        let less = fewer script stop recorders closed.buffers place.0 r at each apart same place.1 run of
        accepted in
        let entries = count_by-le-length (λ (x : Record). is_some (finish x.body)) (gathered closed.buffers)
        in
        let as_long = ap length is_history in
        omega (arith, less, entries, many, as_long, on.length_kept, short.few_steps)

    step : (s : Step) × (slice_get script.steps at ≡ Some s) × (s.thread ≡ r.thread)
    step = step_there script.steps at r.thread of

    last : Record
    last = last_of script.nests p step.0

    last_is : slice_get (progress_to script n).records (length p.records) ≡ Some last
    last_is = last_there script at step.0 step.1 accepted

    last_makes : entry_of last ≡ Some entry
    last_makes = sym (ap (option_and_then (λ (s : Step). entry_by s.thread (recorded_body s.body
        (value p.values (first_given s.body)) (value p.values (second_given s.body))))) step.1) ∙ makes

    -- the record of another entry is another one
    apart_from : (x : Record) (f : Entry) (i j : ℕ)
        → slice_get (progress_to script i).records j ≡ Some (without_seen x) → entry_of x ≡ Some f
        → length p.records ≢ j → is_overlap entry f ≡ false
    apart_from x f i j is entered other =
        free n (length p.records) j last (without_seen x) entry f other last_is
        (stays script i j (without_seen x) is) last_makes entered

    by_another : (x : Record) (f : Entry) → entry_of x ≡ Some f → (from : IsOf recorders x)
        → (from.number ≡ place.0) ⊎ (from.number ≢ place.0) → is_overlap entry f ≡ false
    by_another x f entered from (inl one) =
        let mine = same_Some from.recorder r (sym from.stands ∙ ap (slice_get recorders) one ∙ place.1) in
        let its = from_script script at r from.place x run
        (subst (λ (q : RecorderView). slice_get q.records from.place ≡ Some x) mine from.is) in
        let within = slice_get_within p.records its.index (without_seen x) its.is in
        apart_from x f at its.index its.is entered (λ e. omega (arith, within, e))
    by_another x f entered from (inr other) =
        let has = all_get (HasStopped script stop) recorders from.number from.recorder each from.stands in
        let its = from_script script has.at from.recorder from.place x has.run from.is in
        apart_from x f has.at its.index its.is entered (λ e.
        threads_differ recorders from.number place.0 from.recorder r apart other from.stands place.1
        (sym its.of_thread
        ∙ ap (λ (y : Record). y.thread)
        (same_Some (without_seen x) last
        (sym (stays script has.at its.index (without_seen x) its.is)
        ∙ ap (slice_get (progress_to script n).records) (sym e) ∙ last_is))
        ∙ step.2))

    none : (q : ℕ) (f : Entry) → slice_get (entries_of r.seat) q ≡ Some f → is_overlap entry f ≡ false
    none q f is =
        let there = ap (λ l. slice_get l q) is_history ∙ on.kept q f is in
        let (i, by) = ((pairs recorders closed apart same are many).ledger q f).0 there in
        let (x, stands, entered) = the_record (slice_get (gathered closed.buffers) i) f by.made in
        let from = from_recorder recorders closed.buffers i x same stands in
        by_another x f entered from (cases_eq from.number place.0)
