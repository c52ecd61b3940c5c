-- The least ledger length at which a task is finished.
use Rattle.std.proofs.Common.{◌≡◌, ◌∙◌, ℕ, ◌<◌, ◌≤◌, ◌+◌, ◌^◌, List, length, get_or, Some, None, refl, sym}
use Rattle.std.proofs.Common.{ap, subst, arith, inl, inr, ◌⊎◌}
use Rattle.std.proofs.lemmas.Bool.{cases_eq, cases_lt}
use Rattle.std.proofs.lemmas.Option.{none-some, same_Some, slice_get-get_or, slice_get_within}
use Rattle.std.proofs.lemmas.Option.{slice_get_cases}
use Rattle.std.proofs.lemmas.List.{length-set, length-replicate, get_or-replicate}
use Rattle.std.proofs.Math.ListN.{set}
use Rattle.std.specs.Prelude.{min, slice_get, slice_index_or, replicate}
use Rattle.ompt_events.specs.declared.records.Record.{Record}
use Rattle.ompt_events.specs.declared.records.Part.{Part}
use Rattle.ompt_events.specs.declared.records.Part.TheVariants.{Whole, Body as BodyPart, Event}
use Rattle.ompt_events.specs.Records.{finish}
use Rattle.ompt_events.specs.Places.{at, seen_at}
use Rattle.ompt_events.specs.Completion.{IsPartFinished}
use Rattle.ompt_events.specs.Traces.{IsTrace}
use Rattle.credit_ledger.specs.declared.entry.Entry.{Entry}
use Rattle.ompt_events.proofs.PlaceLemmas.{at_within}
use Rattle.task_tree.specs.Family.{FamilyView, IsFamilyOf}
use Rattle.index_tables.specs.Numbering.{AreApart}
use Rattle.task_tree.proofs.LinkLemmas.{get_set_same, get_set_other}
use Rattle.task_tree.proofs.LookupLemmas.{subject_calls}
use Rattle.task_tree.proofs.NamedLemmas.{finish_subject, subject_index}
use Rattle.credit_ledger.specs.TraceEntries.{IsDone, IsLedgerOf}
use Rattle.credit_ledger.proofs.EntryLemmas.{entry_says, entry_made}
use Rattle.wait_coverage.specs.declared.lengths.Lengths.{Lengths}
use Rattle.wait_coverage.specs.Lengths.{never, no_lengths, length_of, with_length, done_length, AreLeast}
use Rattle.wait_coverage.specs.Lengths.{AreLengthsBy, AreLengths, AreLengthsBelow}

-- ---- the lengths of one task

min_or : (a m : ℕ) → (min a m ≡ a) ⊎ (min a m ≡ m)
min_or a m = elim (cases_lt a m) [
  | inl less ↦ inl (omega arith)
  | inr more ↦ inr (omega arith)
]

-- a part has the lesser of its length and the new one, and the others keep theirs
with_cases : (l : Lengths) (part : Part) (m : ℕ) (p : Part)
    → (length_of (with_length l part m) p ≡ length_of l p)
    ⊎ ((p ≡ part) × (length_of (with_length l part m) p ≡ m))
with_cases l Whole m Whole = elim (min_or l.whole m) [ inl same ↦ inl same | inr is ↦ inr (refl, is) ]
with_cases l Whole m BodyPart = inl refl
with_cases l Whole m Event = inl refl
with_cases l BodyPart m Whole = inl refl
with_cases l BodyPart m BodyPart = elim (min_or l.body m) [ inl same ↦ inl same | inr is ↦ inr (refl, is) ]
with_cases l BodyPart m Event = inl refl
with_cases l Event m Whole = inl refl
with_cases l Event m BodyPart = inl refl
with_cases l Event m Event = elim (min_or l.event m) [ inl same ↦ inl same | inr is ↦ inr (refl, is) ]

with_here : (l : Lengths) (part : Part) (m : ℕ) → length_of (with_length l part m) part ≤ m
with_here l Whole m = omega arith
with_here l BodyPart m = omega arith
with_here l Event m = omega arith

with_below : (l : Lengths) (part : Part) (m : ℕ) (p : Part)
    → length_of (with_length l part m) p ≤ length_of l p
with_below l Whole m Whole = omega arith
with_below l Whole m BodyPart = omega arith
with_below l Whole m Event = omega arith
with_below l BodyPart m Whole = omega arith
with_below l BodyPart m BodyPart = omega arith
with_below l BodyPart m Event = omega arith
with_below l Event m Whole = omega arith
with_below l Event m BodyPart = omega arith
with_below l Event m Event = omega arith

least_none : (rs : List Record) (counts : ℕ → Type 0) (task : ℕ) → ((k : ℕ) → counts k → ⊥)
    → AreLeast rs counts task no_lengths
least_none rs counts task empty = record {
  each = λ part k counted. absurd (empty k counted);
  only = λ part. inl (of_none part);
}
  where
    of_none : (part : Part) → length_of no_lengths part ≡ never
    of_none Whole = refl
    of_none BodyPart = refl
    of_none Event = refl

-- where no further record that counts finishes the task
least_other : (rs : List Record) (old new : ℕ → Type 0) (task : ℕ) (l : Lengths) → AreLeast rs old task l
    → ((part : Part) (k : ℕ) → new k → at finish rs k ≡ Some (task, part) → old k) → AreLeast rs new task l
least_other rs old new task l are before = record {
  each = λ part k counted finishes. are.each part k (before part k counted finishes) finishes;
  only = are.only;
}

-- where each further record that counts finishes the same part at the same length as the record at i
abbrev IsMore : List Record → (ℕ → Type 0) → ℕ → ℕ → Part → Part → ℕ → Type 0
IsMore rs old task seen part p k = old k ⊎ ((p ≡ part) × (seen_at rs k ≡ seen))

least_more : (rs : List Record) (old new : ℕ → Type 0) (i task seen : ℕ) (part : Part) (l : Lengths)
    → AreLeast rs old task l → at finish rs i ≡ Some (task, part) → seen_at rs i ≡ seen
    → ((p : Part) (k : ℕ) → new k → at finish rs k ≡ Some (task, p) → IsMore rs old task seen part p k)
    → AreLeast rs new task (with_length l part (seen + 1))
least_more rs old new i task seen part l are finishes names before = record {
  each = λ p k counted finishes_there. elim (before p k counted finishes_there) [
    | inl first ↦
        let known = are.each p k first finishes_there in
        let less = with_below l part (seen + 1) p in
        omega (arith, known, less)
    | inr (is_part, is_seen) ↦
        let here = with_here l part (seen + 1) in
        let is_length : length_of (with_length l part (seen + 1)) p
        ≡ length_of (with_length l part (seen + 1)) part =
        ap (length_of (with_length l part (seen + 1))) is_part in
        omega (arith, here, is_length, is_seen)
  ];
  only = λ p. elim (with_cases l part (seen + 1) p) [
    | inl same ↦ elim (are.only p) [
      | inl none ↦ inl (same ∙ none)
      | inr (k, finishes_there, is) ↦ inr (k, finishes_there, same ∙ is)
    ]
    | inr (is_part, is) ↦
        inr (i, finishes ∙ ap (λ q. Some (task, q)) (sym is_part), is ∙ ap (λ m. m + 1) (sym names))
  ];
}

-- by its lengths it is known whether a task is finished below a length
part_below : (rs : List Record) (counts : ℕ → Type 0) (task m : ℕ) (part : Part) (l : Lengths)
    → AreLeast rs counts task l → m < 2 ^ 32 → length_of l part ≤ m
    → IsPartFinished rs (λ k. seen_at rs k < m) task part
part_below rs counts task m part l are small low = elim (are.only part) [
  | inl none ↦ absurd (omega (arith, none))
  | inr (k, finishes, is) ↦ (k, finishes, omega (arith, is))
]

-- all finishing records count
abbrev pub AllCount : List Record → (ℕ → Type 0) → Type 0
AllCount rs counts = (k task : ℕ) (part : Part) → at finish rs k ≡ Some (task, part) → counts k

below_part : (rs : List Record) (counts : ℕ → Type 0) (task m : ℕ) (part : Part) (l : Lengths)
    → AllCount rs counts → AreLeast rs counts task l → IsPartFinished rs (λ k. seen_at rs k < m) task part
    → length_of l part ≤ m
below_part rs counts task m part l all are (k, finishes, less) =
    let known = are.each part k (all k task part finishes) finishes in omega (arith, known, less)

pub done_below : (rs : List Record) (counts : ℕ → Type 0) (task m : ℕ) (l : Lengths)
    → AreLeast rs counts task l → m < 2 ^ 32 → done_length l ≤ m → IsDone rs m task
done_below rs counts task m l are small low = elim (cases_lt m l.whole) [
  | inl late ↦
      inr (
        part_below rs counts task m BodyPart l are small (omega arith),
        part_below rs counts task m Event l are small (omega arith),
      )
  | inr early ↦ inl (part_below rs counts task m Whole l are small early)
]

pub below_done : (rs : List Record) (counts : ℕ → Type 0) (task m : ℕ) (l : Lengths) → AllCount rs counts
    → AreLeast rs counts task l → IsDone rs m task → done_length l ≤ m
below_done rs counts task m l all are (inl whole) =
    let low = below_part rs counts task m Whole l all are whole in omega (arith, low)
below_done rs counts task m l all are (inr (body, event)) =
    let first = below_part rs counts task m BodyPart l all are body in
    let second = below_part rs counts task m Event l all are event in
    omega (arith, first, second)

-- ---- the lengths of all tasks

pub lengths_start : (rs : List Record) (counts : ℕ → Type 0) (tasks : List ℕ) (table : List Lengths)
    → ((k : ℕ) → counts k → ⊥) → table ≡ replicate (length tasks) no_lengths
    → AreLengthsBy rs counts tasks table
lengths_start rs counts tasks table empty is = record {
  all = ap length is ∙ length-replicate (length tasks) no_lengths;
  each = λ index task l is_task stands.
      let within = slice_get_within tasks index task is_task in
      let same : no_lengths ≡ l =
      same_Some no_lengths l
      (sym (ap Some (get_or-replicate (length tasks) index no_lengths no_lengths within))
      ∙ sym
      (slice_get-get_or (replicate (length tasks) no_lengths) index no_lengths
      (rw (length-replicate (length tasks) no_lengths) within))
      ∙ ap (λ t. slice_get t index) (sym is) ∙ stands) in
      let P : Lengths → Type 0 = AreLeast rs counts task in
      subst P same (least_none rs counts task empty);
}

pub lengths_other : (rs : List Record) (old new : ℕ → Type 0) (tasks : List ℕ) (table : List Lengths)
    → AreLengthsBy rs old tasks table
    → ((task : ℕ) (part : Part) (k : ℕ) → new k → at finish rs k ≡ Some (task, part) → old k)
    → AreLengthsBy rs new tasks table
lengths_other rs old new tasks table are before = record {
  all = are.all;
  each =
      λ index task l is stands. least_other rs old new task l (are.each index task l is stands) (before task);
}

-- the record at k counted before, or it finishes the same part of the same task at the same length
abbrev pub IsSameFinish : List Record → (ℕ → Type 0) → ℕ → ℕ → Part → ℕ → Part → ℕ → Type 0
IsSameFinish rs old task seen part t p k = old k ⊎ ((t ≡ task) × (p ≡ part) × (seen_at rs k ≡ seen))

pub lengths_more : (rs : List Record) (old new : ℕ → Type 0) (i own task seen : ℕ) (part : Part)
    (tasks : List ℕ) (table : List Lengths) (d : Lengths)
    → AreApart tasks → AreLengthsBy rs old tasks table → slice_get tasks own ≡ Some task
    → at finish rs i ≡ Some (task, part) → seen_at rs i ≡ seen
    → ((t : ℕ) (p : Part) (k : ℕ) → new k → at finish rs k ≡ Some (t, p)
    → IsSameFinish rs old task seen part t p k)
    → AreLengthsBy rs new tasks (set table own (with_length (get_or table own d) part (seen + 1)))
lengths_more rs old new i own task seen part tasks table d apart are is_own finishes names before = record {
  all = length-set table own (with_length (get_or table own d) part (seen + 1)) ∙ are.all;
  each = λ index other l is_other stands. elim (cases_eq index own) [
    | inl same ↦
        let is_task : task ≡ other =
        same_Some task other (sym is_own ∙ ap (slice_get tasks) (sym same) ∙ is_other) in
        let is_l : with_length (get_or table own d) part (seen + 1) ≡ l =
        same_Some (with_length (get_or table own d) part (seen + 1)) l
        (sym (get_set_same table own (with_length (get_or table own d) part (seen + 1)) within)
        ∙ ap (slice_get (set table own (with_length (get_or table own d) part (seen + 1))))
        (sym same)
        ∙ stands) in
        let P : Lengths → Type 0 = AreLeast rs new other in
        let Q : ℕ → Type 0 = λ t. AreLeast rs new t (with_length (get_or table own d) part (seen + 1)) in
        subst P is_l
        (subst Q is_task
        (least_more rs old new i task seen part (get_or table own d)
        (are.each own task (get_or table own d) is_own (slice_get-get_or table own d within))
        finishes names
        (λ p k counted finishes_there. here p k (before task p k counted finishes_there))))
    | inr different ↦
        let kept =
        are.each index other l is_other
        (sym
        (get_set_other table own index (with_length (get_or table own d) part (seen + 1))
        different)
        ∙ stands) in
        least_other rs old new other l kept (
        λ p k counted finishes_other. elim (before other p k counted finishes_other) [
          | inl first ↦ first
          | inr (is_task, is_part, is_seen) ↦
              absurd (different (apart index own task (is_other ∙ ap Some is_task) is_own))
        ])
  ];
}
  where
    within : own < length table
    within = let inside = slice_get_within tasks own task is_own in omega (arith, inside, are.all)

    here : (p : Part) (k : ℕ) → IsSameFinish rs old task seen part task p k → IsMore rs old task seen part p k
    here p k (inl first) = inl first
    here p k (inr (is_task, is_part, is_seen)) = inr (is_part, is_seen)

-- ---- by the first records

-- the record at n finishes nothing
pub records_other : (rs : List Record) (n : ℕ) (tasks : List ℕ) (table : List Lengths)
    → AreLengths rs n tasks table → at finish rs n ≡ None → AreLengths rs (n + 1) tasks table
records_other rs n tasks table are none =
    lengths_other rs (λ k. k < n) (λ k. k < n + 1) tasks table are (
    λ task part k below finishes. elim (cases_eq k n) [
      | inl same ↦ absurd (none-some (task, part) (sym none ∙ ap (at finish rs) (sym same) ∙ finishes))
      | inr apart ↦ omega arith
    ])

-- and where it does
pub records_more : (rs : List Record) (n own task seen : ℕ) (part : Part) (tasks : List ℕ)
    (table : List Lengths) (d : Lengths)
    → AreApart tasks → AreLengths rs n tasks table → slice_get tasks own ≡ Some task
    → at finish rs n ≡ Some (task, part) → seen ≡ seen_at rs n
    → AreLengths rs (n + 1) tasks (set table own (with_length (get_or table own d) part (seen + 1)))
records_more rs n own task seen part tasks table d apart are is_own finishes names =
    lengths_more rs (λ k. k < n) (λ k. k < n + 1) n own task seen part tasks table d apart are is_own finishes
    (sym names) (λ t p k below finishes_there. elim (cases_eq k n) [
      | inl same ↦
          let is : (t, p) ≡ (task, part) =
          same_Some (t, p) (task, part) (sym finishes_there ∙ ap (at finish rs) same ∙ finishes) in
          inr (ap (λ (x : ℕ × Part). x.0) is, ap (λ (x : ℕ × Part). x.1) is, ap (seen_at rs) same ∙ sym names)
      | inr different ↦ inl (omega arith)
    ])

-- ---- by the first entries

-- a record that a ledger's entry with the index belongs to finishes what the entry says
pub entry_finishes : (rs : List Record) (entries : List Entry) (index k task : ℕ) (part : Part) (e : Entry)
    → IsTrace rs → IsLedgerOf rs entries → slice_get entries index ≡ Some e
    → at finish rs k ≡ Some (task, part) → seen_at rs k ≡ index → (task ≡ e.task) × (part ≡ e.part)
entry_finishes rs entries index k task part e trace are there finishes names =
    let made = entry_made rs k task part trace finishes in
    let stands = (are (seen_at rs k) made.0).1 (k, made.1.made) in
    let same : made.0 ≡ e = same_Some made.0 e (sym stands ∙ ap (slice_get entries) names ∙ there) in (
      sym made.1.task_is ∙ ap (λ (x : Entry). x.task) same,
      sym made.1.part_is ∙ ap (λ (x : Entry). x.part) same,
    )

pub entry_there : (entries : List Entry) (index : ℕ) → index < length entries → slice_get entries index ≡ None
    → ⊥
entry_there entries index less none = elim (slice_get_cases entries index).1 [
  | inl (x, within, is, same) ↦ none-some x (sym none ∙ is)
  | inr (past, is) ↦ omega arith
]

-- the entry's task has an index
pub entry_indexed : (rs : List Record) (entries : List Entry) (index : ℕ) (e : Entry) (family : FamilyView)
    → IsFamilyOf rs family → IsLedgerOf rs entries → slice_get entries index ≡ Some e
    → (own : ℕ) × (slice_get family.tasks own ≡ Some e.task)
entry_indexed rs entries index e family family_of are there =
    let made = (are index e).0 there in
    let from = entry_says rs made.0 e made.1.made in
    let called =
    subject_index finish (e.task, e.part) e.task rs made.0 family.tasks
    (slice_index_or family.subjects made.0 None) (finish_subject e.task e.part)
    (subject_calls rs family made.0 family_of) from.finishes in
    (called.0, called.2)

-- whose part is finished then
pub entries_more : (rs : List Record) (entries : List Entry) (index own : ℕ) (e : Entry) (tasks : List ℕ)
    (table : List Lengths) (d : Lengths)
    → IsTrace rs → AreApart tasks → IsLedgerOf rs entries → slice_get entries index ≡ Some e
    → slice_get tasks own ≡ Some e.task → AreLengthsBelow rs index tasks table
    → AreLengthsBelow rs (index + 1) tasks
    (set table own (with_length (get_or table own d) e.part (index + 1)))
entries_more rs entries index own e tasks table d trace apart are there is_own before =
    let made = (are index e).0 there in
    let from = entry_says rs made.0 e made.1.made in
    lengths_more rs (λ k. seen_at rs k < index) (λ k. seen_at rs k < index + 1) made.0 own e.task index e.part
    tasks table d apart before is_own from.finishes made.1.seen (
    λ t p k below finishes_there. elim (cases_eq (seen_at rs k) index) [
      | inl same ↦
          let is = entry_finishes rs entries index k t p e trace are there finishes_there same in
          inr (is.0, is.1, same)
      | inr different ↦ inl (omega arith)
    ])

-- all finishing records count where all entries do
pub all_entered : (rs : List Record) (entries : List Entry) → IsTrace rs → IsLedgerOf rs entries
    → AllCount rs (λ k. seen_at rs k < length entries)
all_entered rs entries trace are k task part finishes =
    let made = entry_made rs k task part trace finishes in
    slice_get_within entries (seen_at rs k) made.0 ((are (seen_at rs k) made.0).1 (k, made.1.made))

pub all_recorded : (rs : List Record) → AllCount rs (λ k. k < length rs)
all_recorded rs k task part finishes = at_within finish rs k (task, part) finishes
