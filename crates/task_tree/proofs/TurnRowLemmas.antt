-- Which turns are marked as begun, one record on, and what the marks say.
use Rattle.std.proofs.Common.{◌≡◌, ◌∙◌, ℕ, ◌<◌, ◌≤◌, ◌+◌, ◌⊎◌, List, [], ◌∷◌, ◌++◌, length, get_or, Some}
use Rattle.std.proofs.Common.{true, false, Bool, sym, ap, subst, arith, inl, inr, set}
use Rattle.std.proofs.lemmas.Bool.{cases_eq, cases_lt, cases_order, true≢false}
use Rattle.std.proofs.lemmas.Option.{same_Some, slice_get_within, slice_get-get_or}
use Rattle.std.proofs.lemmas.List.{length_push}
use Rattle.std.proofs.lemmas.List.Sums.{get_or-le-sum_by}
use Rattle.std.specs.Prelude.{slice_get, sum}
use Rattle.ompt_events.specs.declared.records.Record.{Record}
use Rattle.ompt_events.specs.Records.{begun_turn}
use Rattle.ompt_events.specs.Places.{at}
use Rattle.ompt_events.proofs.ListLemmas.{get_pushed, get_last}
use Rattle.index_tables.specs.Numbering.{AreApart}
use Rattle.task_tree.proofs.LinkLemmas.{get_set_same, get_set_other}
use Rattle.task_tree.specs.TurnRows.{AreOffsetsRising, AreOffsetsWithin, IsSlot, AreMarkedUpTo, BeginsAnew}

-- ---- the slots

-- a slot is that of one turn of one task
slots_apart : (offsets : List ℕ) (a b s t slot : ℕ) → AreOffsetsRising offsets → IsSlot offsets a s slot
    → IsSlot offsets b t slot → (a ≡ b) × (s ≡ t)
slots_apart offsets a b s t slot rising one other = elim (cases_order a b) [
  | inl same ↦
      let first_is =
      same_Some one.first other.first (sym one.begins ∙ ap (slice_get offsets) same ∙ other.begins) in
      let at_one = one.is in
      let at_other = other.is in
      (same, omega (arith, first_is, at_one, at_other))
  | inr (inl less) ↦ absurd (behind a b s t less one other)
  | inr (inr more) ↦ absurd (behind b a t s more other one)
]
  where
    behind : (c d u v : ℕ) → c < d → IsSlot offsets c u slot → IsSlot offsets d v slot → ⊥
    behind c d u v less before after = elim (cases_eq (c + 1) d) [
      | inl same ↦
          let end_is =
          same_Some before.end after.first
          (sym before.ends ∙ ap (slice_get offsets) same ∙ after.begins) in
          let low = before.inside in
          let high = after.is in
          absurd (omega (arith, end_is, low, high))
      | inr apart ↦
          let ordered =
          rising (c + 1) d before.end after.first (omega (arith, less, apart)) before.ends after.begins in
          let low = before.inside in
          let high = after.is in
          absurd (omega (arith, ordered, low, high))
    ]

-- and a turn has one slot
slot_once : (offsets : List ℕ) (index turn one other : ℕ) → IsSlot offsets index turn one
    → IsSlot offsets index turn other → one ≡ other
slot_once offsets index turn one other is is' =
    let first_is = same_Some is.first is'.first (sym is.begins ∙ is'.begins) in
    let at_one = is.is in
    let at_other = is'.is in
    omega (arith, first_is, at_one, at_other)

pub slot_within : (offsets : List ℕ) (slots index turn slot : ℕ) → AreOffsetsWithin offsets slots
    → IsSlot offsets index turn slot → slot < slots
slot_within offsets slots index turn slot within is =
    let low = is.inside in let high = within (index + 1) is.end is.ends in omega (arith, low, high)

-- ---- where the rows begin

pushed_cases : (xs : List ℕ) (y i x : ℕ) → slice_get (xs ++ y ∷ []) i ≡ Some x
    → (slice_get xs i ≡ Some x) ⊎ ((i ≡ length xs) × (x ≡ y))
pushed_cases xs y i x is = elim (cases_lt i (length xs)) [
  | inl below ↦
      let there = slice_get-get_or xs i y below in
      inl (there ∙ sym (get_pushed xs y (get_or xs i y) i there) ∙ is)
  | inr beyond ↦
      let within = slice_get_within (xs ++ y ∷ []) i x is in
      let long = length_push xs y in
      let last : i ≡ length xs = omega (arith, within, long, beyond) in
      inr (last, same_Some x y (sym is ∙ get_last xs y i last))
]

pub offsets_last : (offsets : List ℕ) (end new index offset : ℕ)
    → ((n before : ℕ) → slice_get offsets n ≡ Some before → before ≤ end) → end ≤ new
    → slice_get (offsets ++ new ∷ []) index ≡ Some offset → offset ≤ new
offsets_last offsets end new index offset low up is = elim (pushed_cases offsets new index offset is) [
  | inl before ↦ let under = low index offset before in omega (arith, under, up)
  | inr (last, same) ↦ omega (arith, same)
]

pub offsets_rise : (offsets : List ℕ) (end new : ℕ) → AreOffsetsRising offsets
    → ((n before : ℕ) → slice_get offsets n ≡ Some before → before ≤ end) → end ≤ new
    → AreOffsetsRising (offsets ++ new ∷ [])
offsets_rise offsets end new rising low up a b first second less one other =
    elim (pushed_cases offsets new b second other) [
      | inr (last, same) ↦
          let under = offsets_last offsets end new a first low up one in omega (arith, under, same)
      | inl after ↦ elim (pushed_cases offsets new a first one) [
        | inl before ↦ rising a b first second less before after
        | inr (last, same) ↦
            let within = slice_get_within offsets b second after in absurd (omega (arith, within, last, less))
      ]
    ]

-- ---- the marks

pub marked_more : (rs : List Record) (i index task turn slot : ℕ) (tasks offsets : List ℕ) (begun : List Bool)
    → AreApart tasks → AreOffsetsRising offsets → slot < length begun → AreMarkedUpTo rs i tasks offsets begun
    → at begun_turn rs i ≡ Some (task, turn) → slice_get tasks index ≡ Some task
    → IsSlot offsets index turn slot → AreMarkedUpTo rs (i + 1) tasks offsets (set begun slot true)
marked_more rs i index task turn slot tasks offsets begun apart rising within are here indexed is = record {
  marked = λ k other another later below begins other_is. elim (cases_eq k i) [
    | inl same ↦
        let pair : ◌≡◌ {A = ℕ × ℕ} (task, turn) (another, later) =
        same_Some (task, turn) (another, later) (sym here ∙ ap (at begun_turn rs) (sym same) ∙ begins) in
        let index_is : index ≡ other =
        apart index other task indexed (other_is ∙ ap Some (sym (ap (λ (p : ℕ × ℕ). p.0) pair))) in (
          slot,
          subst (λ n. IsSlot offsets n later slot) index_is
              (subst (λ t. IsSlot offsets index t slot) (ap (λ (p : ℕ × ℕ). p.1) pair) is),
          get_set_same begun slot true within,
        )
    | inr differ ↦
        let old = are.marked k other another later (omega (arith, below, differ)) begins other_is in (
          old.0,
          old.1,
          elim (cases_eq old.0 slot) [
            | inl same ↦ ap (slice_get (set begun slot true)) same ∙ get_set_same begun slot true within
            | inr other_slot ↦ get_set_other begun slot old.0 true other_slot ∙ old.2
          ],
        )
  ];
  begins = λ other another later spot spot_is other_is holds. elim (cases_eq spot slot) [
    | inl same ↦
        let alike =
        slots_apart offsets index other turn later slot rising is
        (subst (IsSlot offsets other later) same spot_is) in
        let task_is : task ≡ another =
        same_Some task another (sym indexed ∙ ap (slice_get tasks) alike.0 ∙ other_is) in
        (i, here ∙ ap (λ (t : ℕ). Some (t, turn)) task_is ∙ ap (λ (t : ℕ). Some (another, t)) alike.1)
    | inr differ ↦
        are.begins other another later spot spot_is other_is
        (sym (get_set_other begun slot spot true differ) ∙ holds)
  ];
}

-- a slot that is not marked is that of a turn that did not begin before
pub anew_here : (rs : List Record) (i index task turn slot : ℕ) (tasks offsets : List ℕ) (begun : List Bool)
    → AreMarkedUpTo rs i tasks offsets begun → at begun_turn rs i ≡ Some (task, turn)
    → slice_get tasks index ≡ Some task → IsSlot offsets index turn slot → slice_get begun slot ≡ Some false
    → BeginsAnew rs i
anew_here rs i index task turn slot tasks offsets begun are here indexed is empty k other later below there
    before =
    let pair : ◌≡◌ {A = ℕ × ℕ} (other, later) (task, turn) =
    same_Some (other, later) (task, turn) (sym there ∙ here) in
    let old = are.marked k index task turn below (before ∙ ap (λ (p : ℕ × ℕ). Some p) pair) indexed in
    let same = slot_once offsets index turn old.0 slot old.1 is in
    true≢false (same_Some true false (sym old.2 ∙ ap (slice_get begun) same ∙ empty))

-- ---- the counts

pub count_low : (counts : List ℕ) (index count : ℕ) → index < length counts
    → count ≡ get_or counts index count → count ≤ sum counts
count_low counts index count within is =
    let low = get_or-le-sum_by (λ (x : ℕ). x) counts index count within in omega (arith, low, is)
