-- Where the explicit tasks are suspended: the rows of the table, and what stands in its slots.
use Rattle.std.proofs.Common.{◌≡◌, ◌≢◌, ◌∙◌, ℕ, zero, suc, ◌<◌, ◌≤◌, ◌+◌, [], List, length, replicate, set}
use Rattle.std.proofs.Common.{Option, Some, None, refl, sym, ap, subst, arith, inl, inr}
use Rattle.std.proofs.lemmas.Bool.{cases_eq, cases_lt, cases_order}
use Rattle.std.proofs.lemmas.Option.{none-some, same_Some, some_pair_parts, slice_get_within}
use Rattle.std.proofs.lemmas.List.{get_or-set_same, get_or-set_other, get_or-replicate, get_or_past}
use Rattle.std.specs.Prelude.{◌↔◌, MatchOption, slice_get, slice_index}
use Rattle.ompt_events.specs.declared.records.Record.{Record}
use Rattle.ompt_events.specs.Records.{created, begun_turn, suspended_turn}
use Rattle.ompt_events.specs.Places.{at}
use Rattle.ompt_events.specs.HappensBefore.{IsResumption}
use Rattle.ompt_events.specs.Tree.{IsExplicit}
use Rattle.ompt_events.proofs.PlaceLemmas.{at_within}
use Rattle.index_tables.specs.Numbering.{AreApart}
use Rattle.task_tree.specs.Subjects.{Calls}
use Rattle.task_tree.proofs.SubjectLemmas.{call_task}
use Rattle.task_tree.specs.Family.{FamilyView, IsFamilyOf}
use Rattle.task_tree.specs.Rising.{IsStartOf}
use Rattle.checker.specs.declared.suspensions.Suspensions.{Suspensions}
use Rattle.checker.specs.Schedule.{Awaits, awaits_creation, awaits_end, EachAwaitsOne}
use Rattle.checker.specs.Suspensions.{IsEndOf, BeginsNoLater, HasSlot, AreRowsInOrder, HaveSlots}
use Rattle.checker.specs.Suspensions.{AreRowLengths}
use Rattle.checker.specs.Suspensions.{IsSlotBehind, HasNoSlotBehind, IsEndBefore, AreTurnEnds, AreSuspensions}
use Rattle.checker.specs.Merge.{key_of}
use Rattle.checker.proofs.ScheduleLemmas.{later_awaits_none, created_suspends, begun_index, key_creation}
use Rattle.checker.proofs.ScheduleLemmas.{key_turn}

-- ---- rows

-- an index with a slot is one of the rows
pub has_row : (rows : List ℕ) (index turn : ℕ) → HasSlot rows index turn → index + 1 < length rows
has_row rows index turn has = elim (cases_lt (index + 1) (length rows)) [
  | inl inside ↦ inside
  | inr past ↦
      let none : slice_index rows (index + 1) ≡ 0 = get_or_past rows (index + 1) 0 past in
      absurd (omega (arith, has, none))
]

rows_rise : (rows : List ℕ) (a b : ℕ) → AreRowsInOrder rows → a ≤ b → b < length rows
    → slice_index rows a ≤ slice_index rows b
rows_rise rows a zero rise low inside =
    let same : a ≡ 0 = omega arith in let e = ap (slice_index rows) same in omega (arith, e)
rows_rise rows a (suc b) rise low inside = elim (cases_eq a (suc b)) [
  | inl same ↦ let e = ap (slice_index rows) same in omega (arith, e)
  | inr apart ↦
      let before = rows_rise rows a b rise (omega (arith, apart)) (omega arith) in
      let next = rise b (omega arith) in
      let is : slice_index rows (b + 1) ≡ slice_index rows (suc b) = ap (slice_index rows) (omega arith) in
      omega (arith, before, next, is)
]

-- no two turns have one slot
pub slots_apart : (rows : List ℕ) (one first other second : ℕ) → AreRowsInOrder rows → HasSlot rows one first
    → HasSlot rows other second → slice_index rows one + first ≡ slice_index rows other + second
    → (one ≡ other) × (first ≡ second)
slots_apart rows one first other second rise has has' same = elim (cases_order one other) [
  | inl is ↦ (is, let e = ap (slice_index rows) is in omega (arith, same, e))
  | inr (inl less) ↦
      let inside = has_row rows other second has' in
      let low = rows_rise rows (one + 1) other rise (omega (arith, less)) (omega (arith, inside)) in
      absurd (omega (arith, has, low, same))
  | inr (inr more) ↦
      let inside = has_row rows one first has in
      let low = rows_rise rows (other + 1) one rise (omega (arith, more)) (omega (arith, inside)) in
      absurd (omega (arith, has', low, same))
]

-- a slot is one of the places
pub slot_within : (rows : List ℕ) (index turn n : ℕ) → HasSlot rows index turn
    → ((k : ℕ) → slice_index rows k ≤ n) → slice_index rows index + turn < n
slot_within rows index turn n has within = let end = within (index + 1) in omega (arith, has, end)

-- ---- slots

pub ends_start : (rs : List Record) (tasks rows : List ℕ) (n : ℕ) → ((k : ℕ) → slice_index rows k ≤ n)
    → AreTurnEnds rs 0 tasks rows (replicate n (length rs))
ends_start rs tasks rows n within = record {
  only = λ index task turn indexed has below.
      let empty : slice_index (replicate n (length rs)) (slice_index rows index + turn) ≡ length rs =
      get_or-replicate n (slice_index rows index + turn) (length rs) 0
      (slot_within rows index turn n has within) in
      absurd (omega (arith, below, empty));
  all = λ i slot below. absurd (omega (arith, below));
}

pub ends_other : (rs : List Record) (n : ℕ) (tasks rows places : List ℕ) → HasNoSlotBehind rs tasks rows n
    → AreTurnEnds rs n tasks rows places → AreTurnEnds rs (n + 1) tasks rows places
ends_other rs n tasks rows places none are = record {
  only = are.only;
  all = λ i slot below is. elim (cases_eq i n) [
    | inl same ↦
        absurd (none slot (let P : ℕ → Type 0 = λ k. IsSlotBehind rs tasks rows k slot in subst P same is))
    | inr apart ↦ are.all i slot (omega (arith, below, apart)) is
  ];
}

-- the slot that is looked for is the one behind the end
pub slot_found : (rs : List Record) (tasks rows : List ℕ) (i index turn : ℕ) (found : Option ℕ)
    → AreApart tasks → (end : IsEndOf rs tasks i index turn) → IsExplicit rs end.task
    → MatchOption found (HasSlot rows index (turn + 1) → ⊥)
    (λ slot. HasSlot rows index (turn + 1) × (slot ≡ slice_index rows index + (turn + 1)))
    → MatchOption found (HasNoSlotBehind rs tasks rows i) (IsSlotBehind rs tasks rows i)
slot_found rs tasks rows i index turn (Some slot) apart end explicit (has, is) = record {
  index = index;
  turn = turn;
  end_of = end;
  explicit = explicit;
  has = has;
  is = is;
}
slot_found rs tasks rows i index turn None apart end explicit none = λ slot behind.
    let parts =
    some_pair_parts behind.end_of.task end.task behind.turn turn
    (sym behind.end_of.suspends ∙ end.suspends) in
    let same = apart behind.index index end.task (behind.end_of.indexed ∙ ap Some parts.0) end.indexed in
    let has = behind.has in
    let row = ap (slice_index rows) same in
    let next = ap (λ k. slice_index rows (k + 1)) same in
    let own = parts.1 in
    none (omega (arith, has, row, next, own))

-- two ends at one place have one slot
slot_once : (rs : List Record) (tasks rows : List ℕ) (i one other : ℕ) → AreApart tasks
    → IsSlotBehind rs tasks rows i one → IsSlotBehind rs tasks rows i other → one ≡ other
slot_once rs tasks rows i one other apart a b =
    let parts =
    some_pair_parts a.end_of.task b.end_of.task a.turn b.turn
    (sym a.end_of.suspends ∙ b.end_of.suspends) in
    let index =
    apart a.index b.index a.end_of.task a.end_of.indexed (b.end_of.indexed ∙ ap Some (sym parts.0)) in
    let row = ap (slice_index rows) index in
    let is = a.is in
    let is' = b.is in
    let turn = parts.1 in
    omega (arith, row, turn, is, is')

pub ends_more : (rs : List Record) (n slot : ℕ) (tasks rows places : List ℕ) → n < length rs → AreApart tasks
    → AreRowsInOrder rows → slot < length places → IsSlotBehind rs tasks rows n slot
    → AreTurnEnds rs n tasks rows places
    → AreTurnEnds rs (n + 1) tasks rows (set places slot n)
ends_more rs n slot tasks rows places within apart rise inside is are = record {
  only = only;
  all = λ i other below behind. elim (cases_eq other slot) [
    | inl same ↦ let here = value other same in omega (arith, here, within)
    | inr different ↦
        let old : slice_index (set places slot n) other ≡ slice_index places other =
        get_or-set_other places slot other n 0 different in
        elim (cases_eq i n) [
          | inl last ↦
              absurd
              (different
              (slot_once rs tasks rows n other slot apart
              (let P : ℕ → Type 0 = λ k. IsSlotBehind rs tasks rows k other in
              subst P last behind) is))
          | inr before ↦
              let low = are.all i other (omega (arith, below, before)) behind in omega (arith, low, old)
        ]
  ];
}
  where
    value : (other : ℕ) → other ≡ slot → slice_index (set places slot n) other ≡ n
    value other same = ap (slice_index (set places slot n)) same ∙ get_or-set_same places slot n 0 inside

    only : (index task turn : ℕ) → slice_get tasks index ≡ Some task → HasSlot rows index turn
        → slice_index (set places slot n) (slice_index rows index + turn) < length rs
        → IsEndBefore rs task turn (slice_index (set places slot n) (slice_index rows index + turn))
    only index task turn indexed has below = elim (cases_eq (slice_index rows index + turn) slot) [
      | inl same ↦
          let both = slots_apart rows index turn is.index (is.turn + 1) rise has is.has (same ∙ is.is) in
          let own : is.end_of.task ≡ task =
          same_Some is.end_of.task task
          (sym is.end_of.indexed ∙ ap (slice_get tasks) (sym both.0) ∙ indexed) in
          let P : ℕ → Type 0 = IsEndBefore rs task turn in
          subst P (sym (value (slice_index rows index + turn) same)) (record {
            explicit = subst (IsExplicit rs) own is.explicit;
            before = is.turn;
            next = both.1;
            suspends = is.end_of.suspends ∙ ap (λ t. Some (t, is.turn)) own;
          })
      | inr different ↦
          let old : slice_index (set places slot n) (slice_index rows index + turn)
          ≡ slice_index places (slice_index rows index + turn) =
          get_or-set_other places slot (slice_index rows index + turn) n 0 different in
          let P : ℕ → Type 0 = IsEndBefore rs task turn in
          subst P (sym old) (are.only index task turn indexed has (omega (arith, below, old)))
    ]

-- ---- the end that is awaited

-- the slot behind the end before a turn is the slot of the turn
slot_before : (rs : List Record) (tasks rows : List ℕ) (i index turn c : ℕ) → HaveSlots rs tasks rows
    → (begins : IsStartOf rs tasks i index turn) → 0 < turn → (again : IsResumption rs c i)
    → IsExplicit rs again.task → IsSlotBehind rs tasks rows c (slice_index rows index + turn)
slot_before rs tasks rows i index turn c room begins later again explicit =
    let parts =
    some_pair_parts again.task begins.task (again.turn + 1) turn (sym again.resumes ∙ begins.starts) in
    let has : HasSlot rows index turn = room i index turn begins later in
    let next : again.turn + 1 ≡ turn = parts.1 in
    record {
      index = index;
      turn = again.turn;
      end_of = record {
        task = again.task;
        suspends = again.suspends;
        indexed = begins.indexed ∙ ap Some (sym parts.0);
      };
      explicit = explicit;
      has = omega (arith, has, next);
      is = omega (arith, next);
    }

end_awaited : (rs : List Record) (tasks : List ℕ) (known : Suspensions) (i index turn place : ℕ)
    → AreSuspensions rs tasks known → IsStartOf rs tasks i index turn → 0 < turn
    → place ≡ slice_index known.places.items (slice_index known.rows.items index + turn) → place < length rs
    → place ≢ i → (c : ℕ) → (Some place ≡ Some c) ↔ Awaits rs i c
end_awaited rs tasks known i index turn place are begins later read within apart c = (
  λ here. subst (Awaits rs i) (same_Some place c here) there,
  λ awaits. of awaits,
)
  where
    at_end : IsEndBefore rs begins.task turn place
    at_end =
        let P : ℕ → Type 0 = IsEndBefore rs begins.task turn in
        subst P (sym read)
        (are.ends.only index begins.task turn begins.indexed (are.room i index turn begins later)
        (omega (arith, within, read)))

    again : IsResumption rs place i
    again = record {
      task = begins.task;
      turn = at_end.before;
      suspends = at_end.suspends;
      resumes = begins.starts ∙ ap (λ t. Some (begins.task, t)) at_end.next;
      another = apart;
    }

    there : Awaits rs i place
    there = awaits_end again at_end.explicit

    of : Awaits rs i c → Some place ≡ Some c
    of (awaits_creation task waits creates) =
        absurd
        (none-some task
        (sym (later_awaits_none rs i begins.task turn are.facts begins.starts later) ∙ waits))
    of (awaits_end other explicit) =
        let parts =
        some_pair_parts other.task begins.task (other.turn + 1) turn
        (sym other.resumes ∙ begins.starts) in
        let next = at_end.next in
        let same : other.turn ≡ at_end.before = omega (arith, parts.1, next) in
        ap Some
        (are.facts.once place c i again at_end.explicit
        (other.suspends ∙ ap (λ t. Some (t, other.turn)) parts.0
        ∙ ap (λ t. Some (begins.task, t)) same))

-- a slot that has no other record than the one that runs on shows that this awaits nothing
end_not_awaited : (rs : List Record) (tasks : List ℕ) (known : Suspensions) (i index turn place : ℕ)
    → AreSuspensions rs tasks known → IsStartOf rs tasks i index turn → 0 < turn
    → place ≡ slice_index known.places.items (slice_index known.rows.items index + turn)
    → (place < length rs → place ≢ i → ⊥) → (c : ℕ) → Awaits rs i c → ⊥
end_not_awaited rs tasks known i index turn place are begins later read none c
    (awaits_creation task waits creates) =
    none-some task (sym (later_awaits_none rs i begins.task turn are.facts begins.starts later) ∙ waits)
end_not_awaited rs tasks known i index turn place are begins later read none c (awaits_end again explicit) =
    let slot = slot_before rs tasks known.rows.items i index turn c are.room begins later again explicit in
    let filled =
    are.ends.all c (slice_index known.rows.items index + turn)
    (at_within suspended_turn rs c (again.task, again.turn) again.suspends) slot in
    let within : place < length rs = omega (arith, filled, read) in
    let P : ℕ → Type 0 = IsEndBefore rs begins.task turn in
    let at_end : IsEndBefore rs begins.task turn place =
    subst P (sym read)
    (are.ends.only index begins.task turn begins.indexed (are.room i index turn begins later)
    (omega (arith, within, read))) in
    let parts =
    some_pair_parts again.task begins.task (again.turn + 1) turn (sym again.resumes ∙ begins.starts) in
    let next = at_end.next in
    let same : at_end.before ≡ again.turn = omega (arith, parts.1, next) in
    let task : begins.task ≡ again.task = sym parts.0 in
    let Q : ℕ → ℕ → Type 0 = λ t u. at suspended_turn rs place ≡ Some (t, u) in
    let one : c ≡ place =
    are.facts.once c place i again explicit
    (subst (Q again.task) same (subst (λ t. Q t at_end.before) task at_end.suspends)) in
    none within (λ here. again.another (one ∙ here))

-- what is found in the slot is what is awaited
pub end_found : (rs : List Record) (tasks : List ℕ) (known : Suspensions) (i index turn place : ℕ)
    (found : Option ℕ)
    → AreSuspensions rs tasks known → IsStartOf rs tasks i index turn → 0 < turn
    → place ≡ slice_index known.places.items (slice_index known.rows.items index + turn)
    → MatchOption found (place < length rs → place ≢ i → ⊥)
    (λ k. (k ≡ place) × (place < length rs) × (place ≢ i))
    → (c : ℕ) → (found ≡ Some c) ↔ Awaits rs i c
end_found rs tasks known i index turn place None are begins later read none c = (
  λ here. absurd (none-some c here),
  λ awaits. absurd (end_not_awaited rs tasks known i index turn place are begins later read none c awaits),
)
end_found rs tasks known i index turn place (Some k) are begins later read (same, within, apart) c =
    let both = end_awaited rs tasks known i index turn place are begins later read within apart c in (
      λ here. both.0 (ap Some (sym same) ∙ here),
      λ awaits. ap Some same ∙ both.1 awaits,
    )

-- ---- the key of those that await a record

pub created_key : (rs : List Record) (tasks rows : List ℕ) (i c index : ℕ) → AreApart tasks
    → Calls tasks (at created rs c) (Some index) → Awaits rs i c → key_of tasks rs rows i ≡ Some index
created_key rs tasks rows i c index apart calls (awaits_creation task waits creates) =
    let P : Option ℕ → Type 0 = λ o. Calls tasks o (Some index) in
    key_creation rs tasks rows i index apart (subst P (creates ∙ sym waits) calls)
created_key rs tasks rows i c index apart calls (awaits_end again explicit) =
    let called = call_task tasks (at created rs c) (Some index) index calls refl in
    absurd (created_suspends rs c called.0 again.task again.turn called.1 again.suspends)

pub slot_key : (rs : List Record) (tasks rows : List ℕ) (i c slot : ℕ) → EachAwaitsOne rs → AreApart tasks
    → IsSlotBehind rs tasks rows c slot → Awaits rs i c → key_of tasks rs rows i ≡ Some (length tasks + slot)
slot_key rs tasks rows i c slot facts apart is (awaits_creation task waits creates) =
    absurd (created_suspends rs c task is.end_of.task is.turn creates is.end_of.suspends)
slot_key rs tasks rows i c slot facts apart is (awaits_end again explicit) =
    let parts =
    some_pair_parts again.task is.end_of.task again.turn is.turn
    (sym again.suspends ∙ is.end_of.suspends) in
    let begins : IsStartOf rs tasks i is.index (again.turn + 1) = record {
      task = again.task;
      starts = again.resumes;
      indexed = is.end_of.indexed ∙ ap Some (sym parts.0);
    } in
    let there = is.is in
    let turn = parts.1 in
    let same : slice_index rows is.index + (again.turn + 1) ≡ slot = omega (arith, there, turn) in
    key_turn rs tasks rows i is.index (again.turn + 1) facts apart begins (omega arith)
    ∙ ap (λ k. Some (length tasks + k)) same

-- a record that creates nothing, and behind which no slot is, is awaited by none
pub no_key : (rs : List Record) (family : FamilyView) (known : Suspensions) (i c : ℕ) → IsFamilyOf rs family
    → AreSuspensions rs family.tasks known → at created rs c ≡ None
    → HasNoSlotBehind rs family.tasks known.rows.items c → Awaits rs i c → ⊥
no_key rs family known i c are is none no_slot (awaits_creation task waits creates) =
    none-some task (sym none ∙ creates)
no_key rs family known i c are is none no_slot (awaits_end again explicit) =
    let found = begun_index rs family i again.task (again.turn + 1) are again.resumes in
    no_slot _
    (slot_before rs family.tasks known.rows.items i found.0 (again.turn + 1) c is.room
    (record { task = again.task; starts = again.resumes; indexed = found.1 }) (omega arith) again
    explicit)

-- ---- how long each row is

pub lengths_start : (rs : List Record) (tasks lengths : List ℕ) → AreRowLengths rs 0 tasks lengths
lengths_start rs tasks lengths i index turn below begins = absurd (omega (arith, below))

pub lengths_other : (rs : List Record) (n : ℕ) (tasks lengths : List ℕ) → at begun_turn rs n ≡ None
    → AreRowLengths rs n tasks lengths → AreRowLengths rs (n + 1) tasks lengths
lengths_other rs n tasks lengths none are i index turn below begins = elim (cases_eq i n) [
  | inl same ↦
      absurd (none-some (begins.task, turn) (sym none ∙ ap (at begun_turn rs) (sym same) ∙ begins.starts))
  | inr apart ↦ are i index turn (omega (arith, below, apart)) begins
]

pub lengths_more : (rs : List Record) (n index turn long : ℕ) (tasks lengths : List ℕ) → AreApart tasks
    → IsStartOf rs tasks n index turn → index < length lengths → slice_index lengths index ≤ long
    → turn < long → AreRowLengths rs n tasks lengths → AreRowLengths rs (n + 1) tasks (set lengths index long)
lengths_more rs n index turn long tasks lengths apart begins inside kept more are i other later below begins'
    =
    elim (cases_eq other index) [
      | inl same ↦
          let value : slice_index (set lengths index long) other ≡ long =
          ap (slice_index (set lengths index long)) same ∙ get_or-set_same lengths index long 0 inside in
          elim (cases_eq i n) [
            | inl here ↦
                let parts =
                some_pair_parts begins'.task begins.task later turn
                (sym begins'.starts ∙ ap (at begun_turn rs) here ∙ begins.starts) in
                omega (arith, value, more, parts.1)
            | inr before ↦
                let old = are i other later (omega (arith, below, before)) begins' in
                let e = ap (slice_index lengths) same in
                omega (arith, value, old, kept, e)
          ]
      | inr different ↦
          let value : slice_index (set lengths index long) other ≡ slice_index lengths other =
          get_or-set_other lengths index other long 0 different in
          elim (cases_eq i n) [
            | inl here ↦
                let parts =
                some_pair_parts begins'.task begins.task later turn
                (sym begins'.starts ∙ ap (at begun_turn rs) here ∙ begins.starts) in
                absurd
                (different
                (apart other index begins'.task begins'.indexed (begins.indexed ∙ ap Some (sym parts.0))))
            | inr before ↦
                let old = are i other later (omega (arith, below, before)) begins' in
                omega (arith, value, old)
          ]
    ]

-- rows of these lengths, one behind the other
pub record AreLaid (n : ℕ) (lengths rows : List ℕ) : Type 0 where
  pub all : length rows ≡ n + 1
  pub next : (index : ℕ) → index < n
      → slice_index rows (index + 1) ≡ slice_index rows index + slice_index lengths index

pub laid_room : (rs : List Record) (tasks lengths rows : List ℕ) (n : ℕ) → length tasks ≤ n
    → AreLaid n lengths rows → AreRowLengths rs (length rs) tasks lengths → HaveSlots rs tasks rows
laid_room rs tasks lengths rows n all are long i index turn begins later =
    let more = long i index turn (at_within begun_turn rs i (begins.task, turn) begins.starts) begins in
    let inside = slice_get_within tasks index begins.task begins.indexed in
    let next = are.next index (omega (arith, inside, all)) in
    omega (arith, next, more)

-- the slots are as many as the end of the rows
pub rows_within : (rows : List ℕ) (last n : ℕ) → AreRowsInOrder rows → last + 1 ≡ length rows
    → slice_index rows last ≡ n → (index : ℕ) → slice_index rows index ≤ n
rows_within rows last n rise all is index = elim (cases_lt index (length rows)) [
  | inl inside ↦
      let low = rows_rise rows index last rise (omega (arith, inside, all)) (omega (arith, all)) in
      omega (arith, low, is)
  | inr past ↦ let none : slice_index rows index ≡ 0 = get_or_past rows index 0 past in omega (arith, none)
]

-- ---- where no record tells a turn

-- an empty table serves
pub none_told : (rs : List Record) (tasks : List ℕ) (known : Suspensions) → EachAwaitsOne rs
    → BeginsNoLater rs → known.rows.items ≡ [] → known.places.items ≡ [] → AreSuspensions rs tasks known
none_told rs tasks known facts none rows places = record {
  facts = facts;
  room = λ i index turn begins later. absurd (none i begins.task turn begins.starts later);
  within = λ index. rw (rows, places, get_or_past {X = ℕ} [] index 0 (omega arith)) (omega arith);
  ends = record {
    only = λ index task turn indexed has. absurd (no_slot index turn has);
    all = λ i slot below is. absurd (no_slot is.index (is.turn + 1) is.has);
  };
}
  where
    no_slot : (index turn : ℕ) → HasSlot known.rows.items index turn → ⊥
    no_slot index turn has =
        let inside = has_row known.rows.items index turn has in
        let all = ap length rows in absurd (omega (arith, inside, all))
