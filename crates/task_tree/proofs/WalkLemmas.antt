-- What is kept of turns while the records are gone over thread by thread.
use Rattle.std.proofs.Common.{◌≡◌, ◌≢◌, ◌∙◌, ℕ, ◌<◌, ◌≤◌, ◌+◌, ◌-◌, ◌⊎◌, zero, suc, List, length, get_or}
use Rattle.std.proofs.Common.{Option, Some, None, true, cond, refl, sym, ap, subst, arith, inl, inr, set, map}
use Rattle.std.proofs.lemmas.Bool.{cases_eq, cases_lt, eq-eqb, ne_eqb}
use Rattle.std.proofs.lemmas.Option.{none-some, same_Some, slice_get_within, slice_get_cases}
use Rattle.std.proofs.lemmas.List.{length-set, length-map}
use Rattle.std.proofs.lemmas.List.FromFn.{length-range_with_len}
use Rattle.std.proofs.lemmas.List.Sums.{fold_push}
use Rattle.std.specs.Prelude.{slice_get, option_and_then, option_map}
use Rattle.ompt_events.specs.declared.records.Record.{Record}
use Rattle.ompt_events.specs.Records.{running, begun_turn}
use Rattle.ompt_events.specs.Places.{at, thread_at, places}
use Rattle.ompt_events.specs.Turns.{turn_after, turn_in, turn_at}
use Rattle.ompt_events.proofs.PlaceLemmas.{read_get}
use Rattle.index_tables.specs.Numbering.{AreApart}
use Rattle.task_tree.proofs.LinkLemmas.{get_set_same, get_set_other}
use Rattle.task_tree.specs.Chains.{IsFirstFrom}
use Rattle.task_tree.specs.declared.turn_table.Mark.{Mark}
use Rattle.task_tree.specs.declared.turn_table.Walk.{Walk}
use Rattle.task_tree.specs.TurnTable.{AreTurns, TurnsBeginInOrder, turn_on, AreTurnMarks, IsPlacePassed}
use Rattle.task_tree.specs.TurnTable.{BeginsNoEarlier, IsTableAt}
use Rattle.task_tree.proofs.ChainLemmas.{thread_within}
use Rattle.task_tree.proofs.RisingPassLemmas.{silent, after_own, after_other}
use Rattle.task_tree.proofs.SuspendedLemmas.{part_of, part_own, part_other, turn_here}
use Rattle.task_tree.proofs.SortedLemmas.{map_range, same_by_index}

-- ---- the marks

pub on_same : (turn thread : ℕ) → turn_on (record { turn = turn; thread = thread }) thread ≡ turn
on_same turn thread = ap (λ b. cond b turn 0) (eq-eqb thread thread refl)

on_other : (turn thread other : ℕ) → thread ≢ other
    → turn_on (record { turn = turn; thread = thread }) other ≡ 0
on_other turn thread other apart = ap (λ b. cond b turn 0) (ne_eqb thread other apart)

-- the thread has no record between two places
skipped : (rs : List Record) (thread n d m : ℕ) → m ≡ n + d → m ≤ length rs
    → ((k : ℕ) → n ≤ k → k < m → thread_at rs k ≡ Some thread → ⊥) → part_of rs thread m ≡ part_of rs thread n
skipped rs thread n zero m is within none = ap (part_of rs thread) (omega (arith, is))
skipped rs thread n (suc d) m is within none =
    let last : m ≡ n + d + 1 = omega (arith, is) in
    ap (part_of rs thread) last ∙ one
    ∙ skipped rs thread n d (n + d) refl (omega (arith, within, last))
    (λ k low below. none k low (omega (arith, below, last)))
  where
    one : part_of rs thread (n + d + 1) ≡ part_of rs thread (n + d)
    one = elim (slice_get_cases rs (n + d)).1 [
      | inl (r, inside, stands, read) ↦
          part_other rs thread (n + d) r stands
          (λ same.
          none (n + d) (omega arith) (omega (arith, is))
          (ap (option_map (λ (q : Record). q.thread)) stands ∙ ap Some same))
      | inr (past, stands) ↦ absurd (omega (arith, past, is, within))
    ]

marks_skip : (rs : List Record) (tasks : List ℕ) (thread n place : ℕ) (marks : List Mark)
    → IsFirstFrom rs thread n place → AreTurnMarks rs tasks thread n marks
    → AreTurnMarks rs tasks thread place marks
marks_skip rs tasks thread n place marks first are = record {
  all = are.all;
  here = λ index task mark stands is.
      let low = first.behind in
      are.here index task mark stands is
      ∙ ap (turn_in task)
      (sym (skipped rs thread n (place - n) place (omega (arith, low)) first.within first.none));
  later = are.later;
}

marks_next : (rs : List Record) (tasks : List ℕ) (thread n : ℕ) (marks : List Mark)
    → AreTurnMarks rs tasks thread n marks → AreTurnMarks rs tasks (thread + 1) 0 marks
marks_next rs tasks thread n marks are = record {
  all = are.all;
  here = λ index task mark stands is. are.later index (thread + 1) mark is (omega arith);
  later = λ index other mark is below. are.later index other mark is (omega (arith, below));
}

marks_keep : (rs : List Record) (tasks : List ℕ) (i : ℕ) (r : Record) (marks : List Mark) → i < length rs
    → r ≡ get_or rs i r → at begun_turn rs i ≡ None → AreTurnMarks rs tasks r.thread i marks
    → AreTurnMarks rs tasks r.thread (i + 1) marks
marks_keep rs tasks i r marks within read none are = record {
  all = are.all;
  here =
      λ index task mark stands is.
      are.here index task mark stands is
      ∙ sym
      (silent rs i task r.thread r within read
      (λ next begins. none-some (task, next) (sym none ∙ begins)));
  later = are.later;
}

marks_put : (rs : List Record) (tasks : List ℕ) (i index task next : ℕ) (r : Record) (marks : List Mark)
    → i < length rs → r ≡ get_or rs i r → AreApart tasks → at begun_turn rs i ≡ Some (task, next)
    → slice_get tasks index ≡ Some task → AreTurnMarks rs tasks r.thread i marks
    → AreTurnMarks rs tasks r.thread (i + 1) (set marks index (record { turn = next; thread = r.thread }))
marks_put rs tasks i index task next r marks within read apart begins stands are = record {
  all = length-set marks index new ∙ are.all;
  here = λ other another mark other_stands is. elim (cases_eq other index) [
    | inl same ↦
        let same_task : task ≡ another =
        same_Some task another (sym stands ∙ ap (slice_get tasks) (sym same) ∙ other_stands) in
        ap (λ m. turn_on m r.thread) (sym (new_is other mark same is)) ∙ on_same next r.thread
        ∙ sym
        (ap (λ t. turn_in t (part_of rs r.thread (i + 1))) (sym same_task)
        ∙ ap (turn_in task) (part_own rs r.thread i r (read_get rs i r within read) refl)
        ∙ fold_push (turn_after task) 0 (part_of rs r.thread i) r
        ∙ after_own task (turn_in task (part_of rs r.thread i)) next r begins_here)
    | inr differ ↦
        are.here other another mark other_stands (sym (get_set_other marks index other new differ) ∙ is)
        ∙ sym
        (silent rs i another r.thread r within read
        (λ turn begun.
        differ
        (apart other index another other_stands
        (stands
        ∙ ap (λ (p : ℕ × ℕ). Some p.0)
        (same_Some {A = ℕ × ℕ} (task, next) (another, turn)
        (sym begins ∙ begun))))))
  ];
  later = λ other thread mark is below. elim (cases_eq other index) [
    | inl same ↦
        ap (λ m. turn_on m thread) (sym (new_is other mark same is))
        ∙ on_other next r.thread thread (λ e. absurd (omega (arith, e, below)))
    | inr differ ↦ are.later other thread mark (sym (get_set_other marks index other new differ) ∙ is) below
  ];
}
  where
    new : Mark
    new = record { turn = next; thread = r.thread }

    inside : index < length marks
    inside =
        let low = slice_get_within tasks index task stands in let long = are.all in omega (arith, low, long)

    new_is : (other : ℕ) (mark : Mark) → other ≡ index → slice_get (set marks index new) other ≡ Some mark
        → new ≡ mark
    new_is other mark same is =
        same_Some new mark
        (sym (get_set_same marks index new inside) ∙ ap (slice_get (set marks index new)) (sym same) ∙ is)

    begins_here : begun_turn r.body ≡ Some (task, next)
    begins_here =
        sym (ap (option_and_then (λ (q : Record). begun_turn q.body)) (read_get rs i r within read)) ∙ begins

-- ---- the turn of the record

pub record_there : (rs : List Record) (i thread : ℕ) → thread_at rs i ≡ Some thread
    → (r : Record) × (slice_get rs i ≡ Some r) × (thread ≡ r.thread)
record_there rs i thread is = by (slice_get rs i) refl
  where
    by : (o : Option Record) → slice_get rs i ≡ o
        → (r : Record) × (slice_get rs i ≡ Some r) × (thread ≡ r.thread)
    by None none = absurd (none-some thread (sym (ap (option_map (λ (r : Record). r.thread)) none) ∙ is))
    by (Some r) stands =
        (r, stands, same_Some thread r.thread (sym is ∙ ap (option_map (λ (q : Record). q.thread)) stands))

pub turn_marked : (rs : List Record) (tasks : List ℕ) (i index task : ℕ) (r : Record) (mark : Mark)
    (marks : List Mark)
    → slice_get rs i ≡ Some r → running r.body ≡ Some task → slice_get tasks index ≡ Some task
    → slice_get marks index ≡ Some mark → AreTurnMarks rs tasks r.thread i marks
    → turn_on mark r.thread ≡ turn_at rs i
turn_marked rs tasks i index task r mark marks stands own indexed is are =
    are.here index task mark indexed is ∙ sym (turn_here rs i task r stands own)

-- ---- the walk

-- places that are passed before the next record of the thread
passed_skip : (rs : List Record) (thread n place own i : ℕ) → IsFirstFrom rs thread n place
    → thread_at rs i ≡ Some own → IsPlacePassed thread place own i → IsPlacePassed thread n own i
passed_skip rs thread n place own i first is (inl less) = inl less
passed_skip rs thread n place own i first is (inr (same, below)) = elim (cases_lt i n) [
  | inl low ↦ inr (same, low)
  | inr high ↦ absurd (first.none i high below (is ∙ ap Some same))
]

pub walk_skip : (rs : List Record) (tasks : List ℕ) (thread n place : ℕ) (walk : Walk)
    → IsFirstFrom rs thread n place → IsTableAt rs tasks thread n walk → IsTableAt rs tasks thread place walk
walk_skip rs tasks thread n place walk first is = record {
  marks = marks_skip rs tasks thread n place walk.marks.items first is.marks;
  all = is.all;
  turns =
      λ i own by_thread passed.
      is.turns i own by_thread (passed_skip rs thread n place own i first by_thread passed);
  order =
      λ ordered i own by_thread passed.
      is.order ordered i own by_thread (passed_skip rs thread n place own i first by_thread passed);
}

-- the thread is gone over
pub walk_next : (rs : List Record) (tasks : List ℕ) (thread n : ℕ) (walk : Walk) → length rs ≤ n
    → IsTableAt rs tasks thread n walk → IsTableAt rs tasks (thread + 1) 0 walk
walk_next rs tasks thread n walk past is = record {
  marks = marks_next rs tasks thread n walk.marks.items is.marks;
  all = is.all;
  turns = λ i own by_thread passed. is.turns i own by_thread (before i own by_thread passed);
  order = λ ordered i own by_thread passed. is.order ordered i own by_thread (before i own by_thread passed);
}
  where
    before : (i own : ℕ) → thread_at rs i ≡ Some own → IsPlacePassed (thread + 1) 0 own i
        → IsPlacePassed thread n own i
    before i own by_thread (inr (same, below)) = absurd (omega (arith, below))
    before i own by_thread (inl less) = elim (cases_eq own thread) [
      | inl same ↦ inr (same, (let within = thread_within rs i own by_thread in omega (arith, within, past)))
      | inr apart ↦ inl (omega (arith, less, apart))
    ]

passed_one : (rs : List Record) (thread n own i : ℕ) → IsPlacePassed thread (n + 1) own i
    → (IsPlacePassed thread n own i) ⊎ ((own ≡ thread) × (i ≡ n))
passed_one rs thread n own i (inl less) = inl (inl less)
passed_one rs thread n own i (inr (same, below)) = elim (cases_eq i n) [
  | inl is ↦ inr (same, is)
  | inr apart ↦ inl (inr (same, omega (arith, below, apart)))
]

-- one record, of which the turn is noted
turns_put : (rs : List Record) (i turn : ℕ) (r : Record) (turns : List ℕ) → i < length rs
    → length turns ≡ length rs → turn ≡ turn_at rs i
    → ((k own : ℕ) → thread_at rs k ≡ Some own → IsPlacePassed r.thread i own k
    → slice_get turns k ≡ Some (turn_at rs k))
    → (k own : ℕ) → thread_at rs k ≡ Some own → IsPlacePassed r.thread (i + 1) own k
    → slice_get (set turns i turn) k ≡ Some (turn_at rs k)
turns_put rs i turn r turns within long is old k own by_thread passed = elim (cases_eq k i) [
  | inl same ↦
      ap (slice_get (set turns i turn)) same ∙ get_set_same turns i turn (omega (arith, within, long))
      ∙ ap Some is ∙ ap (λ n. Some (turn_at rs n)) (sym same)
  | inr apart ↦
      get_set_other turns i k turn apart
      ∙ old k own by_thread (elim (passed_one rs r.thread i own k passed) [
        | inl before ↦ before
        | inr (thread_is, same) ↦ absurd (apart same)
      ])
]

-- a record that begins no turn
pub walk_keep : (rs : List Record) (tasks : List ℕ) (i turn : ℕ) (r : Record) (old new : Walk) → i < length rs
    → r ≡ get_or rs i r → IsTableAt rs tasks r.thread i old → turn ≡ turn_at rs i → at begun_turn rs i ≡ None
    → new.turns.items ≡ set old.turns.items i turn → new.marks.items ≡ old.marks.items
    → new.in_order ≡ old.in_order → IsTableAt rs tasks r.thread (i + 1) new
walk_keep rs tasks i turn r old new within read before is none turns marks order = record {
  marks =
      subst (AreTurnMarks rs tasks r.thread (i + 1)) (sym marks)
      (marks_keep rs tasks i r old.marks.items within read none before.marks);
  all = ap length turns ∙ length-set old.turns.items i turn ∙ before.all;
  turns =
      λ k own by_thread passed.
      ap (λ l. slice_get l k) turns
      ∙ turns_put rs i turn r old.turns.items within before.all is before.turns k own by_thread
      passed;
  order = λ ordered k own by_thread passed. elim (passed_one rs r.thread i own k passed) [
    | inl earlier ↦ before.order (sym order ∙ ordered) k own by_thread earlier
    | inr (thread_is, same) ↦
        λ task next begins.
        absurd (none-some (task, next) (sym none ∙ ap (at begun_turn rs) (sym same) ∙ begins))
  ];
}

-- a record that begins one
pub walk_put : (rs : List Record) (tasks : List ℕ) (i turn index task next : ℕ) (r : Record) (mark : Mark)
    (old new : Walk)
    → i < length rs → r ≡ get_or rs i r → IsTableAt rs tasks r.thread i old → turn ≡ turn_at rs i
    → AreApart tasks → at begun_turn rs i ≡ Some (task, next) → slice_get tasks index ≡ Some task
    → slice_get old.marks.items index ≡ Some mark → new.turns.items ≡ set old.turns.items i turn
    → new.marks.items ≡ set old.marks.items index (record { turn = next; thread = r.thread })
    → (new.in_order ≡ true → (old.in_order ≡ true) × (turn_on mark r.thread ≤ next))
    → IsTableAt rs tasks r.thread (i + 1) new
walk_put rs tasks i turn index task next r mark old new within read before is apart begins indexed marked
    turns marks order =
    record {
      marks =
          subst (AreTurnMarks rs tasks r.thread (i + 1)) (sym marks)
          (marks_put rs tasks i index task next r old.marks.items within read apart begins indexed
          before.marks);
      all = ap length turns ∙ length-set old.turns.items i turn ∙ before.all;
      turns =
          λ k own by_thread passed.
          ap (λ l. slice_get l k) turns
          ∙ turns_put rs i turn r old.turns.items within before.all is before.turns k own by_thread
          passed;
      order = λ ordered k own by_thread passed. elim (passed_one rs r.thread i own k passed) [
        | inl earlier ↦ before.order (order ordered).0 k own by_thread earlier
        | inr (thread_is, same) ↦ λ other later begun.
            let e : ◌≡◌ {A = ℕ × ℕ} (task, next) (other, later) =
            same_Some (task, next) (other, later) (sym begins ∙ ap (at begun_turn rs) (sym same) ∙ begun) in
            let low = (order ordered).1 in
            let last = before.marks.here index task mark indexed marked in
            let there : turn_in other (part_of rs own k) ≡ turn_in task (part_of rs r.thread i) =
            ap (λ t. turn_in t (part_of rs own k)) (ap (λ (p : ℕ × ℕ). p.0) (sym e))
            ∙ ap (λ t. turn_in task (part_of rs t k)) thread_is
            ∙ ap (λ n. turn_in task (part_of rs r.thread n)) same in
            let turn_is = ap (λ (p : ℕ × ℕ). p.1) e in
            omega (arith, low, last, there, turn_is)
      ];
    }

-- ---- all threads

passed_all : (i own : ℕ) → own < 256 → IsPlacePassed 256 0 own i
passed_all i own small = inl small

pub walked_turns : (rs : List Record) (tasks : List ℕ) (walk : Walk)
    → ((i thread : ℕ) → thread_at rs i ≡ Some thread → thread < 256) → IsTableAt rs tasks 256 0 walk
    → AreTurns rs walk.turns.items
walked_turns rs tasks walk narrow is =
    same_by_index walk.turns.items (map (turn_at rs) (places rs)) (is.all ∙ sym as_long) each
  where
    as_long : length (map (turn_at rs) (places rs)) ≡ length rs
    as_long = length-map (places rs) (turn_at rs) ∙ length-range_with_len 0 (length rs)

    each : (i : ℕ) → i < length walk.turns.items
        → slice_get walk.turns.items i ≡ slice_get (map (turn_at rs) (places rs)) i
    each i below =
        let within : i < length rs = (let long = is.all in omega (arith, below, long)) in
        elim (slice_get_cases rs i).1 [
          | inl (r, inside, stands, read) ↦
              let by_thread : thread_at rs i ≡ Some r.thread =
              ap (option_map (λ (q : Record). q.thread)) stands in
              is.turns i r.thread by_thread (passed_all i r.thread (narrow i r.thread by_thread))
              ∙ sym (map_range (turn_at rs) (length rs) i within)
          | inr (past, stands) ↦ absurd (omega (arith, past, within))
        ]

-- the greatest turn that began is the last one
last_bound : (rs : List Record) (thread task : ℕ)
    → ((i : ℕ) → thread_at rs i ≡ Some thread → BeginsNoEarlier rs thread i) → (n : ℕ) → n ≤ length rs
    → (k later : ℕ) → k < n → thread_at rs k ≡ Some thread → at begun_turn rs k ≡ Some (task, later)
    → later ≤ turn_in task (part_of rs thread n)
last_bound rs thread task order zero within k later below by_thread begins = absurd (omega arith)
last_bound rs thread task order (suc n) within k later below by_thread begins =
    elim (slice_get_cases rs n).1 [
      | inl (r, inside, stands, read) ↦ elim (cases_eq r.thread thread) [
        | inl same ↦
            let grows : turn_in task (part_of rs thread (suc n))
            ≡ turn_after task (turn_in task (part_of rs thread n)) r =
            ap (λ m. turn_in task (part_of rs thread m)) next
            ∙ ap (turn_in task) (part_own rs thread n r stands same)
            ∙ fold_push (turn_after task) 0 (part_of rs thread n) r in
            let low =
            by r stands same
            (λ differ.
            last_bound rs thread task order n (omega (arith, within)) k later
            (omega (arith, below, differ)) by_thread begins)
            (begun_turn r.body) refl in
            omega (arith, grows, low)
        | inr apart ↦
            let alike : turn_in task (part_of rs thread (suc n)) ≡ turn_in task (part_of rs thread n) =
            ap (λ m. turn_in task (part_of rs thread m)) next
            ∙ ap (turn_in task) (part_other rs thread n r stands apart) in
            let differ : k ≢ n =
            λ e.
            apart
            (same_Some r.thread thread
            (sym (ap (option_map (λ (q : Record). q.thread)) stands) ∙ ap (thread_at rs) (sym e)
            ∙ by_thread)) in
            let low =
            last_bound rs thread task order n (omega (arith, within)) k later (omega (arith, below, differ))
            by_thread begins in
            omega (arith, alike, low)
      ]
      | inr (past, stands) ↦ absurd (omega (arith, past, within))
    ]
  where
    next : suc n ≡ n + 1
    next = omega arith

    by : (r : Record) → slice_get rs n ≡ Some r → r.thread ≡ thread
        → (k ≢ n → later ≤ turn_in task (part_of rs thread n)) → (o : Option (ℕ × ℕ)) → begun_turn r.body ≡ o
        → later ≤ turn_after task (turn_in task (part_of rs thread n)) r
    by r stands same earlier None is =
        let kept =
        after_other task (turn_in task (part_of rs thread n)) r
        (λ turn begun. none-some (task, turn) (sym is ∙ begun)) in
        let low =
        earlier
        (λ e.
        none-some (task, later)
        (sym is ∙ sym (ap (option_and_then (λ (q : Record). begun_turn q.body)) stands)
        ∙ ap (at begun_turn rs) (sym e) ∙ begins)) in
        omega (arith, kept, low)
    by r stands same earlier (Some b) is = elim (cases_eq b.0 task) [
      | inl own ↦
          let here : begun_turn r.body ≡ Some (task, b.1) = is ∙ ap (λ (t : ℕ). Some (t, b.1)) own in
          let there : at begun_turn rs n ≡ Some (task, b.1) =
          ap (option_and_then (λ (q : Record). begun_turn q.body)) stands ∙ here in
          let now = after_own task (turn_in task (part_of rs thread n)) b.1 r here in
          let up =
          order n (ap (option_map (λ (q : Record). q.thread)) stands ∙ ap Some same) task b.1 there in
          elim (cases_eq k n) [
            | inl e ↦
                let turn_is : later ≡ b.1 =
                ap (λ (p : ℕ × ℕ). p.1)
                (same_Some {A = ℕ × ℕ} (task, later) (task, b.1)
                (sym begins ∙ ap (at begun_turn rs) e ∙ there)) in
                omega (arith, now, turn_is)
            | inr differ ↦ let low = earlier differ in omega (arith, now, up, low)
          ]
      | inr apart ↦
          let kept =
          after_other task (turn_in task (part_of rs thread n)) r
          (λ turn begun.
          apart
          (ap (λ (p : ℕ × ℕ). p.0)
          (same_Some {A = ℕ × ℕ} b (task, turn) (sym is ∙ begun)))) in
          let low =
          earlier
          (λ e.
          apart
          (ap (λ (p : ℕ × ℕ). p.0)
          (same_Some {A = ℕ × ℕ} b (task, later)
          (sym is
          ∙ sym (ap (option_and_then (λ (q : Record). begun_turn q.body)) stands)
          ∙ ap (at begun_turn rs) (sym e) ∙ begins)))) in
          omega (arith, kept, low)
    ]

pub walked_order : (rs : List Record) (tasks : List ℕ) (walk : Walk)
    → ((i thread : ℕ) → thread_at rs i ≡ Some thread → thread < 256) → IsTableAt rs tasks 256 0 walk
    → walk.in_order ≡ true → TurnsBeginInOrder rs
walked_order rs tasks walk narrow is ordered i k thread task turn later below here there begins began =
    let within = thread_within rs i thread here in
    let low =
    last_bound rs thread task
    (λ n by_thread.
    is.order ordered n thread by_thread (passed_all n thread (narrow n thread by_thread))) i
    (omega (arith, within)) k later below there began in
    let high = is.order ordered i thread here (passed_all i thread (narrow i thread here)) task turn begins in
    omega (arith, low, high)
