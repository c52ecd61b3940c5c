-- What is known of the tasks while the records are gone over, and what it says of turns.
use Rattle.std.proofs.Common.{◌≡◌, ◌≢◌, ◌∙◌, ℕ, ◌<◌, ◌≤◌, ◌+◌, ◌-◌, ◌⊎◌, ◌↔◌, List, [], ◌∷◌, ◌++◌, length}
use Rattle.std.proofs.Common.{get_or, Option, Some, None, cond, refl, sym, ap, subst, arith, inl, inr, set}
use Rattle.std.proofs.lemmas.Bool.{cases_eq, cases_lt, cases_order, eq-eqb, ne_eqb, eqb-true}
use Rattle.std.proofs.lemmas.Option.{get_or_from_slice_get, none-some, same_Some, slice_get_within}
use Rattle.std.proofs.lemmas.List.{length-set}
use Rattle.std.proofs.lemmas.List.Sums.{fold_push}
use Rattle.std.specs.Prelude.{◌==◌, slice_get, option_and_then, option_map, IsTrue, IsSomeAnd, MatchOption}
use Rattle.std.specs.Prelude.{nat_eq}
use Rattle.std.specs.Option.{option_map_or, unwrap_or}
use Rattle.ompt_events.specs.declared.records.Record.{Record}
use Rattle.ompt_events.specs.declared.records.Body.{Body}
use Rattle.ompt_events.specs.declared.records.Body.TheVariants.{ImplicitTask}
use Rattle.ompt_events.specs.declared.names.Endpoint.TheVariants.{Begin}
use Rattle.ompt_events.specs.declared.records.Turns.{Turns}
use Rattle.ompt_events.specs.declared.cause.Cause.TheVariants.{CreatedTwice, TurnGap}
use Rattle.ompt_events.specs.Records.{running, started, created, next_turn, told_turns, begun_turn}
use Rattle.ompt_events.specs.Records.{begun_root}
use Rattle.ompt_events.specs.Places.{at, thread_at}
use Rattle.ompt_events.specs.Tree.{IsRoot, IsExplicit}
use Rattle.ompt_events.specs.Turns.{TellsNoTurns, turn_after, turn_in, turn_at}
use Rattle.ompt_events.specs.Causes.{HasTurnGap, other_turn, begun_again, falling, of_root, missing}
use Rattle.ompt_events.specs.Causes.{TellsStart, BeginsTurn, runs, turn_gap, IsFreeOf}
use Rattle.ompt_events.proofs.PlaceLemmas.{read_get, at_within}
use Rattle.ompt_events.proofs.RecordLemmas.{made_cases}
use Rattle.ompt_events.proofs.TurnLemmas.{begun_zero}
use Rattle.ompt_events.proofs.ListLemmas.{get_contains}
use Rattle.index_tables.specs.Numbering.{AreApart}
use Rattle.task_tree.specs.Family.{FamilyView, IsFamilyOf}
use Rattle.task_tree.proofs.LinkLemmas.{get_set_same, get_set_other}
use Rattle.task_tree.specs.declared.rising.Latest.{Latest}
use Rattle.task_tree.specs.declared.rising.Begin.{Begin as BeginAt}
use Rattle.task_tree.specs.Rising.{TurnsRise, NoneLater, IsInOrder, AreTurnsInOrder, turn_now, IsOnTurn}
use Rattle.task_tree.specs.Rising.{IsNext}
use Rattle.task_tree.specs.Rising.{next_first, next_later, IsLatestTurn, AreLatestTurns, IsTurnThere}
use Rattle.task_tree.specs.Rising.{IsStartOf}
use Rattle.task_tree.specs.Rising.{IsTurnBegin, BeginsNone, MayBegin, may_untold, may_next, IsStepOn}
use Rattle.task_tree.proofs.GapLemmas.{begins_cases, untold_none, no_start_none}
use Rattle.task_tree.proofs.RisingLemmas.{own_running}
use Rattle.task_tree.proofs.SuspendedLemmas.{part_of, part_keeps, explicit_not_root, turn_here}
use Rattle.task_tree.proofs.TurnTableLemmas.{turn_own, turn_other}

-- ---- the turn that a task is in

none_now : (known : Latest) → known.turn ≡ None → turn_now known ≡ 0
none_now known is = ap (λ (o : Option ℕ). unwrap_or o 0) is

-- the record at a place, as a read of the list has it
pub read_there : (rs : List Record) (i : ℕ) (r : Record) → slice_get rs i ≡ Some r → r ≡ get_or rs i r
read_there rs i r stands = sym (get_or_from_slice_get rs i r r stands)

some_now : (known : Latest) (turn : ℕ) → known.turn ≡ Some turn → turn_now known ≡ turn
some_now known turn is = ap (λ (o : Option ℕ). unwrap_or o 0) is

pub next_some : (known : Latest) (last turn : ℕ) → known.turn ≡ Some last → 0 < turn
    → IsTrue (nat_eq (turn - 1) last) ↔ IsNext known turn
next_some known last turn is more = (
  λ same. next_later last is (let e = eqb-true (turn - 1) last same in omega (arith, e, more)),
  back,
)
  where
    back : IsNext known turn → IsTrue (nat_eq (turn - 1) last)
    back (next_first none first) = absurd (none-some last (sym none ∙ is))
    back (next_later other is_other next) =
        let same = same_Some last other (sym is ∙ is_other) in
        eq-eqb (turn - 1) last (omega (arith, same, next))

-- ---- what begins at a record

-- a record at which a root begins tells no turns
root_silent : (task : ℕ) (b : Body) → begun_root b ≡ Some task → (begun_turn b ≡ None) × (told_turns b ≡ None)
root_silent task (ImplicitTask Begin actual index flags parallel own) is = (refl, refl)
root_silent task _ is = absurd (none-some task is)

root_there : (rs : List Record) (i task : ℕ) → at begun_root rs i ≡ Some task
    → (at begun_turn rs i ≡ None) × (at told_turns rs i ≡ None)
root_there rs i task is = by (slice_get rs i) is
  where
    by : (o : Option Record) → option_and_then (λ (r : Record). begun_root r.body) o ≡ Some task
        → (option_and_then (λ (r : Record). begun_turn r.body) o ≡ None)
        × (option_and_then (λ (r : Record). told_turns r.body) o ≡ None)
    by None none = absurd (none-some task none)
    by (Some r) begins = root_silent task r.body begins

one_begin : (rs : List Record) (i task a b : ℕ) → BeginsTurn rs i task a → BeginsTurn rs i task b → a ≡ b
one_begin rs i task a b one other = by (begins_cases rs i task a one) (begins_cases rs i task b other)
  where
    by : (at begun_turn rs i ≡ Some (task, a)) ⊎ ((a ≡ 0) × (at begun_root rs i ≡ Some task))
        → (at begun_turn rs i ≡ Some (task, b)) ⊎ ((b ≡ 0) × (at begun_root rs i ≡ Some task)) → a ≡ b
    by (inl is) (inl is') = ap (λ (p : ℕ × ℕ). p.1) (same_Some (task, a) (task, b) (sym is ∙ is'))
    by (inl is) (inr (first, root)) = absurd (none-some (task, a) (sym (root_there rs i task root).0 ∙ is))
    by (inr (first, root)) (inl is) = absurd (none-some (task, b) (sym (root_there rs i task root).0 ∙ is))
    by (inr (first, root)) (inr (first', root')) = first ∙ sym first'

-- a turn beyond 0 that begins is told
told_later : (rs : List Record) (i task turn : ℕ) → at begun_turn rs i ≡ Some (task, turn) → 0 < turn
    → at told_turns rs i ≢ None
told_later rs i task turn begins more none = by (slice_get rs i) begins none
  where
    by : (o : Option Record) → option_and_then (λ (r : Record). begun_turn r.body) o ≡ Some (task, turn)
        → option_and_then (λ (r : Record). told_turns r.body) o ≡ None → ⊥
    by None is untold = none-some (task, turn) is
    by (Some r) is untold = of_next (started r.body) is
      where
        of_next : (s : Option ℕ) → option_map {U = ℕ × ℕ} (λ t. (t, next_turn r.body)) s ≡ Some (task, turn)
            → ⊥
        of_next None is' = none-some (task, turn) is'
        of_next (Some t) is' =
            let same = ap (λ (p : ℕ × ℕ). p.1) (same_Some (t, next_turn r.body) (task, turn) is') in
            let zero_next = ap (λ (u : Option Turns). option_map_or (λ (v : Turns). v.next) u 0) untold in
            absurd (omega (arith, same, zero_next, more))

-- no task begins a turn where none runs next and no root begins
pub begins_none : (rs : List Record) (i : ℕ) → at begun_root rs i ≡ None → at begun_turn rs i ≡ None
    → BeginsNone rs i
begins_none rs i no_root no_start task turn begins = elim (begins_cases rs i task turn begins) [
  | inl is ↦ none-some (task, turn) (sym no_start ∙ is)
  | inr (first, root) ↦ none-some task (sym no_root ∙ root)
]

pub begin_found : (rs : List Record) (tasks : List ℕ) (i : ℕ) (found : Option BeginAt)
    → at begun_root rs i ≡ None
    → MatchOption found (at begun_turn rs i ≡ None) (λ begin. IsStartOf rs tasks i begin.index begin.turn)
    → MatchOption found (BeginsNone rs i) (λ begin. IsTurnBegin rs tasks i begin.index begin.turn)
begin_found rs tasks i None no_root none = begins_none rs i no_root none
begin_found rs tasks i (Some begin) no_root start = record {
  task = start.task;
  begins = runs start.starts;
  indexed = start.indexed;
}

none_starts : (rs : List Record) (i : ℕ) → BeginsNone rs i → at begun_turn rs i ≡ None
none_starts rs i none = by (at begun_turn rs i) refl
  where
    by : (o : Option (ℕ × ℕ)) → at begun_turn rs i ≡ o → o ≡ None
    by None e = refl
    by (Some b) e = absurd (none b.0 b.1 (runs e))

-- ---- the turn of a task on a thread, one record on

pub after_other : (task turn : ℕ) (r : Record) → ((next : ℕ) → begun_turn r.body ≡ Some (task, next) → ⊥)
    → turn_after task turn r ≡ turn
after_other task turn r other = by (begun_turn r.body) refl
  where
    by : (o : Option (ℕ × ℕ)) → begun_turn r.body ≡ o
        → option_map_or (λ (b : ℕ × ℕ). cond (b.0 == task) b.1 turn) o turn ≡ turn
    by None e = refl
    by (Some b) e = elim (cases_eq b.0 task) [
      | inl same ↦ absurd (other b.1 (e ∙ ap (λ (t : ℕ). Some (t, b.1)) same))
      | inr apart ↦ ap (λ c. cond c b.1 turn) (ne_eqb b.0 task apart)
    ]

pub after_own : (task turn next : ℕ) (r : Record) → begun_turn r.body ≡ Some (task, next)
    → turn_after task turn r ≡ next
after_own task turn next r begins =
    ap (λ (o : Option (ℕ × ℕ)). option_map_or (λ (b : ℕ × ℕ). cond (b.0 == task) b.1 turn) o turn) begins
    ∙ ap (λ c. cond c next turn) (eq-eqb task task refl)

pub body_begins : (rs : List Record) (i : ℕ) (r : Record) → i < length rs → r ≡ get_or rs i r
    → at begun_turn rs i ≡ begun_turn r.body
body_begins rs i r within read =
    ap (option_and_then (λ (q : Record). begun_turn q.body)) (read_get rs i r within read)

-- where the task does not run next
pub silent : (rs : List Record) (i task thread : ℕ) (r : Record) → i < length rs → r ≡ get_or rs i r
    → ((next : ℕ) → at begun_turn rs i ≡ Some (task, next) → ⊥)
    → turn_in task (part_of rs thread (i + 1)) ≡ turn_in task (part_of rs thread i)
silent rs i task thread r within read other = elim (cases_eq thread r.thread) [
  | inl same ↦
      ap (λ t. turn_in task (part_of rs t (i + 1))) same
      ∙ turn_own rs i r task within read
      ∙ after_other task (turn_in task (part_of rs r.thread i)) r
      (λ next begins. other next (body_begins rs i r within read ∙ begins))
      ∙ ap (λ t. turn_in task (part_of rs t i)) (sym same)
  | inr apart ↦ turn_other rs i r thread task within read apart
]

-- ---- what is known of one task, one record on

-- a task that begins no turn there
keep_one : (rs : List Record) (i task : ℕ) (r : Record) (known : Latest) → i < length rs → r ≡ get_or rs i r
    → IsLatestTurn rs i task known → ((turn : ℕ) → BeginsTurn rs i task turn → ⊥)
    → IsLatestTurn rs (i + 1) task known
keep_one rs i task r known within read old other = record {
  begun = λ turn e. let began = old.begun turn e in (began.0, omega (arith, began.1), began.2, began.3);
  none = λ e k turn below begins. elim (cases_eq k i) [
    | inl same ↦ other turn (subst (λ j. BeginsTurn rs j task turn) same begins)
    | inr apart ↦ old.none e k turn (omega (arith, below, apart)) begins
  ];
  bound = λ k later below begins. elim (cases_eq k i) [
    | inl same ↦ absurd (other later (subst (λ j. BeginsTurn rs j task later) same begins))
    | inr apart ↦ old.bound k later (omega (arith, below, apart)) begins
  ];
  now =
      λ thread turn on.
      silent rs i task thread r within read (λ next begins. other next (runs begins))
      ∙ old.now thread turn on;
}

-- a task that begins one
start_one : (rs : List Record) (i task next : ℕ) (r : Record) (known : Latest) → i < length rs
    → r ≡ get_or rs i r → IsLatestTurn rs i task known → BeginsTurn rs i task next → turn_now known ≤ next
    → IsLatestTurn rs (i + 1) task (record { turn = Some next; thread = r.thread })
start_one rs i task next r known within read old begins later = record {
  begun =
      λ turn e. (
        i,
        omega arith,
        subst (BeginsTurn rs i task) (same_Some next turn e) begins,
        inr (ap (option_map (λ (q : Record). q.thread)) (read_get rs i r within read)),
      );
  none = λ e. absurd (none-some next (sym e));
  bound = λ k turn below b. elim (cases_eq k i) [
    | inl same ↦
        let e = one_begin rs i task turn next (subst (λ j. BeginsTurn rs j task turn) same b) begins in
        omega (arith, e)
    | inr apart ↦ let low = old.bound k turn (omega (arith, below, apart)) b in omega (arith, low, later)
  ];
  now = λ thread turn on. by (begins_cases rs i task next begins) thread turn on;
}
  where
    by : (at begun_turn rs i ≡ Some (task, next)) ⊎ ((next ≡ 0) × (at begun_root rs i ≡ Some task))
        → (thread turn : ℕ) → IsOnTurn (record { turn = Some next; thread = r.thread }) thread turn
        → turn_in task (part_of rs thread (i + 1)) ≡ turn
    by (inr (first, root)) thread turn on =
        let zero_now : turn_now known ≡ 0 = omega (arith, later, first) in
        let is = on.0 in
        silent rs i task thread r within read
        (λ turn' is'. none-some (task, turn') (sym (root_there rs i task root).0 ∙ is'))
        ∙ old.now thread turn (omega (arith, is, first, zero_now), inl zero_now)
    by (inl is) thread turn on = elim (cases_eq thread r.thread) [
      | inl same ↦
          ap (λ t. turn_in task (part_of rs t (i + 1))) same
          ∙ turn_own rs i r task within read
          ∙ after_own task (turn_in task (part_of rs r.thread i)) next r
          (sym (body_begins rs i r within read) ∙ is)
          ∙ sym on.0
      | inr apart ↦ turn_other rs i r thread task within read apart ∙ elsewhere apart on.0 on.1
    ]
      where
        elsewhere : thread ≢ r.thread → turn ≡ next → (next ≡ 0) ⊎ (thread ≡ r.thread)
            → turn_in task (part_of rs thread i) ≡ turn
        elsewhere apart is_next (inr same) = absurd (apart same)
        elsewhere apart is_next (inl first) =
            let zero_now : turn_now known ≡ 0 = omega (arith, later, first) in
            old.now thread turn (omega (arith, is_next, first, zero_now), inl zero_now)

-- ---- all tasks

latest_put : (rs : List Record) (n m index : ℕ) (tasks : List ℕ) (latest : List Latest) (new : Latest)
    → AreLatestTurns rs n tasks latest
    → ((task : ℕ) → slice_get tasks index ≡ Some task → IsLatestTurn rs m task new)
    → ((other task : ℕ) (known : Latest) → other ≢ index → slice_get tasks other ≡ Some task
    → slice_get latest other ≡ Some known → IsLatestTurn rs m task known)
    → AreLatestTurns rs m tasks (set latest index new)
latest_put rs n m index tasks latest new are here there = record {
  all = length-set latest index new ∙ are.all;
  each = λ other task known stands is. elim (cases_eq other index) [
    | inl same ↦
        let at_index : slice_get tasks index ≡ Some task = ap (slice_get tasks) (sym same) ∙ stands in
        let low : index < length latest =
        (let within = slice_get_within tasks index task at_index in
        let long = are.all in omega (arith, within, long)) in
        let new_is : new ≡ known =
        same_Some new known
        (sym (get_set_same latest index new low) ∙ ap (slice_get (set latest index new)) (sym same)
        ∙ is) in
        subst (IsLatestTurn rs m task) new_is (here task at_index)
    | inr apart ↦ there other task known apart stands (sym (get_set_other latest index other new apart) ∙ is)
  ];
}

latest_keep : (rs : List Record) (i : ℕ) (r : Record) (tasks : List ℕ) (latest : List Latest) → i < length rs
    → r ≡ get_or rs i r → AreLatestTurns rs i tasks latest → BeginsNone rs i
    → AreLatestTurns rs (i + 1) tasks latest
latest_keep rs i r tasks latest within read are none = record {
  all = are.all;
  each =
      λ index task known stands is.
      keep_one rs i task r known within read (are.each index task known stands is) (none task);
}

latest_start : (rs : List Record) (i index task next : ℕ) (r : Record) (tasks : List ℕ) (latest : List Latest)
    (known : Latest)
    → i < length rs → r ≡ get_or rs i r → AreApart tasks → AreLatestTurns rs i tasks latest
    → BeginsTurn rs i task next → slice_get tasks index ≡ Some task → slice_get latest index ≡ Some known
    → turn_now known ≤ next
    → AreLatestTurns rs (i + 1) tasks (set latest index (record { turn = Some next; thread = r.thread }))
latest_start rs i index task next r tasks latest known within read apart are begins stands is later =
    latest_put rs i (i + 1) index tasks latest (record { turn = Some next; thread = r.thread }) are
    (λ other other_is.
    subst (λ t. IsLatestTurn rs (i + 1) t (record { turn = Some next; thread = r.thread }))
    (same_Some task other (sym stands ∙ other_is))
    (start_one rs i task next r known within read (are.each index task known stands is) begins later))
    (
    λ other another some differ other_is some_is.
    keep_one rs i another r some within read (are.each other another some other_is some_is)
    (λ turn begun.
    differ (apart other index another other_is (stands ∙ ap Some (same_task another turn begun)))))
  where
    same_task : (another turn : ℕ) → BeginsTurn rs i another turn → task ≡ another
    same_task another turn begun =
        by (begins_cases rs i task next begins) (begins_cases rs i another turn begun)
      where
        by : (at begun_turn rs i ≡ Some (task, next)) ⊎ ((next ≡ 0) × (at begun_root rs i ≡ Some task))
            → (at begun_turn rs i ≡ Some (another, turn)) ⊎ ((turn ≡ 0) × (at begun_root rs i ≡ Some another))
            → task ≡ another
        by (inl one) (inl other) =
            ap (λ (p : ℕ × ℕ). p.0) (same_Some (task, next) (another, turn) (sym one ∙ other))
        by (inl one) (inr (first, root)) =
            absurd (none-some (task, next) (sym (root_there rs i another root).0 ∙ one))
        by (inr (first, root)) (inl other) =
            absurd (none-some (another, turn) (sym (root_there rs i task root).0 ∙ other))
        by (inr (first, root)) (inr (first', root')) = same_Some task another (sym root ∙ root')

-- ---- the turn of the record

pub own_body : (rs : List Record) (i task : ℕ) (r : Record) → slice_get rs i ≡ Some r
    → at running rs i ≡ Some task → running r.body ≡ Some task
own_body rs i task r stands own = sym (ap (option_and_then (λ (q : Record). running q.body)) stands) ∙ own

pub there_some : (rs : List Record) (i task turn : ℕ) (r : Record) (known : Latest) → slice_get rs i ≡ Some r
    → IsLatestTurn rs i task known → at running rs i ≡ Some task → IsOnTurn known r.thread turn
    → IsTurnThere rs i turn
there_some rs i task turn r known stands old own on = record {
  is = sym (turn_here rs i task r stands (own_body rs i task r stands own) ∙ old.now r.thread turn on);
  bound = λ other now k later below begins.
      let same : other ≡ task = same_Some other task (sym now ∙ own) in
      let low = old.bound k later below (subst (λ t. BeginsTurn rs k t later) same begins) in
      let is = on.0 in
      omega (arith, low, is);
}

-- a turn beyond 0 in which a task is on a thread began on the thread
pub turn_began : (rs : List Record) (task thread n : ℕ) → 0 < turn_in task (part_of rs thread n)
    → (k : ℕ) × (k < n) × (thread_at rs k ≡ Some thread)
    × (at begun_turn rs k ≡ Some (task, turn_in task (part_of rs thread n)))
turn_began rs task thread n = part_keeps rs thread P (λ more. absurd (omega (arith, more))) own other n
  where
    P : ℕ → List Record → Type 0
    P m l =
        0 < turn_in task l
        → (k : ℕ) × (k < m) × (thread_at rs k ≡ Some thread)
        × (at begun_turn rs k ≡ Some (task, turn_in task l))

    later : (m turn : ℕ)
        → (k : ℕ) × (k < m) × (thread_at rs k ≡ Some thread) × (at begun_turn rs k ≡ Some (task, turn))
        → (k : ℕ) × (k < m + 1) × (thread_at rs k ≡ Some thread) × (at begun_turn rs k ≡ Some (task, turn))
    later m turn (k, below, made, begins) = (k, omega (arith, below), made, begins)

    other : (m : ℕ) → thread_at rs m ≢ Some thread → P m (part_of rs thread m)
        → P (m + 1) (part_of rs thread m)
    other m apart before more = later m (turn_in task (part_of rs thread m)) (before more)

    own : (m : ℕ) (r : Record) → slice_get rs m ≡ Some r → r.thread ≡ thread → P m (part_of rs thread m)
        → P (m + 1) (part_of rs thread m ++ r ∷ [])
    own m r stands same before =
        subst Q (sym (fold_push (turn_after task) 0 (part_of rs thread m) r)) (by (begun_turn r.body) refl)
      where
        Q : ℕ → Type 0
        Q turn =
            0 < turn
            → (k : ℕ) × (k < m + 1) × (thread_at rs k ≡ Some thread)
            × (at begun_turn rs k ≡ Some (task, turn))

        kept : Q (turn_in task (part_of rs thread m))
        kept more = later m (turn_in task (part_of rs thread m)) (before more)

        by : (o : Option (ℕ × ℕ)) → begun_turn r.body ≡ o
            → Q
            (option_map_or (λ (b : ℕ × ℕ). cond (b.0 == task) b.1 (turn_in task (part_of rs thread m))) o
            (turn_in task (part_of rs thread m)))
        by None e = kept
        by (Some b) e = elim (cases_eq b.0 task) [
          | inl is ↦
              subst Q (sym (ap (λ c. cond c b.1 (turn_in task (part_of rs thread m))) (eq-eqb b.0 task is)))
              (λ more. (
                m,
                omega arith,
                ap (option_map (λ (q : Record). q.thread)) stands ∙ ap Some same,
                ap (option_and_then (λ (q : Record). begun_turn q.body)) stands ∙ e
                    ∙ ap (λ (t : ℕ). Some (t, b.1)) is,
              ))
          | inr apart ↦
              subst Q
              (sym (ap (λ c. cond c b.1 (turn_in task (part_of rs thread m))) (ne_eqb b.0 task apart)))
              kept
        ]

-- ---- no gap

told_right : (o : Option Turns) (turn : ℕ) (told : Turns) → (IsSomeAnd o (λ t. t.prior ≢ turn) → ⊥)
    → o ≡ Some told → told.prior ≡ turn
told_right None turn told right is = absurd (none-some told is)
told_right (Some t) turn told right is = elim (cases_eq t.prior turn) [
  | inl same ↦ ap (λ (u : Turns). u.prior) (sym (same_Some t told is)) ∙ same
  | inr apart ↦ absurd (right apart)
]

keeps_gapless : (rs : List Record) (i turn : ℕ) (r : Record) → slice_get rs i ≡ Some r → turn ≡ turn_at rs i
    → (IsSomeAnd (told_turns r.body) (λ t. t.prior ≢ turn) → ⊥) → at begun_turn rs i ≡ None → HasTurnGap rs i
    → ⊥
keeps_gapless rs i turn r stands is right none = by (told_turns r.body) refl
  where
    by : (o : Option Turns) → told_turns r.body ≡ o → HasTurnGap rs i → ⊥
    by None untold = untold_none rs i r stands untold
    by (Some told) tells =
        no_start_none rs i r told stands tells (told_right (told_turns r.body) turn told right tells ∙ is)
        (sym (ap (option_and_then (λ (q : Record). begun_turn q.body)) stands) ∙ none)

starts_gapless : (rs : List Record) (i task next turn : ℕ) (r : Record) (known : Latest)
    → IsFreeOf rs CreatedTwice → slice_get rs i ≡ Some r → IsLatestTurn rs i task known → turn ≡ turn_at rs i
    → (IsSomeAnd (told_turns r.body) (λ t. t.prior ≢ turn) → ⊥) → BeginsTurn rs i task next
    → MayBegin rs task r.body known next → HasTurnGap rs i → ⊥
starts_gapless rs i task next turn r known once stands old is right begins (may_untold untold later) gap =
    untold_none rs i r stands untold gap
starts_gapless rs i task next turn r known once stands old is right begins (may_next follows explicit) gap =
    by gap
  where
    pair_is : (other later : ℕ) → TellsStart rs i other later → ◌≡◌ {A = ℕ × ℕ} (other, later) (task, next)
    pair_is other later tells = of (begins_cases rs i task next begins)
      where
        of : (at begun_turn rs i ≡ Some (task, next)) ⊎ ((next ≡ 0) × (at begun_root rs i ≡ Some task))
            → ◌≡◌ {A = ℕ × ℕ} (other, later) (task, next)
        of (inl is') = same_Some (other, later) (task, next) (sym tells.1 ∙ is')
        of (inr (first, root)) = absurd (tells.0 (root_there rs i task root).1)

    -- an earlier record of the task began an earlier turn
    before : (k later : ℕ) → k < i → at begun_turn rs k ≡ Some (task, later) → later < next
    before k later below began = less follows
      where
        less : IsNext known next → later < next
        less (next_first none first) = absurd (old.none none k later below (runs began))
        less (next_later last is_last more) =
            let low = old.bound k later below (runs began) in
            let e = some_now known last is_last in omega (arith, low, e, more)

    by : HasTurnGap rs i → ⊥
    by (other_turn told says other) =
        other
        (told_right (told_turns r.body) turn told right
        (sym (ap (option_and_then (λ (q : Record). told_turns q.body)) stands) ∙ says)
        ∙ is)
    by (begun_again other later k tells below began) =
        let less = before k next below (began ∙ ap (λ (p : ℕ × ℕ). Some p) (pair_is other later tells)) in
        absurd (omega (arith, less))
    by (falling other turn' k later tells below by_thread began less) =
        let same = pair_is other turn' tells in
        let is_turn = ap (λ (p : ℕ × ℕ). p.1) same in
        let low = before k later below (began ∙ ap (λ (p : ℕ × ℕ). Some (p.0, later)) same) in
        absurd (omega (arith, less, low, is_turn))
    by (of_root other tells root) =
        let same = pair_is other 0 tells in
        explicit_not_root rs task once (explicit (sym (ap (λ (p : ℕ × ℕ). p.1) same)))
        (subst (IsRoot rs) (ap (λ (p : ℕ × ℕ). p.0) same) root)
    by (missing other before_it tells never) = lacks follows
      where
        same : ◌≡◌ {A = ℕ × ℕ} (other, before_it + 1) (task, next)
        same = pair_is other (before_it + 1) tells

        lacks : IsNext known next → ⊥
        lacks (next_first none first) =
            let e = ap (λ (p : ℕ × ℕ). p.1) same in absurd (omega (arith, e, first))
        lacks (next_later last is_last more) =
            let e = ap (λ (p : ℕ × ℕ). p.1) same in
            let last_is : last ≡ before_it = omega (arith, e, more) in
            let began = old.begun last is_last in
            never began.0
            (subst (λ t. BeginsTurn rs began.0 t before_it) (sym (ap (λ (p : ℕ × ℕ). p.0) same))
            (subst (BeginsTurn rs began.0 task) last_is began.2))

-- where turns are told, only the next one may
pub next_may_follow : (rs : List Record) (task next : ℕ) (b : Body) (known : Latest) → told_turns b ≢ None
    → MayBegin rs task b known next → IsNext known next × (next ≡ 0 → IsExplicit rs task)
next_may_follow rs task next b known told (may_untold untold later) = absurd (told untold)
next_may_follow rs task next b known told (may_next follows explicit) = (follows, explicit)

-- no later turn is known than one that may begin
pub may_later : (rs : List Record) (task next : ℕ) (b : Body) (known : Latest) → MayBegin rs task b known next
    → turn_now known ≤ next
may_later rs task next b known (may_untold untold later) = later
may_later rs task next b known (may_next (next_first none first) explicit) =
    let e = none_now known none in omega (arith, e)
may_later rs task next b known (may_next (next_later last is more) explicit) =
    let e = some_now known last is in omega (arith, e, more)

-- ---- what is told of one record

own_in_order : (rs : List Record) (i turn : ℕ) → IsTurnThere rs i turn → (task : ℕ)
    → at running rs i ≡ Some task → NoneLater rs i task (turn_at rs i)
own_in_order rs i turn there task own k later below begins =
    let low = there.bound task own k later below begins in let e = there.is in omega (arith, low, e)

pub step_keeps : (rs : List Record) (i turn : ℕ) (r : Record) (tasks : List ℕ) (latest : List Latest)
    → i < length rs → r ≡ get_or rs i r → AreLatestTurns rs i tasks latest → IsTurnThere rs i turn
    → (IsSomeAnd (told_turns r.body) (λ t. t.prior ≢ turn) → ⊥) → BeginsNone rs i → IsStepOn rs i tasks latest
step_keeps rs i turn r tasks latest within read are there right none = record {
  known = latest_keep rs i r tasks latest within read are none;
  gapless = keeps_gapless rs i turn r (read_get rs i r within read) there.is right (none_starts rs i none);
  in_order = record {
    own = own_in_order rs i turn there;
    begins = λ task turn' begins. absurd (none task turn' begins);
  };
}

pub step_starts : (rs : List Record) (i index next turn : ℕ) (r : Record) (family : FamilyView)
    (latest : List Latest) (known : Latest)
    → i < length rs → r ≡ get_or rs i r → IsFamilyOf rs family → AreLatestTurns rs i family.tasks latest
    → IsTurnThere rs i turn → (IsSomeAnd (told_turns r.body) (λ t. t.prior ≢ turn) → ⊥)
    → slice_get latest index ≡ Some known → (begin : IsTurnBegin rs family.tasks i index next)
    → MayBegin rs begin.task r.body known next
    → IsStepOn rs i family.tasks (set latest index (record { turn = Some next; thread = r.thread }))
step_starts rs i index next turn r family latest known within read is_family are there right is begin may =
    record {
      known =
          latest_start rs i index begin.task next r family.tasks latest known within read
          is_family.makers.apart
          are begin.begins begin.indexed is (may_later rs begin.task next r.body known may);
      gapless =
          starts_gapless rs i begin.task next turn r known is_family.once (read_get rs i r within read) old
          there.is right begin.begins may;
      in_order = record { own = own_in_order rs i turn there; begins = begins };
    }
  where
    old : IsLatestTurn rs i begin.task known
    old = are.each index begin.task known begin.indexed is

    begins : (task turn' : ℕ) → BeginsTurn rs i task turn' → NoneLater rs i task turn'
    begins task turn' begun k later below before =
        by (begins_cases rs i begin.task next begin.begins) (begins_cases rs i task turn' begun)
      where
        alike : begin.task ≡ task → next ≡ turn' → later ≤ turn'
        alike same_task same_turn =
            let low = old.bound k later below (subst (λ t. BeginsTurn rs k t later) (sym same_task) before) in
            let up = may_later rs begin.task next r.body known may in
            omega (arith, low, up, same_turn)

        by : (at begun_turn rs i ≡ Some (begin.task, next))
            ⊎ ((next ≡ 0) × (at begun_root rs i ≡ Some begin.task))
            → (at begun_turn rs i ≡ Some (task, turn')) ⊎ ((turn' ≡ 0) × (at begun_root rs i ≡ Some task))
            → later ≤ turn'
        by (inl one) (inl other) =
            let e = same_Some {A = ℕ × ℕ} (begin.task, next) (task, turn') (sym one ∙ other) in
            alike (ap (λ (p : ℕ × ℕ). p.0) e) (ap (λ (p : ℕ × ℕ). p.1) e)
        by (inl one) (inr (first, root)) =
            absurd (none-some (begin.task, next) (sym (root_there rs i task root).0 ∙ one))
        by (inr (first, root)) (inl other) =
            absurd (none-some (task, turn') (sym (root_there rs i begin.task root).0 ∙ other))
        by (inr (first, root)) (inr (first', root')) =
            alike (same_Some begin.task task (sym root ∙ root')) (first ∙ sym first')

-- ---- where the pass gives up, a record has a gap or is not in order

-- the same turn of a task does not begin on two threads
begun_once : (rs : List Record) (task turn a b : ℕ) → IsFreeOf rs TurnGap → 0 < turn
    → at begun_turn rs a ≡ Some (task, turn) → at begun_turn rs b ≡ Some (task, turn) → a ≡ b
begun_once rs task turn a b free more one other = elim (cases_order a b) [
  | inl same ↦ same
  | inr (inl less) ↦
      absurd
      (free b (turn_gap (begun_again task turn a (told_later rs b task turn other more, other) less one)))
  | inr (inr above) ↦
      absurd
      (free a (turn_gap (begun_again task turn b (told_later rs a task turn one more, one) above other)))
]

pub off_thread : (rs : List Record) (i task : ℕ) (r : Record) (known : Latest) → slice_get rs i ≡ Some r
    → IsLatestTurn rs i task known → at running rs i ≡ Some task → turn_now known ≢ 0
    → r.thread ≢ known.thread
    → AreTurnsInOrder rs → IsFreeOf rs TurnGap → ⊥
off_thread rs i task r known stands old own later apart order free = by known.turn refl
  where
    by : (o : Option ℕ) → known.turn ≡ o → ⊥
    by None is = later (none_now known is)
    by (Some turn) is =
        let now_is = some_now known turn is in
        let began = old.begun turn is in
        let here = turn_here rs i task r stands (own_body rs i task r stands own) in
        let low = (order i).own task own began.0 turn began.1 began.2 in
        let more : 0 < turn_in task (part_of rs r.thread i) = omega (arith, low, here, now_is, later) in
        let last = turn_began rs task r.thread i more in
        let high = old.bound last.0 (turn_in task (part_of rs r.thread i)) last.1 (runs last.3) in
        let same : turn_in task (part_of rs r.thread i) ≡ turn = omega (arith, low, high, here, now_is) in
        elim (began.3) [
          | inl first ↦ absurd (omega (arith, first, now_is, later))
          | inr made ↦ elim (begins_cases rs began.0 task turn began.2) [
            | inr (first, root) ↦ absurd (omega (arith, first, now_is, later))
            | inl begins ↦
                let e =
                begun_once rs task turn last.0 began.0 free (omega (arith, now_is, later))
                (last.3 ∙ ap (λ (t : ℕ). Some (task, t)) same) begins in
                absurd (apart (same_Some r.thread known.thread (sym last.2 ∙ ap (thread_at rs) e ∙ made)))
          ]
        ]

pub other_told : (rs : List Record) (i turn : ℕ) (r : Record) → slice_get rs i ≡ Some r → turn ≡ turn_at rs i
    → IsSomeAnd (told_turns r.body) (λ t. t.prior ≢ turn) → IsFreeOf rs TurnGap → ⊥
other_told rs i turn r stands is other free = by (told_turns r.body) refl other
  where
    by : (o : Option Turns) → told_turns r.body ≡ o → IsSomeAnd o (λ t. t.prior ≢ turn) → ⊥
    by None e never = absurd never
    by (Some told) e apart =
        free i
        (turn_gap
        (other_turn told (ap (option_and_then (λ (q : Record). told_turns q.body)) stands ∙ e)
        (λ same. apart (same ∙ sym is))))

pub root_or_explicit : (rs : List Record) (family : FamilyView) (index task : ℕ) → IsFamilyOf rs family
    → slice_get family.tasks index ≡ Some task → IsRoot rs task ⊎ IsExplicit rs task
root_or_explicit rs family index task is stands =
    let made_there = is.noted.only task (get_contains family.tasks task index stands) in
    by (slice_get rs made_there.0) refl made_there.2
  where
    by : (o : Option Record)
        → slice_get rs (is.noted.only task (get_contains family.tasks task index stands)).0 ≡ o
        → option_and_then (λ (r : Record). Rattle.ompt_events.specs.Records.made r.body) o ≡ Some task
        → IsRoot rs task ⊎ IsExplicit rs task
    by None e none = absurd (none-some task none)
    by (Some r) e makes = elim (made_cases task r.body makes) [
      | inl root ↦
          inl (
            (is.noted.only task (get_contains family.tasks task index stands)).0,
            ap (option_and_then (λ (q : Record). begun_root q.body)) e ∙ root,
          )
      | inr creates ↦
          inr (
            (is.noted.only task (get_contains family.tasks task index stands)).0,
            ap (option_and_then (λ (q : Record). created q.body)) e ∙ creates,
          )
    ]

pub must_begin : (rs : List Record) (i index next : ℕ) (r : Record) (family : FamilyView) (known : Latest)
    → slice_get rs i ≡ Some r → IsFamilyOf rs family → (begin : IsTurnBegin rs family.tasks i index next)
    → IsLatestTurn rs i begin.task known → AreTurnsInOrder rs → IsFreeOf rs TurnGap
    → MayBegin rs begin.task r.body known next
must_begin rs i index next r family known stands is_family begin old order free = by (told_turns r.body) refl
  where
    task : ℕ
    task = begin.task

    -- an earlier turn that is known is no later one
    known_low : (turn : ℕ) → known.turn ≡ Some turn → turn ≤ next
    known_low turn is =
        let began = old.begun turn is in (order i).begins task next begin.begins began.0 turn began.1 began.2

    -- no record begins the turn before, unless an earlier one does
    not_before : (turn : ℕ) → next ≡ turn + 1 → ((k : ℕ) → k < i → BeginsTurn rs k task turn → ⊥) → (k : ℕ)
        → BeginsTurn rs k task turn → ⊥
    not_before turn is never k begins = elim (cases_order k i) [
      | inl same ↦
          let e =
          one_begin rs i task turn next (subst (λ j. BeginsTurn rs j task turn) same begins)
          begin.begins in
          absurd (omega (arith, e, is))
      | inr (inl below) ↦ never k below begins
      | inr (inr above) ↦
          let low = (order k).begins task turn begins i next above begin.begins in
          absurd (omega (arith, low, is))
    ]

    by : (o : Option Turns) → told_turns r.body ≡ o → MayBegin rs task r.body known next
    by None untold = may_untold untold (low known.turn refl)
      where
        low : (o : Option ℕ) → known.turn ≡ o → turn_now known ≤ next
        low None is = let e = none_now known is in omega (arith, e)
        low (Some turn) is =
            let e = some_now known turn is in let up = known_low turn is in omega (arith, e, up)
    by (Some told) tells = of (begins_cases rs i task next begin.begins)
      where
        of : (at begun_turn rs i ≡ Some (task, next)) ⊎ ((next ≡ 0) × (at begun_root rs i ≡ Some task))
            → MayBegin rs task r.body known next
        of (inr (first, root)) =
            absurd
            (none-some told
            (sym (root_there rs i task root).1
            ∙ ap (option_and_then (λ (q : Record). told_turns q.body)) stands ∙ tells))
        of (inl begins) =
            may_next (follows known.turn refl)
            (λ first. not_root first (root_or_explicit rs family index task is_family begin.indexed))
          where
            start : TellsStart rs i task next
            start = (
              λ none.
                  none-some told
                  (sym none ∙ ap (option_and_then (λ (q : Record). told_turns q.body)) stands ∙ tells),
              begins,
            )

            not_root : next ≡ 0 → IsRoot rs task ⊎ IsExplicit rs task → IsExplicit rs task
            not_root first (inl root) =
                absurd (free i (turn_gap (of_root task (subst (TellsStart rs i task) first start) root)))
            not_root first (inr explicit) = explicit

            lacks : (turn : ℕ) → next ≡ turn + 1 → ((k : ℕ) → k < i → BeginsTurn rs k task turn → ⊥) → ⊥
            lacks turn is never =
                free i
                (turn_gap
                (missing task turn (subst (TellsStart rs i task) is start)
                (not_before turn is never)))

            not_again : (turn : ℕ) → known.turn ≡ Some turn → turn ≡ next → ⊥
            not_again turn is same =
                let began = old.begun turn is in
                elim (begins_cases rs began.0 task turn began.2) [
                  | inl before ↦
                      free i
                      (turn_gap
                      (begun_again task next began.0 start began.1
                      (before ∙ ap (λ (t : ℕ). Some (task, t)) same)))
                  | inr (first, root) ↦
                      free i
                      (turn_gap
                      (of_root task (subst (TellsStart rs i task) (sym same ∙ first) start)
                      (began.0, root)))
                ]

            follows : (o : Option ℕ) → known.turn ≡ o → IsNext known next
            follows None is = elim (cases_eq next 0) [
              | inl first ↦ next_first is first
              | inr more ↦
                  absurd
                  (lacks (next - 1) (omega (arith, more))
                  (λ k below begun. old.none is k (next - 1) below begun))
            ]
            follows (Some turn) is = elim (cases_order next (turn + 1)) [
              | inl same ↦ next_later turn is same
              | inr (inl less) ↦
                  absurd (not_again turn is (let low = known_low turn is in omega (arith, less, low)))
              | inr (inr above) ↦
                  absurd
                  (lacks (next - 1) (omega (arith, above))
                  (λ k below begun.
                  let low = old.bound k (next - 1) below begun in
                  let e = some_now known turn is in absurd (omega (arith, low, e, above))))
            ]

-- ---- all records

pub untold_in_order : (rs : List Record) → TellsNoTurns rs → AreTurnsInOrder rs
untold_in_order rs untold i = record {
  own = λ task own k later below begins. let first = zero_turn k task later begins in omega (arith, first);
  begins =
      λ task turn begins k later below before.
      let first = zero_turn k task later before in omega (arith, first);
}
  where
    zero_turn : (k task turn : ℕ) → BeginsTurn rs k task turn → turn ≡ 0
    zero_turn k task turn begins = elim (begins_cases rs k task turn begins) [
      | inl is ↦ begun_zero rs k task turn untold is
      | inr (first, root) ↦ first
    ]

pub in_order_rise : (rs : List Record) → AreTurnsInOrder rs → TurnsRise rs
in_order_rise rs order task i k one other less = by (slice_get rs i) refl
  where
    own : at running rs i ≡ Some task
    own = own_running rs task i one

    by : (o : Option Record) → slice_get rs i ≡ o → turn_at rs i ≤ turn_at rs k
    by None e = absurd (none-some task (sym (ap (option_and_then (λ (r : Record). running r.body)) e) ∙ own))
    by (Some r) stands =
        let here = turn_here rs i task r stands (own_body rs i task r stands own) in
        elim (cases_lt 0 (turn_in task (part_of rs r.thread i))) [
          | inl more ↦
              let began = turn_began rs task r.thread i more in
              let low =
              (order k).own task (own_running rs task k other) began.0
              (turn_in task (part_of rs r.thread i))
              (let below = began.1 in omega (arith, below, less)) (runs began.3) in
              omega (arith, low, here)
          | inr first ↦ omega (arith, first, here)
        ]

-- the records past the last are in order
pub all_in_order : (rs : List Record) (n : ℕ) → length rs ≤ n → ((k : ℕ) → k < n → IsInOrder rs k)
    → AreTurnsInOrder rs
all_in_order rs n past order i = elim (cases_lt i n) [
  | inl below ↦ order i below
  | inr beyond ↦ record {
    own =
        λ task own.
        let within = at_within running rs i task own in absurd (omega (arith, within, past, beyond));
    begins = λ task turn begins. absurd (nothing task turn (begins_cases rs i task turn begins) beyond);
  }
]
  where
    nothing : (task turn : ℕ)
        → (at begun_turn rs i ≡ Some (task, turn)) ⊎ ((turn ≡ 0) × (at begun_root rs i ≡ Some task)) → n ≤ i
        → ⊥
    nothing task turn (inl is) beyond =
        let within = at_within begun_turn rs i (task, turn) is in absurd (omega (arith, within, past, beyond))
    nothing task turn (inr (first, root)) beyond =
        let within = at_within begun_root rs i task root in absurd (omega (arith, within, past, beyond))
