-- How far a task has come, one move on.
use Rattle.std.proofs.Common.{◌≡◌, ◌≢◌, ◌∙◌, ℕ, ◌<◌, ◌≤◌, ◌+◌, List, [], ◌∷◌, ◌++◌, length, get_or, take}
use Rattle.std.proofs.Common.{Option, Some, None, Bool, true, false, cond, refl, sym, ap, subst, arith, inl}
use Rattle.std.proofs.Common.{inr, ◌⊎◌}
use Rattle.std.proofs.lemmas.Bool.{cases_eq, cases_lt, eq-eqb, ne_eqb, false≢true, lt-ltb, le-ltb}
use Rattle.std.proofs.lemmas.Option.{none-some, same_Some, slice_get_within, get_or_from_slice_get}
use Rattle.std.proofs.lemmas.List.{get_or_default, append-nil, length-set, length_push, take-append-le}
use Rattle.std.proofs.lemmas.List.{take_all, get_or-set_same, get_or-set_other}
use Rattle.std.proofs.Math.Seq.{take-length}
use Rattle.std.proofs.lemmas.List.Sums.{fold_push}
use Rattle.std.proofs.Math.ListN.{set}
use Rattle.std.specs.Prelude.{◌==◌, ◌&&◌, IsTrue, is_some, slice_get, Contains, IsSomeAnd}
use Rattle.ompt_events.specs.declared.records.Record.{Record}
use Rattle.ompt_events.specs.declared.state.State.{State}
use Rattle.ompt_events.specs.States.{Move, Nature, nature_of, state_of, state_after}
use Rattle.ompt_events.proofs.ListLemmas.{get_pushed, get_last, pushed_cases, get_contains}
use Rattle.task_states.specs.declared.progress.Pass.{Pass}
use Rattle.index_tables.specs.Numbering.{AreApart}
use Rattle.task_tree.proofs.LinkLemmas.{get_set_same, get_set_other}
use Rattle.task_states.specs.declared.moves.Nature as code
use Rattle.task_states.specs.declared.moves.Move as steps
use Rattle.task_states.specs.Progress.{the_nature, the_move, is_read, and_move, ProgressView, HasCome}
use Rattle.task_states.specs.Progress.{IsMoveRefused, earlier_of, refused_after, marks_after}

-- ---- the first move that is refused

-- one more move after it changes nothing
pub refused_still : (nature : Nature) (moves : List (ℕ × Move)) (step : ℕ × Move) (i : ℕ)
    → IsMoveRefused nature moves i → IsMoveRefused nature (moves ++ step ∷ []) i
refused_still nature moves step i is =
    let within = slice_get_within moves is.number (i, is.move) is.made_there in
    record {
      number = is.number;
      move = is.move;
      made_there = get_pushed moves step (i, is.move) is.number is.made_there;
      allowed =
          ap (λ l. is_some (state_of nature l))
          (take-append-le is.number moves (step ∷ []) (omega (arith, within)))
          ∙ is.allowed;
      not_allowed =
          ap (state_of nature) (take-append-le (is.number + 1) moves (step ∷ []) (omega (arith, within)))
          ∙ is.not_allowed;
    }

-- the last move is refused where the state before it is some and the one after it is none
pub refused_last : (nature : Nature) (moves : List (ℕ × Move)) (i : ℕ) (move : Move)
    → is_some (state_of nature moves) ≡ true → state_after nature (state_of nature moves) (i, move) ≡ None
    → IsMoveRefused nature (moves ++ (i, move) ∷ []) i
refused_last nature moves i move before after =
    let longer = length_push moves (i, move) in
    record {
      number = length moves;
      move = move;
      made_there = get_last moves (i, move) (length moves) refl;
      allowed =
          ap (λ l. is_some (state_of nature l))
          (take-append-le (length moves) moves ((i, move) ∷ []) (omega arith) ∙ take-length moves)
          ∙ before;
      not_allowed =
          ap (state_of nature) (take_all (length moves + 1) (moves ++ (i, move) ∷ []) (omega (arith, longer)))
          ∙ fold_push (state_after nature) _ moves (i, move) ∙ after;
    }

-- what is refused with one more move was refused before, or is that move
pub refused_cases : (nature : Nature) (moves : List (ℕ × Move)) (i k : ℕ) (move : Move)
    → IsMoveRefused nature (moves ++ (k, move) ∷ []) i
    → IsMoveRefused nature moves i
    ⊎ ((i ≡ k) × (is_some (state_of nature moves) ≡ true)
    × (state_after nature (state_of nature moves) (k, move) ≡ None))
refused_cases nature moves i k move is =
    elim (pushed_cases moves (k, move) (i, is.move) is.number is.made_there) [
      | inl old ↦
          let within = slice_get_within moves is.number (i, is.move) old in
          inl (record {
            number = is.number;
            move = is.move;
            made_there = old;
            allowed =
                sym
                (ap (λ l. is_some (state_of nature l))
                (take-append-le is.number moves ((k, move) ∷ []) (omega (arith, within))))
                ∙ is.allowed;
            not_allowed =
                sym
                (ap (state_of nature)
                (take-append-le (is.number + 1) moves ((k, move) ∷ []) (omega (arith, within))))
                ∙ is.not_allowed;
          })
      | inr (last, same) ↦
          let longer = length_push moves (k, move) in
          inr (
            ap (λ (p : ℕ × Move). p.0) (sym same),
            sym
                (ap (λ l. is_some (state_of nature l))
                (ap (λ n. take n (moves ++ (k, move) ∷ [])) last
                ∙ take-append-le (length moves) moves ((k, move) ∷ []) (omega arith) ∙ take-length moves))
                ∙ is.allowed,
            sym (fold_push (state_after nature) _ moves (k, move))
                ∙ sym
                (ap (state_of nature)
                (take_all (is.number + 1) (moves ++ (k, move) ∷ []) (omega (arith, last, longer))))
                ∙ is.not_allowed,
          )
    ]

-- ---- the first place of all

earlier_at : (first : Option ℕ) (at : ℕ) → earlier_of first at ≤ at
earlier_at None at = omega arith
earlier_at (Some first) at = elim (cases_lt first at) [
  | inl below ↦ subst (λ b. cond b first at ≤ at) (sym (lt-ltb first at below)) (omega (arith, below))
  | inr above ↦ subst (λ b. cond b first at ≤ at) (sym (le-ltb first at above)) (omega arith)
]

earlier_first : (first at : ℕ) → earlier_of (Some first) at ≤ first
earlier_first first at = elim (cases_lt first at) [
  | inl below ↦ subst (λ b. cond b first at ≤ first) (sym (lt-ltb first at below)) (omega arith)
  | inr above ↦ subst (λ b. cond b first at ≤ first) (sym (le-ltb first at above)) above
]

-- it is one of the two
earlier_cases : (first : Option ℕ) (at i : ℕ) → earlier_of first at ≡ i → (first ≡ Some i) ⊎ (at ≡ i)
earlier_cases None at i is = inr is
earlier_cases (Some first) at i is = elim (cases_lt first at) [
  | inl below ↦ inl (ap Some (sym (ap (λ b. cond b first at) (lt-ltb first at below)) ∙ is))
  | inr above ↦ inr (sym (ap (λ b. cond b first at) (le-ltb first at above)) ∙ is)
]

-- after a move the first place is the old one, or the move's
pub after_cases : (refused : Option ℕ) (before after : Option State) (at i : ℕ)
    → refused_after refused before after at ≡ Some i
    → (refused ≡ Some i) ⊎ ((at ≡ i) × (is_some before ≡ true) × (after ≡ None))
after_cases refused None after at i is = inl is
after_cases refused (Some state) (Some next) at i is = inl is
after_cases refused (Some state) None at i is =
    elim (earlier_cases refused at i (same_Some (earlier_of refused at) i is)) [
      | inl old ↦ inl old
      | inr new ↦ inr (new, refl, refl)
    ]

-- and not later than either
pub after_old : (refused : Option ℕ) (before after : Option State) (at i : ℕ)
    → IsSomeAnd refused (λ first. first ≤ i)
    → IsSomeAnd (refused_after refused before after at) (λ first. first ≤ i)
after_old refused None after at i least = least
after_old refused (Some state) (Some next) at i least = least
after_old None (Some state) None at i least = absurd least
after_old (Some first) (Some state) None at i least =
    let less = earlier_first first at in omega (arith, least, less)

pub after_new : (refused : Option ℕ) (before after : Option State) (at : ℕ) → is_some before ≡ true
    → after ≡ None → IsSomeAnd (refused_after refused before after at) (λ first. first ≤ at)
after_new refused None after at is none = absurd (false≢true is)
after_new refused (Some state) (Some next) at is none = absurd (none-some next (sym none))
after_new refused (Some state) None at is none = earlier_at refused at

-- ---- the marks

mark_long : (marks : List Bool) (before after : Option State) (at : ℕ)
    → length (marks_after marks before after at) ≡ length marks
mark_long marks None after at = refl
mark_long marks (Some state) (Some next) at = refl
mark_long marks (Some state) None at = length-set marks at true

-- what is marked stays so
mark_kept : (marks : List Bool) (before after : Option State) (at i : ℕ) → i < length marks
    → IsTrue (get_or marks i false) → IsTrue (get_or (marks_after marks before after at) i false)
mark_kept marks None after at i within so = so
mark_kept marks (Some state) (Some next) at i within so = so
mark_kept marks (Some state) None at i within so = elim (cases_eq i at) [
  | inl same ↦
      ap (λ k. get_or (set marks at true) k false) same
      ∙ get_or-set_same marks at true false (subst (λ k. k < length marks) same within)
  | inr apart ↦ get_or-set_other marks at i true false apart ∙ so
]

-- a move that is refused is marked
mark_new : (marks : List Bool) (before after : Option State) (at : ℕ) → at < length marks
    → is_some before ≡ true → after ≡ None → IsTrue (get_or (marks_after marks before after at) at false)
mark_new marks None after at within is none = absurd (false≢true is)
mark_new marks (Some state) (Some next) at within is none = absurd (none-some next (sym none))
mark_new marks (Some state) None at within is none = get_or-set_same marks at true false within

-- and nothing else
mark_cases : (marks : List Bool) (before after : Option State) (at i : ℕ)
    → IsTrue (get_or (marks_after marks before after at) i false)
    → IsTrue (get_or marks i false) ⊎ ((at ≡ i) × (is_some before ≡ true) × (after ≡ None))
mark_cases marks None after at i so = inl so
mark_cases marks (Some state) (Some next) at i so = inl so
mark_cases marks (Some state) None at i so = elim (cases_eq at i) [
  | inl same ↦ inr (same, refl, refl)
  | inr apart ↦ inl (sym (get_or-set_other marks at i true false (λ e. apart (sym e))) ∙ so)
]

-- ---- all tasks

-- the moves, and one more of this task
abbrev pub and_one : ℕ → ℕ × Move → (ℕ → List (ℕ × Move)) → ℕ → List (ℕ × Move)
and_one task step moves other = moves other ++ cond (task == other) (step ∷ []) []

own : (task : ℕ) (step : ℕ × Move) (moves : ℕ → List (ℕ × Move))
    → and_one task step moves task ≡ moves task ++ step ∷ []
own task step moves = ap (λ b. moves task ++ cond b (step ∷ []) []) (eq-eqb task task refl)

others : (task other : ℕ) (step : ℕ × Move) (moves : ℕ → List (ℕ × Move)) → task ≢ other
    → and_one task step moves other ≡ moves other
others task other step moves apart =
    ap (λ b. moves other ++ cond b (step ∷ []) []) (ne_eqb task other apart) ∙ append-nil (moves other)

pub went_on : (rs : List Record) (tasks : List ℕ) (index task at : ℕ) (nature : Nature) (move : Move)
    (moves : ℕ → List (ℕ × Move)) (old new : ProgressView)
    → ((k : ℕ) → slice_get tasks k ≡ Some task → k ≡ index) → slice_get tasks index ≡ Some task
    → nature ≡ nature_of rs task
    → new.states ≡ set old.states index (state_after nature (get_or old.states index None) (at, move))
    → new.refused
    ≡ refused_after old.refused (get_or old.states index None)
    (state_after nature (get_or old.states index None) (at, move)) at
    → new.marks
    ≡ marks_after old.marks (get_or old.states index None)
    (state_after nature (get_or old.states index None) (at, move)) at
    → HasCome rs tasks moves old → HasCome rs tasks (and_one task (at, move) moves) new
went_on rs tasks index task at nature move moves old new alone stands is states refused marks come = record {
  all = ap length states ∙ length-set old.states index after ∙ come.all;
  each = λ n other is_other. elim (cases_eq n index) [
    | inl same ↦
        let own_task : task ≡ other =
        same_Some task other (sym stands ∙ ap (slice_get tasks) (sym same) ∙ is_other) in
        ap (λ l. slice_get l n) states ∙ ap (slice_get (set old.states index after)) same
        ∙ get_set_same old.states index after (omega (arith, inside, come.all))
        ∙ ap Some (goes ∙ ap (λ t. state_of (nature_of rs t) (and_one task (at, move) moves t)) own_task)
    | inr apart ↦
        let differs : task ≢ other = λ same. apart (alone n (is_other ∙ ap Some (sym same))) in
        ap (λ l. slice_get l n) states ∙ get_set_other old.states index n after apart
        ∙ come.each n other is_other
        ∙ ap (λ l. Some (state_of (nature_of rs other) l)) (sym (others task other (at, move) moves differs))
  ];
  found = λ i says. elim (after_cases old.refused before after at i (sym refused ∙ says)) [
    | inl still ↦ let known = come.found i still in (known.0, kept known.0 i known.1)
    | inr (here, was, none) ↦ (
      task,
      subst (λ l. IsMoveRefused (nature_of rs task) l i) (sym (own task (at, move) moves))
          (subst (λ k. IsMoveRefused (nature_of rs task) (moves task ++ (at, move) ∷ []) k) here
          (last i here was none)),
    )
  ];
  least = λ other i known refuses. elim (cases_eq task other) [
    | inl same ↦
        elim
        (refused_cases (nature_of rs task) (moves task) i at move
        (subst (λ l. IsMoveRefused (nature_of rs task) l i) (own task (at, move) moves)
        (subst (λ t. IsMoveRefused (nature_of rs t) (and_one task (at, move) moves t) i) (sym same)
        refuses))) [
          | inl before_it ↦
              subst (λ r. IsSomeAnd r (λ first. first ≤ i)) (sym refused)
              (after_old old.refused before after at i
              (come.least task i (subst (Contains tasks) (sym same) known) before_it))
          | inr (here, was, none) ↦
              subst (λ r. IsSomeAnd r (λ first. first ≤ i)) (sym refused)
              (subst (λ k. IsSomeAnd (refused_after old.refused before after at) (λ first. first ≤ k))
              (sym here)
              (after_new old.refused before after at (ap is_some stood ∙ was) (afterwards ∙ none)))
        ]
    | inr apart ↦
        subst (λ r. IsSomeAnd r (λ first. first ≤ i)) (sym refused)
        (after_old old.refused before after at i
        (come.least other i known
        (subst (λ l. IsMoveRefused (nature_of rs other) l i)
        (others task other (at, move) moves apart) refuses)))
  ];
  marked = λ i within.
      let low : i < length old.marks =
      subst (λ n. i < n) (ap length marks ∙ mark_long old.marks before after at) within in (
        λ so. elim (mark_cases old.marks before after at i (sym (ap (λ l. get_or l i false) marks) ∙ so)) [
          | inl still ↦
              let (other, known, refuses) = (come.marked i low).0 still in
              (other, known, kept other i refuses)
          | inr (here, was, none) ↦ (
            task,
            get_contains tasks task index stands,
            subst (λ l. IsMoveRefused (nature_of rs task) l i) (sym (own task (at, move) moves))
                (subst (λ k. IsMoveRefused (nature_of rs task) (moves task ++ (at, move) ∷ []) k) here
                (last i here was none)),
          )
        ],
        λ (other, known, refuses).
            ap (λ l. get_or l i false) marks ∙ marked_there i low other known refuses,
      );
}
  where
    before : Option State
    before = get_or old.states index None

    after : Option State
    after = state_after nature before (at, move)

    inside : index < length tasks
    inside = slice_get_within tasks index task stands

    stood : before ≡ state_of (nature_of rs task) (moves task)
    stood =
        get_or_from_slice_get old.states index (state_of (nature_of rs task) (moves task)) None
        (come.each index task stands)

    afterwards : after
        ≡ state_after (nature_of rs task) (state_of (nature_of rs task) (moves task)) (at, move)
    afterwards =
        ap (λ k. state_after k before (at, move)) is
        ∙ ap (λ s. state_after (nature_of rs task) s (at, move)) stood

    goes : after ≡ state_of (nature_of rs task) (and_one task (at, move) moves task)
    goes =
        afterwards ∙ sym (fold_push (state_after (nature_of rs task)) _ (moves task) (at, move))
        ∙ ap (state_of (nature_of rs task)) (sym (own task (at, move) moves))

    last : (i : ℕ) → at ≡ i → is_some before ≡ true → after ≡ None
        → IsMoveRefused (nature_of rs task) (moves task ++ (at, move) ∷ []) at
    last i here was none =
        refused_last (nature_of rs task) (moves task) at move (sym (ap is_some stood) ∙ was)
        (sym afterwards ∙ none)

    marked_there : (i : ℕ) → i < length old.marks → (other : ℕ) → Contains tasks other
        → IsMoveRefused (nature_of rs other) (and_one task (at, move) moves other) i
        → IsTrue (get_or (marks_after old.marks before after at) i false)
    marked_there i low other known refuses = elim (cases_eq task other) [
      | inl same ↦
          elim
          (refused_cases (nature_of rs task) (moves task) i at move
          (subst (λ l. IsMoveRefused (nature_of rs task) l i) (own task (at, move) moves)
          (subst (λ t. IsMoveRefused (nature_of rs t) (and_one task (at, move) moves t) i) (sym same)
          refuses))) [
            | inl before_it ↦
                mark_kept old.marks before after at i low
                ((come.marked i low).1 (task, subst (Contains tasks) (sym same) known, before_it))
            | inr (here, was, none) ↦
                subst (λ k. IsTrue (get_or (marks_after old.marks before after at) k false)) (sym here)
                (mark_new old.marks before after at (subst (λ k. k < length old.marks) here low)
                (ap is_some stood ∙ was) (afterwards ∙ none))
          ]
      | inr apart ↦
          mark_kept old.marks before after at i low
          ((come.marked i low).1 (
            other,
            known,
            subst (λ l. IsMoveRefused (nature_of rs other) l i)
                (others task other (at, move) moves apart) refuses,
          ))
    ]

    kept : (other i : ℕ) → IsMoveRefused (nature_of rs other) (moves other) i
        → IsMoveRefused (nature_of rs other) (and_one task (at, move) moves other) i
    kept other i refuses = elim (cases_eq task other) [
      | inl same ↦
          subst (λ t. IsMoveRefused (nature_of rs t) (and_one task (at, move) moves t) i) same
          (subst (λ l. IsMoveRefused (nature_of rs task) l i) (sym (own task (at, move) moves))
          (refused_still (nature_of rs task) (moves task) (at, move) i
          (subst (λ t. IsMoveRefused (nature_of rs t) (moves t) i) (sym same) refuses)))
      | inr apart ↦
          subst (λ l. IsMoveRefused (nature_of rs other) l i) (sym (others task other (at, move) moves apart))
          refuses
    ]

-- ---- one move, as the code makes it

pub was_state : (inside now : List (Option State)) (index : ℕ) (read : Option State) (state : State)
    → inside ≡ now → index < length now → read ≡ get_or inside index read → read ≡ Some state
    → get_or now index None ≡ Some state
was_state inside now index read state same within is some =
    get_or_default now index None read within ∙ ap (λ l. get_or l index read) (sym same) ∙ sym is ∙ some

pub states_gone : (nature : code.Nature) (step : steps.Move) (states : List (Option State)) (index at : ℕ)
    (state : State) (after : Option State)
    → get_or states index None ≡ Some state
    → after ≡ state_after (the_nature nature) (Some state) (at, the_move step)
    → after ≡ state_after (the_nature nature) (get_or states index None) (at, the_move step)
states_gone nature step states index at state after before is =
    is ∙ ap (λ s. state_after (the_nature nature) s (at, the_move step)) (sym before)

pub refused_gone : (nature : code.Nature) (step : steps.Move) (states : List (Option State)) (index at : ℕ)
    (state : State) (after : Option State) (inside now : Option ℕ) {result : Option ℕ}
    → get_or states index None ≡ Some state
    → after ≡ state_after (the_nature nature) (Some state) (at, the_move step) → inside ≡ now
    → result ≡ refused_after inside (Some state) after at
    → result
    ≡ refused_after now (get_or states index None)
    (state_after (the_nature nature) (get_or states index None) (at, the_move step)) at
refused_gone nature step states index at state after inside now before is same first =
    first ∙ ap (λ r. refused_after r (Some state) after at) same
    ∙ ap (λ a. refused_after now (Some state) a at) is
    ∙ ap (λ s. refused_after now s (state_after (the_nature nature) s (at, the_move step)) at) (sym before)

pub marks_gone : (nature : code.Nature) (step : steps.Move) (states : List (Option State)) (index at : ℕ)
    (state : State) (after : Option State) (inside now : List Bool) {result : List Bool}
    → get_or states index None ≡ Some state
    → after ≡ state_after (the_nature nature) (Some state) (at, the_move step) → inside ≡ now
    → result ≡ marks_after inside (Some state) after at
    → result
    ≡ marks_after now (get_or states index None)
    (state_after (the_nature nature) (get_or states index None) (at, the_move step)) at
marks_gone nature step states index at state after inside now before is same first =
    first ∙ ap (λ r. marks_after r (Some state) after at) same
    ∙ ap (λ a. marks_after now (Some state) a at) is
    ∙ ap (λ s. marks_after now s (state_after (the_nature nature) s (at, the_move step)) at) (sym before)

-- ---- what a pass reads

-- the same moves, the same progress
pub come_same : (rs : List Record) (tasks : List ℕ) (moves moves' : ℕ → List (ℕ × Move))
    (progress : ProgressView)
    → ((task : ℕ) → moves' task ≡ moves task) → HasCome rs tasks moves progress
    → HasCome rs tasks moves' progress
come_same rs tasks moves moves' progress same come = record {
  all = come.all;
  each =
      λ n task stands.
      come.each n task stands ∙ ap (λ l. Some (state_of (nature_of rs task) l)) (sym (same task));
  found =
      λ i says.
      let known = come.found i says in
      (known.0, subst (λ l. IsMoveRefused (nature_of rs known.0) l i) (sym (same known.0)) known.1);
  least =
      λ task i known refuses.
      come.least task i known (subst (λ l. IsMoveRefused (nature_of rs task) l i) (same task) refuses);
  marked = λ i within. (
    λ so.
        let (task, known, refuses) = (come.marked i within).0 so in
        (task, known, subst (λ l. IsMoveRefused (nature_of rs task) l i) (sym (same task)) refuses),
    λ (task, known, refuses).
        (come.marked i within).1
        (task, known, subst (λ l. IsMoveRefused (nature_of rs task) l i) (same task) refuses),
  );
}

read_on : (pass : Pass) (rs : List Record) (at task : ℕ) (step : steps.Move) (moves : ℕ → List (ℕ × Move))
    → is_read pass rs task at ≡ true → (other : ℕ)
    → and_move pass rs at (Some task) step moves other ≡ and_one task (at, the_move step) moves other
read_on pass rs at task step moves reads other = elim (cases_eq task other) [
  | inl same ↦
      ap (λ b. moves other ++ cond b ((at, the_move step) ∷ []) [])
      (ap (λ t. is_read pass rs t at && (task == other)) (sym same)
      ∙ ap (λ b. b && (task == other)) reads)
  | inr apart ↦
      ap (λ b. moves other ++ cond b ((at, the_move step) ∷ []) [])
      (ap (λ b. is_read pass rs other at && b) (ne_eqb task other apart)
      ∙ and_false (is_read pass rs other at) ∙ sym (ne_eqb task other apart))
]
  where
    and_false : (b : Bool) → b && false ≡ false
    and_false true = refl
    and_false false = refl

read_off : (pass : Pass) (rs : List Record) (at task : ℕ) (step : steps.Move) (moves : ℕ → List (ℕ × Move))
    → is_read pass rs task at ≡ false → (other : ℕ)
    → and_move pass rs at (Some task) step moves other ≡ moves other
read_off pass rs at task step moves reads other = elim (cases_eq task other) [
  | inl same ↦
      ap (λ b. moves other ++ cond b ((at, the_move step) ∷ []) [])
      (ap (λ t. is_read pass rs t at && (task == other)) (sym same)
      ∙ ap (λ b. b && (task == other)) reads)
      ∙ append-nil (moves other)
  | inr apart ↦
      ap (λ b. moves other ++ cond b ((at, the_move step) ∷ []) [])
      (ap (λ b. is_read pass rs other at && b) (ne_eqb task other apart)
      ∙ and_false (is_read pass rs other at))
      ∙ append-nil (moves other)
]
  where
    and_false : (b : Bool) → b && false ≡ false
    and_false true = refl
    and_false false = refl

-- a record that the pass reads for the task moves it on
pub come_read : (pass : Pass) (rs : List Record) (tasks : List ℕ) (index task at : ℕ) (nature : code.Nature)
    (step : steps.Move) (moves : ℕ → List (ℕ × Move)) (old new : ProgressView)
    → AreApart tasks → slice_get tasks index ≡ Some task → the_nature nature ≡ nature_of rs task
    → is_read pass rs task at ≡ true
    → new.states
    ≡ set old.states index
    (state_after (the_nature nature) (get_or old.states index None) (at, the_move step))
    → new.refused
    ≡ refused_after old.refused (get_or old.states index None)
    (state_after (the_nature nature) (get_or old.states index None) (at, the_move step)) at
    → new.marks
    ≡ marks_after old.marks (get_or old.states index None)
    (state_after (the_nature nature) (get_or old.states index None) (at, the_move step)) at
    → HasCome rs tasks moves old → HasCome rs tasks (and_move pass rs at (Some task) step moves) new
come_read pass rs tasks index task at nature step moves old new apart stands same reads states refused marks
    come =
    come_same rs tasks (and_one task (at, the_move step) moves) (and_move pass rs at (Some task) step moves)
    new (read_on pass rs at task step moves reads)
    (went_on rs tasks index task at (the_nature nature) (the_move step) moves old new
    (λ k at_k. apart k index task at_k stands) stands same states refused marks come)

-- one that it does not read leaves all as it is
pub come_unread : (pass : Pass) (rs : List Record) (tasks : List ℕ) (task at : ℕ) (step : steps.Move)
    (moves : ℕ → List (ℕ × Move)) (progress : ProgressView)
    → is_read pass rs task at ≡ false → HasCome rs tasks moves progress
    → HasCome rs tasks (and_move pass rs at (Some task) step moves) progress
come_unread pass rs tasks task at step moves progress reads come =
    come_same rs tasks moves (and_move pass rs at (Some task) step moves) progress
    (read_off pass rs at task step moves reads) come

-- nor does a record of no task
pub come_none : (pass : Pass) (rs : List Record) (tasks : List ℕ) (at : ℕ) (step : steps.Move)
    (moves : ℕ → List (ℕ × Move)) (progress : ProgressView)
    → HasCome rs tasks moves progress → HasCome rs tasks (and_move pass rs at None step moves) progress
come_none pass rs tasks at step moves progress come =
    come_same rs tasks moves (and_move pass rs at None step moves) progress
    (λ task. none (moves task) (is_read pass rs task at)) come
  where
    none : (before : List (ℕ × Move)) (reads : Bool)
        → before ++ cond (reads && false) ((at, the_move step) ∷ []) [] ≡ before
    none before true = append-nil before
    none before false = append-nil before
