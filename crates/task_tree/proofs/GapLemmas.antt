-- What is noted of the begins of turns, and what a record tells that begins one.
use Rattle.std.proofs.Common.{◌≡◌, ◌≢◌, ◌∙◌, ℕ, ◌<◌, ◌≤◌, ◌+◌, ◌-◌, ◌⊎◌, ◌↔◌, List, length, Option, Some}
use Rattle.std.proofs.Common.{None, true, false, Bool, not, refl, sym, ap, subst, arith, inl, inr}
use Rattle.std.proofs.lemmas.Bool.{cases_eq, cases_lt, true≢false}
use Rattle.std.proofs.lemmas.Option.{none-some, same_Some}
use Rattle.std.specs.Prelude.{slice_get, option_and_then, option_map, IsTrue}
use Rattle.std.specs.Option.{option_map_or}
use Rattle.std.specs.Ordering.{nat_cmp}
use Rattle.std.specs.BTreeMap.{BTreeMap, get, Updates}
use Rattle.std.specs.BTreeSet.{BTreeSet, contains}
use Rattle.ompt_events.specs.declared.records.Record.{Record}
use Rattle.ompt_events.specs.declared.records.Turns.{Turns}
use Rattle.ompt_events.specs.declared.cause.Cause.TheVariants.{TurnGap}
use Rattle.ompt_events.specs.Records.{begun_turn, begun_root, told_turns}
use Rattle.ompt_events.specs.Places.{at, thread_at}
use Rattle.ompt_events.specs.Turns.{turn_at}
use Rattle.ompt_events.specs.Tree.{IsRoot}
use Rattle.ompt_events.specs.Causes.{HasTurnGap, other_turn, begun_again, falling, of_root, missing}
use Rattle.ompt_events.specs.Causes.{BeginsTurn, runs, is_root, TellsStart, HasCause, turn_gap, IsFreeOf}
use Rattle.ompt_events.specs.Shown.{AreAllBelow, AreAllWith}
use Rattle.ompt_events.proofs.PlaceLemmas.{at_within}
use Rattle.ompt_events.proofs.ShownLemmas.{all_with}
use Rattle.task_tree.specs.declared.gap_search.Begins.{Begins}
use Rattle.task_tree.specs.declared.gap_search.Start.{Start}
use Rattle.task_tree.specs.GapSearch.{pair_cmp, kept_turn}
use Rattle.task_tree.specs.GapSearch.{AreFirst, AreRootsBegun, AreFirstBegins, IsTurnRaised, AreGreatestTurns}
use Rattle.task_tree.specs.GapSearch.{BeginsRoot}
use Rattle.task_tree.specs.GapSearch.{LacksBefore, IsWrongStart, wrong_again, wrong_falling, wrong_root}
use Rattle.task_tree.specs.GapSearch.{wrong_missing}
use Rattle.task_tree.proofs.PairMaps.{pair_here, pair_there}

-- ---- the first begins

pair_cases : (p q : ℕ × ℕ) → (p ≡ q) ⊎ (p ≢ q)
pair_cases p q = elim (cases_eq p.0 q.0) [
  | inr apart ↦ inr (λ e. apart (ap (λ (x : ℕ × ℕ). x.0) e))
  | inl same ↦ elim (cases_eq p.1 q.1) [
    | inr apart ↦ inr (λ e. apart (ap (λ (x : ℕ × ℕ). x.1) e))
    | inl alike ↦ inl (ap (λ (a : ℕ). (a, p.1)) same ∙ ap (λ (b : ℕ). (q.0, b)) alike)
  ]
]

-- a turn that did not begin before
pub first_new : (rs : List Record) (i : ℕ) (begun : ℕ × ℕ) (old new : BTreeMap (ℕ × ℕ) ℕ) → AreFirst rs i old
    → at begun_turn rs i ≡ Some begun → get pair_cmp old begun ≡ None
    → Updates pair_cmp old new begun (Some i) → AreFirst rs (i + 1) new
first_new rs i begun old new are here none updates = record {
  begins = λ task turn place is. elim (pair_cases (task, turn) begun) [
    | inl same ↦
        ap (at begun_turn rs) (sym (place_is task turn place same is)) ∙ here
        ∙ ap (λ (p : ℕ × ℕ). Some p) (sym same)
    | inr apart ↦
        are.begins task turn place (sym (pair_there old new begun (Some i) updates (task, turn) apart) ∙ is)
  ];
  earliest = λ task turn place k is there. elim (pair_cases (task, turn) begun) [
    | inl same ↦ elim (cases_lt k i) [
      | inl less ↦ absurd (are.all begun.0 begun.1 k none less (there ∙ ap (λ (p : ℕ × ℕ). Some p) same))
      | inr more ↦ let place_here = place_is task turn place same is in omega (arith, place_here, more)
    ]
    | inr apart ↦
        are.earliest task turn place k
        (sym (pair_there old new begun (Some i) updates (task, turn) apart) ∙ is) there
  ];
  all = λ task turn k is less there. elim (pair_cases (task, turn) begun) [
    | inl same ↦ none-some i (sym is ∙ ap (get pair_cmp new) same ∙ pair_here old new begun (Some i) updates)
    | inr apart ↦ elim (cases_eq k i) [
      | inl is_i ↦ apart (same_Some (task, turn) begun (sym there ∙ ap (at begun_turn rs) is_i ∙ here))
      | inr before ↦
          are.all task turn k (sym (pair_there old new begun (Some i) updates (task, turn) apart) ∙ is)
          (omega (arith, less, before)) there
    ]
  ];
}
  where
    place_is : (task turn place : ℕ) → (task, turn) ≡ begun → get pair_cmp new (task, turn) ≡ Some place
        → i ≡ place
    place_is task turn place same is =
        same_Some i place
        (sym (pair_here old new begun (Some i) updates) ∙ ap (get pair_cmp new) (sym same) ∙ is)

-- one that did, or none
pub first_old : (rs : List Record) (i : ℕ) (first : BTreeMap (ℕ × ℕ) ℕ) → AreFirst rs i first
    → ((task turn : ℕ) → at begun_turn rs i ≡ Some (task, turn) → get pair_cmp first (task, turn) ≢ None)
    → AreFirst rs (i + 1) first
first_old rs i first are known = record {
  begins = are.begins;
  earliest = are.earliest;
  all = λ task turn k is less there. elim (cases_eq k i) [
    | inl same ↦ known task turn (ap (at begun_turn rs) (sym same) ∙ there) is
    | inr apart ↦ are.all task turn k is (omega (arith, less, apart)) there
  ];
}

-- ---- the greatest turns

pub turn_raised : (old new : BTreeMap (ℕ × ℕ) ℕ) (r : Record) (task turn : ℕ)
    → begun_turn r.body ≡ Some (task, turn) → kept_turn old r.thread task < turn
    → Updates pair_cmp old new (r.thread, task) (Some turn) → IsTurnRaised old new r
turn_raised old new r task turn begins less updates = record {
  rises = λ thread other. elim (pair_cases (thread, other) (r.thread, task)) [
    | inl same ↦
        let now = here thread other same in
        let before : kept_turn old thread other ≡ kept_turn old r.thread task =
        ap (λ (p : ℕ × ℕ). kept_turn old p.0 p.1) same in
        omega (arith, now, before, less)
    | inr apart ↦ let same = there thread other apart in omega (arith, same)
  ];
  raised = λ other later is.
      let same : ◌≡◌ {A = ℕ × ℕ} (task, turn) (other, later) =
      same_Some (task, turn) (other, later) (sym begins ∙ is) in
      let of_thread : ℕ × ℕ → ℕ × ℕ = λ p. (r.thread, p.0) in
      let now = here r.thread other (ap of_thread (sym same)) in
      let that = ap (λ (p : ℕ × ℕ). p.1) same in
      omega (arith, now, that);
  only = λ thread other. elim (pair_cases (thread, other) (r.thread, task)) [
    | inl same ↦
        inr (
          ap (λ (p : ℕ × ℕ). p.0) same,
          begins ∙ ap (λ (t : ℕ). Some (t, turn)) (sym (ap (λ (p : ℕ × ℕ). p.1) same))
              ∙ ap (λ (t : ℕ). Some (other, t)) (sym (here thread other same)),
        )
    | inr apart ↦ inl (there thread other apart)
  ];
}
  where
    here : (thread other : ℕ) → ◌≡◌ {A = ℕ × ℕ} (thread, other) (r.thread, task)
        → kept_turn new thread other ≡ turn
    here thread other same =
        ap (λ (p : ℕ × ℕ). kept_turn new p.0 p.1) same
        ∙ ap (λ (o : Option ℕ). option_map_or (λ (t : ℕ). t) o 0)
        (pair_here old new (r.thread, task) (Some turn) updates)

    there : (thread other : ℕ) → ◌≢◌ {A = ℕ × ℕ} (thread, other) (r.thread, task)
        → kept_turn new thread other ≡ kept_turn old thread other
    there thread other apart =
        ap (λ (o : Option ℕ). option_map_or (λ (t : ℕ). t) o 0)
        (pair_there old new (r.thread, task) (Some turn) updates (thread, other) apart)

pub greatest_more : (rs : List Record) (i : ℕ) (r : Record) (old new : BTreeMap (ℕ × ℕ) ℕ)
    → slice_get rs i ≡ Some r → AreGreatestTurns rs i old → IsTurnRaised old new r
    → AreGreatestTurns rs (i + 1) new
greatest_more rs i r old new stands are raised = record {
  bound = λ k thread task turn less by_thread begins. elim (cases_eq k i) [
    | inl same ↦
        let is_thread : thread ≡ r.thread =
        same_Some thread r.thread
        (sym by_thread ∙ ap (thread_at rs) same
        ∙ ap (option_map (λ (q : Record). q.thread)) stands) in
        let here : begun_turn r.body ≡ Some (task, turn) =
        sym (ap (option_and_then (λ (q : Record). begun_turn q.body)) stands)
        ∙ ap (at begun_turn rs) (sym same) ∙ begins in
        let low = raised.raised task turn here in
        let alike : kept_turn new thread task ≡ kept_turn new r.thread task =
        ap (λ t. kept_turn new t task) is_thread in
        omega (arith, low, alike)
    | inr apart ↦
        let low = are.bound k thread task turn (omega (arith, less, apart)) by_thread begins in
        let up = raised.rises thread task in
        omega (arith, low, up)
  ];
  reached = λ thread task more. elim (raised.only thread task) [
    | inl same ↦
        let old_one = are.reached thread task (omega (arith, more, same)) in (
          old_one.0,
          omega (arith, old_one.1),
          old_one.2,
          old_one.3 ∙ ap (λ (t : ℕ). Some (task, t)) (sym same),
        )
    | inr (is_thread, begins) ↦ (
      i,
      omega arith,
      ap (option_map (λ (q : Record). q.thread)) stands ∙ ap Some (sym is_thread),
      ap (option_and_then (λ (q : Record). begun_turn q.body)) stands ∙ begins,
    )
  ];
}

-- ---- the tests

pub begun_some : (rs : List Record) (begins : Begins) (task turn place : ℕ) → AreFirstBegins rs begins
    → get pair_cmp begins.first (task, turn) ≡ Some place
    → IsTrue true ↔ ((k : ℕ) × BeginsTurn rs k task turn)
begun_some rs begins task turn place are is =
    (λ yes. (place, runs (are.first.begins task turn place is)), λ begun. refl)

pub begins_cases : (rs : List Record) (k task turn : ℕ) → BeginsTurn rs k task turn
    → (at begun_turn rs k ≡ Some (task, turn)) ⊎ ((turn ≡ 0) × (at begun_root rs k ≡ Some task))
begins_cases rs k task turn (runs is) = inl is
begins_cases rs k task _ (is_root is) = inr (refl, is)

pub begun_none : (rs : List Record) (begins : Begins) (task turn : ℕ) (b : Bool) → AreFirstBegins rs begins
    → get pair_cmp begins.first (task, turn) ≡ None → (IsTrue b ↔ BeginsRoot rs task turn)
    → IsTrue b ↔ ((k : ℕ) × BeginsTurn rs k task turn)
begun_none rs begins task turn b are none root = (
  λ is.
      let there = root.0 is in
      (there.1.0, subst (BeginsTurn rs there.1.0 task) (sym there.0) (is_root there.1.1)),
  λ begun. elim (begins_cases rs begun.0 task turn begun.1) [
    | inl is ↦
        absurd (are.first.all task turn begun.0 none (at_within begun_turn rs begun.0 (task, turn) is) is)
    | inr (zero_turn, is) ↦ root.1 (zero_turn, (begun.0, is))
  ],
)

pub lacks_iff : (rs : List Record) (start : Start) (b : Bool) → 0 < start.turn
    → (IsTrue b ↔ ((k : ℕ) × BeginsTurn rs k start.task (start.turn - 1)))
    → IsTrue (not b) ↔ LacksBefore rs start
lacks_iff rs start true later begun = (
  λ is. absurd (true≢false (sym is)),
  λ lacks.
      let there = begun.0 refl in
      let same : start.turn - 1 ≡ lacks.0 = omega (arith, lacks.1) in
      absurd (lacks.2 there.0 (subst (BeginsTurn rs there.0 start.task) same there.1)),
)
lacks_iff rs start false later begun = (
  λ is. (start.turn - 1, omega (arith, later), λ k begins. true≢false (sym (begun.1 (k, begins)))),
  λ lacks. refl,
)

-- ---- one record

gap_told : (rs : List Record) (i : ℕ) → HasTurnGap rs i → at told_turns rs i ≢ None
gap_told rs i (other_turn told says other) none = none-some told (sym none ∙ says)
gap_told rs i (begun_again task turn k tells below begins) none = tells.0 none
gap_told rs i (falling task turn k later tells below same begins less) none = tells.0 none
gap_told rs i (of_root task tells root) none = tells.0 none
gap_told rs i (missing task turn tells never) none = tells.0 none

-- a record that tells none has no gap
pub untold_none : (rs : List Record) (i : ℕ) (r : Record) → slice_get rs i ≡ Some r → told_turns r.body ≡ None
    → HasTurnGap rs i → ⊥
untold_none rs i r stands none gap =
    gap_told rs i gap (ap (option_and_then (λ (q : Record). told_turns q.body)) stands ∙ none)

gap_within : (rs : List Record) (i : ℕ) → HasTurnGap rs i → i < length rs
gap_within rs i gap = by (at told_turns rs i) refl
  where
    by : (o : Option Turns) → at told_turns rs i ≡ o → i < length rs
    by None none = absurd (gap_told rs i gap none)
    by (Some told) says = at_within told_turns rs i told says

-- one that tells the turn of the prior task, and no next task
pub no_start_none : (rs : List Record) (i : ℕ) (r : Record) (told : Turns) → slice_get rs i ≡ Some r
    → told_turns r.body ≡ Some told → told.prior ≡ turn_at rs i → begun_turn r.body ≡ None → HasTurnGap rs i
    → ⊥
no_start_none rs i r told stands tells right none gap = by gap
  where
    nothing : (task turn : ℕ) → TellsStart rs i task turn → ⊥
    nothing task turn start =
        none-some (task, turn)
        (sym (ap (option_and_then (λ (q : Record). begun_turn q.body)) stands ∙ none) ∙ start.1)

    by : HasTurnGap rs i → ⊥
    by (other_turn u says other) =
        other
        (ap (λ (t : Turns). t.prior)
        (same_Some u told
        (sym says ∙ ap (option_and_then (λ (q : Record). told_turns q.body)) stands ∙ tells))
        ∙ right)
    by (begun_again task turn k start below begins) = nothing task turn start
    by (falling task turn k later start below same begins less) = nothing task turn start
    by (of_root task start root) = nothing task 0 start
    by (missing task turn start never) = nothing task (turn + 1) start

pub other_gap : (rs : List Record) (i turn : ℕ) (r : Record) (told : Turns) → slice_get rs i ≡ Some r
    → told_turns r.body ≡ Some told → told.prior ≢ turn → turn ≡ turn_at rs i → HasTurnGap rs i
other_gap rs i turn r told stands tells other is =
    other_turn told (ap (option_and_then (λ (q : Record). told_turns q.body)) stands ∙ tells)
    (λ e. other (e ∙ sym is))

-- one that tells the turn of the prior task, and that of the next one
pub start_gap : (rs : List Record) (r : Record) (told : Turns) (start : Start)
    → slice_get rs start.at ≡ Some r → told_turns r.body ≡ Some told → told.prior ≡ turn_at rs start.at
    → r.thread ≡ start.thread → begun_turn r.body ≡ Some (start.task, start.turn)
    → IsWrongStart rs start ↔ HasTurnGap rs start.at
start_gap rs r told start stands tells right made begins = (forth, back)
  where
    said : at told_turns rs start.at ≡ Some told
    said = ap (option_and_then (λ (q : Record). told_turns q.body)) stands ∙ tells

    begun : at begun_turn rs start.at ≡ Some (start.task, start.turn)
    begun = ap (option_and_then (λ (q : Record). begun_turn q.body)) stands ∙ begins

    thread : thread_at rs start.at ≡ Some start.thread
    thread = ap (option_map (λ (q : Record). q.thread)) stands ∙ ap Some made

    tells_start : TellsStart rs start.at start.task start.turn
    tells_start = (λ none. none-some told (sym none ∙ said), begun)

    forth : IsWrongStart rs start → HasTurnGap rs start.at
    forth (wrong_again (k, below, same)) = begun_again start.task start.turn k tells_start below same
    forth (wrong_falling (k, later, below, by_thread, other, less)) =
        falling start.task start.turn k later tells_start below (by_thread ∙ sym thread) other less
    forth (wrong_root (zero_turn, root)) =
        of_root start.task (subst (TellsStart rs start.at start.task) zero_turn tells_start) root
    forth (wrong_missing (before, is, never)) =
        missing start.task before (subst (TellsStart rs start.at start.task) is tells_start) never

    same_start : (task turn : ℕ) → TellsStart rs start.at task turn
        → (task ≡ start.task) × (turn ≡ start.turn)
    same_start task turn other =
        let e : ◌≡◌ {A = ℕ × ℕ} (task, turn) (start.task, start.turn) =
        same_Some (task, turn) (start.task, start.turn) (sym other.1 ∙ begun) in
        (ap (λ (p : ℕ × ℕ). p.0) e, ap (λ (p : ℕ × ℕ). p.1) e)

    pair_is : (task turn : ℕ) → TellsStart rs start.at task turn
        → ◌≡◌ {A = Option (ℕ × ℕ)} (Some (task, turn)) (Some (start.task, start.turn))
    pair_is task turn other = sym other.1 ∙ begun

    back : HasTurnGap rs start.at → IsWrongStart rs start
    back (other_turn u says other) =
        absurd (other (ap (λ (t : Turns). t.prior) (same_Some u told (sym says ∙ said)) ∙ right))
    back (begun_again task turn k other below same) = wrong_again (k, below, same ∙ pair_is task turn other)
    back (falling task turn k later other below by_thread same less) =
        let alike = same_start task turn other in
        let is_turn = alike.1 in
        wrong_falling (
          k,
          later,
          below,
          by_thread ∙ thread,
          same ∙ ap (λ (t : ℕ). Some (t, later)) alike.0,
          omega (arith, less, is_turn),
        )
    back (of_root task other root) =
        let alike = same_start task 0 other in
        wrong_root (sym alike.1, subst (IsRoot rs) alike.0 root)
    back (missing task turn other never) =
        let alike = same_start task (turn + 1) other in
        wrong_missing (
          turn,
          sym alike.1,
          λ k begins_there. never k (subst (λ t. BeginsTurn rs k t turn) (sym alike.0) begins_there),
        )

-- ---- all records

has_gap_of : (rs : List Record) (i : ℕ) → HasCause rs i TurnGap → HasTurnGap rs i
has_gap_of rs i (turn_gap h) = h

pub free_of_gap : (rs : List Record) (n : ℕ) → length rs ≤ n → ((k : ℕ) → k < n → HasTurnGap rs k → ⊥)
    → IsFreeOf rs TurnGap
free_of_gap rs n past free i has =
    let gap = has_gap_of rs i has in
    free i (let within = gap_within rs i gap in omega (arith, within, past)) gap

pub all_gaps : (rs : List Record) (n : ℕ) (places : List ℕ) → length rs ≡ n
    → AreAllBelow (HasTurnGap rs) n places → AreAllWith rs TurnGap places
all_gaps rs n places long are = all_with rs TurnGap (HasTurnGap rs) n places long (λ i gap. turn_gap gap)
    (λ i has.
    let gap = has_gap_of rs i has in
    (let within = gap_within rs i gap in omega (arith, within, long), gap)) are

-- ---- the roots

pub root_more : (rs : List Record) (i task : ℕ) (old new : BTreeSet ℕ) → AreRootsBegun rs i old
    → at begun_root rs i ≡ Some task → ((q : ℕ) → q ≢ task → contains nat_cmp new q ≡ contains nat_cmp old q)
    → contains nat_cmp new task ≡ true → AreRootsBegun rs (i + 1) new
root_more rs i task old new are begins others added = record {
  only = λ other is. elim (cases_eq other task) [
    | inl same ↦ (i, begins ∙ ap Some (sym same))
    | inr apart ↦ are.only other (sym (others other apart) ∙ is)
  ];
  all = λ other k less there. elim (cases_eq other task) [
    | inl same ↦ ap (contains nat_cmp new) same ∙ added
    | inr apart ↦
        others other apart
        ∙ are.all other k
        (let differ : k ≢ i =
        λ e. apart (same_Some other task (sym there ∙ ap (at begun_root rs) e ∙ begins)) in
        omega (arith, less, differ))
        there
  ];
}
