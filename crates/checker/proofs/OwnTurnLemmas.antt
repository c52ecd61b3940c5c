-- On which thread the records of a task are, and in which order there: each of them comes after the record of
-- its thread that began its turn.
use Rattle.std.proofs.Common.{◌≡◌, ◌≢◌, ◌∙◌, ℕ, ◌<◌, ◌≤◌, ◌+◌, List, [], ◌∷◌, ◌++◌, Option, Some, None}
use Rattle.std.proofs.Common.{cond, refl, sym, ap, subst, arith, inl, inr}
use Rattle.std.proofs.lemmas.Bool.{cases_eq, cases_lt, eq-eqb, ne_eqb}
use Rattle.std.proofs.lemmas.Option.{none-some, same_Some}
use Rattle.std.proofs.lemmas.List.Sums.{fold-append}
use Rattle.std.specs.Prelude.{◌==◌, slice_get, option_and_then, option_map}
use Rattle.std.specs.Option.{option_map_or}
use Rattle.ompt_events.specs.declared.records.Record.{Record}
use Rattle.ompt_events.specs.declared.cause.Cause.TheVariants.{CreatedTwice, NotCurrent, TurnGap}
use Rattle.ompt_events.specs.Records.{begun_root, running, started, next_turn, begun_turn}
use Rattle.ompt_events.specs.Places.{at, thread_at}
use Rattle.ompt_events.specs.Tree.{IsRoot}
use Rattle.ompt_events.specs.Turns.{turn_after, turn_in, turn_at}
use Rattle.ompt_events.specs.Causes.{IsFreeOf}
use Rattle.ompt_events.proofs.PlaceLemmas.{get_at}
use Rattle.task_tree.proofs.SuspendedLemmas.{part_of, part_keeps, turn_here, TellsStarts}
use Rattle.checker.proofs.TurnWalkLemmas.{turn_greatest}
use Rattle.checker.proofs.UpgradeWalkLemmas.{running_from, root_from, begun_once}

-- ---- the last start on a thread

-- of the records of the thread before n the last that starts the task; it begins this turn
pub record LastBegun (rs : List Record) (thread n task turn : ℕ) : Type 0 where
  pub place : ℕ
  pub earlier : place < n
  pub on : thread_at rs place ≡ Some thread
  pub begins : at begun_turn rs place ≡ Some (task, turn)
  pub last : (k : ℕ) → place < k → k < n → thread_at rs k ≡ Some thread → at started rs k ≢ Some task

-- no record of the thread before n starts the task
abbrev NoneBegun : List Record → ℕ → ℕ → ℕ → Type 0
NoneBegun rs thread n task =
    (k : ℕ) → k < n → thread_at rs k ≡ Some thread → at started rs k ≢ Some task

-- what is known of the turn of the task on the thread
data TurnKnown (rs : List Record) (thread n task turn : ℕ) : Type 0 where
  not_begun : NoneBegun rs thread n task → turn ≡ 0 → TurnKnown rs thread n task turn
  is_begun : LastBegun rs thread n task turn → TurnKnown rs thread n task turn

none_more : (rs : List Record) (thread n task : ℕ) → NoneBegun rs thread n task
    → (thread_at rs n ≡ Some thread → at started rs n ≢ Some task) → NoneBegun rs thread (n + 1) task
none_more rs thread n task none here k below on = elim (cases_eq k n) [
  | inl same ↦ λ starts. here (ap (thread_at rs) (sym same) ∙ on) (ap (at started rs) (sym same) ∙ starts)
  | inr apart ↦ none k (omega (arith, below, apart)) on
]

last_more : (rs : List Record) (thread n task turn : ℕ) → LastBegun rs thread n task turn
    → (thread_at rs n ≡ Some thread → at started rs n ≢ Some task)
    → LastBegun rs thread (n + 1) task turn
last_more rs thread n task turn known here = record {
  place = known.place;
  earlier = let e = known.earlier in omega arith;
  on = known.on;
  begins = known.begins;
  last = λ k above below on. elim (cases_eq k n) [
    | inl same ↦
        λ starts. here (ap (thread_at rs) (sym same) ∙ on) (ap (at started rs) (sym same) ∙ starts)
    | inr apart ↦ known.last k above (omega (arith, below, apart)) on
  ];
}

known_more : (rs : List Record) (thread n task turn : ℕ) → TurnKnown rs thread n task turn
    → (thread_at rs n ≡ Some thread → at started rs n ≢ Some task) → TurnKnown rs thread (n + 1) task turn
known_more rs thread n task turn (not_begun none zero_turn) here =
    not_begun (none_more rs thread n task none here) zero_turn
known_more rs thread n task turn (is_begun known) here = is_begun (last_more rs thread n task turn known here)

-- the turn that the thread knows is that of the last start there
turn_known : (rs : List Record) (thread task n : ℕ)
    → TurnKnown rs thread n task (turn_in task (part_of rs thread n))
turn_known rs thread task n =
    part_keeps rs thread (λ m l. TurnKnown rs thread m task (turn_in task l))
    (not_begun (λ k below. absurd (omega (arith, below))) refl) own
    (λ m apart before.
    known_more rs thread m task (turn_in task (part_of rs thread m)) before (λ on. absurd (apart on))) n
  where
    own : (m : ℕ) (r : Record) → slice_get rs m ≡ Some r → r.thread ≡ thread
        → TurnKnown rs thread m task (turn_in task (part_of rs thread m))
        → TurnKnown rs thread (m + 1) task (turn_in task (part_of rs thread m ++ r ∷ []))
    own m r stands same before =
        subst (TurnKnown rs thread (m + 1) task)
        (sym (fold-append (turn_after task) 0 (part_of rs thread m) (r ∷ []))) (by (started r.body) refl)
      where
        old : ℕ
        old = turn_in task (part_of rs thread m)

        says : at started rs m ≡ started r.body
        says = ap (option_and_then (λ (q : Record). started q.body)) stands

        new : Option ℕ → ℕ
        new s =
            option_map_or (λ (b : ℕ × ℕ). cond (b.0 == task) b.1 old)
            (option_map {U = ℕ × ℕ} (λ t. (t, next_turn r.body)) s) old

        by : (s : Option ℕ) → started r.body ≡ s → TurnKnown rs thread (m + 1) task (new s)
        by None is =
            known_more rs thread m task old before
            (λ on starts. none-some task (sym (says ∙ is) ∙ starts))
        by (Some t) is = elim (cases_eq t task) [
          | inl own_task ↦
              subst (λ b. TurnKnown rs thread (m + 1) task (cond b (next_turn r.body) old))
              (sym (eq-eqb t task own_task))
              (is_begun (record {
                place = m;
                earlier = omega arith;
                on = ap (option_map (λ (q : Record). q.thread)) stands ∙ ap Some same;
                begins =
                    ap (option_and_then (λ (q : Record). begun_turn q.body)) stands
                    ∙ ap (option_map {U = ℕ × ℕ} (λ u. (u, next_turn r.body))) (is ∙ ap Some own_task);
                last = λ k above below on. absurd (omega (arith, above, below));
              }))
          | inr apart ↦
              subst (λ b. TurnKnown rs thread (m + 1) task (cond b (next_turn r.body) old))
              (sym (ne_eqb t task apart))
              (known_more rs thread m task old before
              (λ on starts. apart (same_Some t task (sym (says ∙ is) ∙ starts))))
        ]

-- along a thread no turn of a task falls
turn_rises : (rs : List Record) (thread task m n : ℕ) → TellsStarts rs → IsFreeOf rs TurnGap → m ≤ n
    → turn_in task (part_of rs thread m) ≤ turn_in task (part_of rs thread n)
turn_rises rs thread task m n told gap low = of (turn_known rs thread task m)
  where
    of : TurnKnown rs thread m task (turn_in task (part_of rs thread m))
        → turn_in task (part_of rs thread m) ≤ turn_in task (part_of rs thread n)
    of (not_begun none zero_turn) = omega (arith, zero_turn)
    of (is_begun known) =
        let e = known.earlier in
        turn_greatest rs thread task told gap n known.place (turn_in task (part_of rs thread m))
        (omega (arith, e, low)) known.on known.begins

-- of two records of a task on one thread the one in the later turn is later in the file
pub later_turn_later : (rs : List Record) (task i k : ℕ) → TellsStarts rs → IsFreeOf rs TurnGap
    → at running rs i ≡ Some task → at running rs k ≡ Some task → thread_at rs i ≡ thread_at rs k
    → turn_at rs i < turn_at rs k → i < k
later_turn_later rs task i k told gap one other same less = elim (cases_lt i k) [
  | inl before ↦ before
  | inr after ↦
      let (r, stands, runs) = get_at running rs i task one in
      let (q, stands', runs') = get_at running rs k task other in
      let threads : q.thread ≡ r.thread =
      same_Some q.thread r.thread
      (sym (ap (option_map (λ (x : Record). x.thread)) stands') ∙ sym same
      ∙ ap (option_map (λ (x : Record). x.thread)) stands) in
      let here : turn_at rs i ≡ turn_in task (part_of rs r.thread i) = turn_here rs i task r stands runs in
      let there : turn_at rs k ≡ turn_in task (part_of rs r.thread k) =
      turn_here rs k task q stands' runs' ∙ ap (λ t. turn_in task (part_of rs t k)) threads in
      let rises = turn_rises rs r.thread task k i told gap after in
      absurd (omega (arith, here, there, rises, less))
]

-- ---- where a task's own records are

-- what is known of a record of the task: its thread, and the start there of its turn
pub record OwnTurn (rs : List Record) (i task : ℕ) : Type 0 where
  pub thread : ℕ
  pub on : thread_at rs i ≡ Some thread
  pub known : LastBegun rs thread i task (turn_at rs i)

pub own_turn : (rs : List Record) (i task : ℕ) → IsFreeOf rs NotCurrent → (IsRoot rs task → ⊥)
    → at running rs i ≡ Some task → OwnTurn rs i task
own_turn rs i task current not_root runs =
    let (r, stands, is) = get_at running rs i task runs in
    let from = running_from rs i task current runs in
    let on : thread_at rs i ≡ Some r.thread = ap (option_map (λ (q : Record). q.thread)) stands in
    let same : from.thread ≡ r.thread = same_Some from.thread r.thread (sym from.on ∙ on) in
    elim from.is_known [
      | inl (k, below, begins, there) ↦ absurd (not_root (k, begins))
      | inr (k, below, starts, there) ↦ record {
        thread = r.thread;
        on = on;
        known =
            subst (LastBegun rs r.thread i task) (sym (turn_here rs i task r stands is))
            (begun (turn_known rs r.thread task i) k below starts (there ∙ ap Some same));
      }
    ]
  where
    begun : {thread turn : ℕ} → TurnKnown rs thread i task turn → (k : ℕ) → k < i
        → at started rs k ≡ Some task → thread_at rs k ≡ Some thread → LastBegun rs thread i task turn
    begun (not_begun none zero_turn) k below starts there = absurd (none k below there starts)
    begun (is_begun known) k below starts there = known

-- a root runs next on the thread on which it began, and after that
pub root_next : (rs : List Record) (i task s : ℕ) → IsFreeOf rs CreatedTwice → IsFreeOf rs NotCurrent
    → at begun_root rs s ≡ Some task → at started rs i ≡ Some task
    → (s < i) × (thread_at rs s ≡ thread_at rs i)
root_next rs i task s once current begins starts =
    let from = root_from rs i task current (s, begins) starts in
    let (k, below, begins', there) = from.is_known in
    let same = begun_once rs task s k once begins begins' in
    (omega (arith, below, same), ap (thread_at rs) same ∙ there ∙ sym from.on)

-- and so are its own records
pub root_own : (rs : List Record) (i task s : ℕ) → IsFreeOf rs CreatedTwice → IsFreeOf rs NotCurrent
    → at begun_root rs s ≡ Some task → at running rs i ≡ Some task → thread_at rs s ≡ thread_at rs i
root_own rs i task s once current begins runs =
    let from = running_from rs i task current runs in
    elim from.is_known [
      | inl (k, below, begins', there) ↦
          ap (thread_at rs) (begun_once rs task s k once begins begins') ∙ there ∙ sym from.on
      | inr (k, below, starts, there) ↦
          (root_next rs k task s once current begins starts).1 ∙ there ∙ sym from.on
    ]
