-- An upgraded trace says the same of all but turns as the trace that it was made of; and which turns it
-- tells.
use Rattle.std.proofs.Common.{◌≡◌, ◌≢◌, ◌∙◌, ℕ, zero, suc, ◌<◌, ◌≤◌, ◌+◌, ◌-◌, List, [], ◌∷◌, length, get_or}
use Rattle.std.proofs.Common.{Option, Some, None, Bool, true, false, cond, refl, sym, ap, subst, arith, inl}
use Rattle.std.proofs.Common.{inr, ◌⊎◌, map}
use Rattle.std.proofs.lemmas.Bool.{cases_eq, false≢true, ne_eqb}
use Rattle.std.proofs.lemmas.Option.{none-some, same_Some, slice_get-map, slice_get_cases}
use Rattle.std.proofs.lemmas.List.Sums.{count_by_more_yes, count_by_more_no}
use Rattle.std.specs.Prelude.{slice_get, option_map, option_and_then, take, count_by, is_some, if◌then◌else◌}
use Rattle.std.specs.List.{find}
use Rattle.std.specs.Option.{option_map_or}
use Rattle.ompt_events.specs.declared.records.Record.{Record}
use Rattle.ompt_events.specs.declared.records.Body.{Body}
use Rattle.ompt_events.specs.declared.records.Body.TheVariants.{TaskSchedule}
use Rattle.ompt_events.specs.declared.records.Turns.{Turns}
use Rattle.ompt_events.specs.declared.cause.Cause.TheVariants.{Moved}
use Rattle.ompt_events.specs.Records.{started, begun_root, told_turns, begun_turn}
use Rattle.ompt_events.specs.Places.{at}
use Rattle.ompt_events.specs.Tree.{IsRoot}
use Rattle.ompt_events.specs.Turns.{TellsNoTurns, turn_at}
use Rattle.ompt_events.specs.States.{is_task, is_made_so}
use Rattle.ompt_events.specs.Causes.{HasCause, BeginsTurn, runs, is_root, HasTurnGap, other_turn, begun_again}
use Rattle.ompt_events.specs.Causes.{falling, of_root, missing, moved}
use Rattle.ompt_events.specs.Upgrades.{MovesNowhere, turn_counted, telling, body_upgraded, IsUpgrade}
use Rattle.ompt_events.proofs.ListLemmas.{get_contains, contains_get, take_past}
use Rattle.ompt_events.proofs.TurnLemmas.{begun_started}
use Rattle.ompt_events.proofs.PlaceLemmas.{is_the_task, the_task}
use Rattle.task_tree.specs.Renaming.{untold}
use Rattle.task_states.proofs.OriginLemmas.{found_some, found_passes}
use Rattle.task_tree.proofs.BlindLemmas.{blind_begun_root}
use Rattle.checker.proofs.BlindBodyLemmas.{blind_started}
use Rattle.checker.proofs.TwinLemmas.{AreTwins, blank, twin_of, twin_says, twin_thread, twins_back}
use Rattle.checker.proofs.FlatTwinLemmas.{AreFlat, AreFlatTwins}

-- ---- all but turns

same_lists : {X : Type 0} (xs ys : List X) → ((i : ℕ) → slice_get xs i ≡ slice_get ys i) → xs ≡ ys
same_lists [] [] same = refl
same_lists [] (y ∷ ys) same = absurd (none-some y (same 0))
same_lists (x ∷ xs) [] same = absurd (none-some x (sym (same 0)))
same_lists (x ∷ xs) (y ∷ ys) same =
    ap (λ z. z ∷ xs) (same_Some x y (same 0)) ∙ ap (λ l. y ∷ l) (same_lists xs ys (λ i. same (suc i)))

untold_telling : (told : Turns) (b : Body) → untold (telling told b) ≡ untold b
untold_telling told (TaskSchedule status turns prior next claimed) = refl
untold_telling told _ = refl

untold_upgraded : (rs ss : List Record) (i : ℕ) (b : Body) → untold (body_upgraded rs ss i b) ≡ untold b
untold_upgraded rs ss i b = by (started b)
  where
    by : (o : Option ℕ)
        → untold
        (option_map_or
        (λ task. telling (record { prior = turn_at ss i; next = turn_counted rs i task }) b) o b)
        ≡ untold b
    by None = refl
    by (Some task) = untold_telling (record { prior = turn_at ss i; next = turn_counted rs i task }) b

pub upgrade_twins : (rs ss : List Record) → IsUpgrade rs ss → AreTwins rs ss
upgrade_twins rs ss upgrade =
    same_lists (map blank rs) (map blank ss)
    (λ i. slice_get-map blank rs i ∙ there i ∙ sym (slice_get-map blank ss i))
  where
    there : (i : ℕ) → option_map blank (slice_get rs i) ≡ option_map blank (slice_get ss i)
    there i = elim (slice_get_cases rs i).1 [
      | inl (r, within, stands, read) ↦
          ap (option_map blank) stands
          ∙ sym
          (ap
          (λ b. Some (record { thread = r.thread; nests = false; seq = r.seq; seen = r.seen; body = b }))
          (untold_upgraded rs ss i r.body))
          ∙ sym (ap (option_map blank) (upgrade.each i r stands))
      | inr (past, none) ↦
          ap (option_map blank) none ∙ sym (ap (option_map blank) (beyond (slice_get_cases ss i).1 past))
    ]
      where
        beyond : ((s : Record) × (i < length ss) × (slice_get ss i ≡ Some s) × (get_or ss i s ≡ s))
            ⊎ ((length ss ≤ i) × (slice_get ss i ≡ None))
            → length rs ≤ i → slice_get ss i ≡ None
        beyond (inl (s, within, stands, read)) past = absurd (omega (arith, upgrade.all, within, past))
        beyond (inr (out, none)) past = none

-- ---- counting

-- how many of the first n records have the task as next, and the turn that a root has begun before them
abbrev starts_in : List Record → ℕ → ℕ → ℕ
starts_in rs n task = count_by (λ (r : Record). is_task task (started r.body)) (take n rs)

abbrev first_turn_of : List Record → ℕ → ℕ
first_turn_of rs task = if is_made_so (λ b. is_task task (begun_root b)) rs then 1 else 0

-- where a task runs next the count goes on
starts_here : (rs : List Record) (task k : ℕ) → at started rs k ≡ Some task
    → turn_counted rs (k + 1) task ≡ turn_counted rs k task + 1
starts_here rs task k starts = elim (slice_get_cases rs k).1 [
  | inl (r, within, stands, read) ↦
      let is : is_task task (started (get_or rs k r).body) ≡ true =
      ap (λ (q : Record). is_task task (started q.body)) read
      ∙ the_task task (started r.body)
      (sym (ap (option_and_then (λ (q : Record). started q.body)) stands) ∙ starts) in
      let more = count_by_more_yes (λ (q : Record). is_task task (started q.body)) rs k r within is in
      omega (arith, more)
  | inr (past, none) ↦
      absurd (none-some task (sym (ap (option_and_then (λ (q : Record). started q.body)) none) ∙ starts))
]

-- where it does not, it stays
starts_elsewhere : (rs : List Record) (task k : ℕ) → at started rs k ≢ Some task
    → turn_counted rs (k + 1) task ≡ turn_counted rs k task
starts_elsewhere rs task k apart = elim (slice_get_cases rs k).1 [
  | inl (r, within, stands, read) ↦
      let more =
      count_by_more_no (λ (q : Record). is_task task (started q.body)) rs k r within
      (ap (λ (q : Record). is_task task (started q.body)) read
      ∙ not_it (started r.body)
      (λ is. apart (ap (option_and_then (λ (q : Record). started q.body)) stands ∙ is))) in
      omega (arith, more)
  | inr (past, none) ↦
      ap (λ l. turn_in l) (take_past rs (k + 1) (omega (arith, past)) ∙ sym (take_past rs k past))
]
  where
    turn_in : List Record → ℕ
    turn_in l =
        count_by (λ (r : Record). is_task task (started r.body)) l
        + (if is_made_so (λ b. is_task task (begun_root b)) rs then 1 else 0)

    not_it : (o : Option ℕ) → (o ≢ Some task) → is_task task o ≡ false
    not_it None other = refl
    not_it (Some t) other = ne_eqb t task (λ same. other (ap Some same))

-- the task runs next at the place, or does not
starts_or_not : (rs : List Record) (task k : ℕ)
    → (at started rs k ≡ Some task) ⊎ (at started rs k ≢ Some task)
starts_or_not rs task k = by (at started rs k)
  where
    by : (o : Option ℕ) → (o ≡ Some task) ⊎ (o ≢ Some task)
    by None = inr (λ is. none-some task is)
    by (Some t) = elim (cases_eq t task) [
      | inl same ↦ inl (ap Some same)
      | inr apart ↦ inr (λ is. apart (same_Some t task is))
    ]

pub counted_rises : (rs : List Record) (task k n : ℕ) → turn_counted rs k task ≤ turn_counted rs (k + n) task
counted_rises rs task k zero =
    let same : k ≡ k + 0 = omega arith in
    subst (λ m. turn_counted rs k task ≤ turn_counted rs m task) same (omega arith)
counted_rises rs task k (suc n) =
    let next : k + suc n ≡ k + n + 1 = omega arith in
    subst (λ m. turn_counted rs k task ≤ turn_counted rs m task) (sym next) (
    elim (starts_or_not rs task (k + n)) [
      | inl starts ↦ omega (arith, counted_rises rs task k n, starts_here rs task (k + n) starts)
      | inr apart ↦ omega (arith, counted_rises rs task k n, starts_elsewhere rs task (k + n) apart)
    ])

-- so a later record begins a later turn
pub counted_later : (rs : List Record) (task k i : ℕ) → at started rs k ≡ Some task → k < i
    → turn_counted rs k task < turn_counted rs i task
counted_later rs task k i starts below =
    let n : ℕ = i - (k + 1) in
    let there : k + 1 + n ≡ i = omega (arith, below) in
    let rises = counted_rises rs task (k + 1) n in
    let P : ℕ → Type 0 = λ m. turn_counted rs (k + 1) task ≤ turn_counted rs m task in
    omega (arith, starts_here rs task k starts, subst P there rises)

-- ---- roots

root_made : (rs : List Record) (task : ℕ) → IsRoot rs task
    → is_made_so (λ b. is_task task (begun_root b)) rs ≡ true
root_made rs task (i, begins) = elim (slice_get_cases rs i).1 [
  | inl (r, within, stands, read) ↦
      found_some (λ (q : Record). is_task task (begun_root q.body)) rs r (get_contains rs r i stands)
      (the_task task (begun_root r.body)
      (sym (ap (option_and_then (λ (q : Record). begun_root q.body)) stands) ∙ begins))
  | inr (past, none) ↦
      absurd (none-some task (sym (ap (option_and_then (λ (q : Record). begun_root q.body)) none) ∙ begins))
]

made_root : (rs : List Record) (task : ℕ) → is_made_so (λ b. is_task task (begun_root b)) rs ≡ true
    → IsRoot rs task
made_root rs task = by (find (λ (q : Record). is_task task (begun_root q.body)) rs) refl
  where
    by : (o : Option Record) → find (λ (q : Record). is_task task (begun_root q.body)) rs ≡ o
        → is_some o ≡ true → IsRoot rs task
    by None e is = absurd (false≢true is)
    by (Some r) e is =
        let found = found_passes (λ (q : Record). is_task task (begun_root q.body)) rs r e in
        let place = contains_get rs r found.1 in (
          place.0,
          ap (option_and_then (λ (q : Record). begun_root q.body)) place.1
              ∙ is_the_task task (begun_root r.body) found.0,
        )

pub root_counted : (rs : List Record) (task i : ℕ) → IsRoot rs task → 0 < turn_counted rs i task
root_counted rs task i root =
    let one : first_turn_of rs task ≡ 1 = ap (λ (b : Bool). cond {A = ℕ} b 1 0) (root_made rs task root) in
    omega (arith, one)

-- the first turn that is counted of another task is 0
pub first_counted : (rs : List Record) (task i : ℕ) → (IsRoot rs task → ⊥)
    → ((k : ℕ) → k < i → at started rs k ≢ Some task) → turn_counted rs i task ≡ 0
first_counted rs task i not_root none = from i none
  where
    other : is_made_so (λ b. is_task task (begun_root b)) rs ≡ false
    other = by (is_made_so (λ b. is_task task (begun_root b)) rs) refl
      where
        by : (b : Bool) → is_made_so (λ b. is_task task (begun_root b)) rs ≡ b → b ≡ false
        by true e = absurd (not_root (made_root rs task e))
        by false e = refl

    from : (n : ℕ) → ((k : ℕ) → k < n → at started rs k ≢ Some task) → turn_counted rs n task ≡ 0
    from zero never =
        let none : starts_in rs 0 task ≡ 0 = refl in
        let first : first_turn_of rs task ≡ 0 = ap (λ (b : Bool). cond {A = ℕ} b 1 0) other in
        omega (arith, none, first)
    from (suc n) never =
        let next : suc n ≡ n + 1 = omega arith in
        subst (λ m. turn_counted rs m task ≡ 0) (sym next)
        (starts_elsewhere rs task n (never n (omega arith))
        ∙ from n (λ k below. never k (omega (arith, below))))

-- the turn before one that is counted began at an earlier record, or is the first turn of a root
counted_before : (rs : List Record) (task turn i : ℕ) → turn_counted rs i task ≡ turn + 1
    → ((k : ℕ) × (k < i) × (at started rs k ≡ Some task) × (turn_counted rs k task ≡ turn))
    ⊎ ((turn ≡ 0) × IsRoot rs task)
counted_before rs task turn zero is =
    by (is_made_so (λ b. is_task task (begun_root b)) rs) refl
    (let none : starts_in rs 0 task ≡ 0 = refl in omega (arith, none, is))
  where
    by : (b : Bool) → is_made_so (λ b. is_task task (begun_root b)) rs ≡ b → cond {A = ℕ} b 1 0 ≡ turn + 1
        → ((k : ℕ) × (k < 0) × (at started rs k ≡ Some task) × (turn_counted rs k task ≡ turn))
        ⊎ ((turn ≡ 0) × IsRoot rs task)
    by true e is = inr (omega (arith, is), made_root rs task e)
    by false e is = absurd (omega (arith, is))
counted_before rs task turn (suc i) is =
    let next : suc i ≡ i + 1 = omega arith in
    let here : turn_counted rs (i + 1) task ≡ turn + 1 =
    subst (λ m. turn_counted rs m task ≡ turn + 1) next is in
    elim (starts_or_not rs task i) [
      | inl starts ↦ inl (i, omega arith, starts, omega (arith, starts_here rs task i starts, here))
      | inr apart ↦ elim (counted_before rs task turn i (sym (starts_elsewhere rs task i apart) ∙ here)) [
        | inl (k, below, starts, counted) ↦ inl (k, omega (arith, below), starts, counted)
        | inr first ↦ inr first
      ]
    ]

-- ---- the turns that are told

-- at a place an upgraded trace tells the turns of its rule, where a task runs next there
pub record TellsAt (rs ss : List Record) (i task : ℕ) : Type 0 where
  pub told : at told_turns ss i ≡ Some (record { prior = turn_at ss i; next = turn_counted rs i task })
  pub begun : at begun_turn ss i ≡ Some (task, turn_counted rs i task)

pub starts_telling : (rs ss : List Record) (i task : ℕ) → IsUpgrade rs ss → at started rs i ≡ Some task
    → TellsAt rs ss i task
starts_telling rs ss i task upgrade starts = elim (slice_get_cases rs i).1 [
  | inl (r, within, stands, read) ↦
      there r stands (sym (ap (option_and_then (λ (q : Record). started q.body)) stands) ∙ starts)
  | inr (past, none) ↦
      absurd (none-some task (sym (ap (option_and_then (λ (q : Record). started q.body)) none) ∙ starts))
]
  where
    rule : Turns
    rule = record { prior = turn_at ss i; next = turn_counted rs i task }

    tells : (b : Body) → started b ≡ Some task
        → (told_turns (telling rule b) ≡ Some rule)
        × (begun_turn (telling rule b) ≡ Some (task, turn_counted rs i task))
    tells (TaskSchedule status turns prior next claimed) is =
        (refl, ap (option_map {U = ℕ × ℕ} (λ t. (t, turn_counted rs i task))) is)
    tells _ is = absurd (none-some task is)

    there : (r : Record) → slice_get rs i ≡ Some r → started r.body ≡ Some task → TellsAt rs ss i task
    there r stands is =
        let body : body_upgraded rs ss i r.body ≡ telling rule r.body =
        ap
        (λ o.
        option_map_or
        (λ t. telling (record { prior = turn_at ss i; next = turn_counted rs i t }) r.body) o
        r.body) is in
        let said = tells r.body is in
        record {
          told =
              ap (option_and_then (λ (q : Record). told_turns q.body)) (upgrade.each i r stands)
              ∙ ap told_turns body ∙ said.0;
          begun =
              ap (option_and_then (λ (q : Record). begun_turn q.body)) (upgrade.each i r stands)
              ∙ ap begun_turn body ∙ said.1;
        }

-- elsewhere it tells none
pub silent_telling : (rs ss : List Record) (i : ℕ) → TellsNoTurns rs → IsUpgrade rs ss
    → at started rs i ≡ None → at told_turns ss i ≡ None
silent_telling rs ss i untold upgrade none = elim (slice_get_cases rs i).1 [
  | inl (r, within, stands, read) ↦
      let quiet : started r.body ≡ None =
      sym (ap (option_and_then (λ (q : Record). started q.body)) stands) ∙ none in
      ap (option_and_then (λ (q : Record). told_turns q.body)) (upgrade.each i r stands)
      ∙ ap
      (λ o.
      told_turns
      (option_map_or
      (λ t. telling (record { prior = turn_at ss i; next = turn_counted rs i t }) r.body) o
      r.body))
      quiet
      ∙ sym (ap (option_and_then (λ (q : Record). told_turns q.body)) stands) ∙ untold i
  | inr (past, out) ↦ elim (slice_get_cases ss i).1 [
    | inl (s, within, stands, read) ↦ absurd (omega (arith, upgrade.all, within, past))
    | inr (over, nothing) ↦ ap (option_and_then (λ (q : Record). told_turns q.body)) nothing
  ]
]

-- the turn that a record of the upgraded trace begins is the one that is counted
pub begins_counted : (rs ss : List Record) (i task turn : ℕ) → IsUpgrade rs ss
    → at begun_turn ss i ≡ Some (task, turn) → (at started rs i ≡ Some task) × (turn ≡ turn_counted rs i task)
begins_counted rs ss i task turn upgrade begins =
    let twins = upgrade_twins rs ss upgrade in
    let starts : at started rs i ≡ Some task =
    twin_says started blind_started task ss rs i (twins_back rs ss twins)
    (begun_started ss i task turn begins) in (
      starts,
      ap (λ (p : ℕ × ℕ). p.1)
          (same_Some (task, turn) (task, turn_counted rs i task)
          (sym begins ∙ (starts_telling rs ss i task upgrade starts).begun)),
    )

-- the turn of its prior task is told rightly
told_prior : (rs ss : List Record) (i : ℕ) (told : Turns) → TellsNoTurns rs → IsUpgrade rs ss
    → at told_turns ss i ≡ Some told → told.prior ≡ turn_at ss i
told_prior rs ss i told untold upgrade tells = by (at started rs i) refl
  where
    by : (o : Option ℕ) → at started rs i ≡ o → told.prior ≡ turn_at ss i
    by None e = absurd (none-some told (sym (silent_telling rs ss i untold upgrade e) ∙ tells))
    by (Some task) e =
        ap (λ (t : Turns). t.prior)
        (same_Some told (record { prior = turn_at ss i; next = turn_counted rs i task })
        (sym tells ∙ (starts_telling rs ss i task upgrade e).told))

-- ---- no cause of turns

pub upgrade_gapless : (rs ss : List Record) (i : ℕ) → TellsNoTurns rs → IsUpgrade rs ss → HasTurnGap ss i → ⊥
upgrade_gapless rs ss i untold upgrade (other_turn told tells apart) =
    apart (told_prior rs ss i told untold upgrade tells)
upgrade_gapless rs ss i untold upgrade (begun_again task turn k (tells, begins) below before) =
    let here = begins_counted rs ss i task turn upgrade begins in
    let there = begins_counted rs ss k task turn upgrade before in
    omega (arith, counted_later rs task k i there.0 below, here.1, there.1)
upgrade_gapless rs ss i untold upgrade (falling task turn k later (tells, begins) below same before less) =
    let here = begins_counted rs ss i task turn upgrade begins in
    let there = begins_counted rs ss k task later upgrade before in
    omega (arith, counted_later rs task k i there.0 below, here.1, there.1, less)
upgrade_gapless rs ss i untold upgrade (of_root task (tells, begins) root) =
    let here = begins_counted rs ss i task 0 upgrade begins in
    let twins = twins_back rs ss (upgrade_twins rs ss upgrade) in
    omega (
      arith,
      root_counted rs task i
          (root.0, twin_says begun_root blind_begun_root task ss rs root.0 twins root.1),
      here.1,
    )
upgrade_gapless rs ss i untold upgrade (missing task turn (tells, begins) none) =
    let here = begins_counted rs ss i task (turn + 1) upgrade begins in
    elim (counted_before rs task turn i (sym here.1)) [
      | inl (k, below, starts, counted) ↦
          none k
          (runs ((starts_telling rs ss k task upgrade starts).begun ∙ ap (λ t. Some (task, t)) counted))
      | inr (first, (b, begins_root)) ↦
          none b
          (subst (BeginsTurn ss b task) (sym first)
          (is_root
          (twin_says begun_root blind_begun_root task rs ss b (upgrade_twins rs ss upgrade)
          begins_root)))
    ]

pub stays_unmoved : (rs ss : List Record) (i : ℕ) → AreTwins rs ss → MovesNowhere rs → HasCause ss i Moved → ⊥
stays_unmoved rs ss i twins still (moved (task, k, explicit, starts, below, before, elsewhere, untold)) =
    still i (record {
      task = task;
      next = twin_says started blind_started task ss rs i (twins_back rs ss twins) starts;
      earlier = k;
      before = below;
      next_before = twin_says started blind_started task ss rs k (twins_back rs ss twins) before;
      elsewhere = λ same. elsewhere (sym (twin_thread rs ss k twins) ∙ same ∙ twin_thread rs ss i twins);
    })

-- where no record lets regions lie inside others, none of the upgraded trace does
pub upgrade_flat : (rs ss : List Record) → IsUpgrade rs ss → AreFlat rs → AreFlatTwins rs ss
upgrade_flat rs ss upgrade flat = record { twins = twins; flat = flat; is_flat = other }
  where
    twins : AreTwins rs ss
    twins = upgrade_twins rs ss upgrade

    other : AreFlat ss
    other i s stands =
        let (r, there, alike) = twin_of ss rs i s (twins_back rs ss twins) stands in
        let upgraded : Record = record {
          thread = r.thread;
          nests = r.nests;
          seq = r.seq;
          seen = r.seen;
          body = body_upgraded rs ss i r.body;
        } in
        ap (λ (q : Record). q.nests) (same_Some s upgraded (sym stands ∙ upgrade.each i r there))
        ∙ flat i r there
