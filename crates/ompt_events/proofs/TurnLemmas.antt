-- The start of a task by turns, and what holds where no record tells a turn.
use Rattle.std.proofs.Common.{◌≡◌, ◌≢◌, ◌∙◌, ℕ, ◌<◌, ◌≤◌, ◌+◌, max, if◌then◌else◌, List, [], ◌∷◌, Option}
use Rattle.std.proofs.Common.{Some, None, true, false, Bool, cond, refl, sym, ap, subst, arith, get_or}
use Rattle.std.proofs.Common.{length, inl, inr}
use Rattle.std.proofs.lemmas.Bool.{cases_eq}
use Rattle.std.proofs.lemmas.Option.{none-some, same_Some, slice_get-get_or, slice_get_within}
use Rattle.std.specs.Prelude.{◌==◌, slice_get, option_and_then, option_map, is_some, filter, fold, take}
use Rattle.std.specs.Option.{option_map_or}
use Rattle.ompt_events.specs.declared.records.Record.{Record}
use Rattle.ompt_events.specs.declared.records.Turns.{Turns}
use Rattle.ompt_events.specs.Records.{running, started, told_turns, begun_turn, next_turn, prior_turn}
use Rattle.ompt_events.specs.Places.{at}
use Rattle.ompt_events.specs.Turns.{TellsNoTurns, turn_after, turn_in, turn_of, turn_at, turns_in}
use Rattle.ompt_events.specs.Traces.{IsTraceOf, HasItsTurns}
use Rattle.ompt_events.specs.declared.cause.Cause.TheVariants.{TurnGap}
use Rattle.ompt_events.proofs.EveryLemmas.{Every, every_filter, every_take, fold_most}
use Rattle.ompt_events.specs.HappensBefore.{IsStart, IsResumption}
use Rattle.ompt_events.specs.Causes.{HasTurnGap, turn_gap, IsFreeOf, other_turn, begun_again, falling}
use Rattle.ompt_events.specs.Causes.{of_root, missing}

-- ---- the task that begins a turn runs next

begun_there : (o : Option Record) (task turn : ℕ)
    → option_and_then (λ (r : Record). begun_turn r.body) o ≡ Some (task, turn)
    → option_and_then (λ (r : Record). started r.body) o ≡ Some task
begun_there None task turn begins = absurd (none-some (task, turn) begins)
begun_there (Some r) task turn begins = by (started r.body) refl begins
  where
    by : (s : Option ℕ) → started r.body ≡ s
        → option_map {U = ℕ × ℕ} (λ t. (t, next_turn r.body)) s ≡ Some (task, turn)
        → started r.body ≡ Some task
    by None e is = absurd (none-some (task, turn) is)
    by (Some t) e is = e ∙ ap (λ (p : ℕ × ℕ). Some p.0) (same_Some (t, next_turn r.body) (task, turn) is)

pub begun_started : (rs : List Record) (i task turn : ℕ) → at begun_turn rs i ≡ Some (task, turn)
    → at started rs i ≡ Some task
begun_started rs i task turn begins = begun_there (slice_get rs i) task turn begins

pub start_starts : (rs : List Record) (i task : ℕ) → IsStart rs i task → at started rs i ≡ Some task
start_starts rs i task start = begun_started rs i task 0 start.starts

-- ---- each record's turn is one of the turns

-- the turn that a record begins, and 0 where it begins none
abbrev pub new_turn : Record → ℕ
new_turn r = option_map_or (λ (b : ℕ × ℕ). b.1) (begun_turn r.body) 0

abbrev most_turn : List Record → ℕ
most_turn rs = fold (λ most (r : Record). max most (new_turn r)) 0 rs

after_most : (task turn most : ℕ) (r : Record) → turn ≤ most → new_turn r ≤ most
    → turn_after task turn r ≤ most
after_most task turn most r low new = by (begun_turn r.body) new
  where
    pick : (b : Bool) (one other : ℕ) → one ≤ most → other ≤ most → cond b one other ≤ most
    pick true one other p q = p
    pick false one other p q = q

    by : (o : Option (ℕ × ℕ)) → option_map_or (λ (b : ℕ × ℕ). b.1) o 0 ≤ most
        → option_map_or (λ (b : ℕ × ℕ). if b.0 == task then b.1 else turn) o turn ≤ most
    by None new' = low
    by (Some b) new' = pick (b.0 == task) b.1 turn new' low

fold_low : (task most : ℕ) (qs : List Record) (turn : ℕ) → turn ≤ most → Every (λ r. new_turn r ≤ most) qs
    → fold (turn_after task) turn qs ≤ most
fold_low task most [] turn low each = low
fold_low task most (q ∷ qs) turn low each =
    fold_low task most qs (turn_after task turn q) (after_most task turn most q low each.0) each.1

-- where no record begins a turn beyond most, no record is in one
pub turn_most : (rs : List Record) (most i : ℕ) → Every (λ r. new_turn r ≤ most) rs → turn_at rs i ≤ most
turn_most rs most i each = by (slice_get rs i)
  where
    of_task : (r : Record) (o : Option ℕ)
        → option_map_or (λ task. turn_in task (filter (λ q. q.thread == r.thread) (take i rs))) o 0 ≤ most
    of_task r None = omega arith
    of_task r (Some task) =
        fold_low task most (filter (λ q. q.thread == r.thread) (take i rs)) 0 (omega arith)
        (every_filter (λ r'. new_turn r' ≤ most) (λ q. q.thread == r.thread) (take i rs)
        (every_take (λ r'. new_turn r' ≤ most) i rs each))

    by : (o : Option Record) → option_map_or (λ (r : Record). turn_of rs r i) o 0 ≤ most
    by None = omega arith
    by (Some r) = of_task r (running r.body)

pub turn_low : (rs : List Record) (i : ℕ) → turn_at rs i < turns_in rs
turn_low rs i = let low = turn_most rs (most_turn rs) i (fold_most new_turn rs 0).1 in omega arith

-- ---- where no record tells a turn

told_there : (o : Option Record) (task : ℕ) → option_and_then (λ (r : Record). told_turns r.body) o ≡ None
    → option_and_then (λ (r : Record). started r.body) o ≡ Some task
    → option_and_then (λ (r : Record). begun_turn r.body) o ≡ Some (task, 0)
told_there None task none starts = absurd (none-some task starts)
told_there (Some r) task none starts =
    ap (option_map {U = ℕ × ℕ} (λ t. (t, next_turn r.body))) starts
    ∙ ap (λ (t : Option Turns). Some (task, option_map_or (λ (u : Turns). u.next) t 0)) none

pub starts_begun : (rs : List Record) (i task : ℕ) → TellsNoTurns rs → at started rs i ≡ Some task
    → at begun_turn rs i ≡ Some (task, 0)
starts_begun rs i task none starts = told_there (slice_get rs i) task (none i) starts

-- each turn that begins is turn 0
pub begun_zero : (rs : List Record) (i task turn : ℕ) → TellsNoTurns rs
    → at begun_turn rs i ≡ Some (task, turn) → turn ≡ 0
begun_zero rs i task turn none begins =
    ap (λ (p : ℕ × ℕ). p.1)
    (same_Some (task, turn) (task, 0)
    (sym begins ∙ starts_begun rs i task none (begun_started rs i task turn begins)))

-- the start of a task is the first record after which it runs
pub start_first : (rs : List Record) (i task : ℕ) → TellsNoTurns rs → IsStart rs i task → (k : ℕ) → k < i
    → at started rs k ≢ Some task
start_first rs i task none start k below starts = start.first k below (starts_begun rs k task none starts)

pub is_start_untold : (rs : List Record) (i task : ℕ) → TellsNoTurns rs → at started rs i ≡ Some task
    → ((k : ℕ) → k < i → at started rs k ≢ Some task) → IsStart rs i task
is_start_untold rs i task none starts first = record {
  starts = starts_begun rs i task none starts;
  first = λ k below begins. first k below (begun_started rs k task 0 begins);
}

-- no task runs on in a later turn
pub no_resumption : (rs : List Record) (a b : ℕ) → TellsNoTurns rs → IsResumption rs a b → ⊥
no_resumption rs a b none again =
    absurd (omega (arith, begun_zero rs b again.task (again.turn + 1) none again.resumes))

-- and no record has a gap
pub no_turn_gap : (rs : List Record) (i : ℕ) → TellsNoTurns rs → HasTurnGap rs i → ⊥
no_turn_gap rs i none (other_turn told tells other) = none-some told (sym (none i) ∙ tells)
no_turn_gap rs i none (begun_again task turn k tells below begins) = tells.0 (none i)
no_turn_gap rs i none (falling task turn k later tells below same begins less) = tells.0 (none i)
no_turn_gap rs i none (of_root task tells root) = tells.0 (none i)
no_turn_gap rs i none (missing task turn tells never) = tells.0 (none i)

pub free_of_gaps : (rs : List Record) → TellsNoTurns rs → IsFreeOf rs TurnGap
free_of_gaps rs untold i (turn_gap gap) = no_turn_gap rs i untold gap

-- a trace of version 1 tells none
pub first_version_tells_none : (rs : List Record) → IsTraceOf 1 rs → TellsNoTurns rs
first_version_tells_none rs trace i = there (slice_get rs i) refl
  where
    none_of : {X : Type 0} (o : Option X) → is_some o ≡ false → o ≡ None
    none_of None e = refl
    none_of (Some x) e = cc

    there : (o : Option Record) → slice_get rs i ≡ o
        → option_and_then (λ (r : Record). told_turns r.body) o ≡ None
    there None e = refl
    there (Some r) e =
        let within : i < length rs = slice_get_within rs i r e in
        let same : get_or rs i r ≡ r =
        same_Some (get_or rs i r) r (sym (slice_get-get_or rs i r within) ∙ e) in
        let P : Record → Type 0 = λ q. HasItsTurns 1 q.body in
        none_of (told_turns r.body) (subst P same (trace.turns i r within))

-- where no record has a gap, the turn that a record ends is one of the turns
pub ended_low : (rs : List Record) (i : ℕ) (r : Record) → IsFreeOf rs TurnGap → slice_get rs i ≡ Some r
    → prior_turn r.body < turns_in rs
ended_low rs i r free here = by (told_turns r.body) refl
  where
    by : (o : Option Turns) → told_turns r.body ≡ o → option_map_or (λ (t : Turns). t.prior) o 0 < turns_in rs
    by None e = omega arith
    by (Some told) e = elim (cases_eq told.prior (turn_at rs i)) [
      | inl same ↦ let low = turn_low rs i in omega (arith, same, low)
      | inr apart ↦
          absurd
          (free i
          (turn_gap
          (other_turn told (ap (option_and_then (λ (q : Record). told_turns q.body)) here ∙ e)
          apart)))
    ]
