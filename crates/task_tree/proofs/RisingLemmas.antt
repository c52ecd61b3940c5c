-- Where turns rise along the file, the tasks' own order renames the records; where none are told, they do.
use Rattle.std.proofs.Common.{◌≡◌, ℕ, ◌<◌, ◌≤◌, suc, List, [], ◌∷◌, Option, Some, None, true, false, refl, ap}
use Rattle.std.proofs.Common.{arith, length, inl, inr}
use Rattle.std.proofs.lemmas.Option.{slice_get-get_or, get_or_from_slice_get}
use Rattle.std.proofs.lemmas.Bool.{cases_order, eqb-true}
use Rattle.std.specs.Prelude.{◌==◌, slice_get, slice_index, option_and_then, option_map, is_some, filter}
use Rattle.std.specs.Prelude.{take}
use Rattle.std.specs.Option.{option_map_or}
use Rattle.ompt_events.specs.declared.records.Record.{Record}
use Rattle.ompt_events.specs.declared.records.Body.{Body}
use Rattle.ompt_events.specs.declared.records.Body.TheVariants.{ImplicitTask}
use Rattle.ompt_events.specs.declared.names.Endpoint.TheVariants.{Begin, End, BeginEnd}
use Rattle.ompt_events.specs.declared.records.Turns.{Turns}
use Rattle.ompt_events.specs.Records.{running, joined, started, told_turns, next_turn}
use Rattle.ompt_events.specs.Places.{at, is_own}
use Rattle.ompt_events.specs.Turns.{TellsNoTurns, turn_in, turn_of, turn_at, own_places, in_own_order}
use Rattle.ompt_events.specs.Turns.{own_place}
use Rattle.ompt_events.proofs.PlaceLemmas.{at_within, some_within}
use Rattle.task_tree.specs.Renaming.{IsRenaming}
use Rattle.task_tree.proofs.BlindLemmas.{alike_same}
use Rattle.task_tree.specs.Rising.{TurnsRise}
use Rattle.task_tree.proofs.RankedLemmas.{Every}
use Rattle.task_tree.proofs.OwnOrderLemmas.{new_turn, turn_most, own_length, own_within, own_place_within}
use Rattle.task_tree.proofs.OwnOrderLemmas.{own_place_past, own_get, own_place_of, own_order, arranged_length}
use Rattle.task_tree.proofs.OwnOrderLemmas.{arranged_get}

-- ---- own records

pub own_running : (rs : List Record) (task i : ℕ) → is_own rs task i ≡ true → at running rs i ≡ Some task
own_running rs task i own = by (at running rs i) own
  where
    by : (o : Option ℕ) → option_map_or (λ t. t == task) o false ≡ true → o ≡ Some task
    by None is = cc
    by (Some t) is = ap Some (eqb-true t task is)

-- a record at which a member begins is of no task, so that its turn is 0
joined_none : (b : Body) → is_some (joined b) ≡ true → running b ≡ None
joined_none (ImplicitTask Begin actual index flags parallel task) some = refl
joined_none (ImplicitTask End actual index flags parallel task) some = cc
joined_none (ImplicitTask BeginEnd actual index flags parallel task) some = cc
joined_none b some = cc

pub joined_zero : (rs : List Record) (i : ℕ) → is_some (at joined rs i) ≡ true → turn_at rs i ≡ 0
joined_zero rs i some = by (slice_get rs i) some
  where
    by : (o : Option Record) → is_some (option_and_then (λ (r : Record). joined r.body) o) ≡ true
        → option_map_or (λ (r : Record). turn_of rs r i) o 0 ≡ 0
    by None is = refl
    by (Some r) is =
        ap
        (λ (t : Option ℕ).
        option_map_or (λ task. turn_in task (filter (λ q. q.thread == r.thread) (take i rs))) t 0)
        (joined_none r.body is)

-- ---- the renaming

item_get : (xs : List ℕ) (i : ℕ) → i < length xs → slice_get xs i ≡ Some (slice_index xs i)
item_get xs i within = slice_get-get_or xs i 0 within

pub own_renaming : (rs : List Record) → TurnsRise rs
    → IsRenaming rs (in_own_order rs) (own_place rs) (slice_index (own_places rs))
own_renaming rs rise = record {
  to_within =
      λ i within. let long = arranged_length rs in let below = own_place_within rs i within in omega arith;
  to_past = λ i past. let long = arranged_length rs in let last = own_place_past rs i past in omega arith;
  back_within = λ j within. own_within rs j (slice_index (own_places rs) j) (item j within);
  back_to = λ i within. get_or_from_slice_get (own_places rs) (own_place rs i) i 0 (own_get rs i within);
  to_back = λ j within. own_place_of rs j (slice_index (own_places rs) j) (item j within);
  alike = λ i within. alike_same (in_own_order rs) (own_place rs i) rs i (arranged_get rs i within);
  own_rise =
      λ task i k one other less.
      up i k (some_own task i one) (some_own task k other) less (rise task i k one other less);
  members_rise =
      λ i k one other less.
      up i k (some_within joined rs i one) (some_within joined rs k other) less
      (let first = joined_zero rs i one in omega arith);
}
  where
    item : (j : ℕ) → j < length (in_own_order rs)
        → slice_get (own_places rs) j ≡ Some (slice_index (own_places rs) j)
    item j within =
        item_get (own_places rs) j (let long = arranged_length rs in let same = own_length rs in omega arith)

    some_own : (task i : ℕ) → is_own rs task i ≡ true → i < length rs
    some_own task i own = at_within running rs i task (own_running rs task i own)

    up : (i k : ℕ) → i < length rs → k < length rs → i < k → turn_at rs i ≤ turn_at rs k
        → own_place rs i < own_place rs k
    up i k one other less not_later = elim (cases_order (turn_at rs i) (turn_at rs k)) [
      | inl same ↦ (own_order rs i k one other).1 (inr (same, less))
      | inr (inl earlier) ↦ (own_order rs i k one other).1 (inl earlier)
      | inr (inr later) ↦ absurd (omega arith)
    ]

-- ---- where no turns are told

untold_zero : (r : Record) → told_turns r.body ≡ None → new_turn r ≤ 0
untold_zero r untold = by (started r.body)
  where
    zero_next : next_turn r.body ≡ 0
    zero_next = ap (λ (t : Option Turns). option_map_or (λ (u : Turns). u.next) t 0) untold

    by : (s : Option ℕ)
        → option_map_or (λ (b : ℕ × ℕ). b.1) (option_map {U = ℕ × ℕ} (λ t. (t, next_turn r.body)) s) 0 ≤ 0
    by None = omega arith
    by (Some t) = omega (arith, zero_next)

untold_each : (rs : List Record) → TellsNoTurns rs → Every (λ r. new_turn r ≤ 0) rs
untold_each [] untold = tt
untold_each (r ∷ rs) untold = (untold_zero r (untold 0), untold_each rs (λ i. untold (suc i)))

pub untold_rise : (rs : List Record) → TellsNoTurns rs → TurnsRise rs
untold_rise rs untold task i k one other less =
    let first = turn_most rs 0 i (untold_each rs untold) in omega arith
