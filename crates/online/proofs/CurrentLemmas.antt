-- Causes of the walk of a thread, of turns and of regions.
use Rattle.std.proofs.Common.{◌≡◌, ◌∙◌, ℕ, zero, suc, ◌<◌, ◌≤◌, ◌+◌, Bool, true, false, List, [], ◌∷◌, ◌++◌}
use Rattle.std.proofs.Common.{length, take, Option, Some, None, refl, sym, ap, subst, arith}
use Rattle.std.specs.Prelude.{slice_get, option_and_then, option_map, ◌==◌, Contains, filter, if◌then◌else◌}
use Rattle.std.specs.Option.{option_map_or}
use Rattle.std.specs.List.{range_with_len, fold}
use Rattle.std.proofs.lemmas.Option.{none-some}
use Rattle.std.proofs.lemmas.List.Sums.{fold-append}
use Rattle.std.proofs.lemmas.List.Elements.{filter-append}
use Rattle.ompt_events.specs.declared.records.Record.{Record}
use Rattle.ompt_events.specs.declared.records.Body.{Body}
use Rattle.ompt_events.specs.declared.names.SyncKind.{SyncKind}
use Rattle.ompt_events.specs.declared.names.Endpoint.{Endpoint}
use Rattle.ompt_events.specs.Records.{running, started, told_turns, begun_turn, begun_root, region, named}
use Rattle.ompt_events.specs.Places.{at, is_own, own_before}
use Rattle.ompt_events.specs.Threads.{walk_of, Misfits, MisfitsAt, not_running, not_innermost, other_root}
use Rattle.ompt_events.specs.Threads.{other_parent}
use Rattle.ompt_events.specs.Turns.{turn_at, turn_in}
use Rattle.ompt_events.specs.Regions.{open_regions, after_region}
use Rattle.ompt_events.specs.Causes.{IsNotCurrent, IsMoved, HasTurnGap, BeginsTurn, TellsStart, runs, is_root}
use Rattle.ompt_events.specs.Causes.{other_turn, begun_again, falling, of_root, missing, HasNoBegin}
use Rattle.ompt_events.specs.Causes.{HasBarrier}
use Rattle.ompt_events.specs.Causes.{IsNamedAt}
use Rattle.ompt_events.proofs.PlaceLemmas.{range_more, at_within}
use Rattle.ompt_events.proofs.TurnLemmas.{begun_started}
use Rattle.ompt_events.proofs.RegionLemmas.{begin_before}
use Rattle.ompt_events.proofs.RecordLemmas.{region_running, at_through}
use Rattle.online.proofs.ReadLemmas.{IsSameTo, same_back, at_same, thread_same}
use Rattle.online.proofs.NameLemmas.{IsRead, IsMadeBelow, root_same, explicit_same, creation_same}
use Rattle.online.proofs.NameLemmas.{started_named, wait_named, running_named}

-- ---- what a record says is said by a body

pub said_there : {X : Type 0} (f : Body → Option X) (rs : List Record) (i : ℕ) (x : X) → at f rs i ≡ Some x
    → (r : Record) × (slice_get rs i ≡ Some r) × (f r.body ≡ Some x)
said_there {X} f rs i x says = of (slice_get rs i) refl says
  where
    of : (o : Option Record) → slice_get rs i ≡ o → option_and_then (λ (r : Record). f r.body) o ≡ Some x
        → (r : Record) × (slice_get rs i ≡ Some r) × (f r.body ≡ Some x)
    of None is said = absurd (none-some x said)
    of (Some r) is said = (r, is, said)

-- a task that a record names, as f has it
pub named_by : (f : Body → Option ℕ) → ((task : ℕ) (b : Body) → f b ≡ Some task → Contains (named b) task)
    → (rs : List Record) (i task : ℕ) → at f rs i ≡ Some task → IsNamedAt rs i task
named_by f names rs i task says =
    let there = said_there f rs i task says in (there.0, there.1, names task there.0.body there.2)

-- ---- NotCurrent

misfits_same : (n : ℕ) (xs ys : List Record) → IsSameTo n xs ys → IsRead n xs → (i : ℕ) → i < n
    → MisfitsAt xs i → MisfitsAt ys i
misfits_same n xs ys same read i below h = record {
  the_record = h.the_record;
  stands = sym (same.there i below) ∙ h.stands;
  misfits =
      let P : List Record → Type 0 = λ l. Misfits ys (walk_of h.the_record.thread l) h.the_record.body in
      subst P (same.before i (omega (arith, below))) (of h.misfits);
}
  where
    made : (task : ℕ) → Contains (named h.the_record.body) task → IsMadeBelow n xs task
    made task has = read.named i task below (h.the_record, h.stands, has)

    of : Misfits xs (walk_of h.the_record.thread (take i xs)) h.the_record.body
        → Misfits ys (walk_of h.the_record.thread (take i xs)) h.the_record.body
    of (not_running task is apart) = not_running task is apart
    of (not_innermost task ends apart) = not_innermost task ends apart
    of (other_root task starts root apart) =
        other_root task starts
        (root_same n xs ys same read task (made task (started_named task h.the_record.body starts)) root)
        apart
    of (other_parent task j parent waits creates apart) =
        other_parent task j parent waits
        (creation_same n xs ys same read task j parent
        (made task (wait_named task h.the_record.body waits)) creates)
        apart

pub current_same : (n : ℕ) (xs ys : List Record) → IsSameTo n xs ys → IsRead n xs → IsRead n ys → (i : ℕ)
    → i < n → IsNotCurrent xs i → IsNotCurrent ys i
current_same n xs ys same read other i below h = record {
  misfits = misfits_same n xs ys same read i below h.misfits;
  first = λ k earlier thread fits.
      h.first k earlier
      (thread_same n xs ys same k (omega (arith, earlier, below)) ∙ thread
      ∙ sym (thread_same n xs ys same i below))
      (misfits_same n ys xs (same_back n xs ys same) other k (omega (arith, earlier, below)) fits);
}

-- ---- Moved and TurnGap

pub moved_same : (n : ℕ) (xs ys : List Record) → IsSameTo n xs ys → IsRead n xs → (i : ℕ) → i < n
    → IsMoved xs i → IsMoved ys i
moved_same n xs ys same read i below (task, k, explicit, starts, earlier, before, apart, untold) =
    let low : k < n = omega (arith, earlier, below) in
    let name = named_by started started_named xs i task starts in (
      task,
      k,
      explicit_same n xs ys same read task (read.named i task below name) explicit,
      sym (at_same started n xs ys same i below) ∙ starts,
      earlier,
      sym (at_same started n xs ys same k low) ∙ before,
      (λ is. apart (thread_same n xs ys same k low ∙ is ∙ sym (thread_same n xs ys same i below))),
      sym (at_same told_turns n xs ys same i below) ∙ untold,
    )

turn_same : (n : ℕ) (xs ys : List Record) → IsSameTo n xs ys → (i : ℕ) → i < n → turn_at xs i ≡ turn_at ys i
turn_same n xs ys same i below =
    ap (turn_there (take i xs)) (same.there i below)
    ∙ ap (λ l. turn_there l (slice_get ys i)) (same.before i (omega (arith, below)))
  where
    turn_there : List Record → Option Record → ℕ
    turn_there l o =
        let of : Record → ℕ → ℕ = λ r task. turn_in task (filter (λ (q : Record). q.thread == r.thread) l) in
        option_map_or (λ (r : Record). option_map_or (of r) (running r.body) 0) o 0

tells_same : (n : ℕ) (xs ys : List Record) → IsSameTo n xs ys → (i task turn : ℕ) → i < n
    → TellsStart xs i task turn → TellsStart ys i task turn
tells_same n xs ys same i task turn below (told, begins) = (
  (λ none. told (at_same told_turns n xs ys same i below ∙ none)),
  sym (at_same begun_turn n xs ys same i below) ∙ begins,
)

begins_same : (n : ℕ) (xs ys : List Record) → IsSameTo n xs ys → (k task turn : ℕ) → k < n
    → BeginsTurn xs k task turn → BeginsTurn ys k task turn
begins_same n xs ys same k task turn below (runs begins) =
    runs (sym (at_same begun_turn n xs ys same k below) ∙ begins)
begins_same n xs ys same k task _ below (is_root begins) =
    is_root (sym (at_same begun_root n xs ys same k below) ∙ begins)

begins_within : (rs : List Record) (k task turn : ℕ) → BeginsTurn rs k task turn → k < length rs
begins_within rs k task turn (runs begins) = at_within begun_turn rs k (task, turn) begins
begins_within rs k task _ (is_root begins) = at_within begun_root rs k task begins

-- of a list that goes on behind the first n records to one that does not
pub gap_left : (n : ℕ) (xs ys : List Record) → IsSameTo n xs ys → IsRead n xs → length ys ≤ n → (i : ℕ)
    → i < n → HasTurnGap xs i → HasTurnGap ys i
gap_left n xs ys same read short i below (other_turn told tells apart) =
    other_turn told (sym (at_same told_turns n xs ys same i below) ∙ tells)
    (λ is. apart (is ∙ sym (turn_same n xs ys same i below)))
gap_left n xs ys same read short i below (begun_again task turn k tells earlier again) =
    begun_again task turn k (tells_same n xs ys same i task turn below tells) earlier
    (sym (at_same begun_turn n xs ys same k (omega (arith, earlier, below))) ∙ again)
gap_left n xs ys same read short i below (falling task turn k later tells earlier thread again less) =
    let low : k < n = omega (arith, earlier, below) in
    falling task turn k later (tells_same n xs ys same i task turn below tells) earlier
    (sym (thread_same n xs ys same k low) ∙ thread ∙ thread_same n xs ys same i below)
    (sym (at_same begun_turn n xs ys same k low) ∙ again) less
gap_left n xs ys same read short i below (of_root task tells root) =
    let starts = begun_started xs i task 0 tells.1 in
    let name = named_by started started_named xs i task starts in
    of_root task (tells_same n xs ys same i task 0 below tells)
    (root_same n xs ys same read task (read.named i task below name) root)
gap_left n xs ys same read short i below (missing task turn tells none) =
    missing task turn (tells_same n xs ys same i task (turn + 1) below tells)
    (λ k begins.
    let low = begins_within ys k task turn begins in
    none k (begins_same n ys xs (same_back n xs ys same) k task turn (omega (arith, low, short)) begins))

-- ---- RegionOrder

pub own_same : (n : ℕ) (xs ys : List Record) → IsSameTo n xs ys → (task k : ℕ) → k < n
    → is_own xs task k ≡ is_own ys task k
own_same n xs ys same task k below =
    ap (λ o. option_map_or (λ t. t == task) o false) (at_same running n xs ys same k below)

own_next : (rs : List Record) (task i : ℕ)
    → own_before rs task (i + 1) ≡ own_before rs task i ++ filter (is_own rs task) (i ∷ [])
own_next rs task i =
    ap (filter (is_own rs task)) (range_more i) ∙ filter-append (is_own rs task) (range_with_len 0 i) (i ∷ [])

-- the regions after a record that is, or is not, one of the task's own
region_step : List ℕ → ℕ → Option (ℕ × SyncKind × Endpoint) → Bool → List ℕ
region_step opened i says own = if own then after_region opened i says else opened

open_next : (rs : List Record) (task i : ℕ) → open_regions rs task (i + 1)
    ≡ region_step (open_regions rs task i) i (at region rs i) (is_own rs task i)
unfolding region_step
open_next rs task i =
    ap (fold (λ opened k. after_region opened k (at region rs k)) []) (own_next rs task i)
    ∙ fold-append (λ opened k. after_region opened k (at region rs k)) [] (own_before rs task i)
    (filter (is_own rs task) (i ∷ []))
    ∙ of (is_own rs task i) refl
  where
    of : (b : Bool) → is_own rs task i ≡ b
        → fold (λ opened k. after_region opened k (at region rs k)) (open_regions rs task i)
        (filter (is_own rs task) (i ∷ []))
        ≡ region_step (open_regions rs task i) i (at region rs i) (is_own rs task i)
    of true is = rw is refl
    of false is = rw is refl

pub open_same : (n : ℕ) (xs ys : List Record) → IsSameTo n xs ys → (task i : ℕ) → i ≤ n
    → open_regions xs task i ≡ open_regions ys task i
open_same n xs ys same task zero most = refl
open_same n xs ys same task (suc i) most =
    let next : suc i ≡ i + 1 = omega arith in
    let low : i < n = omega (arith, most) in
    ap (open_regions xs task) next ∙ open_next xs task i
    ∙ ap (λ o. region_step o i (at region xs i) (is_own xs task i))
    (open_same n xs ys same task i (omega (arith, most)))
    ∙ ap (λ s. region_step (open_regions ys task i) i s (is_own xs task i))
    (at_same region n xs ys same i low)
    ∙ ap (region_step (open_regions ys task i) i (at region ys i)) (own_same n xs ys same task i low)
    ∙ sym (open_next ys task i) ∙ ap (open_regions ys task) (sym next)

pub begin_same : (n : ℕ) (xs ys : List Record) → IsSameTo n xs ys → (i : ℕ) → i < n → HasNoBegin xs i
    → HasNoBegin ys i
begin_same n xs ys same i below (task, kind, h) =
    let ends = sym (at_same region n xs ys same i below) ∙ h.ends in (
      task,
      kind,
      record {
        ends = ends;
        none = λ begin innermost same_kind.
            let back : slice_get (open_regions xs task i) 0 ≡ Some begin =
            ap (λ l. slice_get l 0) (open_same n xs ys same task i (omega (arith, below))) ∙ innermost in
            let earlier =
            begin_before ys i task begin kind
            (record { ends = ends; innermost = innermost; same_kind = same_kind }) in
            h.none begin back
            (ap (option_map (λ (q : ℕ × SyncKind × Endpoint). q.1))
            (at_same region n xs ys same begin (omega (arith, earlier, below)))
            ∙ same_kind);
      },
    )

pub barrier_same : (n : ℕ) (xs ys : List Record) → IsSameTo n xs ys → IsRead n xs → (i : ℕ) → i < n
    → HasBarrier xs i → HasBarrier ys i
barrier_same n xs ys same read i below (task, kind, endpoint, says, called, explicit) =
    let own =
    at_through region running (task, kind, endpoint) task xs i (region_running task kind endpoint) says in
    let name = named_by running running_named xs i task own in (
      task,
      kind,
      endpoint,
      sym (at_same region n xs ys same i below) ∙ says,
      called,
      explicit_same n xs ys same read task (read.named i task below name) explicit,
    )
