-- Causes of regions inside others, of entries and lengths, and of target tasks.
use Rattle.std.proofs.Common.{◌≡◌, ◌∙◌, ℕ, zero, suc, ◌<◌, ◌≤◌, ◌+◌, Bool, true, false, List, [], ◌∷◌, length}
use Rattle.std.proofs.Common.{take, drop, Some, refl, sym, ap, arith}
use Rattle.std.specs.Prelude.{is_some, slice_get, option_map, ◌==◌, filter, All, if◌then◌else◌}
use Rattle.std.specs.List.{fold}
use Rattle.std.proofs.lemmas.Option.{none-some}
use Rattle.std.proofs.lemmas.List.{length-take, get_or-take}
use Rattle.std.proofs.lemmas.List.Elements.{All-filter}
use Rattle.ompt_events.specs.declared.records.Record.{Record}
use Rattle.ompt_events.specs.declared.records.Body.{Body}
use Rattle.ompt_events.specs.declared.records.Body.TheVariants.{ImplicitTask, TaskSchedule, ParallelBegin}
use Rattle.ompt_events.specs.declared.names.Endpoint.TheVariants.{Begin, End}
use Rattle.ompt_events.specs.Names.{demands_next}
use Rattle.ompt_events.specs.Records.{begun_root, begun_initial, forked, joined, made, running, finish, flags}
use Rattle.ompt_events.specs.Records.{created, discarded, fulfilled, begun_turn, suspended_turn}
use Rattle.ompt_events.specs.Places.{at, seen_at}
use Rattle.ompt_events.specs.Threads.{Walk, at_start, after_body, after_record, walk_of}
use Rattle.ompt_events.specs.HappensBefore.{IsFinishing, IsStart, IsProgramStep, thread_order, creation}
use Rattle.ompt_events.specs.HappensBefore.{resumption, discard, fulfilment}
use Rattle.ompt_events.specs.Causes.{IsNested, forked_inside, joined_inside, initial_inside, IsWalkAt}
use Rattle.ompt_events.specs.Causes.{HasBegun}
use Rattle.ompt_events.specs.Causes.{IsMisnested, other_region, other_league, RepeatsEntry, IsBehind}
use Rattle.ompt_events.specs.Causes.{known_after}
use Rattle.ompt_events.specs.Causes.{MakesTarget}
use Rattle.ompt_events.proofs.PlaceLemmas.{at_index}
use Rattle.ompt_events.proofs.RecordLemmas.{begun_at_made, at_through}
use Rattle.online.proofs.ReadLemmas.{IsSameTo, same_back, at_same, thread_same, seen_same, nests_same}
use Rattle.online.proofs.NameLemmas.{IsRead, IsMadeBelow, initial_same, member_same, running_named}
use Rattle.online.proofs.CurrentLemmas.{named_by}

-- ---- the roots of a walk began before

abbrev HasRoots : (ℕ → Type 0) → Walk → Type 0
HasRoots P walk = (q root : ℕ) → slice_get walk.roots q ≡ Some root → P root

abbrev Begins : (ℕ → Type 0) → Record → Type 0
Begins P r = (root : ℕ) → begun_root r.body ≡ Some root → P root

pub get_drop : (xs : List ℕ) (q : ℕ) → slice_get (drop 1 xs) q ≡ slice_get xs (suc q)
get_drop [] q = refl
get_drop (x ∷ xs) q = refl

after_roots : (P : ℕ → Type 0) (nests : Bool) (walk : Walk) (b : Body)
    → ((root : ℕ) → begun_root b ≡ Some root → P root) → HasRoots P walk
    → HasRoots P (after_body nests walk b)
after_roots P nests walk (ImplicitTask Begin actual index flags parallel task) begins have zero root is =
    begins root is
after_roots P nests walk (ImplicitTask Begin actual index flags parallel task) begins have (suc q) root is =
    have q root is
after_roots P nests walk (ImplicitTask End actual index flags parallel task) begins have q root is =
    have (suc q) root (sym (get_drop walk.roots q) ∙ is)
after_roots P nests walk (TaskSchedule status turns prior next claimed) begins have q root is =
    of (demands_next status) is
  where
    of : (b : Bool)
        → slice_get
        (if b then record { roots = walk.roots; outer = walk.outer; current = next } else walk).roots q
        ≡ Some root → P root
    of true is' = have q root is'
    of false is' = have q root is'
after_roots P nests walk _ begins have q root is = have q root is

fold_roots : (P : ℕ → Type 0) (rs : List Record) (walk : Walk) → All (Begins P) rs → HasRoots P walk
    → HasRoots P (fold after_record walk rs)
fold_roots P [] walk begins have = have
fold_roots P (r ∷ rs) walk begins have =
    fold_roots P rs (after_record walk r) (λ i d low. begins (suc i) d (omega (arith, low)))
    (after_roots P r.nests walk r.body (begins 0 r (omega arith)) have)

root_begun : (rs : List Record) (thread i q root : ℕ) → i ≤ length rs
    → slice_get (walk_of thread (take i rs)).roots q ≡ Some root
    → (k : ℕ) × (k < i) × (at begun_root rs k ≡ Some root)
root_begun rs thread i q root most is =
    fold_roots P (filter (λ (r : Record). r.thread == thread) (take i rs)) at_start
    (All-filter (λ (r : Record). r.thread == thread) (Begins P) (take i rs) below) none q root is
  where
    P : ℕ → Type 0
    P root = (k : ℕ) × (k < i) × (at begun_root rs k ≡ Some root)

    below : All (Begins P) (take i rs)
    below k d low root begins =
        let len = length-take i rs in
        let first : k < i = omega (arith, low, len) in (
          k,
          first,
          at_index begun_root rs k d (omega (arith, first, most))
              ∙ ap (λ (r : Record). begun_root r.body) (sym (get_or-take i rs k d first)) ∙ begins,
        )

    none : HasRoots P at_start
    none q root is = absurd (none-some root is)

-- ---- NestedParallel and RegionNesting

forked_running : (task parallel : ℕ) (b : Body) → forked b ≡ Some (task, parallel) → running b ≡ Some task
forked_running task parallel (ParallelBegin requested own region) says =
    ap (option_map (λ (p : ℕ × ℕ). p.0)) says
forked_running task parallel _ says = absurd (none-some (task, parallel) says)

walk_same : (n : ℕ) (xs ys : List Record) → IsSameTo n xs ys → (i : ℕ) (walk : Walk) → i < n
    → IsWalkAt xs i walk
    → IsWalkAt ys i walk
walk_same n xs ys same i walk below (r, stands, is) =
    (r, sym (same.there i below) ∙ stands, is ∙ ap (walk_of r.thread) (same.before i (omega (arith, below))))

pub nested_same : (n : ℕ) (xs ys : List Record) → IsSameTo n xs ys → IsRead n xs → IsRead n ys → n ≤ length xs
    → (i : ℕ) → i < n → IsNested xs i → IsNested ys i
nested_same n xs ys same read other long i below (forked_inside task parallel flat forks apart) =
    forked_inside task parallel (sym (nests_same n xs ys same i below) ∙ flat)
    (sym (at_same forked n xs ys same i below) ∙ forks)
    (λ initial.
    let own = sym (at_same forked n xs ys same i below) ∙ forks in
    let runs = at_through forked running (task, parallel) task ys i (forked_running task parallel) own in
    let name = named_by running running_named ys i task runs in
    apart (initial_same n ys xs (same_back n xs ys same) other task (other.named i task below name) initial))
nested_same n xs ys same read other long i below
    (joined_inside m walk outer flat joins at_walk innermost member) =
    joined_inside m walk outer (sym (nests_same n xs ys same i below) ∙ flat)
    (sym (at_same joined n xs ys same i below) ∙ joins) (walk_same n xs ys same i walk below at_walk)
    innermost
    (let root =
    root_begun xs at_walk.0.thread i 0 outer (omega (arith, below, long))
    (ap (λ (w : Walk). slice_get w.roots 0) (sym at_walk.2) ∙ innermost) in
    let made_there : IsMadeBelow n xs outer =
    (root.0, omega (arith, root.1, below), begun_at_made outer xs root.0 root.2) in
    member_same n xs ys same read outer made_there member)
nested_same n xs ys same read other long i below (initial_inside task walk flat begins at_walk some) =
    initial_inside task walk (sym (nests_same n xs ys same i below) ∙ flat)
    (sym (at_same begun_initial n xs ys same i below) ∙ begins)
    (walk_same n xs ys same i walk below at_walk) some

begun_same : (n : ℕ) (xs ys : List Record) → IsSameTo n xs ys → (i : ℕ) (walk : Walk) (parallel : ℕ) → i < n
    → HasBegun xs i walk parallel → HasBegun ys i walk parallel
begun_same n xs ys same i walk parallel below (k, task, earlier, thread, current, forks) =
    let low : k < n = omega (arith, earlier, below) in (
      k,
      task,
      earlier,
      sym (thread_same n xs ys same k low) ∙ thread ∙ thread_same n xs ys same i below,
      current,
      sym (at_same forked n xs ys same k low) ∙ forks,
    )

pub misnested_same : (n : ℕ) (xs ys : List Record) → IsSameTo n xs ys → (i : ℕ) → i < n → IsMisnested xs i
    → IsMisnested ys i
misnested_same n xs ys same i below (other_region m walk nests joins at_walk some none) =
    other_region m walk (sym (nests_same n xs ys same i below) ∙ nests)
    (sym (at_same joined n xs ys same i below) ∙ joins) (walk_same n xs ys same i walk below at_walk) some
    (λ begun. none (begun_same n ys xs (same_back n xs ys same) i walk m.parallel below begun))
misnested_same n xs ys same i below (other_league task walk nests begins at_walk some none) =
    other_league task walk (sym (nests_same n xs ys same i below) ∙ nests)
    (sym (at_same begun_initial n xs ys same i below) ∙ begins)
    (walk_same n xs ys same i walk below at_walk) some
    (λ parallel begun.
    none parallel (begun_same n ys xs (same_back n xs ys same) i walk parallel below begun))

-- ---- entries, lengths and target tasks

finishing_same : (n : ℕ) (xs ys : List Record) → IsSameTo n xs ys → (k : ℕ) → k < n → IsFinishing xs k
    → IsFinishing ys k
finishing_same n xs ys same k below makes = ap is_some (sym (at_same finish n xs ys same k below)) ∙ makes

pub repeat_same : (n : ℕ) (xs ys : List Record) → IsSameTo n xs ys → (i : ℕ) → i < n → RepeatsEntry xs i
    → RepeatsEntry ys i
repeat_same n xs ys same i below (k, earlier, first, second, is) =
    let low : k < n = omega (arith, earlier, below) in (
      k,
      earlier,
      finishing_same n xs ys same k low first,
      finishing_same n xs ys same i below second,
      sym (seen_same n xs ys same k low) ∙ is ∙ seen_same n xs ys same i below,
    )

pub start_same : (n : ℕ) (xs ys : List Record) → IsSameTo n xs ys → (i task : ℕ) → i < n → IsStart xs i task
    → IsStart ys i task
start_same n xs ys same i task below start = record {
  starts = sym (at_same begun_turn n xs ys same i below) ∙ start.starts;
  first = λ k earlier is.
      start.first k earlier (at_same begun_turn n xs ys same k (omega (arith, earlier, below)) ∙ is);
}

step_same : (n : ℕ) (xs ys : List Record) → IsSameTo n xs ys → n ≤ length ys → (k i : ℕ) → k < n → i < n
    → IsProgramStep xs k i → IsProgramStep ys k i
step_same n xs ys same long k i low below (thread_order earlier within is) =
    thread_order earlier (omega (arith, below, long))
    (sym (thread_same n xs ys same k low) ∙ is ∙ thread_same n xs ys same i below)
step_same n xs ys same long k i low below (creation task creates start) =
    creation task (sym (at_same created n xs ys same k low) ∙ creates)
    (start_same n xs ys same i task below start)
step_same n xs ys same long k i low below (resumption again) = resumption (record {
  task = again.task;
  turn = again.turn;
  suspends = sym (at_same suspended_turn n xs ys same k low) ∙ again.suspends;
  resumes = sym (at_same begun_turn n xs ys same i below) ∙ again.resumes;
  another = again.another;
})
step_same n xs ys same long k i low below (discard task creates gone) =
    discard task (sym (at_same created n xs ys same k low) ∙ creates)
    (sym (at_same discarded n xs ys same i below) ∙ gone)
step_same n xs ys same long k i low below (fulfilment task creates done) =
    fulfilment task (sym (at_same created n xs ys same k low) ∙ creates)
    (sym (at_same fulfilled n xs ys same i below) ∙ done)

known_same : (n : ℕ) (xs ys : List Record) → IsSameTo n xs ys → (k : ℕ) → k < n
    → known_after xs k ≡ known_after ys k
known_same n xs ys same k below =
    ap (λ o. if is_some o then seen_at xs k + 1 else seen_at xs k) (at_same finish n xs ys same k below)
    ∙ ap (λ s. if is_some (at finish ys k) then s + 1 else s) (seen_same n xs ys same k below)

-- where each step leads from one of the first records to one of them
pub behind_same : (n : ℕ) (xs ys : List Record) → IsSameTo n xs ys → n ≤ length ys → (i : ℕ) → i < n
    → ((k : ℕ) → IsProgramStep xs k i → k < n) → IsBehind xs i → IsBehind ys i
behind_same n xs ys same long i below first (k, steps, less) =
    let low = first k steps in (
      k,
      step_same n xs ys same long k i low below steps,
      (let seen = seen_same n xs ys same i below in
          let known = known_same n xs ys same k low in omega (arith, seen, known, less)),
    )

pub target_same : (n : ℕ) (xs ys : List Record) → IsSameTo n xs ys → (i : ℕ) → i < n → MakesTarget xs i
    → MakesTarget ys i
target_same n xs ys same i below (task, bits, flat, makes, says, has) = (
  task,
  bits,
  sym (nests_same n xs ys same i below) ∙ flat,
  sym (at_same made n xs ys same i below) ∙ makes,
  sym (at_same flags n xs ys same i below) ∙ says,
  has,
)
