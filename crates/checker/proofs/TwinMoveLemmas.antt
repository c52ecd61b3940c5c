-- Two lists of records that say the same of all but turns: what each task is, and its moves where it stays
-- on one thread.
use Rattle.std.proofs.Common.{◌≡◌, ◌∙◌, ℕ, List, [], ◌∷◌, ◌++◌, Option, Some, None, Bool, false, cond, refl}
use Rattle.std.proofs.Common.{sym, ap, map, ◌+◌}
use Rattle.std.specs.Prelude.{slice_get, take, filter, is_some, option_map, option_and_then, not, ◌&&◌, ◌==◌}
use Rattle.std.specs.List.{find, flat_map, range_with_len}
use Rattle.std.specs.Option.{option_map_or}
use Rattle.ompt_events.specs.declared.records.Record.{Record}
use Rattle.ompt_events.specs.declared.records.Body.{Body}
use Rattle.ompt_events.specs.declared.records.Body.TheVariants.{TaskSchedule, ImplicitTask}
use Rattle.ompt_events.specs.declared.names.Endpoint.TheVariants.{End}
use Rattle.ompt_events.specs.declared.names.Status.TheVariants.{EarlyFulfill}
use Rattle.ompt_events.specs.declared.cause.Cause.TheVariants.{StatusOrder}
use Rattle.ompt_events.specs.Records.{begun_root, started}
use Rattle.ompt_events.specs.Places.{at, thread_at, places}
use Rattle.ompt_events.specs.States.{Root, Wait, Plain, is_task, is_made_so, creates_wait, nature_of}
use Rattle.ompt_events.specs.States.{state_of, begun_on, run_on, home_of, is_on, is_early, moves_by, moves_at}
use Rattle.ompt_events.specs.States.{places_of, moves_of, moved_moves, all_moves_of, has_moved}
use Rattle.ompt_events.specs.Causes.{HasCause, status_order}
use Rattle.task_tree.specs.Renaming.{untold}
use Rattle.task_tree.proofs.BlindLemmas.{IsBlind, blind_begun_root}
use Rattle.checker.proofs.BlindBodyLemmas.{blind_started, blind_moves}
use Rattle.checker.proofs.TwinLemmas.{AreTwins, blank, twins_long, twin_found, twin_get, twin_at, twin_thread}

-- ---- lists that are read at each place

pub filter_same : (p q : ℕ → Bool) → ((i : ℕ) → p i ≡ q i) → (is : List ℕ) → filter p is ≡ filter q is
filter_same p q same [] = refl
filter_same p q same (i ∷ is) =
    ap (λ l. cond (p i) (i ∷ l) l) (filter_same p q same is)
    ∙ ap (λ b. cond b (i ∷ filter q is) (filter q is)) (same i)

pub find_same : (p q : ℕ → Bool) → ((i : ℕ) → p i ≡ q i) → (is : List ℕ) → find p is ≡ find q is
find_same p q same [] = refl
find_same p q same (i ∷ is) =
    ap (λ o. cond (p i) (Some i) o) (find_same p q same is) ∙ ap (λ b. cond b (Some i) (find q is)) (same i)

pub flat_same : {X : Type 0} (f g : ℕ → List X) → ((i : ℕ) → f i ≡ g i) → (is : List ℕ)
    → flat_map f is ≡ flat_map g is
flat_same f g same [] = refl
flat_same f g same (i ∷ is) =
    ap (λ l. f i ++ l) (flat_same f g same is) ∙ ap (λ l. l ++ flat_map g is) (same i)

pub twin_places : (rs ss : List Record) → AreTwins rs ss → places rs ≡ places ss
twin_places rs ss twins = ap (range_with_len 0) (twins_long rs ss twins)

-- ---- what a task is

blind_wait : (task : ℕ) → IsBlind (creates_wait task)
blind_wait task (TaskSchedule status turns prior next claimed) = refl
blind_wait task (ImplicitTask End actual index given parallel own) = refl
blind_wait task _ = refl

pub twin_made_so : (test : Body → Bool) → IsBlind test → (rs ss : List Record) → AreTwins rs ss
    → is_made_so test rs ≡ is_made_so test ss
twin_made_so test blind rs ss twins = twin_found (λ (r : Record). test r.body) (λ r. blind r.body) rs ss twins

twin_nature : (rs ss : List Record) (task : ℕ) → AreTwins rs ss → nature_of rs task ≡ nature_of ss task
twin_nature rs ss task twins =
    ap (λ b. cond b Root (cond (is_made_so (creates_wait task) rs) Wait Plain))
    (twin_made_so (λ b. is_task task (begun_root b)) (λ b. ap (is_task task) (blind_begun_root b)) rs ss
    twins)
    ∙ ap (λ b. cond (is_made_so (λ b. is_task task (begun_root b)) ss) Root (cond b Wait Plain))
    (twin_made_so (creates_wait task) (blind_wait task) rs ss twins)

-- ---- where it runs

-- the thread of the first record at which the task is read
thread_found : (f : Body → Option ℕ) → IsBlind f → (rs ss : List Record) (task : ℕ) → AreTwins rs ss
    → option_and_then (thread_at rs) (find (λ i. is_task task (at f rs i)) (places rs))
    ≡ option_and_then (thread_at ss) (find (λ i. is_task task (at f ss i)) (places ss))
thread_found f blind rs ss task twins =
    ap (option_and_then (thread_at rs)) (
    find_same (λ i. is_task task (at f rs i)) (λ i. is_task task (at f ss i))
    (λ i. ap (is_task task) (twin_at f blind rs ss i twins)) (places rs)
    ∙ ap (find (λ i. is_task task (at f ss i))) (twin_places rs ss twins)
    )
    ∙ there (find (λ i. is_task task (at f ss i)) (places ss))
  where
    there : (o : Option ℕ) → option_and_then (thread_at rs) o ≡ option_and_then (thread_at ss) o
    there None = refl
    there (Some i) = twin_thread rs ss i twins

pub twin_home : (rs ss : List Record) (task : ℕ) → AreTwins rs ss → home_of rs task ≡ home_of ss task
twin_home rs ss task twins =
    ap (λ o. cond (is_some o) o (run_on rs task)) (thread_found begun_root blind_begun_root rs ss task twins)
    ∙ ap (λ o. cond (is_some (begun_on ss task)) (begun_on ss task) o)
    (thread_found started blind_started rs ss task twins)

pub twin_on : (rs ss : List Record) (task i : ℕ) → AreTwins rs ss
    → is_on rs (home_of rs task) i ≡ is_on ss (home_of ss task) i
twin_on rs ss task i twins =
    ap (λ home. is_on rs home i) (twin_home rs ss task twins)
    ∙ ap (λ o. option_map_or (λ h. option_map_or (λ t. t == h) o false) (home_of ss task) false)
    (twin_thread rs ss i twins)

-- ---- its moves

-- what is read of a record by its body is the same where that does not ask for turns
pub read_same : {X : Type 0} (f : Body → X) (none : X) → IsBlind f → (rs ss : List Record) (i : ℕ)
    → AreTwins rs ss
    → option_map_or (λ (r : Record). f r.body) (slice_get rs i) none
    ≡ option_map_or (λ (r : Record). f r.body) (slice_get ss i) none
read_same {X} f none blind rs ss i twins =
    sym (through (slice_get rs i))
    ∙ ap (λ o. option_map_or (λ (r : Record). f r.body) o none) (twin_get rs ss i twins)
    ∙ through (slice_get ss i)
  where
    through : (o : Option Record)
        → option_map_or (λ (r : Record). f r.body) (option_map blank o) none
        ≡ option_map_or (λ (r : Record). f r.body) o none
    through None = refl
    through (Some r) = blind r.body

twin_early : (rs ss : List Record) (task i : ℕ) → AreTwins rs ss → is_early rs task i ≡ is_early ss task i
twin_early rs ss task i twins =
    sym (through rs (slice_get rs i)) ∙ ap (λ o. option_map_or early_there o false) (twin_get rs ss i twins)
    ∙ through ss (slice_get ss i)
  where
    early_body : Body → Bool
    early_body (TaskSchedule EarlyFulfill turns prior next claimed) = prior == task
    early_body _ = false

    early_there : Record → Bool
    early_there r = early_body r.body

    through : (rs : List Record) (o : Option Record)
        → option_map_or early_there (option_map blank o) false ≡ option_map_or early_there o false
    through rs None = refl
    through rs (Some r) = said r.body
      where
        said : (b : Body) → early_body (untold b) ≡ early_body b
        said (TaskSchedule EarlyFulfill turns prior next claimed) = refl
        said (ImplicitTask End actual index given parallel task) = refl
        said _ = refl

pub twin_moves_at : (rs ss : List Record) (task i : ℕ) → AreTwins rs ss
    → moves_at rs task i ≡ moves_at ss task i
twin_moves_at rs ss task i twins =
    ap (map (λ move. (i, move))) (read_same (moves_by task) [] (blind_moves task) rs ss i twins)

twin_places_of : (rs ss : List Record) (task : ℕ) → AreTwins rs ss → places_of rs task ≡ places_of ss task
twin_places_of rs ss task twins =
    ap (λ l. l ++ filter (on_of rs) (places rs) ++ filter (late_of rs) (places rs))
    (kept (ahead_of rs) (ahead_of ss)
    (λ i. ap2 (λ a b. a && not b) (twin_early rs ss task i twins) (twin_on rs ss task i twins)))
    ∙ ap (λ l. filter (ahead_of ss) (places ss) ++ l ++ filter (late_of rs) (places rs))
    (kept (on_of rs) (on_of ss) (λ i. twin_on rs ss task i twins))
    ∙ ap (λ l. filter (ahead_of ss) (places ss) ++ filter (on_of ss) (places ss) ++ l)
    (kept (late_of rs) (late_of ss)
    (λ i. ap2 (λ a b. not a && not b) (twin_early rs ss task i twins) (twin_on rs ss task i twins)))
  where
    ahead_of : List Record → ℕ → Bool
    ahead_of l i = is_early l task i && not (is_on l (home_of l task) i)

    on_of : List Record → ℕ → Bool
    on_of l = is_on l (home_of l task)

    late_of : List Record → ℕ → Bool
    late_of l i = not (is_early l task i) && not (is_on l (home_of l task) i)

    kept : (p q : ℕ → Bool) → ((i : ℕ) → p i ≡ q i) → filter p (places rs) ≡ filter q (places ss)
    kept p q same = filter_same p q same (places rs) ∙ ap (filter q) (twin_places rs ss twins)

    ap2 : (f : Bool → Bool → Bool) {a b c d : Bool} → a ≡ b → c ≡ d → f a c ≡ f b d
    ap2 f {a} {b} {c} {d} one other = ap (λ x. f x c) one ∙ ap (f b) other

-- the moves of a task by its home
pub twin_moves_of : (rs ss : List Record) (task : ℕ) → AreTwins rs ss → moves_of rs task ≡ moves_of ss task
twin_moves_of rs ss task twins =
    ap (λ l. flat_map (moves_at rs task) l) (twin_places_of rs ss task twins)
    ∙ flat_same (moves_at rs task) (moves_at ss task) (λ i. twin_moves_at rs ss task i twins)
    (places_of ss task)

-- all its moves, where it has not moved in either
twin_moves : (rs ss : List Record) (task : ℕ) → AreTwins rs ss → has_moved rs task ≡ false
    → has_moved ss task ≡ false → all_moves_of rs task ≡ all_moves_of ss task
twin_moves rs ss task twins still at_home =
    ap (λ b. cond b (moved_moves rs task) (moves_of rs task)) still
    ∙ twin_moves_of rs ss task twins
    ∙ sym (ap (λ b. cond b (moved_moves ss task) (moves_of ss task)) at_home)

-- the cause of states, where all moves of each task are the same
pub same_states : (rs ss : List Record) (i : ℕ) → AreTwins rs ss
    → ((task : ℕ) → all_moves_of rs task ≡ all_moves_of ss task) → HasCause rs i StatusOrder
    → HasCause ss i StatusOrder
same_states rs ss i twins all (status_order is) =
    let nature : nature_of rs is.task ≡ nature_of ss is.task = twin_nature rs ss is.task twins in
    let moves : all_moves_of rs is.task ≡ all_moves_of ss is.task = all is.task in
    status_order (record {
      task = is.task;
      number = is.number;
      move = is.move;
      made_there = sym (ap (λ l. slice_get l is.number) moves) ∙ is.made_there;
      allowed =
          sym
          (ap (λ n. is_some (state_of n (take is.number (all_moves_of rs is.task)))) nature
          ∙ ap (λ l. is_some (state_of (nature_of ss is.task) (take is.number l))) moves)
          ∙ is.allowed;
      not_allowed =
          sym
          (ap (λ n. state_of n (take (is.number + 1) (all_moves_of rs is.task))) nature
          ∙ ap (λ l. state_of (nature_of ss is.task) (take (is.number + 1) l)) moves)
          ∙ is.not_allowed;
    })

pub twin_states : (rs ss : List Record) (i : ℕ) → AreTwins rs ss → ((task : ℕ) → has_moved rs task ≡ false)
    → ((task : ℕ) → has_moved ss task ≡ false) → HasCause rs i StatusOrder → HasCause ss i StatusOrder
twin_states rs ss i twins still at_home has =
    same_states rs ss i twins (λ task. twin_moves rs ss task twins (still task) (at_home task)) has
