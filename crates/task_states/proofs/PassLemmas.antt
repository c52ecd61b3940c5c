-- What a pass over the records has read, one record on.
use Rattle.std.proofs.Common.{◌≡◌, ◌∙◌, ℕ, zero, suc, ◌+◌, List, [], ◌∷◌, ◌++◌, length, Option, Some, None}
use Rattle.std.proofs.Common.{Bool, true, false, cond, take, get_or, refl, sym, ap, subst, arith, inl, inr}
use Rattle.std.proofs.Common.{◌<◌}
use Rattle.std.proofs.lemmas.Option.{slice_get-map, slice_get_within, get_or_from_slice_get, none-some}
use Rattle.std.proofs.lemmas.Option.{same_Some}
use Rattle.std.proofs.lemmas.Bool.{cases_eq, false≢true}
use Rattle.std.proofs.lemmas.List.{length-replicate, get_or-replicate, length-map, append-nil, append_assoc}
use Rattle.std.proofs.lemmas.List.{take_more}
use Rattle.std.proofs.lemmas.List.Elements.{All-push, filter-append}
use Rattle.std.proofs.lemmas.Grind.{flat_map-append}
use Rattle.std.specs.Prelude.{replicate, ◌==◌, ◌&&◌, not, map, option_map, filter, slice_get, option_and_then}
use Rattle.std.specs.Prelude.{is_some}
use Rattle.std.specs.List.{flat_map, range_with_len}
use Rattle.std.specs.Option.{option_map_or}
use Rattle.ompt_events.specs.declared.records.Record.{Record}
use Rattle.ompt_events.specs.declared.records.Body.{Body}
use Rattle.ompt_events.specs.declared.records.Body.TheVariants.{TaskSchedule, Cancel}
use Rattle.ompt_events.specs.declared.names.Status.{Status}
use Rattle.ompt_events.specs.declared.names.Status.TheVariants.{EarlyFulfill}
use Rattle.ompt_events.specs.declared.state.State.{State}
use Rattle.ompt_events.specs.Records.{schedule, discarded, started}
use Rattle.ompt_events.specs.Places.{at, places, thread_at}
use Rattle.ompt_events.specs.Traces.{IsTrace, HasItsNext}
use Rattle.ompt_events.specs.States.{Move, Stopped, Started, Discarded, is_task, is_early, home_of, has_moved}
use Rattle.ompt_events.specs.States.{moves_by, moves_at, first_state}
use Rattle.ompt_events.specs.Names.{demands_next}
use Rattle.ompt_events.specs.Turns.{turns_in}
use Rattle.ompt_events.proofs.PlaceLemmas.{range_more, at_within, at_get, get_at}
use Rattle.ompt_events.proofs.ListLemmas.{get_within}
use Rattle.task_tree.specs.Runs.{RunView, IsRun, IsIndexOf}
use Rattle.packed_trace.specs.Packed.{schedule_status as says_status}
use Rattle.task_tree.proofs.SubjectLemmas.{call_task}
use Rattle.task_states.specs.declared.moves.Nature as code
use Rattle.task_states.specs.declared.moves.Move as steps
use Rattle.task_states.specs.declared.moves.Move.TheVariants as step
use Rattle.task_states.specs.declared.progress.Pass.{Pass}
use Rattle.task_states.specs.declared.progress.Pass.TheVariants.{Early, Home, Rest}
use Rattle.task_states.specs.Progress.{the_nature, is_home, is_switch, is_read, moves_in, turned, read_before}
use Rattle.task_states.specs.Progress.{moves_read, moves_before, and_move, and_record, is_early_status}
use Rattle.task_states.specs.Progress.{is_early_step, is_turn_step, fulfils_early, is_at, is_many, reads}
use Rattle.task_states.specs.Progress.{IsMoveOf, IsReadWhole, AreLeft, AreNatures, HasCome}
use Rattle.task_states.specs.declared.homes.Home as homes
use Rattle.task_states.specs.Homes.{home_told, home_at, IsNeverEarly}

-- ---- the record at a place

-- ---- which moves are early

-- whether the body fulfils the task's event early
abbrev pub early_for : ℕ → Body → Bool
early_for task (TaskSchedule EarlyFulfill turns prior next claimed) = prior == task
early_for task _ = false

pub early_there : (rs : List Record) (i task : ℕ) (r : Record) → slice_get rs i ≡ Some r
    → is_early rs task i ≡ early_for task r.body
early_there rs i task r stands =
    ap (λ (o : Option Record). option_map_or (λ (q : Record). early_for task q.body) o false) stands

-- no start is: a trace has no next task where an event is fulfilled
start_early : (rs : List Record) (i task : ℕ) → IsTrace rs → at started rs i ≡ Some task
    → is_early rs task i ≡ false
start_early rs i task is_trace says =
    let (r, stands, is) = get_at started rs i task says in
    let P : Record → Type 0 = λ q. HasItsNext q.body in
    let sound : HasItsNext r.body =
    subst P (get_or_from_slice_get rs i r r stands)
    (is_trace.sound i r (slice_get_within rs i r stands)).next in
    early_there rs i task r stands ∙ of r.body sound is
  where
    of : (b : Body) → HasItsNext b → started b ≡ Some task → early_for task b ≡ false
    of (TaskSchedule EarlyFulfill turns prior next claimed) sound is =
        absurd (false≢true (sym sound ∙ ap is_some is))
    of _ sound is = refl

discard_early : (rs : List Record) (i task : ℕ) → at discarded rs i ≡ Some task → is_early rs task i ≡ false
discard_early rs i task says =
    let (r, stands, is) = get_at discarded rs i task says in
    early_there rs i task r stands ∙ of r.body is
  where
    of : (b : Body) → discarded b ≡ Some task → early_for task b ≡ false
    of (Cancel flags other claimed) is = refl
    of _ is = absurd (none-some task is)

-- ---- which moves begin or end a turn

pub switch_there : (rs : List Record) (i : ℕ) (r : Record) → slice_get rs i ≡ Some r
    → is_switch rs i ≡ option_map_or demands_next (says_status r.body) false
switch_there rs i r stands =
    ap (λ (o : Option Status). option_map_or demands_next o false) (at_get says_status rs i r stands)

-- each start does: a trace has a next task where the status demands one alone
start_switch : (rs : List Record) (i task : ℕ) → IsTrace rs → at started rs i ≡ Some task
    → is_switch rs i ≡ true
start_switch rs i task is_trace says =
    let (r, stands, is) = get_at started rs i task says in
    let P : Record → Type 0 = λ q. HasItsNext q.body in
    let sound : HasItsNext r.body =
    subst P (get_or_from_slice_get rs i r r stands)
    (is_trace.sound i r (slice_get_within rs i r stands)).next in
    switch_there rs i r stands ∙ of r.body sound is
  where
    of : (b : Body) → HasItsNext b → started b ≡ Some task
        → option_map_or demands_next (says_status b) false ≡ true
    of (TaskSchedule s turns prior next claimed) sound is = sym sound ∙ ap is_some is
    of _ sound is = absurd (none-some task is)

discard_switch : (rs : List Record) (i task : ℕ) → at discarded rs i ≡ Some task → is_switch rs i ≡ false
discard_switch rs i task says =
    let (r, stands, is) = get_at discarded rs i task says in
    switch_there rs i r stands ∙ of r.body is
  where
    of : (b : Body) → discarded b ≡ Some task → option_map_or demands_next (says_status b) false ≡ false
    of (Cancel flags other claimed) is = refl
    of _ is = absurd (none-some task is)

-- ---- the moves as the code makes them

pub start_move : (run : RunView) (i index : ℕ) (next : Option ℕ) → IsRun run → IsIndexOf run started i next
    → next ≡ Some index → IsMoveOf run i index step.Started
start_move run i index next is calls same =
    let (task, says, stands) = call_task run.family.tasks (at started run.records i) next index calls same in
    record {
      within = at_within started run.records i task says;
      task = task;
      indexed = stands;
      early = start_early run.records i task is.trace says;
      switch = start_switch run.records i task is.trace says;
    }

pub discard_move : (run : RunView) (i index : ℕ) (found : Option ℕ) → IsIndexOf run discarded i found
    → found ≡ Some index → IsMoveOf run i index step.Discarded
discard_move run i index found calls same =
    let (task, says, stands) =
    call_task run.family.tasks (at discarded run.records i) found index calls same in
    record {
      within = at_within discarded run.records i task says;
      task = task;
      indexed = stands;
      early = discard_early run.records i task says;
      switch = discard_switch run.records i task says;
    }

-- the task that runs next is that of the schedule
scheduled_next : (rs : List Record) (i : ℕ) (status : Status) (task : ℕ) (next : Option ℕ)
    → at schedule rs i ≡ Some (status, task, next) → at started rs i ≡ next
scheduled_next rs i status task next says =
    let (r, stands, is) = get_at schedule rs i (status, task, next) says in
    at_get started rs i r stands ∙ of r.body is
  where
    of : (b : Body) → schedule b ≡ Some (status, task, next) → started b ≡ next
    of (TaskSchedule s turns p n claimed) is =
        ap (λ (t : Status × ℕ × Option ℕ). t.2) (same_Some (s, p, n) (status, task, next) is)
    of _ is = absurd (none-some (status, task, next) is)

-- whether a pass reads the record for a task
home_here : (moved : Bool) (home on : Option ℕ) (thread : ℕ) → on ≡ Some thread
    → is_at (home_told moved home) thread
    ≡ not moved && option_map_or (λ h. option_map_or (λ t. t == h) on false) home false
home_here true home on thread runs = refl
home_here false None on thread runs = refl
home_here false (Some own) on thread runs =
    ap (λ (o : Option ℕ). option_map_or (λ t. t == own) o false) (sym runs)

many_told : (moved : Bool) (home : Option ℕ) → is_many (home_told moved home) ≡ moved
many_told true home = refl
many_told false None = refl
many_told false (Some own) = refl

-- whether the home is that of a task that moved
pub many_is : (rs : List Record) (task : ℕ) (home : homes.Home) → home ≡ home_at rs task
    → is_many home ≡ has_moved rs task
many_is rs task home same = ap is_many same ∙ many_told (has_moved rs task) (home_of rs task)

pub read_told : (pass : Pass) (run : RunView) (task i index : ℕ) (move : steps.Move) (home : homes.Home)
    (thread : ℕ)
    → IsMoveOf run i index move → slice_get run.family.tasks index ≡ Some task
    → home ≡ home_at run.records task → thread_at run.records i ≡ Some thread
    → reads pass (is_early_step move) (is_at home thread) (is_many home && is_turn_step move)
    ≡ is_read pass run.records task i
read_told pass run task i index move home thread is stands same runs =
    ap (λ b. reads pass b (is_at home thread) (is_many home && is_turn_step move)) (sym early)
    ∙ ap (λ b. reads pass (is_early rs task i) b (is_many home && is_turn_step move)) there
    ∙ ap (λ b. reads pass (is_early rs task i) (is_home rs task i) (b && is_turn_step move))
    (many_is rs task home same)
    ∙ ap (λ b. reads pass (is_early rs task i) (is_home rs task i) (has_moved rs task && b)) (sym is.switch)
    ∙ of pass
  where
    rs : List Record
    rs = run.records

    early : is_early rs task i ≡ is_early_step move
    early =
        let P : ℕ → Type 0 = λ t. is_early rs t i ≡ is_early_step move in
        subst P (same_Some is.task task (sym is.indexed ∙ stands)) is.early

    there : is_at home thread ≡ is_home rs task i
    there =
        ap (λ h. is_at h thread) same
        ∙ home_here (has_moved rs task) (home_of rs task) (thread_at rs i) thread runs

    of : (p : Pass)
        → reads p (is_early rs task i) (is_home rs task i) (has_moved rs task && is_switch rs i)
        ≡ is_read p rs task i
    of Early = refl
    of Home = refl
    of Rest = refl

-- ---- what a record moves

moves_there : (rs : List Record) (i task : ℕ) (r : Record) → slice_get rs i ≡ Some r
    → moves_at rs task i ≡ map (λ move. (i, move)) (moves_by task r.body)
moves_there rs i task r stands =
    ap
    (λ (o : Option Record).
    map (λ move. (i, move)) (option_map_or (λ (q : Record). moves_by task q.body) o []))
    stands

two_moves : (before : List (ℕ × Move)) (i : ℕ) (u v : Move) (reads a b : Bool)
    → before ++ cond reads (map (λ move. (i, move)) ((cond a (u ∷ []) [] ++ cond b (v ∷ []) []) ++ [])) []
    ≡ (before ++ cond (reads && a) ((i, u) ∷ []) []) ++ cond (reads && b) ((i, v) ∷ []) []
two_moves before i u v true true true = sym (append_assoc before ((i, u) ∷ []) ((i, v) ∷ []))
two_moves before i u v true true false = sym (append-nil (before ++ (i, u) ∷ []))
two_moves before i u v true false true = ap (λ l. l ++ (i, v) ∷ []) (sym (append-nil before))
two_moves before i u v true false false = sym (append-nil (before ++ []))
two_moves before i u v false a b = sym (append-nil (before ++ []))

one : (before : List (ℕ × Move)) (i : ℕ) (u : Move) (reads a : Bool)
    → before ++ cond reads (map (λ move. (i, move)) (cond a (u ∷ []) [])) []
    ≡ before ++ cond (reads && a) ((i, u) ∷ []) []
one before i u true true = refl
one before i u true false = refl
one before i u false a = refl

none : (before : List (ℕ × Move)) (reads : Bool) → before ++ cond {A = List (ℕ × Move)} reads [] [] ≡ before
none before true = append-nil before
none before false = append-nil before

-- a schedule stops one task and may start another
schedule_moves : (pass : Pass) (rs : List Record) (i : ℕ) (r : Record) (status : Status) (prior : ℕ)
    (next : Option ℕ) (moves : ℕ → List (ℕ × Move))
    → slice_get rs i ≡ Some r → schedule r.body ≡ Some (status, prior, next) → (task : ℕ)
    → and_record pass rs i moves task
    ≡ and_move pass rs i next step.Started (and_move pass rs i (Some prior) (step.Stopped status) moves)
    task
schedule_moves pass rs i r status prior next moves stands says task =
    ap (λ l. moves task ++ cond (is_read pass rs task i) l []) (moves_there rs i task r stands)
    ∙ of r.body says
  where
    reads : Bool
    reads = is_read pass rs task i

    of : (b : Body) → schedule b ≡ Some (status, prior, next)
        → moves task ++ cond reads (map (λ move. (i, move)) (moves_by task b)) []
        ≡ and_move pass rs i next step.Started
        (and_move pass rs i (Some prior) (step.Stopped status) moves) task
    of (TaskSchedule s turns p n claimed) is =
        let same : (s, p, n) ≡ (status, prior, next) = same_Some (s, p, n) (status, prior, next) is in
        two_moves (moves task) i (Stopped s) Started reads (p == task) (is_task task n)
        ∙ ap
        (λ (t : Status × ℕ × Option ℕ).
        and_move pass rs i t.2 step.Started (and_move pass rs i (Some t.1) (step.Stopped t.0) moves)
        task)
        same
    of _ is = absurd (none-some (status, prior, next) is)

-- a cancellation may discard one
discard_moves : (pass : Pass) (rs : List Record) (i : ℕ) (r : Record) (named : ℕ)
    (moves : ℕ → List (ℕ × Move))
    → slice_get rs i ≡ Some r → discarded r.body ≡ Some named → (task : ℕ)
    → and_record pass rs i moves task ≡ and_move pass rs i (Some named) step.Discarded moves task
discard_moves pass rs i r named moves stands says task =
    ap (λ l. moves task ++ cond (is_read pass rs task i) l []) (moves_there rs i task r stands)
    ∙ of r.body says
  where
    reads : Bool
    reads = is_read pass rs task i

    of : (b : Body) → discarded b ≡ Some named
        → moves task ++ cond reads (map (λ move. (i, move)) (moves_by task b)) []
        ≡ and_move pass rs i (Some named) step.Discarded moves task
    of (Cancel flags t claimed) is =
        ap
        (λ (o : Option ℕ).
        moves task
        ++ cond reads (map (λ move. (i, move)) (cond (is_task task o) (Discarded ∷ []) [])) []) is
        ∙ one (moves task) i Discarded reads (named == task)
    of _ is = absurd (none-some named is)

-- all other records move none
no_moves : (pass : Pass) (rs : List Record) (i : ℕ) (r : Record) (moves : ℕ → List (ℕ × Move))
    → slice_get rs i ≡ Some r → schedule r.body ≡ None → discarded r.body ≡ None → (task : ℕ)
    → and_record pass rs i moves task ≡ moves task
no_moves pass rs i r moves stands no_schedule no_discard task =
    ap (λ l. moves task ++ cond (is_read pass rs task i) l []) (moves_there rs i task r stands)
    ∙ of r.body no_schedule no_discard
  where
    reads : Bool
    reads = is_read pass rs task i

    of : (b : Body) → schedule b ≡ None → discarded b ≡ None
        → moves task ++ cond reads (map (λ move. (i, move)) (moves_by task b)) [] ≡ moves task
    of (TaskSchedule s turns p n claimed) is missing = absurd (none-some (s, p, n) (sym is))
    of (Cancel flags t claimed) is missing =
        ap
        (λ (o : Option ℕ).
        moves task
        ++ cond reads (map (λ move. (i, move)) (cond (is_task task o) (Discarded ∷ []) [])) [])
        missing
        ∙ none (moves task) reads
    of _ is missing = none (moves task) reads

-- ---- the records that a pass reads for each of their tasks

-- the same by what is said at the place
pub schedule_moves_at : (pass : Pass) (rs : List Record) (i : ℕ) (status : Status) (prior : ℕ)
    (next : Option ℕ) (moves : ℕ → List (ℕ × Move))
    → at schedule rs i ≡ Some (status, prior, next) → (task : ℕ)
    → and_record pass rs i moves task
    ≡ and_move pass rs i (at started rs i) step.Started
    (and_move pass rs i (Some prior) (step.Stopped status) moves) task
schedule_moves_at pass rs i status prior next moves says task =
    let (r, stands, is) = get_at schedule rs i (status, prior, next) says in
    schedule_moves pass rs i r status prior next moves stands is task
    ∙ ap
    (λ o.
    and_move pass rs i o step.Started (and_move pass rs i (Some prior) (step.Stopped status) moves)
    task)
    (sym (scheduled_next rs i status prior next says))

pub discard_moves_at : (pass : Pass) (rs : List Record) (i named : ℕ) (moves : ℕ → List (ℕ × Move))
    → at discarded rs i ≡ Some named → (task : ℕ)
    → and_record pass rs i moves task ≡ and_move pass rs i (Some named) step.Discarded moves task
discard_moves_at pass rs i named moves says =
    let (r, stands, is) = get_at discarded rs i named says in
    discard_moves pass rs i r named moves stands is

pub no_moves_at : (pass : Pass) (rs : List Record) (i : ℕ) (moves : ℕ → List (ℕ × Move)) → i < length rs
    → at schedule rs i ≡ None → at discarded rs i ≡ None → (task : ℕ)
    → and_record pass rs i moves task ≡ moves task
no_moves_at pass rs i moves within no_schedule no_discard =
    let (r, stands) = get_within rs i within in
    no_moves pass rs i r moves stands (sym (at_get schedule rs i r stands) ∙ no_schedule)
    (sym (at_get discarded rs i r stands) ∙ no_discard)

-- the last pass reads nothing of a record that the home pass read for each of its tasks
pub whole_not_left : (rs : List Record) (i : ℕ) (moves : ℕ → List (ℕ × Move)) → IsReadWhole Home rs i
    → (task : ℕ) → and_record Rest rs i moves task ≡ moves task
whole_not_left rs i moves whole task = by (is_read Home rs task i) refl
  where
    off : (a c : Bool) → a && not true && c ≡ false
    off true c = refl
    off false c = refl

    by : (b : Bool) → is_read Home rs task i ≡ b → and_record Rest rs i moves task ≡ moves task
    by true home =
        ap
        (λ b.
        moves task
        ++ cond (not (is_early rs task i) && not b && not (has_moved rs task && is_switch rs i))
        (moves_at rs task i) [])
        home
        ∙ ap (λ b. moves task ++ cond b (moves_at rs task i) [])
        (off (not (is_early rs task i)) (not (has_moved rs task && is_switch rs i)))
        ∙ append-nil (moves task)
    by false away =
        ap (λ l. moves task ++ cond (is_read Rest rs task i) l []) (whole task away)
        ∙ none (moves task) (is_read Rest rs task i)

-- the first pass reads nothing where no event is fulfilled early
pub not_early : (rs : List Record) (i : ℕ) → fulfils_early rs i ≡ false → (task : ℕ)
    → is_early rs task i ≡ false
not_early rs i says task = there (slice_get rs i) says
  where
    of : (b : Body) → option_map_or is_early_status (says_status b) false ≡ false → early_for task b ≡ false
    of (TaskSchedule EarlyFulfill turns prior next claimed) is = absurd (false≢true (sym is))
    of _ is = refl

    there : (o : Option Record)
        → option_map_or is_early_status (option_and_then (λ (r : Record). says_status r.body) o) false ≡ false
        → option_map_or (λ (r : Record). early_for task r.body) o false ≡ false
    there None is = refl
    there (Some r) is = of r.body is

unread_early : (rs : List Record) (i task : ℕ) (moves : ℕ → List (ℕ × Move)) → is_early rs task i ≡ false
    → and_record Early rs i moves task ≡ moves task
unread_early rs i task moves late =
    ap (λ b. moves task ++ cond (b && not (is_home rs task i)) (moves_at rs task i) []) late
    ∙ append-nil (moves task)

pub early_unread : (rs : List Record) (i : ℕ) (moves : ℕ → List (ℕ × Move)) → fulfils_early rs i ≡ false
    → (task : ℕ) → and_record Early rs i moves task ≡ moves task
early_unread rs i moves says task = unread_early rs i task moves (not_early rs i says task)

-- one more record that fulfils none
pub never_more : (rs : List Record) (i : ℕ) → IsNeverEarly rs i → ((task : ℕ) → is_early rs task i ≡ false)
    → IsNeverEarly rs (i + 1)
never_more rs i before here k task below = elim (cases_eq k i) [
  | inl same ↦ ap (is_early rs task) same ∙ here task
  | inr apart ↦ before k task (omega arith)
]

-- ---- the places that are left for the last pass

-- one more place that the pass goes over
read_more : (pass : Pass) (rs : List Record) (gone : List ℕ) (n task : ℕ)
    → moves_read pass rs (gone ++ n ∷ []) task ≡ and_record pass rs n (moves_read pass rs gone) task
read_more pass rs gone n task =
    let f = moves_at rs task in
    let before = read_before pass rs task in
    let reads = is_read pass rs task in
    let front = filter reads gone in
    ap (λ l. before ++ flat_map f l) (filter-append reads gone (n ∷ []))
    ∙ ap (λ l. before ++ l) (flat_map-append f front (filter reads (n ∷ [])))
    ∙ sym (append_assoc before (flat_map f front) (flat_map f (filter reads (n ∷ []))))
    ∙ ap (λ l. (before ++ flat_map f front) ++ l) (last (reads n))
  where
    last : (b : Bool) → flat_map (moves_at rs task) (cond b (n ∷ []) []) ≡ cond b (moves_at rs task n) []
    last true = append-nil (moves_at rs task n)
    last false = refl

pub moves_more : (pass : Pass) (rs : List Record) (n task : ℕ)
    → moves_before pass rs (n + 1) task ≡ and_record pass rs n (moves_before pass rs n) task
moves_more pass rs n task =
    ap (λ l. moves_read pass rs l task) (range_more n) ∙ read_more pass rs (range_with_len 0 n) n task

same_record : (pass : Pass) (rs : List Record) (n task : ℕ) (moves moves' : ℕ → List (ℕ × Move))
    → moves task ≡ moves' task → and_record pass rs n moves task ≡ and_record pass rs n moves' task
same_record pass rs n task moves moves' same =
    ap (λ l. l ++ cond (is_read pass rs task n) (moves_at rs task n) []) same

-- a place is noted
pub left_noted : (rs : List Record) (n : ℕ) (left : List ℕ) → AreLeft rs n left
    → AreLeft rs (n + 1) (left ++ n ∷ [])
left_noted rs n left are = record {
  within =
      All-push (λ place. place < n + 1) left n (λ k d inside. omega (arith, are.within k d inside))
      (omega arith);
  all =
      λ task.
      read_more Rest rs left n task
      ∙ same_record Rest rs n task (moves_read Rest rs left) (moves_before Rest rs n) (are.all task)
      ∙ sym (moves_more Rest rs n task);
}

-- it need not be
pub left_passed : (rs : List Record) (n : ℕ) (left : List ℕ) → AreLeft rs n left → IsReadWhole Home rs n
    → AreLeft rs (n + 1) left
left_passed rs n left are whole = record {
  within = λ k d inside. omega (arith, are.within k d inside);
  all =
      λ task.
      are.all task ∙ sym (whole_not_left rs n (moves_before Rest rs n) whole task)
      ∙ sym (moves_more Rest rs n task);
}

-- the last pass, one place on
pub rest_more : (rs : List Record) (left : List ℕ) (k place : ℕ) → slice_get left k ≡ Some place → (task : ℕ)
    → moves_read Rest rs (take (k + 1) left) task
    ≡ and_record Rest rs place (moves_read Rest rs (take k left)) task
rest_more rs left k place stands task =
    ap (λ l. moves_read Rest rs l task)
    (take_more left k place (slice_get_within left k place stands)
    ∙ ap (λ p. take k left ++ p ∷ []) (get_or_from_slice_get left k place place stands))
    ∙ read_more Rest rs (take k left) place task

-- ---- the passes

-- where no record fulfils an event early, the first pass reads nothing
pub early_none : (rs : List Record) (n : ℕ) → IsNeverEarly rs n → (task : ℕ)
    → moves_before Early rs n task ≡ []
early_none rs zero none task = refl
early_none rs (suc n) none task =
    let e : suc n ≡ n + 1 = omega arith in
    ap (λ m. moves_before Early rs m task) e ∙ moves_more Early rs n task
    ∙ unread_early rs n task (moves_before Early rs n) (none n task (omega arith))
    ∙ early_none rs n (λ k other below. none k other (omega (arith, below))) task

pub early_start : (rs : List Record) (task : ℕ) → moves_before Early rs 0 task ≡ []
early_start rs task = refl

pub home_start : (rs : List Record) (task : ℕ)
    → moves_before Home rs 0 task ≡ moves_before Early rs (length rs) task
home_start rs task = append-nil (moves_in Early rs (places rs) task)

-- the moves before the last pass: those of the home pass, and all turns
pub rest_start : (rs : List Record) (task : ℕ)
    → moves_before Rest rs 0 task ≡ moves_before Home rs (length rs) task ++ turned rs (turns_in rs) task
rest_start rs task =
    append-nil
    (moves_in Early rs (places rs) task ++ moves_in Home rs (places rs) task
    ++ turned rs (turns_in rs) task)

-- the state of a task that has not moved
abbrev pub state_at_first : code.Nature → Option State
state_at_first nature = Some (first_state (the_nature nature))

-- before any move each task has its first state
pub come_new : (rs : List Record) (tasks : List ℕ) (natures : List code.Nature) (states : List (Option State))
    (marks : List Bool) (count : ℕ)
    → states ≡ map state_at_first natures → length natures ≡ length tasks → AreNatures rs tasks natures
    → marks ≡ replicate count false
    → HasCome rs tasks (λ _. []) (record { states = states; refused = None; marks = marks })
come_new rs tasks natures states marks count is all are unmarked = record {
  all = ap length is ∙ length-map natures state_at_first ∙ all;
  each = λ i task stands.
      let (nature, there, same) = are i task stands in
      ap (λ l. slice_get l i) is ∙ slice_get-map state_at_first natures i
      ∙ ap (option_map state_at_first) there ∙ ap (λ k. Some (Some (first_state k))) same;
  found = λ i says. absurd (none-some i says);
  least = λ task i known refuses. absurd (none-some (i, refuses.move) refuses.made_there);
  marked = λ i within. (
    λ so.
        let low : i < count =
        subst (λ n. i < n) (ap length unmarked ∙ length-replicate count false) within in
        absurd
        (false≢true
        (sym (ap (λ l. get_or l i false) unmarked ∙ get_or-replicate count i false false low) ∙ so)),
    λ (task, known, refuses). absurd (none-some (i, refuses.move) refuses.made_there),
  );
}
