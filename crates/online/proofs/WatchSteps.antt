-- One record more that a watch takes.
use Rattle.std.proofs.Common.{ℕ, ◌≡◌, ◌∙◌, ◌<◌, ◌==◌, ◌+◌, ◌^◌, List, [], ◌∷◌, ◌++◌, length, take, Option}
use Rattle.std.proofs.Common.{Some}
use Rattle.std.proofs.Common.{None, Bool, true, false, refl, sym, ap, subst, arith, inl, inr, cond}
use Rattle.std.specs.Prelude.{slice_get, option_and_then, option_map}
use Rattle.std.proofs.lemmas.Bool.{eq-eqb, false≢true}
use Rattle.std.proofs.lemmas.List.{take_at}
use Rattle.std.proofs.lemmas.Option.{none-some, slice_get_within}
use Rattle.ompt_events.specs.declared.records.Record.{Record}
use Rattle.ompt_events.specs.declared.records.Body.{Body}
use Rattle.ompt_events.specs.declared.records.Body.TheVariants.{Dependences, TaskSchedule, Cancel}
use Rattle.ompt_events.specs.declared.records.Part.{Part}
use Rattle.ompt_events.specs.declared.records.Part.TheVariants.{Whole}
use Rattle.ompt_events.specs.declared.names.Status.TheVariants as status
use Rattle.ompt_events.specs.declared.deps.Dep.{Dep}
use Rattle.ompt_events.specs.declared.cause.Cause.{Cause}
use Rattle.ompt_events.specs.declared.cause.Cause.TheVariants.{SeqGap, CreatedTwice, NotCurrent, Moved}
use Rattle.ompt_events.specs.declared.cause.Cause.TheVariants.{TurnGap, RegionOrder, NestedParallel}
use Rattle.ompt_events.specs.declared.cause.Cause.TheVariants.{RegionNesting, EntryTwice, LengthBack}
use Rattle.ompt_events.specs.declared.cause.Cause.TheVariants.{TargetTask}
use Rattle.ompt_events.specs.Causes.{HasCause, IsFreeOf, IsMadeAgain, created_twice, forked_twice}
use Rattle.ompt_events.specs.Flags as flag
use Rattle.ompt_events.specs.Flags.{has_flag}
use Rattle.ompt_events.specs.Names.{status_part}
use Rattle.ompt_events.specs.Places.{at}
use Rattle.ompt_events.specs.Records.{forked, dependences, begun_turn, started, next_turn, wait_completed}
use Rattle.ompt_events.specs.Records.{finish}
use Rattle.ompt_events.specs.Violations.{covered, preceding, awaited}
use Rattle.ompt_events.proofs.ListLemmas.{get_last, pushed_cases}
use Rattle.ompt_events.proofs.PlaceLemmas.{at_get, get_at}
use Rattle.packed_trace.specs.Named.{subject}
use Rattle.callbacks.specs.Recorders.{RecorderView}
use Rattle.callbacks.specs.Tasks.{TaskView, parent_of}
use Rattle.scripts.specs.Parts.{id_of}
use Rattle.scripts.specs.Progress.{Values}
use Rattle.scripts.specs.RunCalls.{call_refusal, first_given, second_given}
use Rattle.scripts.specs.Scripts.{ScriptView}
use Rattle.scripts.proofs.AcceptedLemmas.{scheduled_by}
use Rattle.scripts.proofs.CurrentLaw.{none_off_current}
use Rattle.scripts.proofs.GapLaw.{none_with_gap}
use Rattle.scripts.proofs.RegionLaw.{started_object}
use Rattle.scripts.proofs.SaidLemmas.{started_called, wait_called}
use Rattle.scripts.proofs.ValueSteps.{IsWhole, first_at, second_at, recorder_at, step_accepts, first_id_is}
use Rattle.scripts.proofs.ValueSteps.{second_id_is, two_apart}
use Rattle.online.specs.declared.lengths.Lengths.{Lengths}
use Rattle.online.specs.declared.replay.Replay.{Replay}
use Rattle.online.specs.declared.watch.Watch.{Watch}
use Rattle.online.specs.Items.{MayBeRead, IsRead, Reads}
use Rattle.online.specs.Kept.{kept_by, teams_by}
use Rattle.online.specs.Lengths as lengths
use Rattle.online.specs.Lengths.{IsLengthsOf, NamesLength}
use Rattle.online.specs.Lists.{AreListsOf, TakesLists}
use Rattle.online.specs.Online.{EachRecord, ComesAfter, PassesAfter, IsSettledAfter, IsWatchable}
use Rattle.online.specs.Online.{IsUnfinishedAfter, IsCompleteAfter, IsDependentAt, ListsAwaited}
use Rattle.online.specs.Online.{is_told_at_once}
use Rattle.online.specs.Replays.{script_of, IsReplayed, IsReplayOf}
use Rattle.online.specs.Rosters.{AreRostersOf}
use Rattle.online.specs.Tasks.{value_of}
use Rattle.online.specs.Teams.{AreTeamsOf, FindsRoom}
use Rattle.online.specs.Waits.{IsWaitsOf, IsCoverComplete, MayFollow}
use Rattle.online.specs.Watches.{AreRegionsOf, BeginsNewRegion, dependent_of, parent_in, MayList, IsWatchOf}
use Rattle.online.specs.Watches.{CreatesOutside}
use Rattle.online.proofs.KeptLists.{lists_more}
use Rattle.online.proofs.LengthLemmas.{may_follow}
use Rattle.online.proofs.ListOrder.{order_more}
use Rattle.online.proofs.ListingLemmas.{listed_no_creation}
use Rattle.online.proofs.OutsideLemmas.{outside_more}
use Rattle.online.proofs.PassLemmas.{each_more, none_twice}
use Rattle.online.proofs.ReplayEnds.{replayed_order, replayed_unfinished}
use Rattle.online.proofs.ReplayFollows.{replayed_follows}
use Rattle.online.proofs.ReplayLaw.{replayed_whole, replayed_records}
use Rattle.online.proofs.ReplayNames.{finish_called}
use Rattle.online.proofs.ReplayOrder.{replayed_comes, with_turn}
use Rattle.online.proofs.ReplayRecords.{IsOfStep, of_step, says_call, replayed_numbered, replayed_once}
use Rattle.online.proofs.ReplayTasks.{IsOneMore, is_parent, goes_on, dependent_value, dependent_untouched}
use Rattle.online.proofs.ReplayThreads.{replayed_unmoved, replayed_flat, replayed_nested, replayed_on_host}
use Rattle.online.proofs.ReplayThreads.{replayed_placed}
use Rattle.online.proofs.SizeLemmas.{finds_room}
use Rattle.online.proofs.WatchLemmas.{watchable_exactly}

-- the first parts of what is kept take the record
pub record IsFollowed (old new : Watch) (r : Record) : Type 0 where
  pub nests : new.replay.nests ≡ old.replay.nests
  pub replay : (rs : List Record) → IsReplayOf rs old.replay → IsReplayOf (rs ++ r ∷ []) new.replay
  pub regions : (rs : List Record) → AreRegionsOf rs old.regions
      → BeginsNewRegion rs r × AreRegionsOf (rs ++ r ∷ []) new.regions
  pub lengths : (rs : List Record) → lengths.MayFollow rs r → IsLengthsOf rs old.lengths
      → NamesLength rs r × IsLengthsOf (rs ++ r ∷ []) new.lengths

-- and each other part too
pub record IsWatched (old new : Watch) (r : Record) (parent : Option ℕ) : Type 0 where
  pub followed : IsFollowed old new r
  pub parent_is : (task : ℕ) → dependent_of r.body ≡ Some task → parent ≡ parent_in old.replay task
  pub may_list : MayList old.replay r.body parent
  pub rosters : (rs : List Record) → AreRostersOf rs old.rosters → AreRostersOf (rs ++ r ∷ []) new.rosters
  pub waits : (rs : List Record) → MayFollow rs r → IsWaitsOf rs (kept_by old.waits)
      → IsWaitsOf (rs ++ r ∷ []) (kept_by new.waits)
  pub teams : (rs : List Record) → MayFollow rs r → FindsRoom rs r → IsWaitsOf rs (kept_by old.waits)
      → AreTeamsOf rs (kept_by old.waits) (teams_by old.waits)
      → AreTeamsOf (rs ++ r ∷ []) (kept_by new.waits) (teams_by new.waits)
  pub covers : (rs : List Record) → MayFollow rs r → FindsRoom rs r → IsWaitsOf rs (kept_by old.waits)
      → AreTeamsOf rs (kept_by old.waits) (teams_by old.waits) → IsCoverComplete rs r
  pub items : Reads old.items new.items r parent
  pub lists : TakesLists old.lists new.lists r parent old.replay.count
  pub outside : new.outside ≡ true → (old.outside ≡ true) × CreatesOutside old.replay r.body

-- ---- no task and no region begins twice

no_twice : (rs : List Record) (r : Record) → IsFreeOf rs CreatedTwice
    → ((i : ℕ) → IsMadeAgain (rs ++ r ∷ []) i → ⊥) → BeginsNewRegion rs r
    → IsFreeOf (rs ++ r ∷ []) CreatedTwice
no_twice rs r before made_once names i (created_twice again) = made_once i again
no_twice rs r before made_once names i (forked_twice (parallel, k, own, other, low, first, second)) =
    let (q, q_is, q_says) = get_at forked (rs ++ r ∷ []) k (other, parallel) first in
    let (p, p_is, p_says) = get_at forked (rs ++ r ∷ []) i (own, parallel) second in
    elim (pushed_cases rs r p i p_is) [
      | inl old ↦
          let within = slice_get_within rs i p old in
          by_earlier q k q_is q_says (omega (arith, low, within))
          (λ there. before i (forked_twice (
            parallel,
            k,
            own,
            other,
            low,
            there,
            at_get forked rs i p old ∙ p_says,
          )))
      | inr (last, same) ↦
          by_earlier q k q_is q_says (omega (arith, low, last))
          (λ there. names own parallel (ap (λ (x : Record). forked x.body) same ∙ p_says)
          (k, other, there))
    ]
  where
    by_earlier : (q : Record) (n : ℕ) → slice_get (rs ++ r ∷ []) n ≡ Some q
        → forked q.body ≡ Some (other, parallel) → n < length rs
        → (at forked rs n ≡ Some (other, parallel) → ⊥) → ⊥
    by_earlier q n is says within never = elim (pushed_cases rs r q n is) [
      | inl old ↦ never (at_get forked rs n q old ∙ says)
      | inr (last, same) ↦ absurd (omega (arith, last, within))
    ]

-- ---- the task that has predecessors

dependent_listed : (body : Body) (task : ℕ) (list : List Dep) → dependences body ≡ Some (task, list)
    → dependent_of body ≡ Some task
dependent_listed (Dependences own items) task list is = ap (option_map (λ (d : ℕ × List Dep). d.0)) is
dependent_listed _ task list is = absurd (none-some (task, list) is)

dependent_waited : (body : Body) (task : ℕ) → wait_completed body ≡ Some task → dependent_of body ≡ Some task
dependent_waited (TaskSchedule status.TaskwaitComplete turns prior next claimed) task is = is
dependent_waited _ task is = absurd (none-some task is)

-- a task that starts, where no taskwait is complete
dependent_started : (body : Body) (task : ℕ) → begun_turn body ≡ Some (task, 0) → wait_completed body ≡ None
    → dependent_of body ≡ Some task
dependent_started body task begins none =
    let (starts, turn) = with_turn (started body) (next_turn body) task 0 begins in
    by body none starts (eq-eqb (next_turn body) 0 turn)
  where
    by : (b : Body) → wait_completed b ≡ None → started b ≡ Some task → (next_turn b == 0) ≡ true
        → dependent_of b ≡ Some task
    by (TaskSchedule status.TaskwaitComplete turns prior next claimed) waits starts first =
        absurd (none-some prior (sym waits))
    by (TaskSchedule status.Complete turns prior next claimed) waits starts first =
        ap (λ c. cond c next None) first ∙ starts
    by (TaskSchedule status.Yield turns prior next claimed) waits starts first =
        ap (λ c. cond c next None) first ∙ starts
    by (TaskSchedule status.Cancel turns prior next claimed) waits starts first =
        ap (λ c. cond c next None) first ∙ starts
    by (TaskSchedule status.Detach turns prior next claimed) waits starts first =
        ap (λ c. cond c next None) first ∙ starts
    by (TaskSchedule status.EarlyFulfill turns prior next claimed) waits starts first =
        ap (λ c. cond c next None) first ∙ starts
    by (TaskSchedule status.LateFulfill turns prior next claimed) waits starts first =
        ap (λ c. cond c next None) first ∙ starts
    by (TaskSchedule status.Switch turns prior next claimed) waits starts first =
        ap (λ c. cond c next None) first ∙ starts
    by _ waits starts first = absurd (none-some task starts)

-- no task starts where a taskwait is complete
starts_no_wait : (r : RecorderView) (body : Body) (first second : Option TaskView) (task : ℕ)
    → call_refusal r body first second ≡ None → id_of first ≡ first_given body
    → id_of second ≡ second_given body → started body ≡ Some task → wait_completed body ≡ None
starts_no_wait r (TaskSchedule status.TaskwaitComplete turns prior next claimed) None second task accepted one
    two starts =
    absurd (none-some prior one)
starts_no_wait r (TaskSchedule status.TaskwaitComplete turns prior next claimed) (Some t) None task accepted
    one
    two starts =
    absurd (none-some task (two ∙ starts))
starts_no_wait r (TaskSchedule status.TaskwaitComplete turns prior next claimed) (Some t) (Some n) task
    accepted
    one two starts =
    absurd (false≢true (scheduled_by r t status.TaskwaitComplete (Some n) accepted).has_next)
starts_no_wait r (TaskSchedule status.Complete turns prior next claimed) first second task accepted one two
    starts =
    refl
starts_no_wait r (TaskSchedule status.Yield turns prior next claimed) first second task accepted one two
    starts =
    refl
starts_no_wait r (TaskSchedule status.Cancel turns prior next claimed) first second task accepted one two
    starts
    =
    refl
starts_no_wait r (TaskSchedule status.Detach turns prior next claimed) first second task accepted one two
    starts
    =
    refl
starts_no_wait r (TaskSchedule status.EarlyFulfill turns prior next claimed) first second task accepted one
    two
    starts =
    refl
starts_no_wait r (TaskSchedule status.LateFulfill turns prior next claimed) first second task accepted one two
    starts =
    refl
starts_no_wait r (TaskSchedule status.Switch turns prior next claimed) first second task accepted one two
    starts
    =
    refl
starts_no_wait r _ first second task accepted one two starts = absurd (none-some task starts)

finish_subject : (body : Body) (task : ℕ) (p : Part) → finish body ≡ Some (task, p) → subject body ≡ Some task
finish_subject (TaskSchedule st turns prior next claimed) task p is = of (status_part st) is
  where
    of : (o : Option Part) → option_map {U = ℕ × Part} (λ q. (prior, q)) o ≡ Some (task, p)
        → Some prior ≡ Some task
    of None none = absurd (none-some (task, p) none)
    of (Some q) there = ap (option_map (λ (x : ℕ × Part). x.0)) there
finish_subject (Cancel given own claimed) task p is = of (has_flag given.0 flag.discarded_task) is
  where
    of : (b : Bool) → cond {A = Option (ℕ × Part)} b (Some (own, Whole)) None ≡ Some (task, p)
        → Some own ≡ Some task
    of true there = ap (option_map (λ (x : ℕ × Part). x.0)) there
    of false none = absurd (none-some (task, p) none)
finish_subject _ task p is = absurd (none-some (task, p) is)

parent_found : (kept : Replay) (task p : ℕ) → parent_in kept task ≡ Some p
    → (t : TaskView) × (value_of kept.tasks task ≡ Some t) × (parent_of t.origin ≡ Some p)
parent_found kept task p is = of (value_of kept.tasks task) is
  where
    of : (o : Option TaskView) → option_and_then (λ (t : TaskView). parent_of t.origin) o ≡ Some p
        → (t : TaskView) × (o ≡ Some t) × (parent_of t.origin ≡ Some p)
    of None none = absurd (none-some p none)
    of (Some t) there = (t, refl, there)

-- ---- a record that passes the first tests may follow

pub record MayComeNext (rs : List Record) (r : Record) (old new : Watch) : Type 0 where
  pub replay : IsReplayOf (rs ++ r ∷ []) new.replay
  pub replayed : IsReplayed old.replay.nests (rs ++ r ∷ []) (value_of new.replay.tasks)
  pub regions : BeginsNewRegion rs r × AreRegionsOf (rs ++ r ∷ []) new.regions
  pub named : NamesLength rs r × IsLengthsOf (rs ++ r ∷ []) new.lengths
  pub once : IsFreeOf (rs ++ r ∷ []) CreatedTwice
  pub comes : EachRecord ComesAfter (rs ++ r ∷ [])
  pub watchable : IsWatchable (rs ++ r ∷ [])
  pub follows : MayFollow rs r
  pub placed : EachRecord ListsAwaited (rs ++ r ∷ [])
  pub awaits : ListsAwaited rs r

pub is_next : (rs : List Record) (old new : Watch) (r : Record) → IsWatchOf rs old → IsFollowed old new r
    → MayComeNext rs r old new
is_next rs old new r kept followed = record {
  replay = replay;
  replayed = replayed;
  regions = regions;
  named = named;
  once = once;
  comes = comes;
  watchable = watchable;
  follows = replayed_follows old.replay.nests rs r values replayed watchable once few;
  placed = placed;
  awaits =
      subst (λ l. ListsAwaited l r) (take_at rs (r ∷ []) (length rs) refl)
      (placed (length rs) r (get_last rs r (length rs) refl));
}
  where
    values : Values
    values = value_of new.replay.tasks

    replay : IsReplayOf (rs ++ r ∷ []) new.replay
    replay = followed.replay rs kept.replay

    replayed : IsReplayed old.replay.nests (rs ++ r ∷ []) (value_of new.replay.tasks)
    replayed = subst (λ n. IsReplayed n (rs ++ r ∷ []) values) followed.nests replay.replayed

    regions : BeginsNewRegion rs r × AreRegionsOf (rs ++ r ∷ []) new.regions
    regions = followed.regions rs kept.regions

    once_before : IsFreeOf rs CreatedTwice
    once_before = none_twice rs kept.passes

    once : IsFreeOf (rs ++ r ∷ []) CreatedTwice
    once =
        no_twice rs r once_before (replayed_once old.replay.nests (rs ++ r ∷ []) values replayed) regions.0

    named : NamesLength rs r × IsLengthsOf (rs ++ r ∷ []) new.lengths
    named =
        followed.lengths rs (may_follow rs r ((watchable_exactly rs once_before).0 kept.comes) once)
        kept.lengths

    comes : EachRecord ComesAfter (rs ++ r ∷ [])
    comes =
        each_more ComesAfter rs r kept.comes
        (replayed_comes old.replay.nests rs r values replayed named.0)

    watchable : IsWatchable (rs ++ r ∷ [])
    watchable = (watchable_exactly (rs ++ r ∷ []) once).0 comes

    placed : EachRecord ListsAwaited (rs ++ r ∷ [])
    placed = replayed_placed old.replay.nests (rs ++ r ∷ []) values replayed

    few : length rs + 2 < 2 ^ 64
    few = omega (arith, kept.replay.count, kept.replay.few)

-- ---- so the record is taken

pub watch_more : (rs : List Record) (old new : Watch) (r : Record) (parent : Option ℕ) → IsWatchOf rs old
    → IsWatched old new r parent → IsWatchOf (rs ++ r ∷ []) new
watch_more rs old new r parent kept watched = record {
  replay = next.replay;
  regions = next.regions.1;
  rosters = rosters;
  lengths = next.named.1;
  waits = watched.waits rs follows kept.waits;
  teams = watched.teams rs follows room kept.waits kept.teams;
  items = read.kept;
  lists = lists;
  in_order =
      order_more rs r old.items kept.items next.watchable next.once next.awaits kept.in_order;
  outside = λ so.
      let (before, there) = watched.outside so in
      outside_more old.replay rs r more (kept.outside before) there;
  comes = next.comes;
  passes = each_more PassesAfter rs r kept.passes (record {
    clear = clear;
    in_place = next.awaits;
  });
  settled = each_more IsSettledAfter rs r kept.settled (record {
    unfinished =
        subst (λ l. IsUnfinishedAfter l r) before
        (replayed_unfinished nests all values (length rs) r replayed last);
    listed = read.listed;
    complete = complete;
  });
}
  where
    all : List Record
    all = rs ++ r ∷ []

    nests : Bool
    nests = old.replay.nests

    values : Values
    values = value_of new.replay.tasks

    next : MayComeNext rs r old new
    next = is_next rs old new r kept watched.followed

    replayed : IsReplayed nests all values
    replayed = next.replayed

    more : IsOneMore old.replay rs r
    more = record { before = kept.replay; values = values; after = replayed }

    script : ScriptView
    script = script_of nests all

    whole : IsWhole script
    whole = replayed_whole nests all values replayed

    last : slice_get all (length rs) ≡ Some r
    last = get_last rs r (length rs) refl

    before : take (length rs) all ≡ rs
    before = take_at rs (r ∷ []) (length rs) refl

    o : IsOfStep script all (length rs) r
    o = of_step nests all values (length rs) r replayed last

    rosters : AreRostersOf all new.rosters
    rosters = watched.rosters rs kept.rosters

    room : FindsRoom rs r
    room = finds_room rs r new.rosters rosters

    follows : MayFollow rs r
    follows = next.follows

    clear : (cause : Cause) → is_told_at_once cause ≡ true → HasCause all (length rs) cause → ⊥
    clear SeqGap told has = replayed_numbered nests all values replayed (length rs) has
    clear CreatedTwice told has = next.once (length rs) has
    clear NotCurrent told has =
        none_off_current script all whole (replayed_records nests all values replayed) (length rs) has
    clear Moved told has = replayed_unmoved nests all values replayed (length rs) has
    clear TurnGap told has =
        none_with_gap script all whole (replayed_records nests all values replayed) (length rs) has
    clear RegionOrder told has = replayed_order nests all values replayed (length rs) has
    clear NestedParallel told has = replayed_flat nests all values replayed (length rs) has
    clear RegionNesting told has = replayed_nested nests all values replayed (length rs) has
    clear EntryTwice told has = next.named.0.not_twice has
    clear LengthBack told has = next.named.0.not_back has
    clear TargetTask told has = replayed_on_host nests all values replayed (length rs) has
    clear _ told has = false≢true told

    -- the task of a dependent is the one that is asked for
    asked : (dependent : ℕ) → IsDependentAt all (length rs) dependent → dependent_of r.body ≡ Some dependent
    asked dependent (inl (explicit, starts)) =
        let begins = sym (at_get begun_turn all (length rs) r last) ∙ starts.starts in
        let starts_it = (with_turn (started r.body) (next_turn r.body) dependent 0 begins).0 in
        let starts_step =
        sym (says_call started nests all values (length rs) r replayed started_called o) ∙ starts_it in
        dependent_started r.body dependent begins
        (says_call wait_completed nests all values (length rs) r replayed wait_called o
        ∙ starts_no_wait (recorder_at script (length rs) o.step.thread) o.step.body
        (first_at script (length rs) o.step) (second_at script (length rs) o.step) dependent
        (step_accepts script (length rs) o.step whole o.stands)
        (first_id_is script (length rs) o.step whole o.stands)
        (second_id_is script (length rs) o.step whole o.stands) starts_step)
    asked dependent (inr waits) =
        dependent_waited r.body dependent (sym (at_get wait_completed all (length rs) r last) ∙ waits)

    may_be_read : MayBeRead rs r parent
    may_be_read = record {
      watchable = next.watchable;
      once = next.once;
      in_place = next.placed;
      lists = λ task list lists_it.
          let (p, given, t, was, runs) = watched.may_list task list lists_it in
          let (u, found, above) = parent_found old.replay task p
          (sym (watched.parent_is task (dependent_listed r.body task list lists_it)) ∙ given) in (
            p,
            given,
            is_parent old.replay rs r task p u more found above
                (listed_no_creation task list r.body lists_it),
            goes_on old.replay rs r p t more was runs,
          );
      parent_of = λ dependent is.
          let it = dependent_value old.replay rs r dependent more is in (
            it.parent,
            watched.parent_is dependent (asked dependent is)
                ∙ ap (option_and_then (λ (t : TaskView). parent_of t.origin)) it.was ∙ it.above,
            it.created_by,
          );
      untouched = λ dependent is. dependent_untouched old.replay rs r dependent more is;
      apart = λ task p finishes begins.
          let starts_it = (with_turn (started r.body) (next_turn r.body) task 0 begins).0 in
          two_apart script (length rs) o.step task task whole o.stands
          (finish_subject o.step.body task p
          (sym (says_call finish nests all values (length rs) r replayed finish_called o) ∙ finishes))
          (started_object o.step.body task
          (sym (says_call started nests all values (length rs) r replayed started_called o) ∙ starts_it))
          refl;
      fulfils = follows.fulfils;
    }

    read : IsRead rs r new.items
    read = watched.items rs may_be_read kept.items

    lists : AreListsOf all new.lists
    lists =
        lists_more rs r parent old.lists new.lists
        (subst (TakesLists old.lists new.lists r parent) kept.replay.count watched.lists)
        (λ task list says.
        let (p, given, above, going) = may_be_read.lists task list says in (p, given, above))
        kept.lists

    complete : IsCompleteAfter rs r
    complete task (covered covers) = watched.covers rs follows room kept.waits kept.teams task covers
    complete task (preceding {dependent = dependent} explicit starts precedes) =
        read.complete dependent task (inl (explicit, starts)) precedes
    complete task (awaited {dependent = dependent} waits precedes) =
        read.complete dependent task (inr waits) precedes

-- where lengths are forgotten
pub watch_forgets : (rs : List Record) (w : Watch) (known : Lengths) → IsWatchOf rs w → IsLengthsOf rs known
    → IsWatchOf rs (record w { lengths = known })
watch_forgets rs w known kept still = record {
  replay = kept.replay;
  regions = kept.regions;
  rosters = kept.rosters;
  lengths = still;
  waits = kept.waits;
  teams = kept.teams;
  items = kept.items;
  lists = kept.lists;
  in_order = kept.in_order;
  outside = kept.outside;
  comes = kept.comes;
  passes = kept.passes;
  settled = kept.settled;
}
