-- Records that recorders would make are allowed by those of their threads.
use Rattle.std.proofs.Common.{ℕ, ◌≡◌, ◌∙◌, List, [], ◌∷◌, length, take, map, Option, Some, None, Bool, true}
use Rattle.std.proofs.Common.{false}
use Rattle.std.proofs.Common.{refl, sym, ap, cond}
use Rattle.std.specs.Prelude.{◌&&◌, not, slice_get, option_map, fold, nat_lt, if◌then◌else◌}
use Rattle.std.proofs.lemmas.Bool.{and_parts, eqb-true, false≢true}
use Rattle.std.proofs.lemmas.List.Folds.{fold-map}
use Rattle.std.proofs.lemmas.Option.{none-some, same_Some, slice_get-map}
use Rattle.ompt_events.specs.declared.records.Record.{Record}
use Rattle.ompt_events.specs.declared.records.Body.{Body}
use Rattle.ompt_events.specs.declared.records.Body.TheVariants.{ThreadBegin, ThreadEnd, ParallelBegin}
use Rattle.ompt_events.specs.declared.records.Body.TheVariants.{ParallelEnd, ImplicitTask, TaskCreate}
use Rattle.ompt_events.specs.declared.records.Body.TheVariants.{Dependences, TaskSchedule, SyncRegion, Cancel}
use Rattle.ompt_events.specs.declared.names.Endpoint.TheVariants.{Begin, End, BeginEnd}
use Rattle.ompt_events.specs.declared.deps.Dep.{Dep}
use Rattle.ompt_events.specs.declared.cause.Cause.TheVariants.{Moved, NestedParallel, RegionNesting}
use Rattle.ompt_events.specs.declared.cause.Cause.TheVariants.{TargetTask}
use Rattle.ompt_events.specs.Causes.{IsFreeOf, moved, target_task}
use Rattle.ompt_events.specs.Flags as flag
use Rattle.ompt_events.specs.Flags.{task_flags, are_named, has_flag}
use Rattle.ompt_events.specs.Records.{made, flags, started, told_turns, dependences, created_with_deps}
use Rattle.ompt_events.specs.Threads as threads
use Rattle.ompt_events.specs.Threads.{after_record, walk_of}
use Rattle.ompt_events.proofs.PlaceLemmas.{at_get, get_at}
use Rattle.credit_ledger.proofs.EntryLemmas.{get_take}
use Rattle.callbacks.specs.declared.fault.CallFault.TheVariants.{WrongState}
use Rattle.callbacks.specs.Calls.{may_cancel}
use Rattle.callbacks.specs.Recorders.{RecorderView, allowed, may_fork}
use Rattle.callbacks.specs.Schedules.{discard_body, discard_refusal, may_discard}
use Rattle.callbacks.specs.Schedules.{turns_of}
use Rattle.callbacks.specs.Recorders.{refusal_at}
use Rattle.callbacks.specs.Standing.{Standing, standing_of, standing_at_start, next_standing, allows, fits}
use Rattle.callbacks.specs.Standing.{is_in_place, is_same, runs_its_task, ends_innermost, is_outside}
use Rattle.callbacks.specs.Standing.{is_on_host}
use Rattle.callbacks.specs.Standing.{begins_own_region}
use Rattle.callbacks.specs.Tasks.{TaskView, may_create, is_deep, is_crowded, is_barred, is_innermost_region}
use Rattle.callbacks.specs.Tasks.{is_root_on, end_of_root}
use Rattle.callbacks.proofs.NestedLaw.{IsEarlier, AreAllowed, none_nested_where_allowed}
use Rattle.callbacks.proofs.NestedLaw.{none_misnested_where_allowed}
use Rattle.callbacks.proofs.StandingLemmas.{walk_along}
use Rattle.callbacks.proofs.ThreadLaws.{allowed_on_host, not_on_host, nests_get}
use Rattle.scripts.specs.Parts.{id_of}
use Rattle.scripts.specs.Progress.{Values, own_records, thread_records, without_seen}
use Rattle.scripts.specs.RunCalls.{call_refusal, first_given, recorded_body}
use Rattle.scripts.proofs.AcceptedLemmas.{allowed_by, scheduled_by}
use Rattle.scripts.proofs.PlacedLemmas.{thread_of}
use Rattle.scripts.proofs.SaidLemmas.{started_called}
use Rattle.scripts.proofs.ThreadPlaces.{place_of, place_there}
use Rattle.scripts.proofs.ValueSteps.{first_at, second_at, recorder_at, step_accepts, first_id_is}
use Rattle.online.specs.Online.{EachRecord, ListsAwaited, awaited_by}
use Rattle.online.specs.Replays.{script_of, IsReplayed}
use Rattle.online.proofs.ReplayLaw.{replayed_whole, without_first}
use Rattle.online.proofs.ReplayRecords.{of_step, says_call, replayed_once}

-- ---- a record that a recorder accepts

allows_made : (r : RecorderView) (body : Body) (first second : Option TaskView)
    → call_refusal r body first second ≡ None → id_of first ≡ first_given body
    → allowed r (recorded_body body first second) ≡ true
allows_made r (ThreadBegin kind) first second accepted id =
    (allowed_by r true false false (ThreadBegin kind) accepted).allowed
allows_made r ThreadEnd first second accepted id =
    (allowed_by r true false false ThreadEnd accepted).allowed
allows_made r (ParallelBegin requested own parallel) None second accepted id = absurd (none-some own id)
allows_made r (ParallelBegin requested own parallel) (Some t) second accepted id =
    (allowed_by r (may_fork r t) false false (ParallelBegin requested own parallel) accepted).allowed
allows_made r (ParallelEnd own parallel) None second accepted id = absurd (none-some own id)
allows_made r (ParallelEnd own parallel) (Some t) second accepted id =
    (allowed_by r true false false (ParallelEnd own parallel) accepted).allowed
allows_made r (ImplicitTask Begin actual index given parallel own) first second accepted id =
    (allowed_by r (are_named task_flags given.0) false false
    (ImplicitTask Begin actual index given parallel own) accepted).allowed
allows_made r (ImplicitTask End actual index given parallel own) None second accepted id =
    absurd (none-some own id)
allows_made r (ImplicitTask End actual index given parallel own) (Some t) second accepted id =
    (allowed_by r (is_root_on r.thread t) false false (end_of_root t parallel) accepted).allowed
allows_made r (ImplicitTask BeginEnd actual index given parallel own) first second accepted id =
    absurd (none-some WrongState (sym accepted))
allows_made r (TaskCreate deps given own child) None second accepted id = absurd (none-some own id)
allows_made r (TaskCreate deps given own child) (Some t) second accepted id =
    (allowed_by r (may_create t given) (is_deep t) (is_crowded t) (TaskCreate deps given own child)
    accepted).allowed
allows_made r (Dependences own list) None second accepted id = absurd (none-some own id)
allows_made r (Dependences own list) (Some t) second accepted id =
    (allowed_by r true false (nat_lt 64 (length list)) (Dependences own list) accepted).allowed
allows_made r (TaskSchedule status turns prior next claimed) None second accepted id =
    absurd (none-some prior id)
allows_made r (TaskSchedule status turns prior next claimed) (Some t) second accepted id =
    (scheduled_by r t status second accepted).allowed
allows_made r (SyncRegion kind endpoint parallel own) None second accepted id = absurd (none-some own id)
allows_made r (SyncRegion kind Begin parallel own) (Some t) second accepted id =
    (allowed_by r (not (is_barred t kind)) false false (SyncRegion kind Begin parallel own) accepted).allowed
allows_made r (SyncRegion kind End parallel own) (Some t) second accepted id =
    (allowed_by r (is_innermost_region t kind && not (is_barred t kind)) false false
    (SyncRegion kind End parallel own) accepted).allowed
allows_made r (SyncRegion kind BeginEnd parallel own) (Some t) second accepted id =
    (allowed_by r (not (is_barred t kind)) false false (SyncRegion kind BeginEnd parallel own)
    accepted).allowed
allows_made r (Cancel given own claimed) None second accepted id = absurd (none-some own id)
allows_made r (Cancel given own claimed) (Some t) second accepted id =
    by (has_flag given.0 flag.discarded_task) accepted
  where
    by : (b : Bool)
        → cond b (discard_refusal r t given)
        (refusal_at r (may_cancel given.0) false false (Cancel given own None)) ≡ None
        → allowed r (cond b (discard_body t given (Some t.claim)) (Cancel given own None)) ≡ true
    by true is =
        (allowed_by r (may_discard t given) false false (discard_body t given None) is).allowed
    by false is =
        (allowed_by r (may_cancel given.0) false false (Cancel given own None) is).allowed

-- ---- by the records of its thread

-- the records of the thread before it, but for their ledger lengths
abbrev own_before : List Record → ℕ → Record → List Record
own_before rs i r = thread_records (map without_seen (take i rs)) r.thread

own_allows : (nests : Bool) (rs : List Record) (values : Values) (i : ℕ) (r : Record)
    → IsReplayed nests rs values → slice_get rs i ≡ Some r → allows r.nests (own_before rs i r) r.body ≡ true
own_allows nests rs values i r replayed is =
    let script = script_of nests rs in
    let whole = replayed_whole nests rs values replayed in
    let o = of_step nests rs values i r replayed is in
    ap (λ b. allows b (own_before rs i r) r.body) o.kind
    ∙ ap (λ own. allows nests own r.body) (sym o.own)
    ∙ ap (allows nests (own_records script i o.step.thread)) o.body_is
    ∙ allows_made (recorder_at script i o.step.thread) o.step.body (first_at script i o.step)
    (second_at script i o.step) (step_accepts script i o.step whole o.stands)
    (first_id_is script i o.step whole o.stands)

own_earlier : (rs : List Record) (i : ℕ) (r q : Record) (p : ℕ) → slice_get (own_before rs i r) p ≡ Some q
    → IsEarlier rs i r q.body
own_earlier rs i r q p is =
    of (slice_get own p) refl
    (sym (slice_get-map without_seen own p)
    ∙ ap (λ l. slice_get l p) (without_first r.thread (take i rs)) ∙ is)
  where
    own : List Record
    own = thread_records (take i rs) r.thread

    of : (found : Option Record) → slice_get own p ≡ found → option_map without_seen found ≡ Some q
        → IsEarlier rs i r q.body
    of None there same = absurd (none-some q same)
    of (Some x) there same =
        let it = place_there thread_of (take i rs) r.thread p x there in
        let (below, stands) = get_take rs i (place_of thread_of (take i rs) r.thread p) x it.stands in
        record {
          place = place_of thread_of (take i rs) r.thread p;
          other = x;
          before = below;
          stands = stands;
          same_thread = it.of_thread;
          has = ap (λ (y : Record). y.body) (same_Some (without_seen x) q same);
        }

pub replayed_allowed : (nests : Bool) (rs : List Record) (values : Values) → IsReplayed nests rs values
    → AreAllowed rs
replayed_allowed nests rs values replayed i r is = (
  own_before rs i r,
  record {
    allowed = own_allows nests rs values i r replayed is;
    walk =
        sym (fold-map after_record without_seen threads.at_start (thread_records (take i rs) r.thread))
        ∙ ap (fold after_record threads.at_start) (without_first r.thread (take i rs))
        ∙ sym (walk_along (own_before rs i r));
    earlier = λ p q there. own_earlier rs i r q p there;
  },
)

-- ---- the causes that it excludes

pub replayed_flat : (nests : Bool) (rs : List Record) (values : Values) → IsReplayed nests rs values
    → IsFreeOf rs NestedParallel
replayed_flat nests rs values replayed =
    none_nested_where_allowed rs (replayed_allowed nests rs values replayed)
    (replayed_once nests rs values replayed)

pub replayed_nested : (nests : Bool) (rs : List Record) (values : Values) → IsReplayed nests rs values
    → IsFreeOf rs RegionNesting
replayed_nested nests rs values replayed =
    none_misnested_where_allowed rs (replayed_allowed nests rs values replayed)

pub replayed_on_host : (nests : Bool) (rs : List Record) (values : Values) → IsReplayed nests rs values
    → IsFreeOf rs TargetTask
replayed_on_host nests rs values replayed i (target_task (task, bits, barred, makes, given, device)) =
    let (r, is, makes_it) = get_at made rs i task makes in
    let host = allowed_on_host r.nests (own_before rs i r) r.body (nests_get rs i r false is barred)
    (own_allows nests rs values i r replayed is) in
    not_on_host r.body task bits host makes_it (sym (at_get flags rs i r is) ∙ given) device

-- a record at which a task runs next has turns
told_start : (body : Body) (first second : Option TaskView) (task : ℕ) → id_of first ≡ first_given body
    → started body ≡ Some task → started (recorded_body body first second) ≡ Some task
    → told_turns (recorded_body body first second) ≡ None → ⊥
told_start (TaskSchedule status turns prior next claimed) None second task id starts runs none =
    none-some prior id
told_start (TaskSchedule status turns prior next claimed) (Some t) None task id starts runs none =
    none-some task runs
told_start (TaskSchedule status turns prior next claimed) (Some t) (Some n) task id starts runs none =
    none-some (turns_of t n) (sym none)
told_start _ first second task id starts runs none = none-some task starts

pub replayed_unmoved : (nests : Bool) (rs : List Record) (values : Values) → IsReplayed nests rs values
    → IsFreeOf rs Moved
replayed_unmoved nests rs values replayed i (moved (task, k, explicit, starts, low, earlier, apart, untold)) =
    let script = script_of nests rs in
    let (r, is, starts_it) = get_at started rs i task starts in
    let o = of_step nests rs values i r replayed is in
    told_start o.step.body (first_at script i o.step) (second_at script i o.step) task
    (first_id_is script i o.step (replayed_whole nests rs values replayed) o.stands)
    (sym (says_call started nests rs values i r replayed started_called o) ∙ starts_it)
    (ap started (sym o.body_is) ∙ starts_it)
    (ap told_turns (sym o.body_is) ∙ sym (at_get told_turns rs i r is) ∙ untold)

-- ---- dependences that a thread awaits

awaited_on : (s : Standing) (own : List Record)
    → (fold (λ t (r : Record). next_standing r.nests t r.body) s own).awaited
    ≡ fold (λ (before : Option ℕ) (r : Record). created_with_deps r.body) s.awaited own
awaited_on s [] = refl
awaited_on s (r ∷ own) = awaited_on (next_standing r.nests s r.body) own

same_found : (a b : Option ℕ) → is_same a b ≡ true → a ≡ b
same_found None None same = refl
same_found (Some a) (Some b) same = ap Some (eqb-true a b same)
same_found None (Some b) same = absurd (false≢true same)
same_found (Some a) None same = absurd (false≢true same)

in_place : (nests : Bool) (own : List Record) (body : Body) → allows nests own body ≡ true
    → is_in_place (standing_of own) body ≡ true
in_place nests own body is =
    let s = standing_of own in
    let fit = and_parts (fits s body)
    (if nests then begins_own_region own body else is_outside s body && is_on_host body) is in
    let two = and_parts (is_in_place s body && runs_its_task s body) (ends_innermost s body) fit.0 in
    (and_parts (is_in_place s body) (runs_its_task s body) two.0).0

pub replayed_placed : (nests : Bool) (rs : List Record) (values : Values) → IsReplayed nests rs values
    → EachRecord ListsAwaited rs
replayed_placed nests rs values replayed i r is =
    let own = own_before rs i r in
    let listed = option_map (λ (d : ℕ × List Dep). d.0) (dependences r.body) in
    let awaits : (standing_of own).awaited ≡ awaited_by r.thread (take i rs) =
    awaited_on standing_at_start own
    ∙ ap (fold (λ (before : Option ℕ) (q : Record). created_with_deps q.body) None)
    (sym (without_first r.thread (take i rs)))
    ∙ fold-map (λ (before : Option ℕ) (q : Record). created_with_deps q.body) without_seen None
    (thread_records (take i rs) r.thread) in
    sym (same_found (standing_of own).awaited listed
    (in_place r.nests own r.body (own_allows nests rs values i r replayed is)))
    ∙ awaits
