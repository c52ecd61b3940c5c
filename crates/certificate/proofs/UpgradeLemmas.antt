-- Records that are told their turns are a trace of version 2, and an upgrade; and a trace of version 2 is one
-- of version 3.
use Rattle.std.proofs.Common.{◌≡◌, ◌≢◌, ◌∙◌, ℕ, ◌<◌, ◌≤◌, ◌+◌, ◌-◌, ◌^◌, suc, List, [], ◌∷◌, length, take}
use Rattle.std.proofs.Common.{get_or, map, Option, Some, None, Bool, true, false, cond, refl, sym, ap, subst}
use Rattle.std.proofs.Common.{arith, inl, inr}
use Rattle.std.specs.Prelude.{slice_get, slice_set, is_some, sum_by, filter, ◌==◌, if◌then◌else◌}
use Rattle.std.specs.Option.{option_map_or}
use Rattle.std.specs.BTreeMap.{BTreeMap}
use Rattle.std.proofs.lemmas.Bool.{cases_eq, cases_lt}
use Rattle.std.proofs.lemmas.List.{length-map, length-set, get_or-set_same, get_or-set_other, take-set}
use Rattle.std.proofs.lemmas.List.{take-set-le}
use Rattle.std.proofs.lemmas.List.Sums.{sum_by-cons}
use Rattle.std.proofs.lemmas.List.Elements.{All-map}
use Rattle.std.proofs.lemmas.Option.{same_Some, slice_get_within, slice_get-get_or, slice_get_past}
use Rattle.std.proofs.lemmas.Option.{get_or_from_slice_get}
use Rattle.ompt_events.specs.declared.records.Record.{Record}
use Rattle.ompt_events.specs.declared.records.Body.{Body}
use Rattle.ompt_events.specs.declared.records.Body.TheVariants.{TaskSchedule}
use Rattle.ompt_events.specs.declared.records.Turns.{Turns}
use Rattle.ompt_events.specs.Records.{made, started, running}
use Rattle.ompt_events.specs.Limits.{max_records}
use Rattle.ompt_events.specs.Traces.{IsSound, IsInRange, BodyInRange, IsTraceOf, HasItsTurns, NestsIn}
use Rattle.ompt_events.specs.Traces.{tasks_in}
use Rattle.ompt_events.specs.Turns.{turn_in, turn_at}
use Rattle.ompt_events.specs.Upgrades.{IsUpgrade, turn_counted, telling, body_upgraded, nesting}
use Rattle.certificate.specs.declared.task_turns.TaskTurns.{TaskTurns}
use Rattle.certificate.specs.TaskTurns.{noted, turns_told, told_by, turn_ended, AreTurnsNoted, AreEnded}
use Rattle.certificate.specs.TaskTurns.{IsUpgradedUpTo}
use Rattle.certificate.proofs.TaskTurnLemmas.{turn_few}

-- ---- the list

get_here : {X : Type 0} (xs : List X) (i : ℕ) (y : X) → i < length xs
    → slice_get (slice_set xs i y) i ≡ Some y
get_here xs i y within =
    let long = length-set xs i y in
    slice_get-get_or (slice_set xs i y) i y (omega (arith, within, long))
    ∙ ap Some (get_or-set_same xs i y y within)

get_there : {X : Type 0} (xs : List X) (i j : ℕ) (y : X) → j ≢ i
    → slice_get (slice_set xs i y) j ≡ slice_get xs j
get_there xs i j y apart =
    let long = length-set xs i y in
    elim (cases_lt j (length xs)) [
      | inl within ↦
          slice_get-get_or (slice_set xs i y) j y (omega (arith, within, long))
          ∙ ap Some (get_or-set_other xs i j y y apart) ∙ sym (slice_get-get_or xs j y within)
      | inr past ↦
          slice_get_past (slice_set xs i y) j (omega (arith, past, long)) ∙ sym (slice_get_past xs j past)
    ]

-- the turn of a record, by the records of its thread before it
turn_by : List Record → Record → ℕ
turn_by before r =
    option_map_or (λ task. turn_in task (filter (λ (q : Record). q.thread == r.thread) before))
    (running r.body) 0

-- a later record changes none
same_turn : (now : List Record) (n i : ℕ) (s : Record) → i < n → turn_at (slice_set now n s) i ≡ turn_at now i
unfolding turn_by
same_turn now n i s below =
    ap
    (λ (xs : List Record).
    option_map_or (λ (r : Record). turn_by xs r) (slice_get (slice_set now n s) i) 0)
    (take-set-le i now n s (omega (arith, below)))
    ∙ ap (λ (o : Option Record). option_map_or (λ (r : Record). turn_by (take i now) r) o 0)
    (get_there now n i s (λ same. absurd (omega (arith, below, same))))

-- the turn of a record after which a task runs is that which is noted
turn_here : (now : List Record) (n prior : ℕ) (s : Record) (table : BTreeMap ℕ TaskTurns) → n < length now
    → AreEnded now n table → running s.body ≡ Some prior
    → turn_at (slice_set now n s) n ≡ turn_ended (noted table prior) s.thread
unfolding turn_by
turn_here now n prior s table within ended runs =
    ap (λ (o : Option Record). option_map_or (λ (r : Record). turn_by (take n (slice_set now n s)) r) o 0)
    (get_here now n s within)
    ∙ ap (λ (xs : List Record). turn_by xs s) (take-set now n s)
    ∙ ap
    (λ (o : Option ℕ).
    option_map_or (λ task. turn_in task (filter (λ (q : Record). q.thread == s.thread) (take n now)))
    o 0)
    runs
    ∙ ended prior s.thread

-- ---- one record

-- the record with this body in place of its own
abbrev with_body : Record → Body → Record
with_body r body = record { thread = r.thread; nests = r.nests; seq = r.seq; seen = r.seen; body = body }

-- what is told is what the upgrade says
told_is : (old now : List Record) (n : ℕ) (r : Record) (table : BTreeMap ℕ TaskTurns) → n < length now
    → AreTurnsNoted old n table → AreEnded now n table → IsSound r.body
    → told_by table r ≡ with_body r (body_upgraded old (slice_set now n (told_by table r)) n r.body)
told_is old now n r table within are ended sound = by r.body refl
  where
    by : (body : Body) → r.body ≡ body
        → told_by table r ≡ with_body r (body_upgraded old (slice_set now n (told_by table r)) n body)
    by (TaskSchedule status before prior (Some next) claim) is =
        let turns : Turns = record {
          prior = turn_ended (noted table prior) r.thread;
          next = (noted table next).next;
        } in
        let said : told_by table r ≡ with_body r (TaskSchedule status (Some turns) prior (Some next) claim) =
        ap
        (λ (b : Body).
        option_map_or (λ (t : Turns). with_body r (telling t b)) (turns_told table r.thread b) r)
        is in
        let was : IsSound (TaskSchedule status before prior (Some next) claim) = subst IsSound is sound in
        let runs : running (told_by table r).body ≡ Some prior =
        ap (λ (q : Record). running q.body) said
        ∙ ap (λ b. if b then Some prior else None) (sym was.next) in
        let thread : (told_by table r).thread ≡ r.thread = ap (λ (q : Record). q.thread) said in
        let ends : turn_at (slice_set now n (told_by table r)) n ≡ turn_ended (noted table prior) r.thread =
        turn_here now n prior (told_by table r) table within ended runs
        ∙ ap (turn_ended (noted table prior)) thread in
        said
        ∙ ap
        (λ t.
        with_body r
        (TaskSchedule status (Some (record { prior = t; next = (noted table next).next })) prior
        (Some next) claim))
        (sym ends)
        ∙ ap
        (λ t.
        with_body r
        (TaskSchedule status
        (Some (record { prior = turn_at (slice_set now n (told_by table r)) n; next = t }))
        prior (Some next) claim))
        (are.next next)
    by (TaskSchedule status before prior None claim) is =
        ap
        (λ (b : Body).
        option_map_or (λ (t : Turns). with_body r (telling t b)) (turns_told table r.thread b) r) is
        ∙ ap (with_body r) is
    by _ is =
        ap
        (λ (b : Body).
        option_map_or (λ (t : Turns). with_body r (telling t b)) (turns_told table r.thread b) r) is
        ∙ ap (with_body r) is

ended_few : (t : TaskTurns) (thread : ℕ) → turn_ended t thread ≤ t.next
ended_few t thread = by (option_map_or (λ home. home == thread) t.home false)
  where
    by : (b : Bool) → cond b (t.next - 1) 0 ≤ t.next
    by true = omega arith
    by false = omega arith

-- each number of it is within the range of its type
told_in_range : (old : List Record) (n : ℕ) (r : Record) (table : BTreeMap ℕ TaskTurns) → n ≤ length old
    → length old ≤ max_records → AreTurnsNoted old n table → IsInRange r → IsInRange (told_by table r)
told_in_range old n r table short few are in_range = by r.body refl
  where
    small : (task : ℕ) → (noted table task).next < 2 ^ 32
    small task =
        let now = are.next task in
        let most = turn_few old task n short in
        omega (arith, now, most, short, few)

    by : (body : Body) → r.body ≡ body
        → IsInRange
        (option_map_or (λ (turns : Turns). with_body r (telling turns body))
        (turns_told table r.thread body) r)
    by (TaskSchedule status before prior (Some next) claim) is =
        let range : BodyInRange (TaskSchedule status before prior (Some next) claim) =
        subst BodyInRange is in_range.body in
        let ended = ended_few (noted table prior) r.thread in
        let last = small prior in
        record {
          thread = in_range.thread;
          seq = in_range.seq;
          seen = in_range.seen;
          body = ((omega (arith, ended, last), small next), range.1, range.2, range.3);
        }
    by (TaskSchedule status before prior None claim) is = in_range
    by _ is = in_range

-- ---- the records so far

pub upgraded_more : (old now : List Record) (n : ℕ) (r : Record) (table : BTreeMap ℕ TaskTurns)
    → slice_get old n ≡ Some r → length old ≤ max_records → IsSound r.body → AreTurnsNoted old n table
    → AreEnded now n table → IsUpgradedUpTo old n now
    → IsUpgradedUpTo old (n + 1) (slice_set now n (told_by table r))
upgraded_more old now n r table stands few sound are ended before =
    let s = told_by table r in
    let there = slice_get_within old n r stands in
    let many = before.all in
    let within : n < length now = omega (arith, there, many) in
    record {
      all = length-set now n s ∙ many;
      each = λ i q below is. elim (cases_eq i n) [
        | inl same ↦
            let alike : r ≡ q = same_Some r q (sym stands ∙ ap (slice_get old) (sym same) ∙ is) in
            let here : slice_get (slice_set now n s) n
            ≡ Some (with_body r (body_upgraded old (slice_set now n s) n r.body)) =
            get_here now n s within ∙ ap Some (told_is old now n r table within are ended sound) in
            subst
            (λ (x : Record).
            slice_get (slice_set now n s) i
            ≡ Some (with_body x (body_upgraded old (slice_set now n s) i x.body)))
            alike
            (subst
            (λ k.
            slice_get (slice_set now n s) k
            ≡ Some (with_body r (body_upgraded old (slice_set now n s) k r.body)))
            (sym same) here)
        | inr apart ↦
            let earlier : i < n = omega (arith, below, apart) in
            get_there now n i s apart
            ∙ before.each i q earlier is
            ∙ ap
            (λ t.
            Some
            (with_body q
            (option_map_or
            (λ task.
            telling (record { prior = t; next = turn_counted old i task }) q.body)
            (started q.body) q.body)))
            (sym (same_turn now n i s earlier))
      ];
      rest =
          λ i past.
          get_there now n i s (λ same. absurd (omega (arith, past, same)))
          ∙ before.rest i (omega (arith, past));
      in_range = λ i q is. elim (cases_eq i n) [
        | inl same ↦
            let alike : s ≡ q =
            same_Some s q
            (sym (get_here now n s within) ∙ ap (slice_get (slice_set now n s)) (sym same) ∙ is) in
            subst IsInRange alike
            (told_in_range old n r table (omega (arith, there)) few are
            (before.in_range n r (before.rest n (omega arith) ∙ stands)))
        | inr apart ↦ before.in_range i q (sym (get_there now n i s apart) ∙ is)
      ];
    }

pub upgraded_all : (old now : List Record) (n : ℕ) → length now ≤ n → IsUpgradedUpTo old n now
    → IsUpgrade old now
upgraded_all old now n past up = record {
  all = up.all;
  each =
      λ i r stands.
      up.each i r
      (let within = slice_get_within old i r stands in
      let many = up.all in omega (arith, within, many, past))
      stands;
}

-- ---- the trace

-- what a body keeps that is upgraded, and that it tells turns where a task runs next
record IsKeptAs (body new : Body) : Type 0 where
  sound : IsSound new
  turns : HasItsTurns 2 new
  makes : is_some (made new) ≡ is_some (made body)

kept_as : (told : ℕ → Turns) (body : Body) → IsSound body → HasItsTurns 1 body
    → IsKeptAs body (option_map_or (λ task. telling (told task) body) (started body) body)
kept_as told (TaskSchedule status before prior (Some next) claim) sound turns = record {
  sound = record {
    named_flags = sound.named_flags;
    named_cancellation = sound.named_cancellation;
    begins_or_ends = sound.begins_or_ends;
    claimed = sound.claimed;
    short_path = sound.short_path;
    few_dependences = sound.few_dependences;
    next = sound.next;
  };
  turns = refl;
  makes = refl;
}
kept_as told (TaskSchedule status before prior None claim) sound turns = record {
  sound = sound;
  turns = turns;
  makes = refl;
}
kept_as told _ sound turns = record { sound = sound; turns = turns; makes = refl }

-- where the elements of two lists count alike, their sums are the same
same_sum : (f : Record → ℕ) (xs ys : List Record) → length ys ≡ length xs
    → ((i : ℕ) (x y : Record) → slice_get xs i ≡ Some x → slice_get ys i ≡ Some y → f y ≡ f x)
    → sum_by f ys ≡ sum_by f xs
same_sum f [] [] many alike = refl
same_sum f [] (y ∷ ys) many alike = absurd (omega (arith, many))
same_sum f (x ∷ xs) [] many alike = absurd (omega (arith, many))
same_sum f (x ∷ xs) (y ∷ ys) many alike =
    let first = alike 0 x y refl refl in
    let rest = same_sum f xs ys (omega (arith, many)) (λ i p q. alike (suc i) p q) in
    let here = sum_by-cons f y ys in
    let there = sum_by-cons f x xs in
    omega (arith, first, rest, here, there)

pub trace_of_two : (old new : List Record) (n : ℕ) → IsTraceOf 1 old → length new ≤ n
    → IsUpgradedUpTo old n new → IsTraceOf 2 new
trace_of_two old new n trace past up = record {
  known = inr (inl refl);
  is_trace = record {
    few_records = let many = up.all in let few = trace.is_trace.few_records in omega (arith, many, few);
    few_tasks = rw same_tasks trace.is_trace.few_tasks;
    sound = λ i d within. (of i d within).sound;
    in_range = λ i d within. up.in_range i (get_or new i d) (slice_get-get_or new i d within);
  };
  turns = λ i d within. (of i d within).turns;
  nesting = λ i d within.
      let many = up.all in
      let there : i < length old = omega (arith, within, many) in
      nests i (get_or old i d) (get_or new i d) (slice_get-get_or old i d there)
      (slice_get-get_or new i d within)
      ∙ trace.nesting i d there;
}
  where
    upgrade : IsUpgrade old new
    upgrade = upgraded_all old new n past up

    kept : (i : ℕ) (r s : Record) → slice_get old i ≡ Some r → slice_get new i ≡ Some s
        → IsKeptAs r.body s.body
    kept i r s stands now =
        let within = slice_get_within old i r stands in
        let here = get_or_from_slice_get old i r r stands in
        let same : body_upgraded old new i r.body ≡ s.body =
        ap (λ (q : Record). q.body)
        (same_Some (with_body r (body_upgraded old new i r.body)) s
        (sym (upgrade.each i r stands) ∙ now)) in
        subst (IsKeptAs r.body) same
        (kept_as (λ task. record { prior = turn_at new i; next = turn_counted old i task }) r.body
        (subst (λ (q : Record). IsSound q.body) here (trace.is_trace.sound i r within))
        (subst (λ (q : Record). HasItsTurns 1 q.body) here (trace.turns i r within)))

    nests : (i : ℕ) (r s : Record) → slice_get old i ≡ Some r → slice_get new i ≡ Some s → s.nests ≡ r.nests
    nests i r s stands now =
        ap (λ (q : Record). q.nests)
        (same_Some s (with_body r (body_upgraded old new i r.body)) (sym now ∙ upgrade.each i r stands))

    of : (i : ℕ) (d : Record) → (within : i < length new)
        → IsKeptAs (get_or old i d).body (get_or new i d).body
    of i d within =
        let many = up.all in
        kept i (get_or old i d) (get_or new i d) (slice_get-get_or old i d (omega (arith, within, many)))
        (slice_get-get_or new i d within)

    same_tasks : tasks_in new ≡ tasks_in old
    same_tasks =
        same_sum (λ (r : Record). cond {A = ℕ} (is_some (made r.body)) 1 0) old new up.all
        (λ i x y there now. ap (λ b. cond {A = ℕ} b 1 0) (kept i x y there now).makes)

-- ---- version 3

tasks_relabelled : (rs : List Record) → tasks_in (map nesting rs) ≡ tasks_in rs
tasks_relabelled [] = refl
tasks_relabelled (r ∷ rs) =
    let makes : Record → ℕ = λ q. cond (is_some (made q.body)) 1 0 in
    sum_by-cons makes (nesting r) (map nesting rs) ∙ ap (λ n. makes r + n) (tasks_relabelled rs)
    ∙ sym (sum_by-cons makes r rs)

-- the records of a trace of version 2 are in version 3 a trace
pub trace_of_three : (rs : List Record) → IsTraceOf 2 rs → IsTraceOf 3 (map nesting rs)
trace_of_three rs trace = record {
  known = inr (inr refl);
  is_trace = record {
    few_records = omega (arith, trace.is_trace.few_records, length-map rs nesting);
    few_tasks = omega (arith, trace.is_trace.few_tasks, tasks_relabelled rs);
    sound = All-map (λ (r : Record). IsSound r.body) nesting rs trace.is_trace.sound;
    in_range =
        All-map IsInRange nesting rs
        (λ i d within.
        let one = trace.is_trace.in_range i d within in
        record { thread = one.thread; seq = one.seq; seen = one.seen; body = one.body });
  };
  turns = All-map (λ (r : Record). HasItsTurns 3 r.body) nesting rs trace.turns;
  nesting = All-map (NestsIn 3) nesting rs (λ i d within. refl);
}
