-- The turns that records of a run give are those of their tasks.
use Rattle.std.proofs.Common.{ℕ, zero, suc, ◌≡◌, ◌∙◌, ◌+◌, ◌<◌, ◌≤◌, List, length, Option, Some, None, refl}
use Rattle.std.proofs.Common.{sym, ap, subst, arith, inl, inr, Bool, true, false, cond}
use Rattle.std.specs.Prelude.{slice_get, option_map}
use Rattle.std.specs.Option.{option_map_or}
use Rattle.std.proofs.lemmas.Bool.{cases_Bool, cases_eq, cases_order, or_cases, or_left, or_right, false≢true}
use Rattle.std.proofs.lemmas.Option.{none-some, same_Some, slice_get_within}
use Rattle.ompt_events.specs.declared.records.Record.{Record}
use Rattle.ompt_events.specs.declared.records.Body.{Body}
use Rattle.ompt_events.specs.declared.records.Body.TheVariants.{ImplicitTask, TaskSchedule, Cancel}
use Rattle.ompt_events.specs.declared.records.Turns.{Turns}
use Rattle.ompt_events.specs.declared.names.Endpoint.TheVariants.{Begin, End, BeginEnd}
use Rattle.ompt_events.specs.Flags as flag
use Rattle.ompt_events.specs.Flags.{has_flag}
use Rattle.ompt_events.specs.Names.{demands_next}
use Rattle.ompt_events.specs.declared.cause.Cause.TheVariants.{TurnGap}
use Rattle.ompt_events.specs.Causes.{IsFreeOf, HasTurnGap, BeginsTurn, other_turn, begun_again, falling}
use Rattle.ompt_events.specs.Causes.{of_root, missing, turn_gap, runs, is_root}
use Rattle.ompt_events.specs.Places.{at}
use Rattle.ompt_events.specs.Records.{running, started, stopped, begun_root, begun_turn, told_turns}
use Rattle.ompt_events.specs.Records.{next_turn}
use Rattle.ompt_events.specs.States.{is_task}
use Rattle.ompt_events.specs.Tree.{IsRoot}
use Rattle.ompt_events.specs.Turns.{turn_at}
use Rattle.ompt_events.proofs.ListLemmas.{get_within}
use Rattle.ompt_events.proofs.PlaceLemmas.{at_get, get_at, is_the_task, the_task, thread_get}
use Rattle.scripts.specs.declared.script.Step.{Step}
use Rattle.scripts.specs.Scripts.{ScriptView}
use Rattle.scripts.proofs.RuleLemmas.{step_rules}
use Rattle.callbacks.specs.Tasks.{TaskView, current_turn}
use Rattle.callbacks.specs.Schedules.{turns_of, discard_body}
use Rattle.callbacks.specs.Recorders.{RecorderView}
use Rattle.scripts.specs.RunCalls.{first_given, second_given, recorded_body, call_refusal}
use Rattle.scripts.specs.Parts.{id_of}
use Rattle.scripts.specs.Progress.{value}
use Rattle.scripts.proofs.HandOverLemmas.{AreRecords}
use Rattle.scripts.proofs.AcceptedLemmas.{scheduled_by}
use Rattle.scripts.proofs.CoverLemmas.{running_of}
use Rattle.scripts.proofs.HomeLemmas.{begun, begins, begins_none, begins_turn, begun_rises, turn_is, next_is}
use Rattle.scripts.proofs.HomeLemmas.{none_before, root_subject, turn_from}
use Rattle.scripts.proofs.PlacedLemmas.{IsPlaced, placed, recorded, says, turn_there, step_no, record_no}
use Rattle.scripts.proofs.PlacedLemmas.{thread_of, step_thread, as_many}
use Rattle.scripts.proofs.SaidLemmas.{started_called, root_called, running_called}
use Rattle.scripts.proofs.ThreadPlaces.{number_at, number_rises, place_rises, moved}
use Rattle.scripts.proofs.ValueSteps.{IsWhole, values_at, first_at, second_at, recorder_at, step_accepts}
use Rattle.scripts.proofs.ValueSteps.{first_id_is, second_id_is}

-- ---- what a record says of turns

-- the turns are those of the two values
pub record HasTold (body : Body) (first second : Option TaskView) (told : Turns) : Type 0 where
  pub prior : TaskView
  pub next : TaskView
  pub first_is : first ≡ Some prior
  pub second_is : second ≡ Some next
  pub runs : running body ≡ Some prior.id
  pub given : first_given body ≡ Some prior.id
  pub starts : started body ≡ Some next.id
  pub told_is : told ≡ turns_of prior next

told_by : (r : RecorderView) (body : Body) (first second : Option TaskView) (told : Turns)
    → call_refusal r body first second ≡ None → id_of first ≡ first_given body
    → id_of second ≡ second_given body → told_turns body ≡ None
    → told_turns (recorded_body body first second) ≡ Some told → HasTold body first second told
told_by r (TaskSchedule st turns prior next claimed) None second told accepted one two plain is =
    absurd (none-some prior one)
told_by r (TaskSchedule st turns prior next claimed) (Some t) None told accepted one two plain is =
    absurd (none-some told is)
told_by r (TaskSchedule st turns prior next claimed) (Some t) (Some u) told accepted one two plain is =
    record {
      prior = t;
      next = u;
      first_is = refl;
      second_is = refl;
      runs =
          running_of (TaskSchedule st turns prior next claimed) t.id
          (demanded (demands_next st) refl (scheduled_by r t st (Some u) accepted).has_next);
      given = sym one;
      starts = sym two;
      told_is = sym (same_Some (turns_of t u) told is);
    }
  where
    demanded : (b : Bool) → demands_next st ≡ b → cond b true false ≡ true
        → stopped (TaskSchedule st turns prior next claimed) ≡ Some t.id
    demanded true demands has = ap (λ b. cond b (Some prior) None) demands ∙ sym one
    demanded false demands has = absurd (false≢true has)
told_by r (ImplicitTask Begin actual index given parallel own) first second told accepted one two plain is =
    absurd (none-some told is)
told_by r (ImplicitTask End actual index given parallel own) (Some t) second told accepted one two plain is =
    absurd (none-some told is)
told_by r (ImplicitTask End actual index given parallel own) None second told accepted one two plain is =
    absurd (none-some told is)
told_by r (ImplicitTask BeginEnd actual index given parallel own) first second told accepted one two plain
    is =
    absurd (none-some told is)
told_by r (Cancel given own claimed) (Some t) second told accepted one two plain is =
    fails (has_flag given.0 flag.discarded_task) is
  where
    fails : (b : Bool)
        → told_turns (cond b (discard_body t given (Some t.claim)) (Cancel given own None)) ≡ Some told
        → HasTold (Cancel given own claimed) (Some t) second told
    fails true tells = absurd (none-some told tells)
    fails false tells = absurd (none-some told tells)
told_by r (Cancel given own claimed) None second told accepted one two plain is = absurd (none-some told is)
told_by r _ first second told accepted one two plain is = absurd (none-some told (sym plain ∙ is))

-- ---- the records of a run

-- the record begins this turn of the task, by its step
pub record IsStart (script : ScriptView) (rs : List Record) (i task turn : ℕ) : Type 0 where
  pub made : Record
  pub stands : slice_get rs i ≡ Some made
  pub placed_is : IsPlaced script rs i made
  pub starts : started placed_is.step.body ≡ Some task
  pub turn_is_count : turn ≡ begun script.steps task (step_no script rs i)
  pub more : begun script.steps task (suc (step_no script rs i)) ≡ suc turn

with_turn : (o : Option ℕ) (n task turn : ℕ) → option_map {U = ℕ × ℕ} (λ t. (t, n)) o ≡ Some (task, turn)
    → (o ≡ Some task) × (n ≡ turn)
with_turn None n task turn is = absurd (none-some (task, turn) is)
with_turn (Some t) n task turn is =
    let same : (t, n) ≡ (task, turn) = same_Some (t, n) (task, turn) is in
    (ap (λ (p : ℕ × ℕ). Some p.0) same, ap (λ (p : ℕ × ℕ). p.1) same)

pub start_at : (script : ScriptView) (rs : List Record) (i task turn : ℕ) → IsWhole script
    → AreRecords script rs → at begun_turn rs i ≡ Some (task, turn) → IsStart script rs i task turn
start_at script rs i task turn whole records begins_it =
    let (x, is, tells) = get_at begun_turn rs i (task, turn) begins_it in
    let p = placed script rs i x whole records is in
    let (starts_x, turn_x) = with_turn (started x.body) (next_turn x.body) task turn tells in
    let starts_step = sym (says started script rs i x whole started_called p) ∙ starts_x in
    let n = step_no script rs i in
    let count : turn ≡ begun script.steps task n =
    sym turn_x ∙ ap next_turn p.body_is ∙ next_is script n p.step task whole p.stands starts_step in
    let holds =
    or_left (is_task task (started p.step.body)) (is_task task (begun_root p.step.body))
    (the_task task (started p.step.body) starts_step) in
    record {
      made = x;
      stands = is;
      placed_is = p;
      starts = starts_step;
      turn_is_count = count;
      more = (begins script.steps task n p.step p.stands holds).1 ∙ ap suc (sym count);
    }

-- of two records of a thread the later one is that of the later step
pub steps_rise : (script : ScriptView) (rs : List Record) (k i : ℕ) (q x : Record) → IsWhole script
    → AreRecords script rs → slice_get rs k ≡ Some q → slice_get rs i ≡ Some x → q.thread ≡ x.thread → k < i
    → step_no script rs k < step_no script rs i
steps_rise script rs k i q x whole records at_k at_i same less =
    let many = as_many script rs whole records in
    let one = moved thread_of rs step_thread script.steps k q many at_k in
    let two = moved thread_of rs step_thread script.steps i x many at_i in
    let rises = number_rises thread_of rs x.thread k i q at_k same less in
    place_rises step_thread script.steps x.thread (step_no script rs k) (step_no script rs i) one.there
    two.there one.stands (one.of_thread ∙ same) two.stands two.of_thread
    (omega (
      arith,
      rises,
      two.number,
      ap (λ t. number_at step_thread script.steps t (step_no script rs k)) (sym same) ∙ one.number
          ∙ ap (λ t. number_at thread_of rs t k) same,
    ))

-- two places whose step is one are one
pub one_place : (script : ScriptView) (rs : List Record) (k i : ℕ) (q x : Record) → IsWhole script
    → AreRecords script rs → slice_get rs k ≡ Some q → slice_get rs i ≡ Some x
    → step_no script rs k ≡ step_no script rs i → k ≡ i
one_place script rs k i q x whole records at_k at_i same =
    sym (placed script rs k q whole records at_k).back ∙ ap (record_no script rs) same
    ∙ (placed script rs i x whole records at_i).back

-- two records that begin one turn are one
same_turn : (script : ScriptView) (rs : List Record) (k i task turn : ℕ) → IsWhole script
    → AreRecords script rs → IsStart script rs k task turn → IsStart script rs i task turn → k ≡ i
same_turn script rs k i task turn whole records one two = elim
    (cases_order (step_no script rs k) (step_no script rs i)) [
      | inl same ↦ one_place script rs k i one.made two.made whole records one.stands two.stands same
      | inr (inl less) ↦
          let within = slice_get_within script.steps (step_no script rs i) two.placed_is.step
          two.placed_is.stands in
          let rise =
          begun_rises script.steps task (suc (step_no script rs k)) (step_no script rs i)
          (omega (arith, less))
          (omega (arith, within)) in
          absurd (omega (arith, rise, one.more, two.turn_is_count))
      | inr (inr more) ↦
          let within = slice_get_within script.steps (step_no script rs k) one.placed_is.step
          one.placed_is.stands in
          let rise =
          begun_rises script.steps task (suc (step_no script rs i)) (step_no script rs k)
          (omega (arith, more))
          (omega (arith, within)) in
          absurd (omega (arith, rise, two.more, one.turn_is_count))
    ]

-- some step begins each turn below the number of those begun
pub begun_by : (script : ScriptView) (n task turn : ℕ) → IsWhole script → n ≤ length script.steps
    → turn < begun script.steps task n
    → (k : ℕ) × (s : Step) × (k < n) × (slice_get script.steps k ≡ Some s)
    × (begins_turn task s.body ≡ true) × (begun script.steps task k ≡ turn)
begun_by script zero task turn whole within less = absurd (omega (arith, less))
begun_by script (suc n) task turn whole within less =
    let (s, is) = get_within script.steps n (omega (arith, within)) in
    elim (cases_Bool (begins_turn task s.body)) [
      | inl holds ↦ elim (cases_eq (begun script.steps task n) turn) [
        | inl same ↦ (n, s, omega arith, is, holds, same)
        | inr apart ↦
            let (k, t, below, there, yes_too, count) =
            begun_by script n task turn whole (omega (arith, within))
            (omega (arith, less, apart, (begins script.steps task n s is holds).1)) in
            (k, t, omega (arith, below), there, yes_too, count)
      ]
      | inr fails ↦
          let (k, t, below, there, yes_too, count) =
          begun_by script n task turn whole (omega (arith, within))
          (omega (arith, less, (begins_none script.steps task n s is fails).1)) in
          (k, t, omega (arith, below), there, yes_too, count)
    ]

-- so a record begins it
turn_begins : (script : ScriptView) (rs : List Record) (n task turn : ℕ) → IsWhole script
    → AreRecords script rs → n ≤ length script.steps → turn < begun script.steps task n
    → (k : ℕ) × BeginsTurn rs k task turn
turn_begins script rs n task turn whole records within less =
    let (k, s, below, is, holds, count) = begun_by script n task turn whole within less in
    let at_k = recorded script rs k s whole records is in
    let p = placed script rs (record_no script rs k) at_k.made whole records at_k.stands in
    let step : p.step ≡ s = same_Some p.step s (sym p.stands ∙ ap (slice_get script.steps) at_k.there ∙ is) in
    elim (or_cases (is_task task (started s.body)) (is_task task (begun_root s.body)) holds) [
      | inl here ↦
          let starts = is_the_task task (started s.body) here in
          let says_it : started at_k.made.body ≡ Some task =
          says started script rs (record_no script rs k) at_k.made whole started_called p
          ∙ ap (λ (x : Step). started x.body) step ∙ starts in
          let turn_is_it : next_turn at_k.made.body ≡ turn =
          ap next_turn p.body_is
          ∙ next_is script (step_no script rs (record_no script rs k)) p.step task whole p.stands
          (ap (λ (x : Step). started x.body) step ∙ starts)
          ∙ ap (begun script.steps task) at_k.there ∙ count in (
            record_no script rs k,
            runs
                (at_get begun_turn rs (record_no script rs k) at_k.made at_k.stands
                ∙ ap (option_map {U = ℕ × ℕ} (λ t. (t, next_turn at_k.made.body))) says_it
                ∙ ap (λ (u : ℕ). Some (task, u)) turn_is_it),
          )
      | inr here ↦
          let root = is_the_task task (begun_root s.body) here in
          let none = (none_before script k s task whole is (root_subject s.body task root).1).0 in (
            record_no script rs k,
            subst (BeginsTurn rs (record_no script rs k) task) (sym none ∙ count)
                (is_root
                (at_get begun_root rs (record_no script rs k) at_k.made at_k.stands
                ∙ says begun_root script rs (record_no script rs k) at_k.made whole root_called p
                ∙ ap (λ (x : Step). begun_root x.body) step ∙ root)),
          )
    ]

-- a root begins its turn 0
root_begun : (script : ScriptView) (rs : List Record) (i task turn : ℕ) → IsWhole script
    → AreRecords script rs → IsStart script rs i task turn → IsRoot rs task → 0 < turn
root_begun script rs i task turn whole records start (k, root) =
    let (x, is, tells) = get_at begun_root rs k task root in
    let p = placed script rs k x whole records is in
    let root_step = sym (says begun_root script rs k x whole root_called p) ∙ tells in
    let n = step_no script rs k in
    let m = step_no script rs i in
    let none =
    (none_before script n p.step task whole p.stands (root_subject p.step.body task root_step).1).0 in
    let holds =
    or_right (is_task task (started p.step.body)) (is_task task (begun_root p.step.body))
    (the_task task (begun_root p.step.body) root_step) in
    let within = slice_get_within script.steps m start.placed_is.step start.placed_is.stands in
    elim (cases_order n m) [
      | inl same ↦
          let step : p.step ≡ start.placed_is.step =
          same_Some p.step start.placed_is.step
          (sym p.stands ∙ ap (slice_get script.steps) same ∙ start.placed_is.stands) in
          absurd
          (started_no_root start.placed_is.step.body task start.starts
          (ap (λ (y : Step). begun_root y.body) (sym step) ∙ root_step))
      | inr (inl less) ↦
          let rise =
          begun_rises script.steps task (suc n) m (omega (arith, less)) (omega (arith, within)) in
          omega (arith, rise, (begins script.steps task n p.step p.stands holds).1, start.turn_is_count)
      | inr (inr more) ↦
          let within_n = slice_get_within script.steps n p.step p.stands in
          let rise =
          begun_rises script.steps task (suc m) n (omega (arith, more)) (omega (arith, within_n)) in
          absurd (omega (arith, rise, none, start.more))
    ]
  where
    started_no_root : (body : Body) (t : ℕ) → started body ≡ Some t → begun_root body ≡ Some t → ⊥
    started_no_root (TaskSchedule st turns prior next claimed) t one two = none-some t two
    started_no_root _ t one two = none-some t one

none_gap : (script : ScriptView) (rs : List Record) (i : ℕ) → IsWhole script → AreRecords script rs
    → HasTurnGap rs i → ⊥
none_gap script rs i whole records (other_turn told is apart) =
    let (x, stands, tells) = get_at told_turns rs i told is in
    let p = placed script rs i x whole records stands in
    let n = step_no script rs i in
    let within = slice_get_within script.steps n p.step p.stands in
    let its =
    told_by (recorder_at script n p.step.thread) p.step.body (first_at script n p.step)
    (second_at script n p.step) told (step_accepts script n p.step whole p.stands)
    (first_id_is script n p.step whole p.stands) (second_id_is script n p.step whole p.stands)
    (step_rules script.steps n p.step whole.rules p.stands).no_turns
    (ap told_turns (sym p.body_is) ∙ tells) in
    let was : values_at script n its.prior.id ≡ Some its.prior =
    ap (value (values_at script n)) (sym its.given) ∙ its.first_is in
    let begun_is =
    turn_there script rs i its.prior.id x whole records stands
    (says running script rs i x whole running_called p ∙ its.runs) in
    let turn = turn_is script n its.prior.id its.prior whole (omega (arith, within)) was in
    let its_turn : current_turn its.prior ≡ turn_at rs i =
    ap (λ o. option_map_or (λ (t : ℕ). t) o 0) (turn ∙ ap turn_from begun_is) in
    apart (ap (λ (t : Turns). t.prior) its.told_is ∙ its_turn)
none_gap script rs i whole records (begun_again task turn k (told, starts) less also) =
    let same =
    same_turn script rs k i task turn whole records (start_at script rs k task turn whole records also)
    (start_at script rs i task turn whole records starts) in
    omega (arith, same, less)
none_gap script rs i whole records (falling task turn k later (told, starts) less threads also below) =
    let one = start_at script rs k task later whole records also in
    let two = start_at script rs i task turn whole records starts in
    let same_thread : one.made.thread ≡ two.made.thread =
    same_Some one.made.thread two.made.thread
    (sym (thread_get rs k one.made one.stands) ∙ threads ∙ thread_get rs i two.made two.stands) in
    let rises =
    steps_rise script rs k i one.made two.made whole records one.stands two.stands same_thread less in
    let within =
    slice_get_within script.steps (step_no script rs i) two.placed_is.step two.placed_is.stands in
    let rise =
    begun_rises script.steps task (suc (step_no script rs k)) (step_no script rs i) (omega (arith, rises))
    (omega (arith, within)) in
    omega (arith, rise, one.more, two.turn_is_count, below)
none_gap script rs i whole records (of_root task (told, starts) root) =
    let start = start_at script rs i task 0 whole records starts in
    let some = root_begun script rs i task 0 whole records start root in omega (arith, some)
none_gap script rs i whole records (missing task turn (told, starts) never) =
    let start = start_at script rs i task (turn + 1) whole records starts in
    let within = slice_get_within script.steps (step_no script rs i) start.placed_is.step
    start.placed_is.stands in
    let (k, there) =
    turn_begins script rs (step_no script rs i) task turn whole records (omega (arith, within))
    (omega (arith, start.turn_is_count)) in
    never k there

pub none_with_gap : (script : ScriptView) (rs : List Record) → IsWhole script → AreRecords script rs
    → IsFreeOf rs TurnGap
none_with_gap script rs whole records i (turn_gap gap) = none_gap script rs i whole records gap
