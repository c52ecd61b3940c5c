-- What a record tells that recorders would make: the step that makes it, and what it has of this.
use Rattle.std.proofs.Common.{ℕ, zero, suc, ◌≡◌, ◌∙◌, ◌<◌, ◌≤◌, List, [], ◌∷◌, length, take, map}
use Rattle.std.proofs.Common.{Bool, Some, refl, sym, ap, arith, inl, inr}
use Rattle.std.specs.Prelude.{slice_get, option_map, ◌==◌}
use Rattle.std.proofs.lemmas.Bool.{cases_lt}
use Rattle.std.proofs.lemmas.List.{take_all, take-map, take-append-le, length-map}
use Rattle.std.proofs.lemmas.List.Sums.{length-filter}
use Rattle.std.proofs.lemmas.Option.{same_Some, slice_get_within, slice_get-map}
use Rattle.ompt_events.specs.declared.records.Record.{Record}
use Rattle.ompt_events.specs.declared.records.Body.{Body}
use Rattle.ompt_events.specs.declared.records.Body.TheVariants.{ImplicitTask, TaskSchedule, Cancel}
use Rattle.ompt_events.specs.declared.names.Endpoint.TheVariants.{End}
use Rattle.ompt_events.specs.declared.cause.Cause.TheVariants.{SeqGap}
use Rattle.ompt_events.specs.Causes.{IsFreeOf, seq_gap}
use Rattle.ompt_events.specs.Records.{made}
use Rattle.ompt_events.proofs.ListLemmas.{get_within}
use Rattle.ompt_events.proofs.PlaceLemmas.{get_at}
use Rattle.callbacks.proofs.NestedLaw.{AreMadeOnce}
use Rattle.scripts.specs.declared.script.Step.{Step}
use Rattle.scripts.specs.Scripts.{ScriptView}
use Rattle.scripts.specs.Progress.{Values, progress, own_records, thread_records, without_seen}
use Rattle.scripts.specs.RunCalls.{recorded_body}
use Rattle.scripts.proofs.CoverLemmas.{made_one}
use Rattle.scripts.proofs.OrderedLemmas.{scripted, scripted_next, scripted_length, scripted_get, record_at}
use Rattle.scripts.proofs.OrderedLemmas.{whole_script}
use Rattle.scripts.proofs.SaidLemmas.{IsOfCall, said_by_call}
use Rattle.scripts.proofs.ValueSteps.{IsWhole, first_at, second_at, first_id_is, second_id_is}
use Rattle.online.specs.Replays.{calls_of, script_of, max_replayed, IsReplayed}
use Rattle.online.proofs.ReplayLaw.{replayed_whole, without_first}

-- ---- the step of a record

-- the records are those of the script, but for their ledger lengths
pub replayed_script : (nests : Bool) (rs : List Record) (values : Values) → IsReplayed nests rs values
    → whole_script (script_of nests rs) ≡ map without_seen rs
replayed_script nests rs values replayed =
    ap (λ steps. (progress max_replayed nests steps).records)
    (take_all (length (calls_of rs)) (calls_of rs) (omega arith))
    ∙ replayed.records

-- the first steps make the first records
first_scripted : (script : ScriptView) (i n : ℕ) → IsWhole script → i ≤ n → n ≤ length script.steps
    → scripted script i ≡ take i (scripted script n)
first_scripted script i zero whole low within =
    let first : i ≡ zero = omega (arith, low) in
    ap (scripted script) first ∙ sym (ap (λ k. take k (scripted script zero)) first)
first_scripted script i (suc n) whole low within = elim (cases_lt i (suc n)) [
  | inl less ↦
      let (s, is) = get_within script.steps n (omega (arith, within)) in
      let long = scripted_length script n whole (omega (arith, within)) in
      first_scripted script i n whole (omega (arith, less)) (omega (arith, within))
      ∙ sym (take-append-le i (scripted script n) (record_at script n s ∷ []) (omega (arith, less, long)))
      ∙ sym (ap (take i) (scripted_next script n s whole is))
  | inr past ↦
      let last : i ≡ suc n = omega (arith, low, past) in
      let long = scripted_length script (suc n) whole within in
      ap (scripted script) last ∙ sym (take_all i (scripted script (suc n)) (omega (arith, last, long)))
]

-- the step at the record's place makes it by its thread's records before it
pub record IsOfStep (script : ScriptView) (rs : List Record) (i : ℕ) (r : Record) : Type 0 where
  pub step : Step
  pub stands : slice_get script.steps i ≡ Some step
  pub of_thread : step.thread ≡ r.thread
  pub kind : r.nests ≡ script.nests
  pub own : own_records script i step.thread ≡ thread_records (map without_seen (take i rs)) r.thread
  pub number : r.seq ≡ length (thread_records (map without_seen (take i rs)) r.thread)
  pub body_is : r.body ≡ recorded_body step.body (first_at script i step) (second_at script i step)

pub of_step : (nests : Bool) (rs : List Record) (values : Values) (i : ℕ) (r : Record)
    → IsReplayed nests rs values → slice_get rs i ≡ Some r → IsOfStep (script_of nests rs) rs i r
of_step nests rs values i r replayed is = record {
  step = found.0;
  stands = found.1;
  of_thread = thread;
  kind = sym (ap (λ (q : Record). q.nests) same);
  own = own_is;
  number = sym (ap (λ (q : Record). q.seq) same) ∙ ap length own_is;
  body_is = sym (ap (λ (q : Record). q.body) same);
}
  where
    script : ScriptView
    script = script_of nests rs

    whole : IsWhole script
    whole = replayed_whole nests rs values replayed

    all : whole_script script ≡ map without_seen rs
    all = replayed_script nests rs values replayed

    long : length script.steps ≡ length rs
    long =
        sym (scripted_length script (length script.steps) whole (omega arith)) ∙ ap length all
        ∙ length-map rs without_seen

    within : i < length script.steps
    within = let below = slice_get_within rs i r is in omega (arith, below, long)

    found : (s : Step) × (slice_get script.steps i ≡ Some s)
    found = get_within script.steps i within

    same : record_at script i found.0 ≡ without_seen r
    same =
        same_Some (record_at script i found.0) (without_seen r)
        (sym (scripted_get script (length script.steps) i found.0 whole found.1 within (omega arith))
        ∙ ap (λ l. slice_get l i) all ∙ slice_get-map without_seen rs i ∙ ap (option_map without_seen) is)

    thread : found.0.thread ≡ r.thread
    thread = ap (λ (q : Record). q.thread) same

    own_is : own_records script i found.0.thread ≡ thread_records (map without_seen (take i rs)) r.thread
    own_is =
        ap (λ l. thread_records l found.0.thread)
        (first_scripted script i (length script.steps) whole (omega (arith, within)) (omega arith)
        ∙ ap (take i) all ∙ take-map without_seen i rs)
        ∙ ap (thread_records (map without_seen (take i rs))) thread

-- what it says that its call says too
pub says_call : {X : Type 0} (f : Body → X) (nests : Bool) (rs : List Record) (values : Values) (i : ℕ)
    (r : Record) → IsReplayed nests rs values → IsOfCall f → (o : IsOfStep (script_of nests rs) rs i r)
    → f r.body ≡ f o.step.body
says_call f nests rs values i r replayed of o =
    let script = script_of nests rs in
    let whole = replayed_whole nests rs values replayed in
    ap f o.body_is
    ∙ said_by_call f o.step.body (first_at script i o.step) (second_at script i o.step) of
    (first_id_is script i o.step whole o.stands) (second_id_is script i o.step whole o.stands)

-- ---- numbers and creations

pub replayed_numbered : (nests : Bool) (rs : List Record) (values : Values) → IsReplayed nests rs values
    → IsFreeOf rs SeqGap
replayed_numbered nests rs values replayed i (seq_gap (r, is, differs)) =
    let o = of_step nests rs values i r replayed is in
    differs
    (o.number ∙ ap length (sym (without_first r.thread (take i rs)))
    ∙ length-map (thread_records (take i rs) r.thread) without_seen
    ∙ length-filter (λ (q : Record). q.thread == r.thread) (take i rs))

pub made_called : IsOfCall made
made_called (ImplicitTask End actual index given parallel task) = refl
made_called (TaskSchedule status turns prior next claimed) = refl
made_called (Cancel given task claimed) = refl
made_called _ = refl

pub replayed_once : (nests : Bool) (rs : List Record) (values : Values) → IsReplayed nests rs values
    → AreMadeOnce rs
replayed_once nests rs values replayed i (task, k, low, earlier, there) =
    let (q, q_is, q_makes) = get_at made rs k task earlier in
    let (r, r_is, r_makes) = get_at made rs i task there in
    let p = of_step nests rs values k q replayed q_is in
    let o = of_step nests rs values i r replayed r_is in
    let same = made_one (script_of nests rs) task k i p.step o.step (replayed_whole nests rs values replayed)
    p.stands (sym (says_call made nests rs values k q replayed made_called p) ∙ q_makes)
    o.stands (sym (says_call made nests rs values i r replayed made_called o) ∙ r_makes) in
    absurd (omega (arith, same, low))
