-- One record more, as the call of one more step.
use Rattle.std.proofs.Common.{◌≡◌, ◌∙◌, ℕ, ◌+◌, Bool, true, cond, List, [], ◌∷◌, ◌++◌}
use Rattle.std.proofs.Common.{length}
use Rattle.std.proofs.Common.{take, Option, Some, None, refl, sym, ap, subst, arith, inl, inr}
use Rattle.std.specs.Prelude.{slice_get, is_some, option_and_then, map}
use Rattle.std.proofs.lemmas.Option.{slice_get_within}
use Rattle.std.proofs.lemmas.List.{take-append-le, take_at, map-append}
use Rattle.std.proofs.lemmas.List.Sums.{fold_push}
use Rattle.ompt_events.specs.declared.records.Record.{Record}
use Rattle.ompt_events.specs.declared.records.Body.{Body}
use Rattle.ompt_events.proofs.ListLemmas.{pushed_cases}
use Rattle.callbacks.specs.declared.fault.CallFault.{CallFault}
use Rattle.scripts.specs.declared.script.Step.{Step}
use Rattle.scripts.specs.Scripts.{IsScript, step_of, may_follow}
use Rattle.scripts.specs.Progress.{Progress, Values, value, values_after, progress}
use Rattle.scripts.specs.Progress.{progress_after}
use Rattle.scripts.specs.Progress.{progress_with, no_progress, step_refusal, refused_at, thread_records}
use Rattle.scripts.specs.Progress.{without_seen, recorder_with}
use Rattle.scripts.specs.RunCalls.{first_given, second_given, recorded_body, first_left, second_left}
use Rattle.scripts.specs.RunCalls.{call_refusal}
use Rattle.packed_trace.specs.Named.{subject, object}
use Rattle.ompt_events.specs.States.{is_task}
use Rattle.online.specs.Replays.{call_of, calls_of, and_call, IsReplayed, Makes, own_of, call_on}
use Rattle.online.specs.Replays.{max_replayed}

-- ---- one call more

pub calls_more : (rs : List Record) (r : Record) → calls_of (rs ++ r ∷ []) ≡ and_call (calls_of rs) r
calls_more rs r = fold_push and_call [] rs r

-- the call of the record, as the step that follows
abbrev pub next_step : List Record → Record → Step
next_step rs r = step_of (calls_of rs) r.thread None (call_of r.body)

progress_more : (nests : Bool) (steps : List Step) (s : Step)
    → progress max_replayed nests (steps ++ s ∷ [])
    ≡ progress_after max_replayed nests (progress max_replayed nests steps) s
progress_more nests steps s = fold_push (progress_after max_replayed nests) no_progress steps s

-- a step that its recorder accepts
progress_accepted : (nests : Bool) (steps : List Step) (s : Step)
    → step_refusal max_replayed nests (progress max_replayed nests steps) s ≡ None
    → progress max_replayed nests (steps ++ s ∷ [])
    ≡ progress_with nests (progress max_replayed nests steps) s
progress_accepted nests steps s accepts =
    let p = progress max_replayed nests steps in
    progress_more nests steps s
    ∙ ap (λ (o : Option CallFault). cond (is_some o) p (progress_with nests p s)) accepts

-- ---- a script with one step more

rules_more : (steps : List Step) (s : Step) → IsScript steps → s.line ≡ length steps + 2
    → may_follow steps s.after s.body ≡ true → IsScript (steps ++ s ∷ [])
rules_more steps s script line follows = record {
  lines = λ i x is. elim (pushed_cases steps s x i is) [
    | inl old ↦ script.lines i x old
    | inr (last, same) ↦ subst (λ (y : Step). y.line ≡ i + 2) same (line ∙ ap (λ n. n + 2) (sym last))
  ];
  follows = λ i x is. elim (pushed_cases steps s x i is) [
    | inl old ↦
        ap (λ (before : List Step). may_follow before x.after x.body)
        (take-append-le i steps (s ∷ []) (let w = slice_get_within steps i x old in omega (arith, w)))
        ∙ script.follows i x old
    | inr (last, same) ↦
        let before : take i (steps ++ s ∷ []) ≡ steps = take_at steps (s ∷ []) i (sym last) in
        subst (λ (y : Step). may_follow (take i (steps ++ s ∷ [])) y.after y.body ≡ true) same
        (ap (λ (b : List Step). may_follow b s.after s.body) before ∙ follows)
  ];
}

-- no step is refused
accepted_more : (nests : Bool) (steps : List Step) (s : Step)
    → ((at : ℕ) → refused_at (record { nests = nests; capacity = max_replayed; steps = steps }) at ≡ None)
    → step_refusal max_replayed nests (progress max_replayed nests steps) s ≡ None
    → (at : ℕ)
    → refused_at (record { nests = nests; capacity = max_replayed; steps = steps ++ s ∷ [] }) at ≡ None
accepted_more nests steps s accepted accepts at = of (slice_get (steps ++ s ∷ []) at) refl
  where
    after : List Step
    after = steps ++ s ∷ []

    of : (o : Option Step) → slice_get after at ≡ o
        → option_and_then
        (λ (x : Step). step_refusal max_replayed nests (progress max_replayed nests (take at after)) x)
        o
        ≡ None
    of None is = refl
    of (Some x) is = elim (pushed_cases steps s x at is) [
      | inl old ↦
          ap (λ (before : List Step). step_refusal max_replayed nests (progress max_replayed nests before) x)
          (take-append-le at steps (s ∷ []) (let w = slice_get_within steps at x old in omega (arith, w)))
          ∙ sym (ap (option_and_then
          (λ (y : Step). step_refusal max_replayed nests (progress max_replayed nests (take at steps)) y))
          old)
          ∙ accepted at
      | inr (last, same) ↦
          ap (λ (before : List Step). step_refusal max_replayed nests (progress max_replayed nests before) x)
          (take_at steps (s ∷ []) at (sym last))
          ∙ ap (step_refusal max_replayed nests (progress max_replayed nests steps)) (sym same) ∙ accepts
    ]

-- ---- a record more

value_same : (f g : Values) → ((task : ℕ) → f task ≡ g task) → (o : Option ℕ) → value f o ≡ value g o
value_same f g same None = refl
value_same f g same (Some task) = same task

-- the same values before give the same values after
after_same : (f g : Values) (s : Step) → ((task : ℕ) → f task ≡ g task) → (task : ℕ)
    → values_after f s task ≡ values_after g s task
after_same f g s same task =
    let first = value_same f g same (first_given s.body) in
    let second = value_same f g same (second_given s.body) in
    let own = first_left s.thread s.body (value f (first_given s.body)) in
    let is_own = is_task task (subject s.body) in
    let is_other = is_task task (object s.body) in
    ap (λ v. cond is_own (first_left s.thread s.body v)
    (cond is_other (second_left s.body (value f (first_given s.body)) (value f (second_given s.body)))
    (f task)))
    first
    ∙ ap (λ v. cond is_own (first_left s.thread s.body (value g (first_given s.body)))
    (cond is_other (second_left s.body v (value f (second_given s.body))) (f task))) first
    ∙ ap (λ v. cond is_own (first_left s.thread s.body (value g (first_given s.body)))
    (cond is_other (second_left s.body (value g (first_given s.body)) v) (f task))) second
    ∙ ap (λ v. cond is_own (first_left s.thread s.body (value g (first_given s.body)))
    (cond is_other (second_left s.body (value g (first_given s.body)) (value g (second_given s.body))) v))
    (same task)

-- the record of a thread at this place, without its ledger length
abbrev row : ℕ → Bool → ℕ → Body → Record
row thread nests seq body = record { thread = thread; nests = nests; seq = seq; seen = 0; body = body }

pub replayed_more : (nests : Bool) (rs : List Record) (values later : Values) (r : Record)
    → IsReplayed nests rs values → r.nests ≡ nests → r.seq ≡ length (own_of rs r.thread)
    → may_follow (calls_of rs) None (call_of r.body) ≡ true
    → Makes nests r.thread (own_of rs r.thread) values r.body
    → ((task : ℕ) → later task ≡ values_after values (call_on r.thread r.body) task)
    → IsReplayed nests (rs ++ r ∷ []) later
replayed_more nests rs values later r before kind seq follows makes left = record {
  rules = subst IsScript (sym more) (rules_more steps s before.rules refl follows);
  accepted =
      subst
      (λ (l : List Step). (at : ℕ)
      → refused_at (record { nests = nests; capacity = max_replayed; steps = l }) at ≡ None)
      (sym more)
      (accepted_more nests steps s before.accepted accepts);
  records =
      ap (λ (q : Progress). q.records) grown
      ∙ ap (λ l. l ++ made_row ∷ []) before.records
      ∙ ap (λ q. map without_seen rs ++ q ∷ []) made_same
      ∙ sym (map-append without_seen rs (r ∷ []));
  values_are = λ task.
      left task ∙ after_same values p.values s before.values_are task
      ∙ sym (ap (λ (q : Progress). q.values task) grown);
}
  where
    steps : List Step
    steps = calls_of rs

    s : Step
    s = next_step rs r

    p : Progress
    p = progress max_replayed nests steps

    more : calls_of (rs ++ r ∷ []) ≡ steps ++ s ∷ []
    more = calls_more rs r

    first_same : value values (first_given s.body) ≡ value p.values (first_given s.body)
    first_same = value_same values p.values before.values_are (first_given s.body)

    second_same : value values (second_given s.body) ≡ value p.values (second_given s.body)
    second_same = value_same values p.values before.values_are (second_given s.body)

    accepts : step_refusal max_replayed nests p s ≡ None
    accepts =
        ap (λ (l : List Record).
        call_refusal (recorder_with max_replayed nests s.thread (thread_records l s.thread)) s.body
        (value p.values (first_given s.body)) (value p.values (second_given s.body))) before.records
        ∙ ap (λ v. call_refusal (recorder_with max_replayed nests s.thread (own_of rs s.thread)) s.body v
        (value p.values (second_given s.body))) (sym first_same)
        ∙ ap (λ v. call_refusal (recorder_with max_replayed nests s.thread (own_of rs s.thread)) s.body
        (value values (first_given s.body)) v) (sym second_same)
        ∙ makes.accepts

    grown : progress max_replayed nests (calls_of (rs ++ r ∷ [])) ≡ progress_with nests p s
    grown = ap (progress max_replayed nests) more ∙ progress_accepted nests steps s accepts

    made_row : Record
    made_row = row r.thread nests (length (thread_records p.records r.thread))
        (recorded_body s.body (value p.values (first_given s.body)) (value p.values (second_given s.body)))

    made_same : made_row ≡ without_seen r
    made_same =
        ap (λ (l : List Record). row r.thread nests (length (thread_records l r.thread))
        (recorded_body s.body (value p.values (first_given s.body)) (value p.values (second_given s.body))))
        before.records
        ∙ ap (λ n. row r.thread nests n
        (recorded_body s.body (value p.values (first_given s.body)) (value p.values (second_given s.body))))
        (sym seq)
        ∙ ap (λ b. row r.thread b r.seq
        (recorded_body s.body (value p.values (first_given s.body)) (value p.values (second_given s.body))))
        (sym kind)
        ∙ ap (λ v. row r.thread r.nests r.seq (recorded_body s.body v (value p.values (second_given s.body))))
        (sym first_same)
        ∙ ap (λ v. row r.thread r.nests r.seq (recorded_body s.body (value values (first_given s.body)) v))
        (sym second_same)
        ∙ ap (row r.thread r.nests r.seq) makes.makes
