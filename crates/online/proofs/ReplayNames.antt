-- The tasks that a record names which recorders would make: each is made before or there, and is live before.
use Rattle.std.proofs.Common.{ℕ, zero, suc, ◌≡◌, ◌≢◌, ◌∙◌, ◌<◌, ◌≤◌, List, [], ◌∷◌, length, take, Option}
use Rattle.std.proofs.Common.{Some}
use Rattle.std.proofs.Common.{None, Bool, true, false, refl, sym, ap, subst, arith, inl, inr, cond}
use Rattle.std.specs.Prelude.{◌⊎◌, Contains, slice_get, option_map}
use Rattle.std.specs.Option.{option_to_list}
use Rattle.std.proofs.lemmas.Bool.{cases_eq}
use Rattle.std.proofs.lemmas.List.Elements.{Contains-append_left, Contains-append_cases}
use Rattle.std.proofs.lemmas.Option.{none-some, same_Some, slice_get_within}
use Rattle.ompt_events.specs.declared.records.Record.{Record}
use Rattle.ompt_events.specs.declared.records.Body.{Body}
use Rattle.ompt_events.specs.declared.records.Body.TheVariants.{ImplicitTask, TaskSchedule, Cancel}
use Rattle.ompt_events.specs.declared.records.Claim.{Claim}
use Rattle.ompt_events.specs.declared.records.Part.{Part}
use Rattle.ompt_events.specs.declared.records.Part.TheVariants as part
use Rattle.ompt_events.specs.declared.names.Endpoint.TheVariants.{End}
use Rattle.ompt_events.specs.declared.names.Status.TheVariants as status
use Rattle.ompt_events.specs.Causes.{IsNamedAt}
use Rattle.ompt_events.specs.Flags as flag
use Rattle.ompt_events.specs.Flags.{has_flag}
use Rattle.ompt_events.specs.Names.{status_part}
use Rattle.ompt_events.specs.Places.{at}
use Rattle.ompt_events.specs.Records.{made, named, claim, finish, ended_root}
use Rattle.ompt_events.proofs.ListLemmas.{get_contains, contains_get, get_within}
use Rattle.ompt_events.proofs.PlaceLemmas.{at_get, get_at}
use Rattle.credit_ledger.proofs.EntryLemmas.{get_take, take_get}
use Rattle.callbacks.specs.Tasks.{TaskView}
use Rattle.callbacks.specs.Schedules.{discard_body}
use Rattle.scripts.specs.declared.script.Step.{Step}
use Rattle.scripts.specs.Called.{called}
use Rattle.scripts.specs.Progress.{Values, value}
use Rattle.scripts.specs.Rules.{IsMadeByStep, IsEnded}
use Rattle.scripts.specs.RunCalls.{first_given, recorded_body}
use Rattle.scripts.specs.Scripts.{ScriptView, ended}
use Rattle.scripts.proofs.CalledLemmas.{recorded_called}
use Rattle.scripts.proofs.HomeLemmas.{root_subject}
use Rattle.scripts.proofs.RuleLemmas.{step_rules}
use Rattle.scripts.proofs.SaidLemmas.{IsOfCall}
use Rattle.scripts.proofs.ShareLaw.{stop_claim, start_claim}
use Rattle.scripts.proofs.TurnLemmas.{made_up_to}
use Rattle.scripts.proofs.ValueSteps.{IsWhole, values_at, first_at, second_at, first_id_is, second_id_is}
use Rattle.scripts.proofs.ValueSteps.{comes, Comes, kept, began, created, changed, resumed}
use Rattle.scripts.proofs.ValueSteps.{Leaves, leaves, left_same, left_child, left_stopped, left_opened}
use Rattle.scripts.proofs.ValueSteps.{left_closed}
use Rattle.online.specs.Replays.{script_of, IsReplayed}
use Rattle.online.specs.Waits.{IsOver, IsLive}
use Rattle.online.proofs.ReplayLaw.{replayed_whole}
use Rattle.online.proofs.ReplayRecords.{of_step, says_call, made_called}

-- ---- what a record names: the tasks of its call, and the root that it claims

called_named : (body : Body) (task : ℕ) → Contains (named (called body)) task → Contains (named body) task
called_named (ImplicitTask End actual index given parallel own) task has = has
called_named (TaskSchedule status turns prior next claimed) task has =
    Contains-append_left (prior ∷ option_to_list next) _ task
    (elim (Contains-append_cases (prior ∷ option_to_list next) [] task has) [
      | inl there ↦ there
      | inr (i, within, is) ↦ absurd (omega (arith, within))
    ])
called_named (Cancel given own claimed) task has =
    Contains-append_left (own ∷ []) _ task
    (elim (Contains-append_cases (own ∷ []) [] task has) [
      | inl there ↦ there
      | inr (i, within, is) ↦ absurd (omega (arith, within))
    ])
called_named _ task has = has

root_named : (claimed : Option Claim) (task : ℕ)
    → Contains (option_to_list (option_map (λ (c : Claim). c.root) claimed)) task
    → (c : Claim) × (claimed ≡ Some c) × (c.root ≡ task)
root_named None task (i, within, is) = absurd (omega (arith, within))
root_named (Some c) task (zero, within, is) = (c, refl, is)
root_named (Some c) task (suc i, within, is) = absurd (omega (arith, within))

named_split : (body : Body) (task : ℕ) → Contains (named body) task
    → Contains (named (called body)) task ⊎ ((c : Claim) × (claim body ≡ Some c) × (c.root ≡ task))
named_split (ImplicitTask End actual index given parallel own) task has = inl has
named_split (TaskSchedule status turns prior next claimed) task has = elim
    (Contains-append_cases (prior ∷ option_to_list next)
    (option_to_list (option_map (λ (c : Claim). c.root) claimed)) task has) [
      | inl there ↦ inl (Contains-append_left (prior ∷ option_to_list next) [] task there)
      | inr there ↦ inr (root_named claimed task there)
    ]
named_split (Cancel given own claimed) task has = elim
    (Contains-append_cases (own ∷ [])
    (option_to_list (option_map (λ (c : Claim). c.root) claimed)) task has) [
      | inl there ↦ inl (Contains-append_left (own ∷ []) [] task there)
      | inr there ↦ inr (root_named claimed task there)
    ]
named_split _ task has = inl has

-- a call claims nothing, and the record what the value of its own task gives it to claim
claimed_by : (body : Body) (first second : Option TaskView) (c : Claim) → claim body ≡ None
    → claim (recorded_body body first second) ≡ Some c → (t : TaskView) × (first ≡ Some t) × (c ≡ t.claim)
claimed_by (ImplicitTask End actual index given parallel own) None second c none claims =
    absurd (none-some c claims)
claimed_by (ImplicitTask End actual index given parallel own) (Some t) second c none claims =
    absurd (none-some c claims)
claimed_by (TaskSchedule status turns prior next claimed) None second c none claims =
    absurd (none-some c (sym none ∙ claims))
claimed_by (TaskSchedule status turns prior next claimed) (Some t) second c none claims =
    of (status_part status) claims
  where
    of : (o : Option Part) → option_map (λ (p : Part). t.claim) o ≡ Some c
        → (u : TaskView) × (Some t ≡ Some u) × (c ≡ u.claim)
    of None is = absurd (none-some c is)
    of (Some p) is = (t, refl, sym (same_Some t.claim c is))
claimed_by (Cancel given own claimed) None second c none claims = absurd (none-some c (sym none ∙ claims))
claimed_by (Cancel given own claimed) (Some t) second c none claims =
    of (has_flag given.0 flag.discarded_task) claims
  where
    of : (b : Bool) → claim (cond b (discard_body t given (Some t.claim)) (Cancel given own None)) ≡ Some c
        → (u : TaskView) × (Some t ≡ Some u) × (c ≡ u.claim)
    of true is = (t, refl, sym (same_Some t.claim c is))
    of false is = absurd (none-some c is)
claimed_by _ first second c none claims = absurd (none-some c (sym none ∙ claims))

-- ---- the root of a value is made

made_at : (script : ScriptView) (n : ℕ) (s : Step) (task : ℕ) → slice_get script.steps n ≡ Some s
    → made s.body ≡ Some task → IsMadeByStep (take (suc n) script.steps) task
made_at script n s task is makes = (
  s,
  get_contains (take (suc n) script.steps) s n (take_get script.steps (suc n) n s (omega arith) is),
  makes,
)

root_made : (script : ScriptView) (n task : ℕ) (w : TaskView) → IsWhole script → n ≤ length script.steps
    → values_at script n task ≡ Some w → IsMadeByStep (take n script.steps) w.claim.root
root_made script zero task w whole within has = absurd (none-some w has)
root_made script (suc n) task w whole within has =
    let (s, is) = get_within script.steps n (omega (arith, within)) in
    by s is (comes script n s task w whole is has)
    (λ t v was. made_up_to script.steps v.claim.root n (suc n) (omega arith)
    (root_made script n t v whole (omega (arith, within)) was))
  where
    same : (v : TaskView) → w.claim.root ≡ v.claim.root
        → IsMadeByStep (take (suc n) script.steps) v.claim.root
        → IsMadeByStep (take (suc n) script.steps) w.claim.root
    same v root makes = subst (IsMadeByStep (take (suc n) script.steps)) (sym root) makes

    by : (s : Step) → slice_get script.steps n ≡ Some s
        → Comes (values_at script n) s.thread s.body task w
        → ((t : ℕ) (v : TaskView) → values_at script n t ≡ Some v
        → IsMadeByStep (take (suc n) script.steps) v.claim.root)
        → IsMadeByStep (take (suc n) script.steps) w.claim.root
    by s is (kept unnamed was) before = before task w was
    by s is (began place given of begins_it root) before =
        subst (λ (v : TaskView). IsMadeByStep (take (suc n) script.steps) v.claim.root) (sym root)
        (made_at script n s task is (root_subject s.body task begins_it).1)
    by s is (created parent u given flagged makes was id child) before =
        same u (ap (λ (v : TaskView). v.claim.root) child) (before parent u was)
    by s is (resumed v was id starts after) before =
        same v
        (ap (λ (t : TaskView). t.claim.root) after ∙ ap (λ (c : Claim). c.root) (start_claim v))
        (before task v was)
    by s is (changed v was id names given left) before =
        same v (kept_root (leaves s.thread s.body task v w given left)) (before task v was)
      where
        kept_root : Leaves task s.body v w → w.claim.root ≡ v.claim.root
        kept_root (left_same is_same none stay) = ap (λ (t : TaskView). t.claim.root) is_same
        kept_root (left_child other is_so makes stay) = ap (λ (t : TaskView). t.claim.root) is_so
        kept_root (left_stopped st next is_so says_it none stay) =
            ap (λ (t : TaskView). t.claim.root) is_so ∙ ap (λ (c : Claim). c.root) (stop_claim v st)
        kept_root (left_opened kind is_so says_it none) = ap (λ (t : TaskView). t.claim.root) is_so
        kept_root (left_closed kind is_so says_it none) = ap (λ (t : TaskView). t.claim.root) is_so

-- ---- what the steps before make and end, by the records

called_live : (nests : Bool) (rs : List Record) (values : Values) (i : ℕ) (r : Record) (task : ℕ)
    → IsReplayed nests rs values → slice_get rs i ≡ Some r → Contains (named (called r.body)) task
    → made r.body ≢ Some task
    → IsMadeByStep (take i (script_of nests rs).steps) task
    × (IsEnded (take i (script_of nests rs).steps) task → ⊥)
called_live nests rs values i r task replayed is has unmade =
    let script = script_of nests rs in
    let whole = replayed_whole nests rs values replayed in
    let o = of_step nests rs values i r replayed is in
    let rules = step_rules script.steps i o.step whole.rules o.stands in
    let same : called r.body ≡ called o.step.body =
    ap called o.body_is
    ∙ recorded_called o.step.body (first_at script i o.step) (second_at script i o.step)
    (first_id_is script i o.step whole o.stands) (second_id_is script i o.step whole o.stands) in
    rules.live task
    (called_named o.step.body task (subst (λ b. Contains (named b) task) same has))
    (λ makes. unmade (says_call made nests rs values i r replayed made_called o ∙ makes))

made_before : (nests : Bool) (rs : List Record) (values : Values) (i task : ℕ) → IsReplayed nests rs values
    → i ≤ length rs → IsMadeByStep (take i (script_of nests rs).steps) task
    → (k : ℕ) × (k < i) × (at made rs k ≡ Some task)
made_before nests rs values i task replayed within (x, has, makes) =
    let steps = (script_of nests rs).steps in
    let (k, there) = contains_get (take i steps) x has in
    let (less, stands) = get_take steps i k x there in
    let (q, q_is) = get_within rs k (omega (arith, less, within)) in
    let o = of_step nests rs values k q replayed q_is in
    let same : o.step ≡ x = same_Some o.step x (sym o.stands ∙ stands) in (
      k,
      less,
      at_get made rs k q q_is ∙ says_call made nests rs values k q replayed made_called o
          ∙ ap (λ (s : Step). made s.body) same ∙ makes,
    )

pub finish_called : IsOfCall finish
finish_called (ImplicitTask End actual index given parallel task) = refl
finish_called (TaskSchedule status turns prior next claimed) = refl
finish_called (Cancel given task claimed) = refl
finish_called _ = refl

pub end_called : IsOfCall ended_root
end_called (ImplicitTask End actual index given parallel task) = refl
end_called (TaskSchedule status turns prior next claimed) = refl
end_called (Cancel given task claimed) = refl
end_called _ = refl

-- a call ends the task that it finishes, unless it finishes the body alone
finish_ends : (body : Body) (task : ℕ) (p : Part) → finish body ≡ Some (task, p) → p ≢ part.Body
    → ended body ≡ Some task
finish_ends (TaskSchedule status.Complete turns prior next claimed) task p is other =
    ap (option_map (λ (f : ℕ × Part). f.0)) is
finish_ends (TaskSchedule status.Cancel turns prior next claimed) task p is other =
    ap (option_map (λ (f : ℕ × Part). f.0)) is
finish_ends (TaskSchedule status.LateFulfill turns prior next claimed) task p is other =
    ap (option_map (λ (f : ℕ × Part). f.0)) is
finish_ends (TaskSchedule status.TaskwaitComplete turns prior next claimed) task p is other =
    ap (option_map (λ (f : ℕ × Part). f.0)) is
finish_ends (TaskSchedule status.Detach turns prior next claimed) task p is other =
    absurd
    (other (sym (ap (λ (f : ℕ × Part). f.1) (same_Some (prior, part.Body) (task, p) is))))
finish_ends (TaskSchedule status.Yield turns prior next claimed) task p is other =
    absurd (none-some (task, p) is)
finish_ends (TaskSchedule status.Switch turns prior next claimed) task p is other =
    absurd (none-some (task, p) is)
finish_ends (TaskSchedule status.EarlyFulfill turns prior next claimed) task p is other =
    absurd (none-some (task, p) is)
finish_ends (Cancel given own claimed) task p is other = of (has_flag given.0 flag.discarded_task) refl
  where
    of : (b : Bool) → has_flag given.0 flag.discarded_task ≡ b → ended (Cancel given own claimed) ≡ Some task
    of true e = rw e (ap (option_map (λ (f : ℕ × Part). f.0)) (rw e at is))
    of false e = absurd (none-some (task, p) (rw e at is))
finish_ends _ task p is other = absurd (none-some (task, p) is)

root_ends : (body : Body) (task : ℕ) → ended_root body ≡ Some task → ended body ≡ Some task
root_ends (ImplicitTask End actual index given parallel own) task is = is
root_ends _ task is = absurd (none-some task is)

-- a step ends a task that the records before end
ended_before : (nests : Bool) (rs : List Record) (values : Values) (i k task : ℕ) (q : Record)
    → IsReplayed nests rs values → slice_get (take i rs) k ≡ Some q
    → ((s : Step) → finish q.body ≡ finish s.body → ended_root q.body ≡ ended_root s.body
    → ended s.body ≡ Some task)
    → IsEnded (take i (script_of nests rs).steps) task
ended_before nests rs values i k task q replayed there ends =
    let steps = (script_of nests rs).steps in
    let (less, q_is) = get_take rs i k q there in
    let o = of_step nests rs values k q replayed q_is in (
      o.step,
      get_contains (take i steps) o.step k (take_get steps i k o.step less o.stands),
      ends o.step (says_call finish nests rs values k q replayed finish_called o)
          (says_call ended_root nests rs values k q replayed end_called o),
    )

pub over_ended : (nests : Bool) (rs : List Record) (values : Values) (i task : ℕ) → IsReplayed nests rs values
    → IsOver (take i rs) task → IsEnded (take i (script_of nests rs).steps) task
over_ended nests rs values i task replayed (inl (k, p, finishes, other)) =
    let (q, there, says) = get_at finish (take i rs) k (task, p) finishes in
    ended_before nests rs values i k task q replayed there
    (λ s one two. finish_ends s.body task p (sym one ∙ says) other)
over_ended nests rs values i task replayed (inr (k, ends)) =
    let (q, there, says) = get_at ended_root (take i rs) k task ends in
    ended_before nests rs values i k task q replayed there
    (λ s one two. root_ends s.body task (sym two ∙ says))

-- ---- so it is

-- a task that a record names, and does not make, is live before it, unless the record claims it as a root
pub replayed_live : (nests : Bool) (rs : List Record) (values : Values) (i : ℕ) (r : Record) (task : ℕ)
    → IsReplayed nests rs values → slice_get rs i ≡ Some r → Contains (named (called r.body)) task
    → made r.body ≢ Some task → IsLive (take i rs) task
replayed_live nests rs values i r task replayed is has unmade =
    let within = slice_get_within rs i r is in
    let (makes, goes_on) = called_live nests rs values i r task replayed is has unmade in
    let (k, less, there) = made_before nests rs values i task replayed (omega (arith, within)) makes in
    let (q, q_is, says) = get_at made rs k task there in (
      (k, at_get made (take i rs) k q (take_get rs i k q less q_is) ∙ says),
      λ over. goes_on (over_ended nests rs values i task replayed over),
    )

-- each task that a record names is made before or there
pub replayed_named : (nests : Bool) (rs : List Record) (values : Values) (i task : ℕ)
    → IsReplayed nests rs values → IsNamedAt rs i task → (k : ℕ) × (k ≤ i) × (at made rs k ≡ Some task)
replayed_named nests rs values i task replayed (r, is, has) = elim (named_split r.body task has) [
  | inl calls ↦ by_call (made r.body) refl calls
  | inr (c, claims, root) ↦ by_claim c claims root
]
  where
    within : i < length rs
    within = slice_get_within rs i r is

    earlier : IsMadeByStep (take i (script_of nests rs).steps) task
        → (k : ℕ) × (k ≤ i) × (at made rs k ≡ Some task)
    earlier makes =
        let (k, less, there) = made_before nests rs values i task replayed (omega (arith, within)) makes in
        (k, omega (arith, less), there)

    by_call : (o : Option ℕ) → made r.body ≡ o → Contains (named (called r.body)) task
        → (k : ℕ) × (k ≤ i) × (at made rs k ≡ Some task)
    by_call None none calls =
        earlier
        (called_live nests rs values i r task replayed is calls
        (λ makes. none-some task (sym none ∙ makes))).0
    by_call (Some t) makes calls = elim (cases_eq t task) [
      | inl same ↦ (i, omega arith, at_get made rs i r is ∙ makes ∙ ap Some same)
      | inr apart ↦
          earlier
          (called_live nests rs values i r task replayed is calls
          (λ also. apart (same_Some t task (sym makes ∙ also)))).0
    ]

    by_claim : (c : Claim) → claim r.body ≡ Some c → c.root ≡ task
        → (k : ℕ) × (k ≤ i) × (at made rs k ≡ Some task)
    by_claim c claims root =
        let script = script_of nests rs in
        let whole = replayed_whole nests rs values replayed in
        let o = of_step nests rs values i r replayed is in
        let rules = step_rules script.steps i o.step whole.rules o.stands in
        let below = slice_get_within script.steps i o.step o.stands in
        let (t, first_is, same) =
        claimed_by o.step.body (first_at script i o.step) (second_at script i o.step) c rules.no_claim
        (ap claim (sym o.body_is) ∙ claims) in
        by_value (first_given o.step.body) t first_is
        (subst (λ (d : Claim). d.root ≡ task) same root) (omega (arith, below))
      where
        by_value : (given : Option ℕ) (t : TaskView) → value (values_at (script_of nests rs) i) given ≡ Some t
            → t.claim.root ≡ task → i ≤ length (script_of nests rs).steps
            → (k : ℕ) × (k ≤ i) × (at made rs k ≡ Some task)
        by_value None t has_it root_is low = absurd (none-some t has_it)
        by_value (Some own) t has_it root_is low =
            earlier
            (subst (IsMadeByStep (take i (script_of nests rs).steps)) root_is
            (root_made (script_of nests rs) i own t (replayed_whole nests rs values replayed) low has_it))
