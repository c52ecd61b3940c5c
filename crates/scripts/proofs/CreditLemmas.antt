-- The credits of a run are those of the machine.
use Rattle.std.proofs.Common.{ℕ, ◌≡◌, ◌≢◌, ◌∙◌, ◌∷◌, ◌+◌, ◌<◌, [], List, Bool, true, false}
use Rattle.std.proofs.Common.{refl, sym, ap, subst, inl, inr, Option, Some, None, cond, length, take, zero}
use Rattle.std.proofs.Common.{suc}
use Rattle.std.proofs.Common.{arith, map, get_or}
use Rattle.std.specs.Prelude.{◌&&◌, AllPairs, Contains, slice_get, option_map, not, is_some}
use Rattle.std.specs.Option.{option_map_or}
use Rattle.std.proofs.lemmas.Bool.{cases_lt, cond_both, and_parts, false≢true}
use Rattle.std.proofs.lemmas.Option.{none-some, slice_get_past}
use Rattle.std.proofs.lemmas.List.Elements.{Contains-append_left, Contains-push}
use Rattle.std.proofs.lemmas.List.Kept.{AllPairs-cons}
use Rattle.ompt_events.specs.declared.records.Record.{Record}
use Rattle.ompt_events.specs.Records.{ended_root}
use Rattle.ompt_events.specs.States.{is_task}
use Rattle.ompt_events.proofs.ListLemmas.{take_past, get_within}
use Rattle.credit_ledger.specs.Credits.{Credit, credits_after}
use Rattle.scripts.specs.declared.script.Step.{Step}
use Rattle.scripts.specs.Scripts.{ScriptView, IsScript, finished}
use Rattle.scripts.specs.Rules.{IsMadeByStep, IsEnded, MayFollow}
use Rattle.scripts.proofs.RuleLemmas.{step_rules}
use Rattle.callbacks.proofs.KnownLaw.{take_next}
use Rattle.callbacks.specs.declared.fault.CallFault.{CallFault}
use Rattle.callbacks.specs.Tasks.{TaskView, credit_of}
use Rattle.scripts.specs.RunCalls.{first_given}
use Rattle.scripts.specs.Progress.{Progress, Values, progress, progress_to, progress_with}
use Rattle.scripts.specs.Progress.{step_refusal, recorder_with, thread_records}
use Rattle.scripts.specs.Tiling.{Holder, of_task, of_record, held_credit, credit_held, events_of}
use Rattle.scripts.specs.Tiling.{value_or, values_at_end, ends_root, last_values}
use Rattle.scripts.proofs.CalledLemmas.{first_is_named, given_unmade}
use Rattle.scripts.proofs.HolderLemmas.{holders_same, IsIn, AreOnce, are_of-map}
use Rattle.scripts.proofs.HeldLemmas.{IsTiled}
use Rattle.scripts.proofs.UseLemmas.{made_later}
use Rattle.scripts.proofs.MachineLemmas.{body_next, last}
use Rattle.scripts.proofs.ProgressLemmas.{progress_next, given_first, named_apart}
use Rattle.scripts.proofs.TilingLemmas.{the_one}

-- ---- what an ended root had left

ended_later : (steps : List Step) (n : ℕ) (s : Step) (task : ℕ) → slice_get steps n ≡ Some s
    → IsEnded (take n steps) task → IsEnded (take (n + 1) steps) task
ended_later steps n s task is (x, has, ends) =
    subst (λ (l : List Step). IsEnded l task) (sym (take_next steps n s is))
    (x, Contains-append_left (take n steps) (s ∷ []) x has, ends)

ended_now : (steps : List Step) (n : ℕ) (s : Step) (task : ℕ) → slice_get steps n ≡ Some s
    → ended_root s.body ≡ Some task → IsEnded (take (n + 1) steps) task
ended_now steps n s task is ends =
    subst (λ (l : List Step). IsEnded l task) (sym (take_next steps n s is))
    (s, Contains-push (take n steps) s, ap (λ o. cond (is_some o) o (finished s.body)) ends)

-- which step it may be that ends a root
ending_step : (script : ScriptView) (n root : ℕ) → ends_root script n root ≡ true
    → (s : Step) × (slice_get script.steps n ≡ Some s) × (ended_root s.body ≡ Some root)
ending_step script n root ends = by (slice_get script.steps n) refl ends
  where
    by : (o : Option Step) → slice_get script.steps n ≡ o
        → option_map_or (λ (s : Step).
        is_task root (ended_root s.body)
        && not (is_some (step_refusal script.capacity script.nests (progress_to script n) s))) o false
        ≡ true
        → (s : Step) × (slice_get script.steps n ≡ Some s) × (ended_root s.body ≡ Some root)
    by None is none = absurd (false≢true none)
    by (Some s) is both = (s, is, the_one root (ended_root s.body) (and_parts _ _ both).0)

-- a root that has a value at its end was ended by a step
over_ended : (script : ScriptView) (n root : ℕ) (t : TaskView) → values_at_end script n root ≡ Some t
    → IsEnded (take n script.steps) root
over_ended script zero root t is = absurd (none-some t is)
over_ended script (suc n) root t is =
    let one : n + 1 ≡ suc n = omega arith in
    subst (λ k. IsEnded (take k script.steps) root) one
    (cond_both (ends_root script n root) ((progress_to script n).values root) (values_at_end script n root)
    (λ (o : Option TaskView). o ≡ Some t → IsEnded (take (n + 1) script.steps) root)
    (λ ends left.
    let found = ending_step script n root ends in
    ended_now script.steps n found.0 root found.1 found.2)
    (λ no_end left. later (over_ended script n root t left)) is)
  where
    later : IsEnded (take n script.steps) root → IsEnded (take (n + 1) script.steps) root
    later ends = elim (cases_lt n (length script.steps)) [
      | inl less ↦
          let (s, there) = get_within script.steps n less in ended_later script.steps n s root there ends
      | inr past ↦
          subst (λ (l : List Step). IsEnded l root)
          (take_past script.steps n past ∙ sym (take_past script.steps (n + 1) (omega arith))) ends
    ]

-- ---- one step more

tiled_later : (steps : List Step) (n : ℕ) (old new : Values) (rs : List Record)
    → ((task : ℕ) → IsMadeByStep (take n steps) task → IsMadeByStep (take (n + 1) steps) task)
    → ((task : ℕ) → old task ≡ new task) → IsTiled steps n old rs → IsTiled steps (n + 1) new rs
tiled_later steps n old new rs later same tiled = record {
  holders = tiled.holders;
  held =
      holders_same (credits_after (events_of rs)) (held_credit old rs) (held_credit new rs) tiled.holders all
      tiled.held;
  tasks = λ task c has. tiled.tasks task c (ap (option_map credit_of) (same task) ∙ has);
  known = λ h c has. later c.task (tiled.known h c (all h ∙ has));
}
  where
    all : (h : Holder) → held_credit old rs h ≡ held_credit new rs h
    all (of_task task) = ap (option_map credit_of) (same task)
    all (of_record at) = refl

and_true : (b : Bool) → (b && true) ≡ b
and_true true = refl
and_true false = refl

and_not : (b : Bool) → (b && false) ≡ false
and_not true = refl
and_not false = refl

step_tiled : (script : ScriptView) (n : ℕ) (s : Step) → IsScript script.steps
    → slice_get script.steps n ≡ Some s
    → IsTiled script.steps n (last_values script n) (progress_to script n).records
    → IsTiled script.steps (n + 1) (last (progress_to script (n + 1)).values (values_at_end script (suc n)))
    (progress_to script (n + 1)).records
step_tiled script n s is_script is tiled =
    subst
    (λ (q : Progress).
    IsTiled script.steps (n + 1) (last q.values (values_at_end script (suc n))) q.records)
    (sym (progress_next script n s is)) (by (step_refusal script.capacity script.nests p s) refl)
  where
    p : Progress
    p = progress_to script n

    rules : MayFollow (take n script.steps) s.after s.body
    rules = step_rules script.steps n s is_script is

    ending : (root : ℕ) → ends_root script n root
        ≡ (is_task root (ended_root s.body) && not
        (is_some (step_refusal script.capacity script.nests (progress_to script n) s)))
    ending root =
        ap
        (λ o. option_map_or (λ (x : Step).
        is_task root (ended_root x.body)
        && not (is_some (step_refusal script.capacity script.nests (progress_to script n) x))) o false) is

    lefts : step_refusal script.capacity script.nests (progress_to script n) s ≡ None → (root : ℕ)
        → values_at_end script (suc n) root
        ≡ cond (is_task root (ended_root s.body)) ((progress_to script n).values root)
        (values_at_end script n root)
    lefts accepted root =
        ap (λ b. cond b ((progress_to script n).values root) (values_at_end script n root))
        (ending root
        ∙ ap (λ (o : Option CallFault). is_task root (ended_root s.body) && not (is_some o)) accepted
        ∙ and_true (is_task root (ended_root s.body)))

    stays : (fault : CallFault)
        → step_refusal script.capacity script.nests (progress_to script n) s ≡ Some fault
        → (root : ℕ) → values_at_end script n root ≡ values_at_end script (suc n) root
    stays fault refused root =
        sym
        (ap (λ b. cond b ((progress_to script n).values root) (values_at_end script n root))
        (ending root
        ∙ ap (λ (o : Option CallFault). is_task root (ended_root s.body) && not (is_some o)) refused
        ∙ and_not (is_task root (ended_root s.body))))

    none : (task : ℕ) → first_given s.body ≡ Some task → values_at_end script n task ≡ None
    none task given = absent (values_at_end script n task) refl
      where
        absent : (o : Option TaskView) → values_at_end script n task ≡ o → o ≡ None
        absent None left = refl
        absent (Some t) left =
            absurd
            ((rules.live task (first_is_named s.body task (given_first s.body task given))
            (given_unmade s.body task given (λ a b one two. named_apart s.body a b rules.apart one two))).1
            (over_ended script n task t left))

    by : (found : Option CallFault)
        → step_refusal script.capacity script.nests (progress_to script n) s ≡ found
        → IsTiled script.steps (n + 1)
        (last
        (cond (is_some found) (progress_to script n)
        (progress_with script.nests (progress_to script n) s)).values
        (values_at_end script (suc n)))
        (cond (is_some found) (progress_to script n)
        (progress_with script.nests (progress_to script n) s)).records
    by (Some fault) refused =
        tiled_later script.steps n (last_values script n)
        (last (progress_to script n).values (values_at_end script (suc n))) (progress_to script n).records
        (λ task makes. made_later script.steps n s task is makes)
        (λ task. ap (value_or ((progress_to script n).values task)) (stays fault refused task)) tiled
    by None accepted =
        body_next
        (record {
          steps = script.steps;
          n = n;
          s = s;
          view =
              recorder_with script.capacity script.nests s.thread
              (thread_records (progress_to script n).records s.thread);
          nests = script.nests;
          own = thread_records (progress_to script n).records s.thread;
          values = (progress_to script n).values;
          left = values_at_end script n;
          left_after = values_at_end script (suc n);
          rs = (progress_to script n).records;
        }) s.body
        (record {
          there = is;
          is_body = refl;
          unclaimed = rules.no_claim;
          new = rules.new;
          apart = λ a b one two. named_apart s.body a b rules.apart one two;
          none = none;
          lefts = lefts accepted;
          accepted = accepted;
          tiled = tiled;
        })

all_tiled : (script : ScriptView) (n : ℕ) → IsScript script.steps
    → IsTiled script.steps n (last_values script n) (progress_to script n).records
all_tiled script zero is_script = record {
  holders = [];
  held = record {
    are = tt;
    once = tt;
    all = λ h c has. nothing h c has (IsIn h []);
  };
  tasks = λ task c has. absurd (none-some c has);
  known = λ h c has. nothing h c has (IsMadeByStep (take zero script.steps) c.task);
}
  where
    nothing : (h : Holder) (c : Credit) → credit_held script zero h ≡ Some c → (X : Type 0) → X
    nothing (of_task task) c has X = absurd (none-some c has)
    nothing (of_record at) c has X = absurd (none-some c has)
all_tiled script (suc n) is_script = elim (cases_lt n (length script.steps)) [
  | inl less ↦
      let (s, is) = get_within script.steps n less in
      let one : n + 1 ≡ suc n = omega arith in
      subst
      (λ k. IsTiled script.steps k (last (progress_to script k).values (values_at_end script (suc n)))
      (progress_to script k).records)
      one (step_tiled script n s is_script is (all_tiled script n is_script))
  | inr past ↦
      let one : n + 1 ≡ suc n = omega arith in
      let same : take n script.steps ≡ take (suc n) script.steps =
      take_past script.steps n past ∙ sym (take_past script.steps (suc n) (omega arith)) in
      let gone = slice_get_past script.steps n past in
      subst
      (λ (l : List Step).
      IsTiled script.steps (suc n)
      (last (progress script.capacity script.nests l).values (values_at_end script (suc n)))
      (progress script.capacity script.nests l).records)
      same
      (subst
      (λ k.
      IsTiled script.steps k (last (progress_to script n).values (values_at_end script (suc n)))
      (progress_to script n).records) one
      (tiled_later script.steps n (last_values script n)
      (last (progress_to script n).values (values_at_end script (suc n))) (progress_to script n).records
      (λ task makes.
      subst (λ (l : List Step). IsMadeByStep l task)
      (same ∙ ap (λ k. take k script.steps) (sym one)) makes)
      (λ task.
      ap (value_or ((progress_to script n).values task))
      (sym
      (ap
      (λ o. cond
      (option_map_or (λ (x : Step).
      is_task task (ended_root x.body)
      && not (is_some (step_refusal script.capacity script.nests (progress_to script n) x))) o false)
      ((progress_to script n).values task) (values_at_end script n task)) gone)))
      (all_tiled script n is_script)))
]

-- ---- the law

in_contains : (h : Holder) (hs : List Holder) → IsIn h hs → Contains hs h
in_contains h [] there = absurd there
in_contains h (x ∷ hs) (inl same) = (0, omega arith, same)
in_contains h (x ∷ hs) (inr there) =
    let (i, within, is) = in_contains h hs there in (suc i, omega (arith, within), is)

get_in : (hs : List Holder) (k : ℕ) (d : Holder) → k < length hs → IsIn (get_or hs k d) hs
get_in [] k d within = absurd (omega (arith, within))
get_in (x ∷ hs) zero d within = inl refl
get_in (x ∷ hs) (suc k) d within = inr (get_in hs k d (omega (arith, within)))

once_apart : (hs : List Holder) → AreOnce hs → AllPairs (λ h k. h ≢ k) hs
once_apart [] once = λ i j d less within. absurd (omega (arith, within))
once_apart (x ∷ hs) once =
    AllPairs-cons (λ h k. h ≢ k) x hs
    (λ k d within same. once.0 (subst (λ y. IsIn y hs) (sym same) (get_in hs k d within)))
    (once_apart hs once.1)

-- the holders of credit, each once, have the credits after the events that the records tell
pub credits_held : (script : ScriptView) (n : ℕ) → IsScript script.steps
    → (holders : List Holder) × (AllPairs (λ h k. h ≢ k) holders)
    × ((h : Holder) (c : Credit) → credit_held script n h ≡ Some c → Contains holders h)
    × (map Some (credits_after (events_of (progress_to script n).records))
    ≡ map (credit_held script n) holders)
credits_held script n is_script =
    let tiled = all_tiled script n is_script in (
      tiled.holders,
      once_apart tiled.holders tiled.held.once,
      λ h c has. in_contains h tiled.holders (tiled.held.all h c has),
      are_of-map (credit_held script n) (credits_after (events_of (progress_to script n).records))
          tiled.holders tiled.held.are,
    )
