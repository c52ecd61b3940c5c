-- Which step made the record at a place, and what stands before it.
use Rattle.std.proofs.Common.{ℕ, zero, suc, ◌≡◌, ◌∙◌, ◌+◌, ◌<◌, ◌≤◌, List, [], ◌∷◌, ◌++◌, length, take, map}
use Rattle.std.proofs.Common.{Option, Some, refl, sym, ap, subst, arith, inl, inr}
use Rattle.std.specs.Prelude.{slice_get, filter, option_map}
use Rattle.std.specs.Option.{option_map_or}
use Rattle.std.proofs.lemmas.Bool.{cases_eq, cases_lt}
use Rattle.std.proofs.lemmas.List.{append-nil, append_assoc, length-map, take_all, take-append-le}
use Rattle.std.proofs.lemmas.List.Folds.{fold-map}
use Rattle.std.proofs.lemmas.List.Sums.{length-filter}
use Rattle.std.proofs.lemmas.Option.{same_Some, slice_get_within, slice_get-map}
use Rattle.ompt_events.specs.declared.records.Record.{Record}
use Rattle.ompt_events.specs.declared.records.Body.{Body}
use Rattle.ompt_events.specs.Records.{running}
use Rattle.ompt_events.specs.Turns.{turn_in, turn_after, turn_at, turn_of}
use Rattle.ompt_events.proofs.ListLemmas.{get_within, get_last}
use Rattle.scripts.specs.declared.script.Step.{Step}
use Rattle.scripts.specs.Scripts.{ScriptView, step_count}
use Rattle.callbacks.proofs.GatherLemmas.{get_first}
use Rattle.scripts.specs.RunCalls.{recorded_body}
use Rattle.scripts.specs.Progress.{own_records, thread_records, without_seen}
use Rattle.scripts.proofs.HandOverLemmas.{AreRecords, own_count}
use Rattle.scripts.proofs.ProgressLemmas.{own_next, own_other, record_by}
use Rattle.scripts.proofs.CoverLemmas.{at_home}
use Rattle.scripts.proofs.HomeLemmas.{home, begun, turn_at_home}
use Rattle.scripts.proofs.SaidLemmas.{IsOfCall, said_by_call, running_called}
use Rattle.scripts.proofs.ThreadPlaces.{is_of, number_at, moved_to, moved, IsMovedTo, AreAsMany}
use Rattle.scripts.proofs.ThreadPlaces.{number_there, before_is}
use Rattle.scripts.proofs.ValueSteps.{IsWhole, first_at, second_at, first_id_is, second_id_is}

abbrev pub thread_of : Record → ℕ
thread_of r = r.thread

abbrev pub step_thread : Step → ℕ
step_thread s = s.thread

-- the place of the step that made the record at a place, and the place of the record that a step made
abbrev pub step_no : ScriptView → List Record → ℕ → ℕ
step_no script rs i = moved_to thread_of rs step_thread script.steps i

abbrev pub record_no : ScriptView → List Record → ℕ → ℕ
record_no script rs n = moved_to step_thread script.steps thread_of rs n

-- ---- the records of a thread

-- those of the first steps come first
own_begins : (script : ScriptView) (thread n m : ℕ) → IsWhole script → n ≤ m → m ≤ length script.steps
    → (more : List Record) × (own_records script m thread ≡ own_records script n thread ++ more)
own_begins script thread n zero whole low within =
    let same : n ≡ zero = omega (arith, low) in
    ([], ap (λ k. own_records script k thread) (sym same) ∙ sym (append-nil (own_records script n thread)))
own_begins script thread n (suc m) whole low within = elim (cases_lt n (suc m)) [
  | inl less ↦
      let (more, is) = own_begins script thread n m whole (omega (arith, less)) (omega (arith, within)) in
      let (s, here) = get_within script.steps m (omega (arith, within)) in
      let one : suc m ≡ m + 1 = omega arith in
      elim (cases_eq s.thread thread) [
        | inl of ↦
            let r =
            record_by s.body s.thread script.nests (own_records script m s.thread) (first_at script m s)
            (second_at script m s) in (
              more ++ r ∷ [],
              ap (λ k. own_records script k thread) one
                  ∙ subst (λ t. own_records script (m + 1) t ≡ own_records script m t ++ r ∷ []) of
                  (own_next script m s here (whole.accepted m))
                  ∙ ap (λ l. l ++ r ∷ []) is
                  ∙ append_assoc (own_records script n thread) more (r ∷ []),
            )
        | inr apart ↦ (
          more,
          ap (λ k. own_records script k thread) one ∙ own_other script m s thread here apart ∙ is,
        )
      ]
  | inr past ↦
      let same : n ≡ suc m = omega (arith, low, past) in (
        [],
        ap (λ k. own_records script k thread) (sym same) ∙ sym (append-nil (own_records script n thread)),
      )
]

-- the step at a place made the record with its number
own_there : (script : ScriptView) (n : ℕ) (s : Step) → IsWhole script → slice_get script.steps n ≡ Some s
    → slice_get (own_records script (length script.steps) s.thread)
    (step_count (take n script.steps) s.thread)
    ≡ Some (record_by s.body s.thread script.nests (own_records script n s.thread) (first_at script n s)
    (second_at script n s))
own_there script n s whole is =
    let within = slice_get_within script.steps n s is in
    let own = own_records script n s.thread in
    let r = record_by s.body s.thread script.nests own (first_at script n s) (second_at script n s) in
    let count = own_count script s.thread n whole.accepted (omega (arith, within)) in
    let (more, begins) =
    own_begins script s.thread (n + 1) (length script.steps) whole (omega (arith, within)) (omega arith) in
    ap (slice_get (own_records script (length script.steps) s.thread)) (sym count)
    ∙ ap (λ l. slice_get l (length own)) begins
    ∙ get_first (own_records script (n + 1) s.thread) more (length own) r
    (ap (λ l. slice_get l (length own)) (own_next script n s is (whole.accepted n))
    ∙ get_last own r (length own) refl)

count_of : (steps : List Step) (thread : ℕ)
    → length (filter (is_of step_thread thread) steps) ≡ step_count steps thread
count_of steps thread = length-filter (is_of step_thread thread) steps

-- each thread has as many records as steps
pub as_many : (script : ScriptView) (rs : List Record) → IsWhole script → AreRecords script rs
    → AreAsMany thread_of rs step_thread script.steps
as_many script rs whole records thread =
    sym (length-map (thread_records rs thread) without_seen) ∙ ap length (records thread)
    ∙ own_count script thread (length script.steps) whole.accepted (omega arith)
    ∙ ap (λ l. step_count l thread) (take_all (length script.steps) script.steps (omega arith))
    ∙ sym (count_of script.steps thread)

-- ---- the step of a record

pub record IsPlaced (script : ScriptView) (rs : List Record) (i : ℕ) (x : Record) : Type 0 where
  pub step : Step
  pub stands : slice_get script.steps (step_no script rs i) ≡ Some step
  pub of_thread : step.thread ≡ x.thread
  pub body_is : x.body ≡ recorded_body step.body (first_at script (step_no script rs i) step)
      (second_at script (step_no script rs i) step)
  pub before : map without_seen (filter (is_of thread_of x.thread) (take i rs))
      ≡ own_records script (step_no script rs i) x.thread
  pub back : record_no script rs (step_no script rs i) ≡ i

map_take : {X Y : Type 0} (f : X → Y) (n : ℕ) (xs : List X) → map f (take n xs) ≡ take n (map f xs)
map_take f zero [] = refl
map_take f zero (x ∷ xs) = refl
map_take f (suc n) [] = refl
map_take f (suc n) (x ∷ xs) = ap (λ l. f x ∷ l) (map_take f n xs)

pub placed : (script : ScriptView) (rs : List Record) (i : ℕ) (x : Record) → IsWhole script
    → AreRecords script rs → slice_get rs i ≡ Some x → IsPlaced script rs i x
placed script rs i x whole records is = record {
  step = s;
  stands = it.stands;
  of_thread = it.of_thread;
  body_is = ap (λ (r : Record). r.body) one;
  before =
      ap (map without_seen) (before_is thread_of rs x.thread i)
      ∙ map_take without_seen k (thread_records rs x.thread)
      ∙ ap (take k) (records x.thread) ∙ ap (take k) begins.1
      ∙ ap (λ n. take n (own_records script n_step x.thread ++ begins.0)) (sym count)
      ∙ take-append-le (length (own_records script n_step x.thread)) (own_records script n_step x.thread)
      begins.0 (omega arith)
      ∙ take_all (length (own_records script n_step x.thread)) (own_records script n_step x.thread)
      (omega arith);
  back = it.back;
}
  where
    n_step : ℕ
    n_step = step_no script rs i

    k : ℕ
    k = number_at thread_of rs x.thread i

    it : IsMovedTo thread_of rs step_thread script.steps i x
    it = moved thread_of rs step_thread script.steps i x (as_many script rs whole records) is

    s : Step
    s = it.there

    within : n_step < length script.steps
    within = slice_get_within script.steps n_step s it.stands

    begins : (more : List Record)
        × (own_records script (length script.steps) x.thread ≡ own_records script n_step x.thread ++ more)
    begins =
        own_begins script x.thread n_step (length script.steps) whole (omega (arith, within)) (omega arith)

    number : step_count (take n_step script.steps) x.thread ≡ k
    number = sym (count_of (take n_step script.steps) x.thread) ∙ it.number

    count : length (own_records script n_step x.thread) ≡ k
    count = own_count script x.thread n_step whole.accepted (omega (arith, within)) ∙ number

    r : Record
    r =
        record_by s.body s.thread script.nests (own_records script n_step s.thread)
        (first_at script n_step s) (second_at script n_step s)

    one : without_seen x ≡ r
    one =
        same_Some (without_seen x) r
        (sym
        (ap (λ l. slice_get l k) (sym (records x.thread))
        ∙ slice_get-map without_seen (thread_records rs x.thread) k
        ∙ ap (option_map without_seen) (number_there thread_of rs x.thread i x is refl))
        ∙ ap (slice_get (own_records script (length script.steps) x.thread)) (sym number)
        ∙ subst (λ t. slice_get (own_records script (length script.steps) t)
        (step_count (take n_step script.steps) t)
        ≡ Some r) it.of_thread (own_there script n_step s whole it.stands))

-- ---- the record of a step

pub record IsRecorded (script : ScriptView) (rs : List Record) (n : ℕ) : Type 0 where
  pub made : Record
  pub stands : slice_get rs (record_no script rs n) ≡ Some made
  pub there : step_no script rs (record_no script rs n) ≡ n

pub recorded : (script : ScriptView) (rs : List Record) (n : ℕ) (s : Step) → IsWhole script
    → AreRecords script rs → slice_get script.steps n ≡ Some s → IsRecorded script rs n
recorded script rs n s whole records is =
    let it =
    moved step_thread script.steps thread_of rs n s (λ thread. sym (as_many script rs whole records thread))
    is in
    record { made = it.there; stands = it.stands; there = it.back }

-- ---- what it says

pub says : {X : Type 0} (f : Body → X) (script : ScriptView) (rs : List Record) (i : ℕ) (x : Record)
    → IsWhole script → IsOfCall f → (p : IsPlaced script rs i x) → f x.body ≡ f p.step.body
says f script rs i x whole of p =
    ap f p.body_is
    ∙ said_by_call f p.step.body (first_at script (step_no script rs i) p.step)
    (second_at script (step_no script rs i) p.step) of
    (first_id_is script (step_no script rs i) p.step whole p.stands)
    (second_id_is script (step_no script rs i) p.step whole p.stands)

-- a turn that a thread's records tell does not depend on lengths
turn_same : (task : ℕ) (own : List Record) → turn_in task own ≡ turn_in task (map without_seen own)
turn_same task own = sym (fold-map (turn_after task) without_seen 0 own)

-- a record of a running task is in the turn that was begun last
pub turn_there : (script : ScriptView) (rs : List Record) (i task : ℕ) (x : Record) → IsWhole script
    → AreRecords script rs → slice_get rs i ≡ Some x → running x.body ≡ Some task
    → begun script.steps task (step_no script rs i) ≡ suc (turn_at rs i)
turn_there script rs i task x whole records is runs =
    let p = placed script rs i x whole records is in
    let n = step_no script rs i in
    let within = slice_get_within script.steps n p.step p.stands in
    let at_step = sym (says running script rs i x whole running_called p) ∙ runs in
    let here = at_home script n p.step task whole p.stands at_step in
    let last =
    (turn_at_home script n task x.thread whole (omega (arith, within))).1 (here ∙ ap Some p.of_thread) in
    let turn : turn_at rs i ≡ turn_in task (own_records script n x.thread) =
    ap (λ (o : Option Record). option_map_or (λ (r : Record). turn_of rs r i) o 0) is
    ∙ ap (λ o. option_map_or (λ t. turn_in t (filter (is_of thread_of x.thread) (take i rs))) o 0) runs
    ∙ turn_same task (filter (is_of thread_of x.thread) (take i rs)) ∙ ap (turn_in task) p.before in
    last ∙ ap suc (sym turn)

-- and on the thread where this began
pub home_there : (script : ScriptView) (rs : List Record) (i task : ℕ) (x : Record) → IsWhole script
    → AreRecords script rs → slice_get rs i ≡ Some x → running x.body ≡ Some task
    → home script.steps task (step_no script rs i) ≡ Some x.thread
home_there script rs i task x whole records is runs =
    let p = placed script rs i x whole records is in
    at_home script (step_no script rs i) p.step task whole p.stands
    (sym (says running script rs i x whole running_called p) ∙ runs)
    ∙ ap Some p.of_thread
