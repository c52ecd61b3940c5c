-- The records of a run in the order of its script, and in the tasks' own order.
use Rattle.std.proofs.Common.{ℕ, zero, suc, ◌≡◌, ◌∙◌, ◌+◌, ◌<◌, ◌≤◌, List, [], ◌∷◌, ◌++◌, length, Option}
use Rattle.std.proofs.Common.{true, Some, refl, sym, ap, arith, inl, inr}
use Rattle.std.specs.Prelude.{slice_get, slice_index}
use Rattle.std.proofs.lemmas.Bool.{cases_lt}
use Rattle.std.proofs.lemmas.List.{length_push}
use Rattle.std.proofs.lemmas.Option.{same_Some, slice_get_within, slice_get-get_or, get_or_from_slice_get}
use Rattle.ompt_events.specs.declared.records.Record.{Record}
use Rattle.ompt_events.specs.declared.records.Body.{Body}
use Rattle.ompt_events.specs.Places.{at, is_own}
use Rattle.ompt_events.specs.Records.{running}
use Rattle.ompt_events.specs.Turns.{in_own_order, own_place, own_places}
use Rattle.ompt_events.proofs.ListLemmas.{get_within, get_pushed, get_last}
use Rattle.ompt_events.proofs.PlaceLemmas.{at_get, at_within}
use Rattle.scripts.specs.declared.script.Step.{Step}
use Rattle.scripts.specs.Scripts.{ScriptView}
use Rattle.task_tree.specs.Renaming.{untold}
use Rattle.task_tree.proofs.OwnOrderLemmas.{own_length, own_within, own_get, own_place_of, own_order}
use Rattle.task_tree.proofs.OwnOrderLemmas.{own_place_within, arranged_length, arranged_at}
use Rattle.task_tree.proofs.RenamedPlaceLemmas.{IsReordered}
use Rattle.task_tree.proofs.RisingLemmas.{own_running}
use Rattle.scripts.specs.Progress.{Progress, progress_to, own_records}
use Rattle.scripts.proofs.HandOverLemmas.{AreRecords}
use Rattle.scripts.proofs.ProgressLemmas.{accepted_next, record_by}
use Rattle.scripts.proofs.GapLaw.{steps_rise}
use Rattle.scripts.proofs.HomeLemmas.{home, begun, begun_rises, home_stays}
use Rattle.scripts.proofs.PlacedLemmas.{IsPlaced, placed, recorded, step_no, record_no, turn_there}
use Rattle.scripts.proofs.PlacedLemmas.{home_there}
use Rattle.scripts.proofs.ValueSteps.{IsWhole, first_at, second_at}

-- ---- in the order of the script

-- all records in the order of the script
abbrev pub scripted : ScriptView → ℕ → List Record
scripted script n = (progress_to script n).records

-- the record of a step
abbrev pub record_at : ScriptView → ℕ → Step → Record
record_at script n s =
    record_by s.body s.thread script.nests (own_records script n s.thread) (first_at script n s)
    (second_at script n s)

pub scripted_next : (script : ScriptView) (n : ℕ) (s : Step) → IsWhole script
    → slice_get script.steps n ≡ Some s
    → scripted script (suc n) ≡ scripted script n ++ record_at script n s ∷ []
scripted_next script n s whole is =
    let one : suc n ≡ n + 1 = omega arith in
    ap (scripted script) one
    ∙ ap (λ (p : Progress). p.records) (accepted_next script n s is (whole.accepted n))

pub scripted_length : (script : ScriptView) (n : ℕ) → IsWhole script → n ≤ length script.steps
    → length (scripted script n) ≡ n
scripted_length script zero whole within = refl
scripted_length script (suc n) whole within =
    let (s, is) = get_within script.steps n (omega (arith, within)) in
    let before = scripted_length script n whole (omega (arith, within)) in
    ap length (scripted_next script n s whole is) ∙ length_push (scripted script n) (record_at script n s)
    ∙ ap (λ k. k + 1) before ∙ omega arith

pub scripted_get : (script : ScriptView) (n m : ℕ) (s : Step) → IsWhole script
    → slice_get script.steps m ≡ Some s → m < n → n ≤ length script.steps
    → slice_get (scripted script n) m ≡ Some (record_at script m s)
scripted_get script zero m s whole is less within = absurd (omega (arith, less))
scripted_get script (suc n) m s whole is less within =
    let (t, there) = get_within script.steps n (omega (arith, within)) in
    let long = scripted_length script n whole (omega (arith, within)) in
    ap (λ l. slice_get l m) (scripted_next script n t whole there)
    ∙ elim (cases_lt m n) [
      | inl below ↦
          get_pushed (scripted script n) (record_at script n t) (record_at script m s) m
          (scripted_get script n m s whole is below (omega (arith, within)))
      | inr from ↦
          let same : m ≡ n = omega (arith, less, from) in
          let one : t ≡ s = same_Some t s (sym there ∙ ap (slice_get script.steps) (sym same) ∙ is) in
          get_last (scripted script n) (record_at script n t) m (same ∙ sym long)
          ∙ ap (λ (x : Step). Some (record_at script n x)) one
          ∙ ap (λ k. Some (record_at script k s)) (sym same)
    ]

abbrev pub whole_script : ScriptView → List Record
whole_script script = scripted script (length script.steps)

-- ---- in the tasks' own order

-- the step of the record at a place in the tasks' own order, and the place of a step's record there
abbrev pub own_step : ScriptView → List Record → ℕ → ℕ
own_step script rs j = step_no script rs (slice_index (own_places rs) j)

abbrev pub step_own : ScriptView → List Record → ℕ → ℕ
step_own script rs n = own_place rs (record_no script rs n)

-- what stands at a place there
record HasOwnRecord (script : ScriptView) (rs : List Record) (j : ℕ) : Type 0 where
  pub place : ℕ
  pub made : Record
  pub listed : slice_get (own_places rs) j ≡ Some place
  pub place_is : slice_index (own_places rs) j ≡ place
  pub stands : slice_get rs place ≡ Some made
  pub arranged : slice_get (in_own_order rs) j ≡ Some made
  pub of_step : IsPlaced script rs place made

own_record : (script : ScriptView) (rs : List Record) (j : ℕ) → IsWhole script → AreRecords script rs
    → j < length (in_own_order rs) → HasOwnRecord script rs j
own_record script rs j whole records within =
    let place = slice_index (own_places rs) j in
    let listed : slice_get (own_places rs) j ≡ Some place =
    slice_get-get_or (own_places rs) j 0
    (let long = arranged_length rs in let all = own_length rs in omega (arith, within, long, all)) in
    let (x, stands) = get_within rs place (own_within rs j place listed) in
    record {
      place = place;
      made = x;
      listed = listed;
      place_is = refl;
      stands = stands;
      arranged = arranged_at rs j place listed ∙ stands;
      of_step = placed script rs place x whole records stands;
    }

later_step : (script : ScriptView) (task n m : ℕ) → n ≤ length script.steps
    → begun script.steps task n < begun script.steps task m → n < m
later_step script task n m within less = elim (cases_lt n m) [
  | inl below ↦ below
  | inr from ↦
      let rise = begun_rises script.steps task m n from within in absurd (omega (arith, rise, less))
]

same_home : (script : ScriptView) (task n m thread other : ℕ) → n ≤ length script.steps
    → m ≤ length script.steps → begun script.steps task n ≡ begun script.steps task m
    → home script.steps task n ≡ Some thread → home script.steps task m ≡ Some other → thread ≡ other
same_home script task n m thread other within_n within_m same one two = elim (cases_lt n m) [
  | inl less ↦
      same_Some thread other
      (sym one ∙ home_stays script.steps task n m (omega (arith, less)) within_m same ∙ two)
  | inr from ↦
      same_Some thread other
      (sym one ∙ sym (home_stays script.steps task m n from within_n (sym same)) ∙ two)
]

-- a task's records stand there in the order of their steps
own_steps_rise : (script : ScriptView) (rs : List Record) (task j k : ℕ) → IsWhole script
    → AreRecords script rs → is_own (in_own_order rs) task j ≡ true → is_own (in_own_order rs) task k ≡ true
    → j < k → own_step script rs j < own_step script rs k
own_steps_rise script rs task j k whole records own_j own_k less =
    let runs_j = own_running (in_own_order rs) task j own_j in
    let runs_k = own_running (in_own_order rs) task k own_k in
    let one = own_record script rs j whole records (at_within running (in_own_order rs) j task runs_j) in
    let two = own_record script rs k whole records (at_within running (in_own_order rs) k task runs_k) in
    let says_one = sym (at_get running (in_own_order rs) j one.made one.arranged) ∙ runs_j in
    let says_two = sym (at_get running (in_own_order rs) k two.made two.arranged) ∙ runs_k in
    let turn_one = turn_there script rs one.place task one.made whole records one.stands says_one in
    let turn_two = turn_there script rs two.place task two.made whole records two.stands says_two in
    let n = step_no script rs one.place in
    let m = step_no script rs two.place in
    let within_n = slice_get_within script.steps n one.of_step.step one.of_step.stands in
    let within_m = slice_get_within script.steps m two.of_step.step two.of_step.stands in
    let order =
    (own_order rs one.place two.place (slice_get_within rs one.place one.made one.stands)
    (slice_get_within rs two.place two.made two.stands)).0
    (let first = own_place_of rs j one.place one.listed in
    let second = own_place_of rs k two.place two.listed in omega (arith, less, first, second)) in
    let rises : n < m = elim order [
      | inl earlier ↦
          later_step script task n m (omega (arith, within_n)) (omega (arith, turn_one, turn_two, earlier))
      | inr (same, before) ↦
          let thread =
          same_home script task n m one.made.thread two.made.thread (omega (arith, within_n))
          (omega (arith, within_m)) (turn_one ∙ ap suc same ∙ sym turn_two)
          (home_there script rs one.place task one.made whole records one.stands says_one)
          (home_there script rs two.place task two.made whole records two.stands says_two) in
          steps_rise script rs one.place two.place one.made two.made whole records one.stands two.stands
          thread
          before
    ] in
    omega (arith, rises, ap (step_no script rs) one.place_is, ap (step_no script rs) two.place_is)

-- the tasks' own order is that of the script, as far as each task's own records go
pub own_reordered : (script : ScriptView) (rs : List Record) → IsWhole script → AreRecords script rs
    → IsReordered (in_own_order rs) (whole_script script) (own_step script rs) (step_own script rs)
own_reordered script rs whole records = record {
  to_within = λ j within.
      let it = own_record script rs j whole records within in
      let inside =
      slice_get_within script.steps (step_no script rs it.place) it.of_step.step it.of_step.stands in
      omega (arith, inside, all, ap (step_no script rs) it.place_is);
  back_within = λ n within.
      let (s, is) = get_within script.steps n (omega (arith, within, all)) in
      let it = recorded script rs n s whole records is in
      let inside =
      own_place_within rs (record_no script rs n)
      (slice_get_within rs (record_no script rs n) it.made it.stands) in
      let long = arranged_length rs in
      omega (arith, inside, long);
  back_to = λ j within.
      let it = own_record script rs j whole records within in
      ap (λ p. own_place rs (record_no script rs (step_no script rs p))) it.place_is
      ∙ ap (own_place rs) it.of_step.back ∙ own_place_of rs j it.place it.listed;
  to_back = λ n within.
      let (s, is) = get_within script.steps n (omega (arith, within, all)) in
      let it = recorded script rs n s whole records is in
      let place = record_no script rs n in
      let inside = slice_get_within rs place it.made it.stands in
      ap (step_no script rs)
      (get_or_from_slice_get (own_places rs) (own_place rs place) place 0 (own_get rs place inside))
      ∙ it.there;
  alike = λ j within.
      let it = own_record script rs j whole records within in
      let n = step_no script rs it.place in
      let inside = slice_get_within script.steps n it.of_step.step it.of_step.stands in
      ap (at alike_body (whole_script script)) (ap (step_no script rs) it.place_is)
      ∙ at_get alike_body (whole_script script) n (record_at script n it.of_step.step)
      (scripted_get script (length script.steps) n it.of_step.step whole it.of_step.stands inside
      (omega arith))
      ∙ ap alike_body (sym it.of_step.body_is)
      ∙ sym (at_get alike_body (in_own_order rs) j it.made it.arranged);
  own_rise = λ task j k. own_steps_rise script rs task j k whole records;
}
  where
    all : length (whole_script script) ≡ length script.steps
    all = scripted_length script (length script.steps) whole (omega arith)

    alike_body : Body → Option Body
    alike_body body = Some (untold body)
