use Rattle.std.proofs.Common.{◌≡◌, ◌∙◌, ◌++◌, ℕ, length, [], refl, sym, ap, subst}
use Rattle.std.proofs.lemmas.List.{append-nil}
use Rattle.ompt_events.specs.Turns.{turns_in}
use Rattle.ompt_events.specs.States.{all_moves_of}
use Rattle.ompt_events.specs.declared.cause.Cause.TheVariants.{StatusOrder}
use Rattle.ompt_events.specs.Faults.{FindsFirst}
use Rattle.task_tree.specs.Runs.{RunView, IsRun}
use Rattle.task_states.specs.Homes.{IsNeverEarly}
use Rattle.task_states.specs.Progress.{moves_before, HasCome}
use Rattle.task_states.specs.declared.progress.Pass.TheVariants.{Early, Home, Rest}
use Rattle.task_states.proofs.ProgressLemmas.{come_same}
use Rattle.task_states.proofs.PassLemmas.{early_start, early_none, home_start, rest_start}
use Rattle.task_states.proofs.MovedLemmas.{rest_end}
use Rattle.task_states.proofs.TurnEdgeLemmas.{turned_never}
use Rattle.task_states.proofs.StateLemmas.{refused_first}
use Rattle.task_states.proofs.progress.find_progress.Goals as goal
use Rattle.task_states.proofs.progress.find_progress.Goals.{then-any_early, else-any_early}
use Rattle.task_states.proofs.progress.find_progress.Goals.{then-any_moved+in_ok-read_turns, else-any_moved}

pub read_early-requires : goal.read_early-requires
read_early-requires c =
    let run = c.in_ok-origins.origins in
    come_same run.records run.family.tasks (λ _. []) _ c.in_ok-progress.progress (early_start run.records)
    c.in_ok-progress.ensures.come

pub read_home-requires : goal.read_home-requires
read_home-requires c =
    let run = c.in_ok-origins.origins in
    let rs = run.records in
    let tasks = run.family.tasks in
    elim c.if-any_early.branch [
      | then-any_early w ↦
          rw w.progress-is
          (come_same rs tasks (moves_before Early rs (length rs)) (moves_before Home rs 0)
          w.read_early.new.self (home_start rs) w.read_early.ensures.come)
      | else-any_early w ↦
          let P : RunView → Type 0 = λ r. IsNeverEarly r.records (length r.records) in
          let never : IsNeverEarly rs (length rs) =
          subst P (sym c.in_ok-origins.ensures) (c.any_early.ensures w.if-any_early.false) in
          let none = λ (task : ℕ). home_start rs task ∙ early_none rs (length rs) never task in
          rw w.progress-is
          (come_same rs tasks (λ _. []) (moves_before Home rs 0) c.in_ok-progress.progress none
          c.in_ok-progress.ensures.come)
    ]

pub read_rest-requires-clause-come : goal.read_rest-requires-clause-come
read_rest-requires-clause-come c =
    let run = c.in_ok-origins.origins in
    let rs = run.records in
    elim c.if-any_moved.branch [
      | then-any_moved+in_ok-read_turns w ↦ rw w.progress-is w.in_ok-read_turns.ensures.come
      | else-any_moved w ↦
          let never =
          λ (task : ℕ).
          turned_never rs (turns_in rs) task (c.any_moved.ensures w.if-any_moved.false task) in
          let same =
          λ (task : ℕ).
          rest_start rs task ∙ ap (λ l. moves_before Home rs (length rs) task ++ l) (never task)
          ∙ append-nil (moves_before Home rs (length rs) task) in
          rw w.progress-is
          (come_same rs run.family.tasks (moves_before Home rs (length rs)) (moves_before Rest rs 0)
          c.read_home.new.self same c.in_ok-left.ensures.come)
    ]

pub returns-clause-come : goal.returns-clause-come
returns-clause-come c =
    let run = c.in_ok-origins.origins in
    let is : IsRun run = subst IsRun c.origins.view_is c.origins.invariant.of_run in
    let P : RunView → Type 0 =
    λ r. HasCome r.records r.family.tasks (all_moves_of r.records) c.read_rest.new.self in
    subst P c.in_ok-origins.ensures
    (come_same run.records run.family.tasks (moves_before Rest run.records (length run.records)) _
    c.read_rest.new.self (λ task. rest_end run.records task is.trace) c.read_rest.ensures.come)

pub returns-clause-refused : goal.returns-clause-refused
returns-clause-refused c =
    let run = c.in_ok-origins.origins in
    let progress = c.read_rest.new.self in
    let is : IsRun run = subst IsRun c.origins.view_is c.origins.invariant.of_run in
    let P : RunView → Type 0 = λ r. FindsFirst r.records StatusOrder progress.refused in
    subst P c.in_ok-origins.ensures
    (refused_first run.records run.family progress progress.refused is.family
    (come_same run.records run.family.tasks (moves_before Rest run.records (length run.records)) _
    progress (λ task. rest_end run.records task is.trace) c.read_rest.ensures.come)
    refl)

pub returns-clause-marks : goal.returns-clause-marks
returns-clause-marks c =
    let before : length c.if-any_early.progress.marks ≡ c.args.marked = elim c.if-any_early.branch [
      | then-any_early w ↦ rw w.progress-is (w.read_early.ensures.marks ∙ c.in_ok-progress.ensures.marks)
      | else-any_early w ↦ rw w.progress-is c.in_ok-progress.ensures.marks
    ] in
    let after : length c.if-any_moved.progress.marks ≡ c.args.marked = elim c.if-any_moved.branch [
      | then-any_moved+in_ok-read_turns w ↦
          rw w.progress-is (w.in_ok-read_turns.ensures.marks ∙ c.in_ok-left.ensures.marks ∙ before)
      | else-any_moved w ↦ rw w.progress-is (c.in_ok-left.ensures.marks ∙ before)
    ] in
    c.read_rest.ensures.marks ∙ after
