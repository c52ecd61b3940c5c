use Rattle.std.proofs.Common.{◌≡◌, ◌∙◌, ◌+◌, length, subst, sym, arith}
use Rattle.task_states.specs.declared.progress.Pass.TheVariants.{Early}
use Rattle.task_states.specs.Progress.{HasCome, moves_before, and_record}
use Rattle.task_states.proofs.ProgressLemmas.{come_same}
use Rattle.task_states.proofs.PassLemmas.{moves_more, early_unread}
use Rattle.task_states.proofs.progress.Progress.read_early.Goals as goal
use Rattle.task_states.proofs.progress.Progress.read_early.Goals.{then-fulfils_early, else-fulfils_early}

pub read-requires-clause-all : goal.read-requires-clause-all
read-requires-clause-all c = c.loop-at.invariant.come.all

pub loop-at-preserved : goal.loop-at-preserved
loop-at-preserved c =
    let rs = c.args.origins.now.records in
    let tasks = c.args.origins.now.family.tasks in
    let i = c.loop-at.at in
    let before = moves_before Early rs i in
    elim c.if-fulfils_early.branch [
      | then-fulfils_early w ↦
          rw w.self-is (record {
            come =
                come_same rs tasks (and_record Early rs i before) (moves_before Early rs (i + 1))
                w.read.new.self (moves_more Early rs i) (w.read.ensures.come before c.loop-at.invariant.come);
            marks = w.read.ensures.marks ∙ c.loop-at.invariant.marks;
          })
      | else-fulfils_early w ↦
          let late = sym (rw c.run-run.ensures.value at c.fulfils_early.ensures) ∙ w.if-fulfils_early.false in
          rw w.self-is (record {
            come =
                come_same rs tasks before (moves_before Early rs (i + 1)) c.loop-at.self
                (λ task. moves_more Early rs i task ∙ early_unread rs i before late task)
                c.loop-at.invariant.come;
            marks = c.loop-at.invariant.marks;
          })
    ]

pub returns-clause-come : goal.returns-clause-come
returns-clause-come c =
    let rs = c.args.origins.now.records in
    let all : c.loop-at.at ≡ length rs =
    omega (
      arith,
      c.loop-at-test.false,
      c.loop-at.auto.at-end,
      rw c.run-run.ensures.value at c.len-at-end.ensures.value,
    ) in
    subst (λ n. HasCome rs c.args.origins.now.family.tasks (moves_before Early rs n) c.loop-at.self) all
    c.loop-at.invariant.come
