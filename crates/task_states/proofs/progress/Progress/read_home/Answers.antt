use Rattle.std.proofs.Common.{◌≡◌, ◌∙◌, ◌+◌, length, subst, sym, arith}
use Rattle.task_states.specs.declared.progress.Pass.TheVariants.{Home}
use Rattle.task_states.specs.Progress.{HasCome, AreLeft, moves_before, and_record}
use Rattle.task_states.proofs.ProgressLemmas.{come_same}
use Rattle.task_states.proofs.PassLemmas.{moves_more, left_noted, left_passed}
use Rattle.task_states.proofs.progress.Progress.read_home.Goals as goal
use Rattle.task_states.proofs.progress.Progress.read_home.Goals.{then-not-whole+in_ok-push, else-not-whole}

pub read-whole-requires-clause-all : goal.read-whole-requires-clause-all
read-whole-requires-clause-all c = c.loop-at.invariant.come.all

pub loop-at-preserved : goal.loop-at-preserved
loop-at-preserved c =
    let rs = c.args.origins.now.records in
    let i = c.loop-at.at in
    let before = moves_before Home rs i in
    record {
      come =
          come_same rs c.args.origins.now.family.tasks (and_record Home rs i before)
          (moves_before Home rs (i + 1)) c.read-whole.new.self (moves_more Home rs i)
          (c.read-whole.ensures.come before c.loop-at.invariant.come);
      left = elim c.if-not-whole.branch [
        | then-not-whole+in_ok-push w ↦
            rw w.left-is
            (subst (AreLeft rs (i + 1)) (sym w.in_ok-push.ensures.items)
            (left_noted rs i c.loop-at.left.items c.loop-at.invariant.left))
        | else-not-whole w ↦
            rw w.left-is
            (left_passed rs i c.loop-at.left.items c.loop-at.invariant.left
            (c.read-whole.ensures.whole w.if-not-whole.false))
      ];
      marks = c.read-whole.ensures.marks ∙ c.loop-at.invariant.marks;
    }

pub returns-clause-come : goal.returns-clause-come
returns-clause-come c =
    let rs = c.args.origins.now.records in
    let all : c.loop-at.at ≡ length rs =
    omega (
      arith,
      c.loop-at-test.false,
      c.loop-at.auto.at-end,
      rw c.run.ensures.value at c.len-at-end.ensures.value,
    ) in
    subst (λ n. HasCome rs c.args.origins.now.family.tasks (moves_before Home rs n) c.loop-at.self) all
    c.loop-at.invariant.come

pub returns-clause-left : goal.returns-clause-left
returns-clause-left c =
    let rs = c.args.origins.now.records in
    let all : c.loop-at.at ≡ length rs =
    omega (
      arith,
      c.loop-at-test.false,
      c.loop-at.auto.at-end,
      rw c.run.ensures.value at c.len-at-end.ensures.value,
    ) in
    subst (λ n. AreLeft rs n c.loop-at.left.items) all c.loop-at.invariant.left
