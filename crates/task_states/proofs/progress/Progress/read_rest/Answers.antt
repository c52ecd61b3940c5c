use Rattle.std.proofs.Common.{◌∙◌, ◌+◌, ap, get_or, length, sym, take}
use Rattle.std.proofs.lemmas.List.{take_all}
use Rattle.std.proofs.lemmas.Option.{slice_get-get_or}
use Rattle.task_states.specs.declared.progress.Pass.TheVariants.{Rest}
use Rattle.task_states.specs.Progress.{moves_read, moves_before, and_record}
use Rattle.task_states.proofs.ProgressLemmas.{come_same}
use Rattle.task_states.proofs.PassLemmas.{rest_more}
use Rattle.task_states.proofs.progress.Progress.read_rest.Goals as goal

pub read-requires-clause-all : goal.read-requires-clause-all
read-requires-clause-all c = c.loop-at.invariant.come.all

pub loop-at-preserved : goal.loop-at-preserved
loop-at-preserved c =
    let rs = c.args.origins.now.records in
    let left = c.args.left.now in
    let k = c.loop-at.at-index in
    let place = get_or left k 0 in
    let before = moves_read Rest rs (take k left) in
    record {
      come =
          come_same rs c.args.origins.now.family.tasks (and_record Rest rs place before)
          (moves_read Rest rs (take (k + 1) left)) c.read.new.self
          (rest_more rs left k place (slice_get-get_or left k 0 c.loop-at-test.true))
          (c.read.ensures.come before c.loop-at.invariant.come);
      marks = c.read.ensures.marks ∙ c.loop-at.invariant.marks;
    }

pub returns-clause-come : goal.returns-clause-come
returns-clause-come c =
    let rs = c.args.origins.now.records in
    let left = c.args.left.now in
    come_same rs c.args.origins.now.family.tasks (moves_read Rest rs (take c.loop-at.at-index left))
    (moves_before Rest rs (length rs)) c.loop-at.self
    (λ task.
    sym (c.requires.left.all task)
    ∙ ap (λ l. moves_read Rest rs l task)
    (sym (take_all c.loop-at.at-index left c.loop-at-test.false)))
    c.loop-at.invariant.come
