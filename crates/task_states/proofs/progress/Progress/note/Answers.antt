use Rattle.std.proofs.Common.{◌∙◌, sym, ap}
use Rattle.task_states.specs.Progress.{reads, is_at, is_early_step}
use Rattle.task_states.proofs.ProgressLemmas.{come_read, come_unread}
use Rattle.task_states.proofs.PassLemmas.{read_told}
use Rattle.task_states.proofs.progress.Progress.note.Goals as goal

pub returns-then-reads-clause-come : goal.returns-then-reads-clause-come
returns-then-reads-clause-come c = λ task stands moves come.
    let run = c.args.origins.now in
    let moved = c.args.moved in
    let told =
    read_told c.args.pass run task moved.at moved.index moved.step c.home-home.result c.thread.result
    c.requires.moves stands (c.home-home.ensures task stands)
    (rw c.run.ensures.value at c.thread.ensures) in
    let early =
    ap (λ b. reads c.args.pass b c.is_at-is_home.result c.is_turned-is_turned.result)
    c.is_early_move.ensures in
    let home =
    ap (λ b. reads c.args.pass (is_early_step moved.step) b c.is_turned-is_turned.result)
    c.is_at-is_home.ensures in
    let turned =
    ap (reads c.args.pass (is_early_step moved.step) (is_at c.home-home.result c.thread.result))
    c.is_turned-is_turned.ensures in
    let is_read_there = sym (c.reads.ensures ∙ early ∙ home ∙ turned ∙ told) ∙ c.if-reads.true in
    come_read c.args.pass run.records run.family.tasks moved.index task moved.at c.nature.result moved.step
    moves c.args.self.now c.go_on.new.self c.run.ensures.is_run.family.makers.apart stands
    (c.nature.ensures task stands) is_read_there c.go_on.ensures.states c.go_on.ensures.refused
    c.go_on.ensures.marks come

pub returns-clause-come : goal.returns-clause-come
returns-clause-come c = λ task stands moves come.
    let run = c.args.origins.now in
    let moved = c.args.moved in
    let told =
    read_told c.args.pass run task moved.at moved.index moved.step c.home-home.result c.thread.result
    c.requires.moves stands (c.home-home.ensures task stands)
    (rw c.run.ensures.value at c.thread.ensures) in
    let early =
    ap (λ b. reads c.args.pass b c.is_at-is_home.result c.is_turned-is_turned.result)
    c.is_early_move.ensures in
    let home =
    ap (λ b. reads c.args.pass (is_early_step moved.step) b c.is_turned-is_turned.result)
    c.is_at-is_home.ensures in
    let turned =
    ap (reads c.args.pass (is_early_step moved.step) (is_at c.home-home.result c.thread.result))
    c.is_turned-is_turned.ensures in
    let is_read_there = sym (c.reads.ensures ∙ early ∙ home ∙ turned ∙ told) ∙ c.if-reads.false in
    come_unread c.args.pass run.records run.family.tasks task moved.at moved.step moves c.args.self.now
    is_read_there come
