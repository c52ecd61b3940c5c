use Rattle.std.proofs.lemmas.Bool.{false≢true}
use Rattle.std.proofs.Common.{◌∙◌, sym}
use Rattle.task_states.proofs.RootLemmas.{root_told}
use Rattle.task_states.proofs.origins.home_at.Goals as goal

pub returns : goal.returns
returns c = λ task stands.
    let run = c.args.schedules.now in
    let same = c.run-run.ensures.value in
    root_told run.records run.family.tasks c.args.index task c.made_at.result c.thread.result
    c.requires.current c.run-run.ensures.is_run.family.once (rw same at c.made_at.ensures) stands
    (λ explicit.
    false≢true
    (sym c.if-is_explicit.false ∙ ((rw same at c.is_explicit.ensures) task stands).1 explicit))
    (rw same at c.thread.ensures)
