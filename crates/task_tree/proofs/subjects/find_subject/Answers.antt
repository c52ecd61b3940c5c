use Rattle.std.proofs.Common.{◌∙◌, sym}
use Rattle.task_tree.proofs.SubjectLemmas.{index_small, finds_index, index_contains}
use Rattle.task_tree.proofs.subjects.find_subject.Goals as goal

pub checked-requires : goal.checked-requires
checked-requires c =
    index_small c.args.tasks.now c.in-Some.task c.index_near-index.result c.index_near-index.ensures
    c.requires.few

pub returns-clause-found : goal.returns-clause-found
returns-clause-found c =
    rw (c.checked.ensures.slot, sym c.subject.ensures ∙ c.in-Some.is)
    (finds_index c.args.tasks.now c.in-Some.task c.index_near-index.result c.index_near-index.ensures)

pub returns-clause-known : goal.returns-clause-known
returns-clause-known c = λ yes.
    let known = c.checked.ensures.known yes in (
      known.0,
      rw (sym c.subject.ensures ∙ c.in-Some.is)
          (index_contains c.args.tasks.now c.in-Some.task c.index_near-index.result c.index_near-index.ensures
          known.1),
    )
