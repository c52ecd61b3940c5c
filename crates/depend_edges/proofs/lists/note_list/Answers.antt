use Rattle.depend_edges.proofs.ListedLemmas.{listed_more}
use Rattle.depend_edges.proofs.lists.note_list.Goals as goal

pub returns-in-Some : goal.returns-in-Some
returns-in-Some c =
    let is = c.len-records.ensures.is_run.family in
    let list = c.in-Some.ensures in
    rw c.some.ensures
    (listed_more c.args.run.now.records c.args.at c.in-Some.task list.task _ c.args.run.now.family.tasks
    c.args.lists.now.items is.makers.apart c.requires.once list.says list.indexed c.requires.lists)
