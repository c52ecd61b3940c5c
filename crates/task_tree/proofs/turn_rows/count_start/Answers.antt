use Rattle.std.proofs.Common.{arith, rules}
use Rattle.std.proofs.lemmas.Option.{slice_get_within}
use Rattle.task_tree.proofs.TurnRowLemmas.{count_low}
use Rattle.task_tree.proofs.turn_rows.count_start.Goals as goal

pub overflow_add-index_mut : goal.overflow_add-index_mut
overflow_add-index_mut c =
    let start = c.in-Some.ensures in
    let inside = slice_get_within c.args.family.now.tasks c.in-Some.begin.index start.task start.indexed in
    let low =
    count_low c.args.counts.now.items c.in-Some.begin.index c.index_mut.result.now
    (omega (arith, inside, c.requires.all)) c.index_mut.ensures.value in
    let few = c.requires.few in
    let within = c.requires.within in
    let short = c.requires.short in
    search rules
