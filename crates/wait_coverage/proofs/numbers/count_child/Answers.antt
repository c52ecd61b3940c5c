use Rattle.std.proofs.Common.{◌<◌, ◌^◌, arith, rules}
use Rattle.std.proofs.lemmas.Option.{slice_get_within}
use Rattle.ompt_events.proofs.TreeLemmas.{children_few}
use Rattle.task_tree.specs.Runs.{IsCreation}
use Rattle.teams.proofs.CallLemmas.{read_at}
use Rattle.wait_coverage.proofs.NumberLemmas.{counts_other, counts_more}
use Rattle.wait_coverage.proofs.numbers.count_child.Goals as goal

pub overflow_add-index_mut : goal.overflow_add-index_mut
overflow_add-index_mut c =
    let run = c.args.run.now in
    let parent = c.in-Some.made.parent in
    let made : IsCreation run c.args.at parent c.in-Some.made.child = c.in-Some.ensures in
    let within = slice_get_within run.family.tasks parent made.creator made.creator_indexed in
    let all = c.requires.counts.all in
    let stands =
    read_at c.args.counts.now.items parent c.index_mut.result.now (omega (arith, within, all))
    c.index_mut.ensures.value in
    let count =
    c.requires.counts.each parent made.creator c.index_mut.result.now made.creator_indexed stands in
    let few = children_few run.records made.creator c.args.at in
    let many = c.requires.is_run.trace.few_records in
    let inside = c.requires.within in
    let small : c.index_mut.result.now < 2 ^ 22 = omega (arith, count, few, many, inside) in
    search rules

pub returns-in-Some : goal.returns-in-Some
returns-in-Some c =
    let run = c.args.run.now in
    let parent = c.in-Some.made.parent in
    let made : IsCreation run c.args.at parent c.in-Some.made.child = c.in-Some.ensures in
    let within = slice_get_within run.family.tasks parent made.creator made.creator_indexed in
    let all = c.requires.counts.all in
    let stands =
    read_at c.args.counts.now.items parent c.index_mut.result.now (omega (arith, within, all))
    c.index_mut.ensures.value in
    counts_more run.records c.args.at parent made.creator made.task c.index_mut.result.now run.family.tasks
    c.args.counts.now.items c.requires.is_run.family.makers.apart c.requires.counts
    made.creator_indexed stands made.says

pub returns-in_default : goal.returns-in_default
returns-in_default c =
    counts_other c.args.run.now.records c.args.at c.args.run.now.family.tasks c.args.counts.now.items
    c.requires.counts c.in_default.ensures
