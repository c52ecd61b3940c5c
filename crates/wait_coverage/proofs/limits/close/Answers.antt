use Rattle.std.proofs.Common.{refl, ap, arith}
use Rattle.std.proofs.lemmas.Option.{slice_get_within}
use Rattle.std.proofs.Math.ListN.{set}
use Rattle.ompt_events.specs.declared.names.Endpoint.TheVariants.{End}
use Rattle.ompt_events.specs.declared.names.SyncKind.TheVariants.{Taskgroup}
use Rattle.ompt_events.specs.declared.names.WaitKind.TheVariants.{Taskgroup as ForTaskgroup}
use Rattle.teams.proofs.CallLemmas.{read_at}
use Rattle.wait_coverage.specs.Done.{records_of, tasks_of}
use Rattle.wait_coverage.proofs.KindLemmas.{taskgroup_says}
use Rattle.wait_coverage.proofs.LimitLemmas.{closed_noted, ended_region, unended_noted}
use Rattle.wait_coverage.proofs.limits.close.Goals as goal

pub returns-in_default : goal.returns-in_default
returns-in_default c =
    let event = c.requires.event in
    let says =
    taskgroup_says c.args.done.now.teams.run c.args.at c.args.event.task ForTaskgroup End event refl in
    unended_noted c.args.done.now c.args.at event.task c.args.nodes.now c.alone.result c.args.progress.now
    c.requires.noted says c.in_default.ensures c.alone.ensures.alone

pub returns : goal.returns
returns c =
    let done = c.args.done.now in
    let event = c.requires.event in
    let own = c.args.event.task in
    let begin = c.in-Some.begin in
    let heads = c.args.progress.now.heads.items in
    let noted = c.requires.noted in
    let says = taskgroup_says done.teams.run c.args.at own ForTaskgroup End event refl in
    let found = c.in-Some.ensures event.task Taskgroup End says in
    let ends = ended_region (records_of done) c.args.at event.task begin Taskgroup says found in
    let inside = slice_get_within (tasks_of done) own event.task event.indexed in
    let all = noted.chains.all in
    let head = c.index.result.now in
    let stands = read_at heads own head (omega (arith, inside, all)) c.index.ensures in
    let apart = c.run-run.ensures.is_done.teams.run.family.makers.apart in
    closed_noted done c.args.at own event.task begin c.args.nodes.now c.gather-node.result c.args.progress.now
    _
    apart noted ends event.indexed head stands c.gather-node.ensures (ap (set heads own) c.some.ensures) refl
    refl
