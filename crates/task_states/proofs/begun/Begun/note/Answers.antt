use Rattle.std.proofs.Common.{◌≡◌, ◌∙◌, sym}
use Rattle.std.proofs.lemmas.Option.{same_Some}
use Rattle.task_tree.proofs.MakerLemmas.{region_at}
use Rattle.task_states.proofs.MisnestingLemmas.{begun_same, begun_more}
use Rattle.task_states.proofs.begun.Begun.note.Goals as goal

pub returns-in_default : goal.returns-in_default
returns-in_default c =
    begun_same c.args.run.now c.args.at c.args.self.now c.in_default.ensures c.requires.begun

pub returns : goal.returns
returns c =
    let run = c.args.run.now in
    let forks = c.in-Some.ensures in
    let same : forks.parallel ≡ c.in-Some-forked_region.parallel =
    same_Some forks.parallel c.in-Some-forked_region.parallel
    (sym (region_at run.records c.args.at forks.task forks.parallel forks.says)
    ∙ sym c.forked_region.ensures ∙ c.in-Some-forked_region.is) in
    begun_more run c.args.at c.in-Some.task c.thread.result c.in-Some-forked_region.parallel c.args.self.now _
    c.requires.is_run forks same c.thread.ensures c.in_ok-insert.ensures.updates c.insert.ensures.hasher
    c.add.ensures c.requires.begun
