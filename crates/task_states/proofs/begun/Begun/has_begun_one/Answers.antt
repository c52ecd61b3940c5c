use Rattle.std.proofs.Common.{◌<◌, rules, length}
use Rattle.task_states.proofs.MisnestingLemmas.{forked_one}
use Rattle.task_states.proofs.begun.Begun.has_begun_one.Goals as goal

pub returns-in-Some : goal.returns-in-Some
returns-in-Some c =
    let run = c.args.run.now in
    let low : c.thread.result < 256 = search rules in
    let inside : c.in-Some.index < length run.family.tasks = search rules in
    let both =
    forked_one run c.args.at c.in-Some.index c.thread.result c.args.self.now.threads.words.items
    c.requires.begun.threads inside low c.thread.ensures in
    rw c.in-Some.is
    (λ is. both.0 (c.contains.ensures.0 is), λ has. c.contains.ensures.1 (both.1 has))
