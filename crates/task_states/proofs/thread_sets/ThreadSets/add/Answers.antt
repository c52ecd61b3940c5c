use Rattle.std.proofs.Common.{◌<◌, rules}
use Rattle.task_states.proofs.MisnestingLemmas.{thread_added}
use Rattle.task_states.proofs.thread_sets.ThreadSets.add.Goals as goal

pub returns : goal.returns
returns c =
    let low : c.args.thread < 256 = search rules in
    rw c.from-thread.ensures
    (thread_added c.args.self.now.words.items c.args.task c.args.thread c.index_mut.result.now c.requires low
    (rw c.from-thread.ensures at c.index_mut.ensures.value))
