use Rattle.task_states.proofs.OriginLemmas.{natures_are}
use Rattle.task_states.proofs.origins.find_natures.Goals as goal

pub returns-clause-natures : goal.returns-clause-natures
returns-clause-natures c =
    natures_are c.args.run.now.records c.args.run.now.family.tasks c.loop-index.index
    c.loop-index.natures.items c.loop-index.invariant.filled
    (rw (← c.loop-index.invariant.count) c.loop-index-test.false)
