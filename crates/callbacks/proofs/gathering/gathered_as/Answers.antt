use Rattle.callbacks.specs.Gathered.{out_of_memory}
use Rattle.callbacks.proofs.TraceLemmas.{refused_trace}
use Rattle.callbacks.proofs.gathering.gathered_as.Goals as goal

pub returns-in-Ok-clause-fault : goal.returns-in-Ok-clause-fault
returns-in-Ok-clause-fault c =
    refused_trace c.joined.result c.args.nests c.args.closed c.joined.ensures.memory
    (out_of_memory c.in-Ok.ensures.together c.in-Ok.ensures.within)
