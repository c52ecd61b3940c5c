use Rattle.std.proofs.Common.{arith}
use Rattle.index_tables.proofs.DenseLemmas.{index_past}
use Rattle.index_tables.proofs.dense.Slots.index_of.Goals as goal

pub returns-else-distance-len : goal.returns-else-distance-len
returns-else-distance-len c = λ ids placed.
    let slots = c.args.self.now in
    index_past ids slots.least c.args.id slots.slots.items placed (omega arith) (omega arith)
