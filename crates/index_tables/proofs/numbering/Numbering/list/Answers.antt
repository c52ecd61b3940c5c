use Rattle.std.proofs.Common.{◌≡◌, sym}
use Rattle.index_tables.specs.Dense.{AreIndexed}
use Rattle.index_tables.proofs.DenseLemmas.{apart_indexed}
use Rattle.index_tables.proofs.numbering.Numbering.list.Goals as goal

pub returns-in-Close-clause-apart : goal.returns-in-Close-clause-apart
returns-in-Close-clause-apart c =
    let close = c.in-Close.close in
    let known : AreIndexed close.ids.items close.indices = rw c.in-Close.is at c.self.invariant in
    let same : close.ids.items ≡ c.args.self.now = rw c.in-Close.is at c.self.view_is in
    rw (sym same) (apart_indexed close.ids.items close.indices known)
