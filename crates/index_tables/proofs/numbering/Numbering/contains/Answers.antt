use Rattle.index_tables.proofs.NumberingLemmas.{index_known}
use Rattle.index_tables.proofs.numbering.Numbering.contains.Goals as goal

pub returns : goal.returns
returns c =
    rw c.is_some.ensures (index_known c.args.self.now c.args.id c.index_of.result c.index_of.ensures)
