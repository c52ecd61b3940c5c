use Rattle.std.proofs.Common.{◌≡◌, sym}
use Rattle.index_tables.specs.Numbering.{AreApart, IsSeededBy}
use Rattle.index_tables.proofs.NumberingLemmas.{position_is}
use Rattle.index_tables.proofs.numbering.Numbering.index_of.Goals as goal

pub returns-in-Hashed : goal.returns-in-Hashed
returns-in-Hashed c =
    let known : AreApart c.in-Hashed.ids.keys × IsSeededBy c.in-Hashed.ids c.in-Hashed.ids.keys =
    rw c.in-Hashed.is at c.self.invariant in
    let same : c.in-Hashed.ids.keys ≡ c.args.self.now = rw c.in-Hashed.is at c.self.view_is in
    rw (c.get_index_of.ensures.index, sym same) (position_is c.in-Hashed.ids.keys c.args.id known.0)
