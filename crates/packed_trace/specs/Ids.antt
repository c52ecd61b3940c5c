-- Ids in 32 and in 64 bits.
use Rattle.packed_trace.specs.declared.ids.Ids.{Ids}
use Rattle.packed_trace.specs.declared.ids.NarrowIds.{NarrowIds}

-- the same ids, with room for 64 bits
abbrev pub widened : NarrowIds → Ids
widened ids = record { first = ids.first; second = ids.second }
