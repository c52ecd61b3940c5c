use Rattle.std.proofs.Common.{◌≡◌, take}
use Rattle.index_tables.specs.Seeded.{digest_of}
use Rattle.index_tables.proofs.seeded.Seeded.of.Given as goal

-- the ids so far
abbrev pub invariant-loop-id : goal.invariant-loop-id
invariant-loop-id l = l.digest ≡ digest_of (take l.id-index l.ids)
