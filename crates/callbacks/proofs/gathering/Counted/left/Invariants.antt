use Rattle.std.proofs.Common.{◌≡◌, ◌+◌, take}
use Rattle.callbacks.specs.Gathered.{gathered, count_of}
use Rattle.callbacks.proofs.gathering.Counted.left.Given as goal

abbrev pub invariant-buffers : goal.invariant-buffers
invariant-buffers l = l.left + count_of l.self (gathered (take l.index l.buffers)) ≡ l.limit
