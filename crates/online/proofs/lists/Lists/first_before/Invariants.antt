use Rattle.std.proofs.Common.{map}
use Rattle.std.specs.Map.Iter.{deref_pair}
use Rattle.online.proofs.FirstLemmas.{IsFirstSoFar}
use Rattle.online.proofs.lists.Lists.first_before.Given as goal

abbrev pub invariant-loop-other : goal.invariant-loop-other
invariant-loop-other l = IsFirstSoFar l.self l.replay l.own l.first (map deref_pair l.yielded)
