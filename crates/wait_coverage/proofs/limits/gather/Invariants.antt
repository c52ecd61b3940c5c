use Rattle.std.proofs.Common.{ℕ, ◌≡◌, ◌<◌, ◌+◌, length, Some}
use Rattle.std.specs.Option.{option_map_or}
use Rattle.wait_coverage.proofs.ChainLemmas.{IsChainGathered, IsGatheredLeast}
use Rattle.wait_coverage.proofs.limits.gather.Given as goal

-- the nodes passed are at most the limit, the others still ahead
abbrev pub invariant-nodes : goal.invariant-nodes
invariant-nodes l = record {
  gathered : IsChainGathered l.nodes l.fn.head l.begin l.limit l.rest;
  least : IsGatheredLeast l.nodes l.fn.head l.begin l.limit l.rest;
  known : (number : ℕ) → l.rest ≡ Some number → number < length l.nodes;
}

-- each link is to an earlier one
abbrev pub decreases-nodes : goal.decreases-nodes
decreases-nodes l = option_map_or (λ number. number + 1) l.rest 0
