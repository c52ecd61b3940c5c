use Rattle.std.proofs.Common.{◌≡◌, take}
use Rattle.ompt_events.proofs.claim_path.ClaimPath.to_path.Given as goal

-- the numbers so far
abbrev pub invariant-numbers : goal.invariant-numbers
invariant-numbers l = l.numbers.items ≡ take l.at l.self
