use Rattle.std.proofs.Common.{◌≡◌, take}
use Rattle.ompt_events.proofs.claim_path.ClaimPathPartialEq.eq.Given as goal

-- the paths agree so far
abbrev pub invariant-numbers : goal.invariant-numbers
invariant-numbers l = take l.at l.self ≡ take l.at l.other
