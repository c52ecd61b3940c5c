use Rattle.std.proofs.Common.{◌≡◌, take}
use Rattle.ompt_events.proofs.claim_path.listed.Given as goal

-- the numbers so far
abbrev pub invariant-few : goal.invariant-few
invariant-few l = l.many.items ≡ take l.byte-index l.few
