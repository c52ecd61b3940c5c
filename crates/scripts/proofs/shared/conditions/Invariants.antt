use Rattle.std.proofs.Common.{◌≡◌, length}
use Rattle.scripts.proofs.shared.conditions.Given as goal

-- so many conditions are made
abbrev pub invariant-loop : goal.invariant-loop
invariant-loop l = length l.conditions.items ≡ l.counter
