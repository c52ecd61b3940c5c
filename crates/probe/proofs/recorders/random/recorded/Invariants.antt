use Rattle.std.proofs.Common.{◌≡◌, length, All}
use Rattle.probe.proofs.recorders.random.recorded.Given as goal

-- the recorders are of the room's ledger
abbrev pub invariant-done : goal.invariant-done
invariant-done g l = All (λ r. r.ledger ≡ g.L.Room.ledger) l.recorders.items

abbrev pub decreases-done : goal.decreases-done
decreases-done g l = length l.done.items
