use Rattle.std.proofs.Common.{length}
use Rattle.scripts.proofs.running.+run_below.Given as goal

abbrev pub decreases-run_below : goal.decreases-run_below
decreases-run_below g l = length l.seats.items
