use Rattle.std.proofs.Common.{refl}
use Rattle.bitflags.specs.Sets.{known_from}
use Rattle.ompt_events.proofs.flags.TaskFlags.are_named.Goals as goal

pub returns : goal.returns
unfolding known_from
returns c = refl
