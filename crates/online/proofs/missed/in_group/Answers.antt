use Rattle.std.proofs.Common.{refl, sym}
use Rattle.online.proofs.missed.in_group.Goals as goal

pub returns : goal.returns
returns c = (refl, c.in_ok-get.field-0.now, sym c.in_ok-get.ensures.value, c.place-place.ensures.group)
