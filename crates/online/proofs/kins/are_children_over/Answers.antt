use Rattle.std.proofs.Common.{sym}
use Rattle.online.proofs.kins.are_children_over.Goals as goal

pub returns-in-Some : goal.returns-in-Some
returns-in-Some c = λ over.
    let (none, most) = c.is_over.ensures.0 over in
    (c.in-Some.kin.now, sym c.in-Some.ensures.value, none, most)
