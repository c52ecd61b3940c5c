use Rattle.std.proofs.Common.{sym}
use Rattle.online.proofs.kins.is_family_over.Goals as goal

pub returns-in-Some : goal.returns-in-Some
returns-in-Some c = λ over.
    let (root, free, none, most) = c.is_over_alone.ensures over in
    (c.in-Some.kin.now, sym c.in-Some.ensures.value, root, free, none, most)
