use Rattle.std.proofs.Common.{sym, arith}
use Rattle.online.proofs.missed.in_team.Goals as goal

pub returns : goal.returns
returns c =
    let (some, less) = c.in_ok-number.ensures in
    (c.in_ok-kin.kin.now, sym c.in_ok-kin.ensures.value, c.in_ok-kin-2.was, omega (arith, some, less))
