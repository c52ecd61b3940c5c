use Rattle.std.proofs.Common.{sym}
use Rattle.online.proofs.EnrollLemmas.{rosters_stay}
use Rattle.online.proofs.rosters.Rosters.take.Goals as goal

pub returns-in-None : goal.returns-in-None
returns-in-None c = λ yes rs is.
    rosters_stay rs c.args.«record».now c.args.self.now (sym c.in-None.ensures) is
