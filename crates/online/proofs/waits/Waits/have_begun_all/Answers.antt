use Rattle.online.specs.Kept.{kept_by, teams_by}
use Rattle.online.proofs.BarrierEndLemmas.{barriers_begun}
use Rattle.online.proofs.waits.Waits.have_begun_all.Goals as goal

pub returns : goal.returns
returns c = λ yes rs waits is.
    barriers_begun rs (kept_by c.args.self.now) (teams_by c.args.self.now) is (c.have_begun_all.ensures yes)
