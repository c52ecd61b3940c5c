use Rattle.online.proofs.RegionLemmas.{regions_all}
use Rattle.online.proofs.regions.Regions.are_begun.Goals as goal

pub returns : goal.returns
returns c empty rs are = regions_all rs c.args.self.now (c.is_empty.ensures.0 empty) are
