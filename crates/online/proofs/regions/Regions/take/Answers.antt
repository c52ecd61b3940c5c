use Rattle.std.proofs.Common.{◌≡◌, ◌∙◌, List, [], ◌∷◌, ◌++◌, sym, ap, IsTrue}
use Rattle.std.proofs.lemmas.Result.{IfOk-weaker}
use Rattle.ompt_events.specs.declared.records.Record.{Record}
use Rattle.ompt_events.specs.Records.{forked, region_named}
use Rattle.online.specs.Watches.{AreRegionsOf, BeginsNewRegion, BeginsOne}
use Rattle.online.proofs.RegionLemmas.{regions_named, regions_none, regions_begun}
use Rattle.online.proofs.regions.Regions.take.Goals as goal

pub returns-in-Some : goal.returns-in-Some
returns-in-Some c taken rs r same are =
    regions_named rs r c.args.self.now c.name.new.self c.in-Some.parallel are
    (ap region_named same ∙ sym c.region_named.ensures ∙ c.in-Some.is) c.in_ok-name.ensures

pub returns-in-Some-forked : goal.returns-in-Some-forked
returns-in-Some-forked c =
    IfOk-weaker c.begin.result
    (λ new. IsTrue new → BeginsOne c.args.self.now c.begin.new.self c.in-Some-forked.parallel)
    (λ taken. IsTrue taken → (rs : List Record) (r : Record) → r.body ≡ c.args.body.now
    → AreRegionsOf rs c.args.self.now
    → BeginsNewRegion rs r × AreRegionsOf (rs ++ r ∷ []) c.begin.new.self)
    (λ new begins is rs r same are.
    regions_begun rs r c.args.self.now c.begin.new.self c.in-Some-forked.field-0-0 c.in-Some-forked.parallel
    are
    (ap forked same ∙ sym c.forked.ensures ∙ c.in-Some-forked.is) (begins is))
    c.begin.ensures

pub returns-in-None : goal.returns-in-None
returns-in-None c taken rs r same are =
    regions_none rs r c.args.self.now are (ap region_named same ∙ sym c.region_named.ensures
    ∙ c.in_default.is)
    (ap forked same ∙ sym c.forked.ensures ∙ c.in-None.is)
