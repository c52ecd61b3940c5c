use Rattle.std.proofs.Common.{rules, ◌≡◌, true}
use Rattle.certificate.proofs.AheadLemmas.{HasMet-more}
use Rattle.certificate.proofs.ahead.Ahead.refill.Goals as goal

pub returns-clause-met : goal.returns-clause-met
returns-clause-met g c =
    let asks : c.args.self.now.asks ≡ true = search rules in
    let can = c.requires.can_ask asks in
    HasMet-more c.args.self.now _ (g.S.Source.agains c.args.source.now)
    (g.S.Source.agains c.fill-self.new.source) (g.S.Source.breaks c.args.source.now)
    (g.S.Source.breaks c.fill-self.new.source) can.0 c.fill-self.ensures.turns c.fill-self.ensures.breaks
