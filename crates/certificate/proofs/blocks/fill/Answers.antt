use Rattle.std.proofs.Common.{◌≡◌, ◌<◌, length, refl, arith, ap, ◌∙◌}
use Rattle.std.proofs.lemmas.Result.{err_from_is_err_and}
use Rattle.certificate.proofs.WindowLemmas.{Keeps-itself, Keeps-both}
use Rattle.certificate.proofs.CountLemmas.{TakesTurns-none, TakesTurns-more, TakesTurns-left}
use Rattle.certificate.proofs.BlockLemmas.{below_bound}
use Rattle.certificate.proofs.blocks.fill.Goals as goal

pub asks-init : goal.asks-init
asks-init g c = record {
  bytes = Keeps-itself _;
  limit = refl;
  turns = TakesTurns-none _ _ c.requires;
  left = c.requires;
  breaks = refl;
}

pub make_room-requires : goal.make_room-requires
make_room-requires g c = below_bound _ _ _ c.is_full.ensures.few c.is_full.ensures.full c.asks-test.true

pub returns-in_err-read-clause-turns : goal.returns-in_err-read-clause-turns
returns-in_err-read-clause-turns g c =
    let p = err_from_is_err_and c.from_residual.result c.from_residual.ensures.1 in
    rw (p.1, p.2)
    (TakesTurns-more _ c.args.turns.now c.asks.turns c.read.new.turns (g.S.Source.agains c.args.source.now)
    (g.S.Source.agains c.asks.source) (g.S.Source.agains c.read.new.source) c.asks.invariant.turns
    c.in_err-read.ensures.turns)

pub returns-then-branch-eq0-clause-turns : goal.returns-then-branch-eq0-clause-turns
returns-then-branch-eq0-clause-turns g c =
    TakesTurns-more _ c.args.turns.now c.asks.turns c.read.new.turns (g.S.Source.agains c.args.source.now)
    (g.S.Source.agains c.asks.source) (g.S.Source.agains c.read.new.source) c.asks.invariant.turns
    c.in_ok-read.ensures.turns

pub asks-smaller : goal.asks-smaller
asks-smaller g c =
    let below : length c.asks.block.waiting < c.asks.block.limit =
    below_bound _ _ _ c.is_full.ensures.few c.is_full.ensures.full c.asks-test.true in
    let limit = c.asks.invariant.limit in
    omega (arith, c.in_ok-read.ensures.more, ap length c.in-Ok.ensures.waiting, c.if-branch-eq0.false)

pub asks-preserved : goal.asks-preserved
asks-preserved g c =
    let now = c.asks.invariant in
    let turns =
    TakesTurns-more _ c.args.turns.now c.asks.turns c.read.new.turns (g.S.Source.agains c.args.source.now)
    (g.S.Source.agains c.asks.source) (g.S.Source.agains c.read.new.source) now.turns
    c.in_ok-read.ensures.turns in
    let asked : g.S.Source.breaks c.read.new.source ≡ g.S.Source.breaks c.asks.source =
    c.in_ok-read.ensures.breaks in
    record {
      bytes = Keeps-both _ _ _ now.bytes (rw c.in-Ok.ensures.waiting at c.in_ok-read.ensures.bytes);
      limit = c.in_ok-read.ensures.limit ∙ c.in-Ok.ensures.limit ∙ now.limit;
      turns = turns;
      left = TakesTurns-left _ _ _ _ turns;
      breaks = asked ∙ now.breaks;
    }
