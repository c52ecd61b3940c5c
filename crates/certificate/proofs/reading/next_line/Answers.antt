use Rattle.std.proofs.Common.{Some, ◌≡◌, refl, arith, ◌∙◌, ap, length}
use Rattle.std.proofs.lemmas.Result.{err_from_is_err_and}
use Rattle.std.specs.Prelude.{Ok}
use Rattle.certificate.proofs.WindowLemmas.{Keeps-itself, Keeps-both}
use Rattle.certificate.proofs.CountLemmas.{TakesTurns-none, TakesTurns-more, TakesTurns-other}
use Rattle.certificate.proofs.CountLemmas.{TakesTurns-left}
use Rattle.certificate.proofs.reading.next_line.Goals as goal

pub search-init : goal.search-init
search-init g c = record {
  bytes = Keeps-itself _;
  turns = TakesTurns-none _ _ c.requires;
  left = c.requires;
  breaks = refl;
}

pub returns-else-len-eq0-clause-fault : goal.returns-else-len-eq0-clause-fault
returns-else-len-eq0-clause-fault g c =
    let window : c.fill.new.self ≡ c.line_feed.new.self =
    c.in_ok-fill.ensures.none (ap Ok c.if-branch-eq0.true) in
    let same : c.fill.new.self ≡ c.search.window = window ∙ c.line_feed.ensures.same in (
      omega arith,
      omega (arith, ap length window),
      rw same c.in-None.ensures.first,
      c.in_ok-fill.ensures.end (ap Ok c.if-branch-eq0.true),
    )

pub returns-in_err-fill-clause-turns : goal.returns-in_err-fill-clause-turns
returns-in_err-fill-clause-turns g c =
    let p = err_from_is_err_and c.from_residual.result c.from_residual.ensures.1 in
    rw (p.1, p.2)
    (TakesTurns-more (Some c.in_err-fill.field-0.0) c.args.turns.now c.search.turns c.fill.new.turns
    (g.S.Source.agains c.args.source.now) (g.S.Source.agains c.search.source)
    (g.S.Source.agains c.fill.new.source) c.search.invariant.turns c.in_err-fill.ensures.turns)

pub returns-then-len-eq0-clause-turns : goal.returns-then-len-eq0-clause-turns
returns-then-len-eq0-clause-turns g c =
    TakesTurns-more _ c.args.turns.now c.search.turns c.fill.new.turns (g.S.Source.agains c.args.source.now)
    (g.S.Source.agains c.search.source) (g.S.Source.agains c.fill.new.source) c.search.invariant.turns
    c.in_ok-fill.ensures.turns

pub returns-else-len-eq0-clause-turns : goal.returns-else-len-eq0-clause-turns
returns-else-len-eq0-clause-turns g c =
    TakesTurns-other _ _ _ _ _ (λ same. cc)
    (TakesTurns-more _ c.args.turns.now c.search.turns c.fill.new.turns
    (g.S.Source.agains c.args.source.now) (g.S.Source.agains c.search.source)
    (g.S.Source.agains c.fill.new.source) c.search.invariant.turns c.in_ok-fill.ensures.turns)

pub search-preserved : goal.search-preserved
search-preserved g c =
    let turns =
    TakesTurns-more _ c.args.turns.now c.search.turns c.fill.new.turns
    (g.S.Source.agains c.args.source.now) (g.S.Source.agains c.search.source)
    (g.S.Source.agains c.fill.new.source) c.search.invariant.turns c.in_ok-fill.ensures.turns in
    let asked : g.S.Source.breaks c.fill.new.source ≡ g.S.Source.breaks c.search.source =
    c.in_ok-fill.ensures.breaks in
    let before : g.S.Source.breaks c.search.source ≡ g.S.Source.breaks c.args.source.now =
    c.search.invariant.breaks in
    record {
      bytes =
          Keeps-both _ _ _ c.search.invariant.bytes
          (rw c.line_feed.ensures.same at c.in_ok-fill.ensures.bytes);
      turns = turns;
      left = TakesTurns-left _ _ _ _ turns;
      breaks = asked ∙ before;
    }
