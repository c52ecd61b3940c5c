use Rattle.std.proofs.Common.{◌∷◌, ◌++◌, List, arith, ◌∙◌, subst}
use Rattle.std.proofs.lemmas.Result.{err_from_is_err_and}
use Rattle.std.specs.Vec.Iter.{into_iter_items}
use Rattle.certificate.specs.declared.pieces.Piece.{Piece}
use Rattle.certificate.specs.Pieces.{AreJudged}
use Rattle.certificate.proofs.JoinLemmas.{Joins, Joins-next, Joins-piece}
use Rattle.certificate.proofs.ahead.join.Goals as goal

pub pieces-preserved : goal.pieces-preserved
pieces-preserved g c =
    let now = c.pieces.invariant in
    let call = c.in_ok-add.ensures in
    let judged : AreJudged c.pieces.kept.version (c.in-Some.piece ∷ into_iter_items c.next.new.self)
    now.bytes =
    subst (λ (ps : List Piece). AreJudged c.pieces.kept.version ps now.bytes) c.in-Some.ensures.items
    now.judged in
    record {
      bytes = judged.1;
      judged = rw call.version judged.4;
      joins = λ all whole.
          Joins-piece c.args.line.now c.args.kept.now all c.pieces.line c.add.new.line c.pieces.kept
          c.add.new.kept c.in-Some.piece (into_iter_items c.next.new.self) call.version call.lines
          call.judged
          (subst
          (λ (ps : List Piece). Joins c.args.line.now c.args.kept.now all c.pieces.line c.pieces.kept ps)
          c.in-Some.ensures.items (now.joins all whole));
      later = omega (arith, now.later, call.line.0);
      last = call.line.1;
      counted = call.counted;
      version = call.version ∙ now.version;
    }

pub returns-in_err-add-clause-judged : goal.returns-in_err-add-clause-judged
returns-in_err-add-clause-judged g c =
    let p = err_from_is_err_and c.from_residual.result c.from_residual.ensures.1 in
    rw (p.1, p.2) (λ bytes more known left room whole few now.
    let next =
    Joins-next c.args.line.now c.args.kept.now bytes c.pieces.line c.pieces.kept c.in-Some.piece
    (into_iter_items c.next.new.self) more known left room
    (subst (λ (ps : List Piece). Joins c.args.line.now c.args.kept.now bytes c.pieces.line c.pieces.kept ps)
    c.in-Some.ensures.items (c.pieces.invariant.joins bytes whole))
    few now in
    c.in_err-add.ensures.judged next.0 (next.1 ++ more) known left room next.2 next.3 next.4)
