use Rattle.std.proofs.Common.{◌≡◌, ◌+◌, ◌++◌, [], ◌≤◌, List, ℕ, Some, None, length, drop, arith, rules, refl}
use Rattle.std.proofs.Common.{sym, ap, ◌∙◌, subst, length-append, length-drop}
use Rattle.std.proofs.lemmas.Result.{err_from_is_err_and}
use Rattle.lines.specs.declared.cause.ReadCause.TheVariants.{Memory}
use Rattle.certificate.specs.declared.pieces.Piece.{Piece}
use Rattle.certificate.specs.Limits.{newest_version}
use Rattle.certificate.specs.Pieces.{AreJudged}
use Rattle.certificate.specs.ReadingOn.{IsLineCounted}
use Rattle.certificate.specs.Windows.{LineFeedAt}
use Rattle.certificate.proofs.BlockLemmas.{whole_drop}
use Rattle.lines.proofs.RecordLemmas.{ok_not_err}
use Rattle.certificate.proofs.PieceLemmas.{begins_long, long_line, header_taken, header_fault}
use Rattle.certificate.proofs.AheadLemmas.{waits_first, whole_none, ended_step}
use Rattle.certificate.proofs.reading_on.begin.Goals as goal

pub returns-in-Some-2-clause-after : goal.returns-in-Some-2-clause-after
returns-in-Some-2-clause-after g c =
    λ known left room waits.
    let text = c.args.front.now.waiting in
    let old = c.args.ahead.now in
    let at : LineFeedAt text (Some c.in-Some.len) = rw c.bytes-text.ensures.bytes at c.in-Some.ensures in
    let first = waits_first known left room text old c.requires.pieces waits in
    long_line known old.line old.kept text old.block.waiting left
    (begins_long text c.in-Some.len at (omega (arith, c.if-len-le-MAX_LINE.false))) first.between

pub returns-in-None-clause-after : goal.returns-in-None-clause-after
returns-in-None-clause-after g c =
    λ known left room waits.
    let text = c.args.front.now.waiting in
    let old = c.args.ahead.now in
    let none : LineFeedAt text None = rw c.bytes-text.ensures.bytes at c.in-None.ensures in
    let empty : text ≡ [] = whole_none text c.requires.whole none in
    let all : text ++ old.block.waiting ≡ old.block.waiting =
    ap (λ (xs : List ℕ). xs ++ old.block.waiting) empty in
    let first = waits_first known left room text old c.requires.pieces waits in
    let between = rw (all, c.requires.line) at first.between in
    let few : length old.block.waiting ≤ room = rw all at first.few in
    ended_step known left room 1 old.kept text old c.end.result c.requires.line refl c.end.ensures.later
    (c.end.ensures.after known old.kept old.block.waiting room left between (sym c.len.ensures.count)
    c.requires.none few waits.end)

pub returns-in_err-take_header-clause-after : goal.returns-in_err-take_header-clause-after
returns-in_err-take_header-clause-after g c =
    let p = err_from_is_err_and c.from_residual.result c.from_residual.ensures.1 in
    let text = c.args.front.now.waiting in
    let old = c.args.ahead.now in
    let at : LineFeedAt text (Some c.in-Some.len) = rw c.bytes-text.ensures.bytes at c.in-Some.ensures in
    rw (p.1, p.2) (λ known left room waits.
    let first = waits_first known left room text old c.requires.pieces waits in
    header_fault known old.line room old.kept c.in_err-take_header.field-0.0 text old.block.waiting
    c.in-Some.len left c.requires.line at c.if-len-le-MAX_LINE.true first.few
    (rw c.bytes-text.ensures.bytes at c.in_err-take_header.ensures) first.between)

pub returns-clause-after : goal.returns-clause-after
returns-clause-after g c =
    λ known left room waits.
    let text = c.args.front.now.waiting in
    let old = c.args.ahead.now in
    let len = c.in-Some.len in
    let at : LineFeedAt text (Some c.in-Some.len) = rw c.bytes-text.ensures.bytes at c.in-Some.ensures in
    let first = waits_first known left room text old c.requires.pieces waits in
    let there =
    header_taken known old.line old.kept c.take_header.new.kept text old.block.waiting len left
    c.requires.line at c.if-len-le-MAX_LINE.true
    ((rw c.bytes-text.ensures.bytes at c.in_ok-take_header.ensures) (ok_not_err _ Memory))
    first.between in
    let few : length (drop (len + 1) text ++ old.block.waiting) ≤ room =
    omega (
      arith,
      first.few,
      length-append text old.block.waiting,
      length-append (drop (len + 1) text) old.block.waiting,
      length-drop (len + 1) text,
    ) in
    record {
      bytes = [];
      judged =
          subst (λ (ps : List Piece). AreJudged c.take_header.new.kept.version ps []) (sym c.requires.pieces)
          refl;
      between = rw c.skip.ensures.waiting there;
      few = rw c.skip.ensures.waiting few;
      end = waits.end;
    }

pub returns-clause-ready : goal.returns-clause-ready
returns-clause-ready g c =
    let counted : IsLineCounted 2 c.take_header.new.kept = search rules in
    let version : c.take_header.new.kept.version ≤ newest_version = search rules in
    record {
      in_hand = record {
        low = omega arith;
        high = omega arith;
        counted = counted;
        version = version;
        pending = record {
          bytes = [];
          judged =
              subst (λ (ps : List Piece). AreJudged c.take_header.new.kept.version ps [])
              (sym c.requires.pieces) refl;
          some = λ some. absurd (omega (arith, ap length c.requires.pieces));
        };
        met = c.requires.met;
      };
      can_ask = c.requires.can_ask;
      whole =
          rw c.skip.ensures.waiting
          (whole_drop c.args.front.now.waiting (c.in-Some.len + 1) c.requires.whole);
      none = c.requires.none;
      limit = c.skip.ensures.limit ∙ c.requires.limit;
      long = omega (arith, c.skip.ensures.limit, c.requires.long);
      rests = c.requires.rests;
    }
