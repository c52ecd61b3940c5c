use Rattle.std.proofs.Common.{◌≡◌, ◌≤◌, ◌+◌, ℕ, List}
use Rattle.std.specs.Vec.Iter.{into_iter_items, into_iter_len}
use Rattle.ompt_events.specs.Limits.{max_records}
use Rattle.certificate.specs.Pieces.{AreJudged}
use Rattle.certificate.specs.ReadingOn.{IsLineCounted}
use Rattle.certificate.proofs.JoinLemmas.{Joins}
use Rattle.certificate.proofs.ahead.join.Given as goal

abbrev pub invariant-pieces : goal.invariant-pieces
invariant-pieces g l = record {
  bytes : List ℕ;
  judged : AreJudged l.kept.version (into_iter_items l.rest) bytes;
  joins : (all : List ℕ) → AreJudged l.fn.kept.version l.fn.pieces.items all
      → Joins l.fn.line l.fn.kept all l.line l.kept (into_iter_items l.rest);
  later : l.fn.line ≤ l.line;
  last : l.line ≤ max_records + 2;
  counted : IsLineCounted l.line l.kept;
  version : l.kept.version ≡ l.fn.kept.version;
}

abbrev pub decreases-pieces : goal.decreases-pieces
decreases-pieces g l = into_iter_len l.rest
