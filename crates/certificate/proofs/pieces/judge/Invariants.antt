use Rattle.std.proofs.Common.{◌≡◌, ◌≤◌, ◌-◌, None, length, drop}
use Rattle.certificate.specs.Pieces.{BeginsWithRecords}
use Rattle.certificate.proofs.pieces.judge.Given as goal

abbrev pub invariant-lines : goal.invariant-lines
invariant-lines l = record {
  within : l.start ≤ length l.text;
  read : BeginsWithRecords l.version l.piece.records.items (drop l.start l.text) l.text;
  fault : l.piece.fault ≡ None;
}

abbrev pub decreases-lines : goal.decreases-lines
decreases-lines l = length l.text - l.start
