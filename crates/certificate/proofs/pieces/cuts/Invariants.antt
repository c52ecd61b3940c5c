use Rattle.std.proofs.Common.{◌≡◌, ◌≤◌, ◌+◌, ◌∷◌, List, ℕ, length}
use Rattle.certificate.specs.Blocks.{ArePieces}
use Rattle.certificate.proofs.pieces.cuts.Given as goal

abbrev pub invariant-pieces : goal.invariant-pieces
invariant-pieces l = record {
  within : l.start ≤ length l.text;
  rest : List ℕ;
  parts : l.cuts.items ≡ 0 ∷ rest;
  count : length rest + 1 ≡ l.counter;
  pieces : ArePieces l.text 0 rest l.start;
}
