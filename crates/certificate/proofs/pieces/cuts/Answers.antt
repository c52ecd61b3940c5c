use Rattle.std.proofs.Common.{◌≡◌, ◌∷◌, ◌++◌, [], List, ℕ, length, refl, arith, ap, ◌∙◌, length-append}
use Rattle.certificate.proofs.BlockLemmas.{ArePieces-push, IsPiece-rest}
use Rattle.certificate.proofs.pieces.cuts.Goals as goal

pub pieces-preserved : goal.pieces-preserved
pieces-preserved c =
    let now = c.pieces.invariant in
    let piece = c.next_cut-start.ensures c.requires.whole in
    record {
      within = piece.high;
      rest = now.rest ++ c.next_cut-start.result ∷ [];
      parts =
          c.in_ok-push-2.ensures.items ∙ ap (λ (xs : List ℕ). xs ++ c.next_cut-start.result ∷ []) now.parts;
      count = omega (arith, length-append now.rest (c.next_cut-start.result ∷ []), now.count);
      pieces =
          ArePieces-push c.args.text.now 0 now.rest c.pieces.start c.next_cut-start.result now.pieces piece;
    }

pub returns-clause-cuts : goal.returns-clause-cuts
returns-clause-cuts c =
    let now = c.pieces.invariant in
    let all : c.push-2.new.self.items ≡ 0 ∷ (now.rest ++ length c.args.text.now ∷ []) =
    c.in_ok-push-3.ensures.items ∙ ap (λ (xs : List ℕ). xs ++ length c.args.text.now ∷ []) now.parts in
    rw all (
      refl,
      ArePieces-push c.args.text.now 0 now.rest c.pieces.start (length c.args.text.now) now.pieces
          (IsPiece-rest c.args.text.now c.pieces.start c.requires.whole now.within),
    )

pub returns-clause-few : goal.returns-clause-few
returns-clause-few c =
    let now = c.pieces.invariant in
    let all : c.push-2.new.self.items ≡ 0 ∷ (now.rest ++ length c.args.text.now ∷ []) =
    c.in_ok-push-3.ensures.items ∙ ap (λ (xs : List ℕ). xs ++ length c.args.text.now ∷ []) now.parts in
    omega (
      arith,
      ap length all,
      length-append now.rest (length c.args.text.now ∷ []),
      now.count,
      c.pieces-test.false,
      c.requires.count,
    )
