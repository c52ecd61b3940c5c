-- Blocks of bytes, and how their whole lines are cut into pieces.
use Rattle.std.proofs.Common.{◌≡◌, ◌≢◌, ℕ, zero, suc, ◌+◌, ◌-◌, ◌<◌, ◌≤◌, ◌==◌, Bool, true, false, List, []}
use Rattle.std.proofs.Common.{◌∷◌, ◌++◌, length, take, drop, get_or, Some, arith, refl, sym, ap, ◌∙◌, subst}
use Rattle.std.proofs.Common.{inl, inr, eq-eqb, eqb-true, length-append, length-drop, add-one}
use Rattle.std.specs.Prelude.{slice_range}
use Rattle.std.proofs.lemmas.Bool.{cases_lt}
use Rattle.std.proofs.lemmas.List.{take_all, drop-append-le, drop_all, drop_more, get_or-drop}
use Rattle.certificate.specs.Windows.{LineFeedAt}
use Rattle.certificate.specs.Pieces.{IsWholeLines}
use Rattle.certificate.specs.Blocks.{IsPiece, ArePieces, AreCuts}
use Rattle.certificate.proofs.WindowLemmas.{slice_range-more}

-- a number that is not the bound lies below it
pub below_bound : (n bound : ℕ) (full : Bool) → n ≤ bound → full ≡ (n == bound) → full ≡ false → n < bound
below_bound n bound full low is not_full =
    let other : n ≢ bound =
    λ same. (let h : true ≡ false = sym (eq-eqb n bound same) ∙ sym is ∙ not_full in cc) in
    omega arith

-- ---- whole lines

pub whole_drop : (xs : List ℕ) (n : ℕ) → IsWholeLines xs → IsWholeLines (drop n xs)
whole_drop xs n (inl none) = inl (drop_all n xs (omega (arith, ap length none)))
whole_drop xs n (inr last) =
    elim (cases_lt (length last.0) n) [
      | inl past ↦ inl (drop_all n xs (omega (arith, ap length last.1, length-append last.0 (10 ∷ []))))
      | inr within ↦ inr (drop n last.0, ap (drop n) last.1 ∙ drop-append-le n last.0 (10 ∷ []) (omega arith))
    ]

-- whole lines, from a line feed on to the end
pub IsPiece-rest : (xs : List ℕ) (start : ℕ) → IsWholeLines xs → start ≤ length xs
    → IsPiece xs start (length xs)
IsPiece-rest xs start whole within =
    let size : length (drop start xs) ≡ length xs - start = length-drop start xs in
    let all : slice_range xs start (length xs) ≡ drop start xs =
    take_all (length xs - start) (drop start xs) (omega arith) in
    record { low = within; high = omega arith; whole = rw all (whole_drop xs start whole) }

-- up to after a line feed
pub IsPiece-line : (xs : List ℕ) (start least at : ℕ) → start ≤ least → LineFeedAt (drop least xs) (Some at)
    → IsPiece xs start (least + at + 1)
IsPiece-line xs start least at low found =
    let within : least + at < length xs = omega (arith, found.0.high, length-drop least xs) in
    let line_feed : get_or xs (least + at) 0 ≡ 10 = sym (get_or-drop least xs at 0) ∙ eqb-true _ _ found.1 in
    let one : take 1 (drop (least + at) xs) ≡ 10 ∷ [] =
    ap (take 1) (drop_more xs (least + at) 0 within) ∙ ap (λ b. b ∷ []) line_feed in
    record {
      low = omega arith;
      high = omega arith;
      whole =
          inr (
            slice_range xs start (least + at),
            slice_range-more xs start (least + at) 1 (omega arith)
                ∙ ap (λ ys. slice_range xs start (least + at) ++ ys) one,
          );
    }

-- ---- pieces one after another

pub ArePieces-push : (bytes : List ℕ) (start : ℕ) (cuts : List ℕ) (middle cut : ℕ)
    → ArePieces bytes start cuts middle → IsPiece bytes middle cut
    → ArePieces bytes start (cuts ++ cut ∷ []) cut
ArePieces-push bytes start [] middle cut same piece =
    (subst (λ n. IsPiece bytes n cut) (sym same) piece, refl)
ArePieces-push bytes start (c ∷ cuts) middle cut now piece =
    (now.0, ArePieces-push bytes c cuts middle cut now.1 piece)

ArePieces-at : (bytes : List ℕ) (start : ℕ) (cuts : List ℕ) (end i : ℕ) → ArePieces bytes start cuts end
    → i < length cuts → IsPiece bytes (get_or (start ∷ cuts) i 0) (get_or cuts i 0)
ArePieces-at bytes start [] end i now within = absurd (omega arith)
ArePieces-at bytes start (c ∷ cuts) end zero now within = now.0
ArePieces-at bytes start (c ∷ cuts) end (suc i) now within =
    ArePieces-at bytes c cuts end i now.1 (omega arith)

-- the piece of a number
pub AreCuts-at : (bytes cuts : List ℕ) (i : ℕ) → AreCuts bytes cuts → i + 1 < length cuts
    → IsPiece bytes (get_or cuts i 0) (get_or cuts (i + 1) 0)
AreCuts-at bytes [] i now within = absurd now
AreCuts-at bytes (start ∷ cuts) i now within =
    rw add-one (ArePieces-at bytes start cuts (length bytes) i now.1 (omega arith))
