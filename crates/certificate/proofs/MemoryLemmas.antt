-- What a source and a sink in memory give and take.
use Rattle.std.proofs.Common.{◌≡◌, ℕ, ◌+◌, ◌-◌, ◌<◌, List, [], ◌++◌, length, take, drop, min, arith, sym, ap}
use Rattle.std.proofs.Common.{◌∙◌, length-take, length-drop}
use Rattle.std.proofs.Math.ListN.{drop_of_length-le}
use Rattle.std.proofs.Math.Seq.{take-append_seam}
use Rattle.std.proofs.lemmas.List.{take-append-drop, drop-drop, take_rest}

-- what is copied to the front of a buffer, and the rest
pub front_given : (xs copied rest : List ℕ) (at n m : ℕ)
    → copied ≡ take n (take (length xs - at) (drop at xs))
    → n ≡ min m (length (take (length xs - at) (drop at xs)))
    → drop at xs ≡ take n (copied ++ rest) ++ drop (at + n) xs
front_given xs copied rest at n m is least =
    let copy : copied ≡ take n (drop at xs) = rw take_rest at is in
    let least' : n ≡ min m (length (drop at xs)) = rw take_rest at least in
    let len : length copied ≡ n = ap length copy ∙ omega (arith, length-take n (drop at xs)) in
    let front : take n (copied ++ rest) ≡ take n (drop at xs) =
    ap (λ k. take k (copied ++ rest)) (sym len) ∙ take-append_seam copied rest ∙ copy in
    rw (front, ← drop-drop n at xs) (sym (take-append-drop n (drop at xs)))

-- nothing is given only at the end
pub none_given : (xs : List ℕ) (at n per room : ℕ) → 0 < per → 0 < room
    → n ≡ min (min per room) (length (take (length xs - at) (drop at xs))) → n ≡ 0 → drop (at + n) xs ≡ []
none_given xs at n per room gives some least none =
    let least' : n ≡ min (min per room) (length (drop at xs)) = rw take_rest at least in
    drop_of_length-le xs (omega (arith, length-drop at xs))
