-- Lemmas on a path that is read number by number.
use Rattle.std.proofs.Common.{◌≡◌, ℕ, ◌+◌, List, [], ◌∷◌, ◌++◌, Some, take, ap, ◌∙◌}
use Rattle.std.specs.Prelude.{slice_get}
use Rattle.std.proofs.lemmas.Option.{slice_get_within, get_or_from_slice_get}
use Rattle.std.proofs.lemmas.Grind.{take_at_read}

-- one number more is taken
pub take_more : {X : Type 0} (xs : List X) (at : ℕ) (x : X) → slice_get xs at ≡ Some x
    → take (at + 1) xs ≡ take at xs ++ x ∷ []
take_more xs at x is =
    (take_at_read xs at x (slice_get_within xs at x is)).1
    ∙ ap (λ y. take at xs ++ y ∷ []) (get_or_from_slice_get xs at x x is)
