-- The lines of the findings.
use Rattle.std.proofs.Common.{◌≡◌, ◌∙◌, ◌+◌, ◌++◌, ℕ, List, [], ◌∷◌, Some, take, sym, ap}
use Rattle.std.proofs.lemmas.List.{flat_map_more, take_more}
use Rattle.std.proofs.lemmas.Option.{get_or_from_slice_get, slice_get_within}
use Rattle.std.specs.Prelude.{slice_get}
use Rattle.std.specs.List.{flat_map}

-- one line more
pub line_more : (line : ℕ → List ℕ) (start : List ℕ) (places : List ℕ) (n place : ℕ)
    → slice_get places n ≡ Some place
    → (start ++ flat_map line (take n places)) ++ line place
    ≡ start ++ flat_map line (take (n + 1) places)
line_more line start places n place stands =
    let longer : take (n + 1) places ≡ take n places ++ place ∷ [] =
    take_more places n 0 (slice_get_within places n place stands)
    ∙ ap (λ (it : ℕ). take n places ++ it ∷ []) (get_or_from_slice_get places n place 0 stands) in
    flat_map_more line start (take n places) place
    ∙ ap (λ (all : List ℕ). start ++ flat_map line all) (sym longer)
