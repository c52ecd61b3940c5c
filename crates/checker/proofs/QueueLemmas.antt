-- A heap of places with the least on top.
use Rattle.std.proofs.Common.{ℕ, ◌≤◌, List, [], ◌∷◌, All}
use Rattle.std.proofs.lemmas.List.Elements.{All-nil, All-cons, All-contains}
use Rattle.std.proofs.lemmas.Map.Keys.{ge_from_not_lt}
use Rattle.std.specs.Prelude.{Contains}
use Rattle.std.specs.BinaryHeap.{IsUpperBound}
use Rattle.std.specs.declared.cmp.Reverse.{Reverse}
use Rattle.checker.specs.Queue.{heap_places, later_place}

all_behind : (top : Reverse ℕ) (heap : List (Reverse ℕ)) → IsUpperBound later_place top heap
    → All (λ i. top.0 ≤ i) (heap_places heap)
all_behind top [] bound = All-nil (λ i. top.0 ≤ i)
all_behind top (r ∷ heap) bound =
    All-cons (λ i. top.0 ≤ i) r.0 (heap_places heap) (ge_from_not_lt r.0 top.0 bound.0)
    (all_behind top heap bound.1)

-- the top is no greater than any place
pub least_on_top : (top : Reverse ℕ) (heap : List (Reverse ℕ)) → IsUpperBound later_place top heap → (i : ℕ)
    → Contains (heap_places heap) i → top.0 ≤ i
least_on_top top heap bound i c =
    All-contains (λ j. top.0 ≤ j) (heap_places heap) i (all_behind top heap bound) c
