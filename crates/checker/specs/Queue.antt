-- Places of which the least is taken first.
use Rattle.std.specs.Prelude.{ℕ, List, map}
use Rattle.std.specs.Ordering.{nat_cmp}
use Rattle.std.specs.declared.cmp.Ordering.{Ordering}
use Rattle.std.specs.declared.cmp.Reverse.{Reverse}

-- the places in the heap
abbrev pub heap_places : List (Reverse ℕ) → List ℕ
heap_places = map (λ r. r.0)

-- the heap has the least place on top
abbrev pub later_place : Reverse ℕ → Reverse ℕ → Ordering
later_place a b = nat_cmp b.0 a.0
