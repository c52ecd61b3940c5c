-- The list of places that an order is.
use Rattle.std.specs.Prelude.{ℕ, List}
use Rattle.std.specs.List.{range_with_len}
use Rattle.checker.specs.declared.verdict.Places.{Places}
use Rattle.checker.specs.declared.verdict.Places.TheVariants.{InFile, Listed}

-- the places, the earliest first
abbrev pub list_of : Places → List ℕ
list_of (InFile records) = range_with_len 0 records
list_of (Listed places) = places.items
