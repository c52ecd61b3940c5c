-- Places in an order.
use Rattle.std.proofs.Common.{◌≡◌, ◌≤◌, ℕ, None}
use Rattle.std.proofs.lemmas.Option.{slice_get_past}
use Rattle.std.proofs.lemmas.List.FromFn.{length-range_with_len}
use Rattle.std.specs.Prelude.{slice_get}
use Rattle.std.specs.List.{range_with_len}

pub no_place_in_file : (n i : ℕ) → n ≤ i → slice_get (range_with_len 0 n) i ≡ None
no_place_in_file n i past = slice_get_past (range_with_len 0 n) i (rw (length-range_with_len 0 n) past)
