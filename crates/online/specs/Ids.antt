-- Ids that were used, kept as intervals.
use Rattle.std.specs.Prelude.{ℕ, Bool}
use Rattle.online.specs.declared.ids.Ids.{Ids}
use Rattle.online.specs.Spans.{is_in}

-- some interval has the id
abbrev pub has : Ids → ℕ → Bool
has ids id = is_in ids.spans id
