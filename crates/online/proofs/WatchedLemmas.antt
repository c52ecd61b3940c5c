-- A watch of records that say of teams at the ends of roots what they like.
use Rattle.std.proofs.Common.{◌≡◌, List, [], ◌∷◌, ◌++◌}
use Rattle.ompt_events.specs.declared.records.Record.{Record}
use Rattle.ompt_events.specs.Ends.{ending_alone}
use Rattle.online.specs.declared.watch.Watch.{Watch}
use Rattle.online.specs.Watches.{IsWatchOf, HasWatched}
use Rattle.online.proofs.AlikeLemmas.{alike_more}

-- a record more is watched, as this one is made there
pub watched_more : (old new : Watch) (r made : Record) → ending_alone r ≡ ending_alone made
    → ((rs : List Record) → IsWatchOf rs old → IsWatchOf (rs ++ made ∷ []) new)
    → (records : List Record) → HasWatched records old → HasWatched (records ++ r ∷ []) new
watched_more old new r made same taken records (rs, alike, kept) =
    (rs ++ made ∷ [], alike_more records rs r made alike same, taken rs kept)
