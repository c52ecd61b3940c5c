-- What is noted of the records while they are visited.
use Rattle.std.specs.Prelude.{ℕ, ◌≡◌, ◌<◌, ◌≤◌, ◌++◌, ◌∷◌, [], List, length, Option, Some, None}
use Rattle.std.specs.Prelude.{Contains, slice_get, min}
use Rattle.std.specs.Prelude.{◌⊎◌, true}
use Rattle.std.specs.List.{filter_map, range_with_len}
use Rattle.std.specs.Ordering.{nat_cmp}
use Rattle.std.specs.BTreeSet.{BTreeSet, contains}
use Rattle.ompt_events.specs.declared.records.Record.{Record}
use Rattle.ompt_events.specs.declared.records.Body.{Body}
use Rattle.ompt_events.specs.Records.{made}
use Rattle.ompt_events.specs.Places.{at}
use Rattle.packed_trace.specs.Packed.{forked_region}
use Rattle.index_tables.specs.Numbering.{AreApart, IsFirstAgain}
use Rattle.task_tree.specs.declared.makers.Names.{Names}

-- the ids that the first n records name in this way, in file order, each as often as it is named
abbrev pub ids_named : (Body → Option ℕ) → List Record → ℕ → List ℕ
ids_named says rs n = filter_map (at says rs) (range_with_len 0 n)

-- the parallel regions that the records begin, in file order
abbrev pub begun_regions : List Record → List ℕ
begun_regions rs = ids_named forked_region rs (length rs)

-- the places are some of the first n, in their order
pub record ArePlacesBelow (n : ℕ) (places : List ℕ) : Type 0 where
  pub below : (index place : ℕ) → slice_get places index ≡ Some place → place < n
  pub rising : (a b place later : ℕ) → a < b → slice_get places a ≡ Some place
      → slice_get places b ≡ Some later
      → place < later

-- at the index of each task, the place of the record that makes it, one of the first n
pub record AreMade (rs : List Record) (n : ℕ) (tasks places : List ℕ) : Type 0 where
  pub all : length places ≡ length tasks
  pub few : length tasks ≤ n
  pub apart : AreApart tasks
  pub each : (index task : ℕ) → slice_get tasks index ≡ Some task
      → (place : ℕ) × (slice_get places index ≡ Some place) × (place < n) × (at made rs place ≡ Some task)
  pub in_order : ArePlacesBelow n places

-- the ids are those that the first n records name in this way
pub record AreNoted (says : Body → Option ℕ) (rs : List Record) (n : ℕ) (ids : List ℕ) : Type 0 where
  pub each : (i id : ℕ) → i < n → at says rs i ≡ Some id → Contains ids id
  pub only : (id : ℕ) → Contains ids id → (i : ℕ) × (i < n) × (at says rs i ≡ Some id)

-- the ids that the first n records name in this way, each as often as it is named, and the places of these
-- records
pub record AreGathered (says : Body → Option ℕ) (rs : List Record) (n : ℕ) (ids places : List ℕ)
    : Type 0 where
  pub listed : ids ≡ ids_named says rs n
  pub all : length places ≡ length ids
  pub few : length ids ≤ n
  pub each : (i id : ℕ) → i < n → at says rs i ≡ Some id
      → (index : ℕ) × (slice_get ids index ≡ Some id) × (slice_get places index ≡ Some i)
  pub only : (index id place : ℕ) → slice_get ids index ≡ Some id → slice_get places index ≡ Some place
      → (place < n) × (at says rs place ≡ Some id)
  pub in_order : ArePlacesBelow n places

-- the new names are the old ones and the id that the record at the place names, if it names one
abbrev pub AddsName : Names → Names → Option ℕ → ℕ → Type 0
AddsName old new None place = (new.ids.items ≡ old.ids.items) × (new.places.items ≡ old.places.items)
AddsName old new (Some id) place =
    (new.ids.items ≡ old.ids.items ++ id ∷ []) × (new.places.items ≡ old.places.items ++ place ∷ [])

-- the place of the first id that is there again
abbrev pub IsPlaceAgain : List ℕ → List ℕ → ℕ → Type 0
IsPlaceAgain ids places place = (index : ℕ) × IsFirstAgain ids index × (slice_get places index ≡ Some place)

-- the lesser of two places, if there is a second one
abbrev pub least_of : ℕ → Option ℕ → ℕ
least_of place None = place
least_of place (Some other) = min place other

-- ---- the records that make something again

-- an earlier record names the same id
abbrev pub Repeats : (Body → Option ℕ) → List Record → ℕ → Type 0
Repeats says rs i = (id k : ℕ) × (k < i) × (at says rs k ≡ Some id) × (at says rs i ≡ Some id)

-- an earlier record makes the same task, or begins the same region
abbrev pub MakesAgain : List Record → ℕ → Type 0
MakesAgain rs i = Repeats made rs i ⊎ Repeats forked_region rs i

-- the set has the ids that the first n records name in this way
pub record AreNamedBefore (says : Body → Option ℕ) (rs : List Record) (n : ℕ) (ids : BTreeSet ℕ)
    : Type 0 where
  pub each : (i id : ℕ) → i < n → at says rs i ≡ Some id → contains nat_cmp ids id ≡ true
  pub only : (id : ℕ) → contains nat_cmp ids id ≡ true → (i : ℕ) × (i < n) × (at says rs i ≡ Some id)
