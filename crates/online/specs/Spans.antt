-- Intervals of ids that a map keeps: by the first id of each the last.
use Rattle.std.specs.Prelude.{ℕ, ◌≡◌, ◌≢◌, ◌<◌, ◌≤◌, ◌+◌, ◌^◌, ◌==◌, ◌&&◌, Bool, Option, Some, None, IsSome}
use Rattle.std.specs.Prelude.{nat_lt, nat_le, if◌then◌else◌}
use Rattle.std.specs.List.{list_any}
use Rattle.std.specs.Ordering.{nat_cmp}
use Rattle.std.specs.BTreeMap.{BTreeMap, get}

abbrev pub last_from : BTreeMap ℕ ℕ → ℕ → Option ℕ
last_from spans first = get nat_cmp spans first

-- the id is in the interval
abbrev pub is_in_span : ℕ → ℕ × ℕ → Bool
is_in_span id span = nat_le span.0 id && nat_le id span.1

-- some interval has the id
abbrev pub is_in : BTreeMap ℕ ℕ → ℕ → Bool
is_in spans id = list_any (is_in_span id) spans.entries

-- no interval is empty, and all are of 64-bit ids
abbrev pub AreSpans : (ℕ → Option ℕ) → Type 0
AreSpans spans = (first last : ℕ) → spans first ≡ Some last → (first ≤ last) × (last < 2 ^ 64)

-- no interval touches another
abbrev pub AreApart : (ℕ → Option ℕ) → Type 0
AreApart spans =
    (first last other end : ℕ) → spans first ≡ Some last → spans other ≡ Some end → first < other
    → last + 1 < other

-- the interval whose first id is the greatest that is at most this one
abbrev pub IsNearest : (ℕ → Option ℕ) → ℕ → Option (ℕ × ℕ) → Type 0
IsNearest spans id None = (first : ℕ) → first ≤ id → spans first ≡ None
IsNearest spans id (Some (first, last)) =
    (first ≤ id) × (spans first ≡ Some last)
    × ((other : ℕ) → other ≤ id → IsSome (spans other) → other ≤ first)

-- with an id more, its interval begins so
pub data IsFirstWith (spans : ℕ → Option ℕ) (id : ℕ) : ℕ → Type 0 where
  -- by the interval that ends right before the id
  extends : (first last : ℕ) → spans first ≡ Some last → last + 1 ≡ id → IsFirstWith spans id first
  -- by the id, where none ends there
  begins : (AreSpans spans → AreApart spans → (first last : ℕ) → spans first ≡ Some last → last + 1 ≢ id)
      → IsFirstWith spans id id

-- and ends so
pub data IsLastWith (spans : ℕ → Option ℕ) (id : ℕ) : ℕ → Type 0 where
  -- by the interval that begins right behind the id
  goes_on : (last : ℕ) → spans (id + 1) ≡ Some last → IsLastWith spans id last
  -- by the id, where none begins there
  ends : (id + 1 < 2 ^ 64 → spans (id + 1) ≡ None) → IsLastWith spans id id

-- the interval is put in, and one that begins right behind the id is taken out, if the new one ends behind
-- the id
abbrev pub IsJoined : (ℕ → Option ℕ) → (ℕ → Option ℕ) → ℕ → ℕ → ℕ → Type 0
IsJoined old new first id last =
    (q : ℕ) → new q
    ≡ (if nat_lt id last && (q == id + 1) then None else (if q == first then Some last else old q))
