-- Places in linked lists, one list for each key, each in rising order.
use Rattle.std.specs.Prelude.{ℕ, ◌≡◌, ◌<◌, ◌≤◌, ◌+◌, List, length, Option, Some, slice_index}

-- of n places the first one, from a place on, that has the key; n if there is none
pub record IsNextWith (key : ℕ → Option ℕ) (n k from next : ℕ) : Type 0 where
  pub behind : from ≤ next
  pub within : next ≤ n
  pub none : (i : ℕ) → from ≤ i → i < next → key i ≡ Some k → ⊥
  pub found : next < n → key next ≡ Some k

-- of n places those from one on: by key the first, and by place the next with its key
pub record AreLists (key : ℕ → Option ℕ) (n from : ℕ) (firsts nexts : List ℕ) : Type 0 where
  pub first : (k : ℕ) → k < length firsts → IsNextWith key n k from (slice_index firsts k)
  pub next : (i k : ℕ) → from ≤ i → i < n → key i ≡ Some k
      → IsNextWith key n k (i + 1) (slice_index nexts i)

-- the next place of each of n places is a later one, or the end
pub record LeadsOn (n : ℕ) (nexts : List ℕ) : Type 0 where
  pub all : length nexts ≡ n
  pub later : (i : ℕ) → i < n → i < slice_index nexts i
