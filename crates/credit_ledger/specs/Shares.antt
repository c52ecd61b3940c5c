-- Relations between the shares of a credit (F. Mattern, Information Processing Letters 30, 1989).
use Rattle.std.specs.Prelude.{ℕ, ◌≡◌, ◌≤◌, ◌^◌, Bool, true, false, ◌||◌, ◌&&◌, List, [], ◌∷◌, ◌++◌, length}
use Rattle.std.specs.Prelude.{replicate, All, Any, IsTrue, count_by, nat_le}
use Rattle.std.specs.List.{flat_map, list_any}
use Rattle.credit_ledger.specs.declared.share.Half.{Half}
use Rattle.credit_ledger.specs.declared.share.Half.TheVariants.{Keep, Give}

-- two halves are the same
abbrev pub is_same_half : Half → Half → Bool
is_same_half Keep Keep = true
is_same_half Give Give = true
is_same_half Keep Give = false
is_same_half Give Keep = false

-- the list of halves l begins with the share s
abbrev pub begins_with : List Half → List Half → Bool
begins_with l [] = true
begins_with [] (h ∷ s) = false
begins_with (x ∷ l) (h ∷ s) = is_same_half x h && begins_with l s

-- one of the two shares begins with the other
abbrev pub overlaps : List Half → List Half → Bool
overlaps s t = begins_with s t || begins_with t s

-- one of the two shares overlaps one of the others, or the other one of the two
abbrev pub overlaps_either : List Half → List Half → List (List Half) → Bool
overlaps_either first second shares =
    list_any (overlaps first) shares || list_any (overlaps second) shares || overlaps first second

-- the half that a task keeps
abbrev pub keep_half : List Half → List Half
keep_half s = s ++ Keep ∷ []

-- the half that it gives away
abbrev pub give_half : List Half → List Half
give_half s = s ++ Give ∷ []

abbrev pub is_give : Half → Bool
is_give Keep = false
is_give Give = true

-- the share cannot be halved again: it has 1,025 Give halves, or 2^48 halves in all
abbrev pub is_too_deep : List Half → Bool
is_too_deep s = nat_le 1025 (count_by is_give s) || nat_le (2 ^ 48) (length s)

-- the share with which a task starts: for each number of its path, an ancestor kept a half that many
-- times, and then gave one away
abbrev pub start_share : List ℕ → List Half
start_share path = flat_map (λ number. replicate number Keep ++ Give ∷ []) path

-- the share that this task has left after it created `kept` children, and that is entered at its end
abbrev pub finish_share : List ℕ → ℕ → List Half
finish_share path kept = start_share path ++ replicate kept Keep

-- the list of halves is at least as long as each of the shares
abbrev pub IsAsLongAs : List Half → List (List Half) → Type 0
IsAsLongAs l shares = All (λ s. length s ≤ length l) shares

-- the shares are one whole, cut up: each list of halves that is at least as long as each of them begins with
-- exactly one
abbrev pub Tile : List (List Half) → Type 0
Tile shares = (l : List Half) → IsAsLongAs l shares → count_by (λ s. begins_with l s) shares ≡ 1

-- the shares hold s, so that all of it has come back: each list of halves that begins with s,
-- and is at least as long as s and as each of the shares, begins with one of them
abbrev pub Hold : List (List Half) → List Half → Type 0
Hold shares s =
    (l : List Half) → IsTrue (begins_with l s) → IsAsLongAs l (s ∷ shares)
    → Any (λ t. IsTrue (begins_with l t)) shares
