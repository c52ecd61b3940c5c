-- The children of a node as a tree of links, in which a child is found by the base-4 digits of its number.
use Rattle.std.specs.Prelude.{◌<◌, ◌==◌, ◌&&◌, ◌/◌, ◌%◌, ℕ, zero, suc, Bool, List, length, if◌then◌else◌}
use Rattle.std.specs.Prelude.{Option, None, Some, unwrap_or, slice_get}
use Rattle.credit_ledger.specs.declared.links.Link.{Link}
use Rattle.credit_ledger.specs.declared.links.Side.{Side}
use Rattle.credit_ledger.specs.declared.links.Side.TheVariants.{First, Zero, One, Two, Three}
use Rattle.credit_ledger.specs.declared.links.Spot.{Spot}
use Rattle.credit_ledger.specs.declared.links.Spot.TheVariants.{Found, Missing}

-- a link that leads nowhere yet
abbrev pub leaf_link : ℕ → ℕ → Link
leaf_link parent number = record {
  number = number;
  parent = parent;
  first = 0;
  zero = 0;
  one = 0;
  two = 0;
  three = 0;
}

abbrev pub link_at : List Link → ℕ → Link
link_at links index = unwrap_or (slice_get links index) (leaf_link 0 0)

abbrev pub link_behind : Link → Side → ℕ
link_behind l First = l.first
link_behind l Zero = l.zero
link_behind l One = l.one
link_behind l Two = l.two
link_behind l Three = l.three

-- the link with this side leading to a child
abbrev pub with_link : Link → Side → ℕ → Link
with_link l First child = record l { first = child }
with_link l Zero child = record l { zero = child }
with_link l One child = record l { one = child }
with_link l Two child = record l { two = child }
with_link l Three child = record l { three = child }

abbrev pub is_link_of : ℕ → ℕ → Link → Bool
is_link_of parent number l = (l.parent == parent) && (l.number == number)

-- the side for the lowest digit
abbrev pub side_of : ℕ → Side
side_of digits =
    if digits % 4 == 0 then Zero else if digits % 4 == 1 then One else if digits % 4 == 2 then Two else Three

-- where a search that has reached this side of a link ends, after at most this many steps
abbrev pub spot_within : List Link → ℕ → ℕ → ℕ → ℕ → ℕ → Side → Spot
spot_within links zero parent number digits here side = Missing here side
spot_within links (suc steps) parent number digits here side =
    if link_behind (link_at links here) side == 0
    then Missing here side
    else if is_link_of parent number (link_at links (link_behind (link_at links here) side))
    then Found (link_behind (link_at links here) side)
    else spot_within links steps parent number (digits / 4) (link_behind (link_at links here) side)
    (side_of digits)

-- where the search for a child of this node ends
abbrev pub spot_of : List Link → ℕ → ℕ → Spot
spot_of links parent number = spot_within links (length links) parent number number parent First

abbrev pub found : Spot → Option ℕ
found (Found child) = Some child
found (Missing here side) = None

-- each link leads only to later ones
abbrev pub AreLinksRising : List Link → Type 0
AreLinksRising links = (here : ℕ) (side : Side) → 0 < link_behind (link_at links here) side
    → (here < link_behind (link_at links here) side) × (link_behind (link_at links here) side < length links)
