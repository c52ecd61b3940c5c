-- How a file is compressed, by the bytes that it begins with.
use Rattle.std.specs.Prelude.{◌≡◌, ℕ, ◌==◌, Bool, List, [], ◌∷◌, take, Option, Some, None, IfSome}
use Rattle.std.specs.Prelude.{if◌then◌else◌}
use Rattle.std.specs.Io.KnownBytes.{Keeps}
use Rattle.std.specs.List.{starts_with}
use Rattle.taskaudit.specs.declared.work.Packing.{Packing}
use Rattle.taskaudit.specs.declared.work.Packing.TheVariants.{Gzip, Zstandard, Xz}

-- the bytes begin with these
abbrev pub begin_with : List ℕ → List ℕ → Bool
begin_with bytes these = starts_with (λ x y. x == y) bytes these

-- by the marks of the three formats, each at the front of its files
abbrev pub packing_in : List ℕ → Option Packing
packing_in bytes = if begin_with bytes (0x1f ∷ 0x8b ∷ []) then Some Gzip
    else (if begin_with bytes (0x28 ∷ 0xb5 ∷ 0x2f ∷ 0xfd ∷ []) then Some Zstandard
    else (if begin_with bytes (0xfd ∷ 0x37 ∷ 0x7a ∷ 0x58 ∷ 0x5a ∷ 0x00 ∷ []) then Some Xz else None))

-- the packing of a file with these bytes: the first six decide it
abbrev pub packing_of : List ℕ → Option Packing
packing_of bytes = packing_in (take 6 bytes)

-- a file with these bytes, where they are known, is compressed so, or is not
abbrev pub IsPacked : Option (List ℕ) → Option Packing → Type 0
IsPacked bytes packing = IfSome bytes (λ known. packing_of known ≡ packing)

-- the first bytes of a file were looked at, and none is lost
pub record IsLookedAt (bytes : Option (List ℕ)) (first : List ℕ) (after : Option (List ℕ)) : Type 0 where
  pub first_six : IfSome bytes (λ known. take 6 known ≡ first)
  pub kept : Keeps bytes after
