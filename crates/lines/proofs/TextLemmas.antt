-- What a line of plain JSON is, and lists in it.
use Rattle.std.proofs.Common.{◌≡◌, ℕ, suc, ◌+◌, ◌*◌, ◌<◌, ◌≤◌, ◌^◌, List}
use Rattle.std.proofs.Common.{[], ◌∷◌, length, map, Option, Some, Ok, arith, refl, ap}
use Rattle.std.proofs.Common.{◌∙◌}
use Rattle.std.specs.Prelude.{All}
use Rattle.std.specs.List.{AllByRecursion}
use Rattle.ompt_events.specs.declared.records.Record.{Record}
use Rattle.serde_json.specs.Data.{Data, number, unsigned}
use Rattle.serde_json.specs.Read.{max_depth}
use Rattle.serde_json.specs.View.{items_of}
use Rattle.serde_json.specs.Written.{compact_text}
use Rattle.lines.specs.Texts.{whole_number}
use Rattle.lines.specs.Limits.{max_line}
use Rattle.lines.specs.Members.{each, whole_of}
use Rattle.lines.specs.RecordLines.{line_says, said_of}
use Rattle.lines.proofs.JsonLemmas.{IsUnbroken}
use Rattle.lines.proofs.JsonLemmas.{IsPlain, ArePlain, size, items_size, value_of-compact_text}
use Rattle.lines.proofs.JsonLemmas.{unbroken-compact_text, length-compact_text}

-- the line can stand in a file of this version, and stands for the record
pub record IsLineOf (version : ℕ) (line : List ℕ) (r : Record) : Type 0 where
  pub says : line_says version line ≡ Ok r
  pub short : length line ≤ max_line
  pub unbroken : IsUnbroken line

-- what holds of each element, one after another
pub AllByRecursion-from : {X : Type 0} (P : X → Type 0) (xs : List X) → All P xs → AllByRecursion P xs
AllByRecursion-from P [] all = tt
AllByRecursion-from P (x ∷ xs) all =
    (all 0 x (omega arith), AllByRecursion-from P xs (λ k d h. all (suc k) d (omega arith)))

-- ---- the line of a value

pub IsLineOf-plain : (version : ℕ) (d : Data) (n : ℕ) (r : Record) → IsPlain d n → n ≤ max_depth
    → size d ≤ max_line → said_of version (Some d) ≡ Ok r → IsLineOf version (compact_text d) r
IsLineOf-plain version d n r plain shallow small says = record {
  says = ap (said_of version) (value_of-compact_text d n plain shallow) ∙ says;
  short = omega (arith, length-compact_text d n plain);
  unbroken = unbroken-compact_text d n plain;
}

-- arrays of any length
pub ArePlain-items_of : {X : Type 0} (f : X → Data) (xs : List X) (n : ℕ)
    → AllByRecursion (λ x. IsPlain (f x) n) xs → ArePlain (items_of (map f xs)) n
ArePlain-items_of f [] n all = tt
ArePlain-items_of f (x ∷ xs) n all = (all.0, ArePlain-items_of f xs n all.1)

pub items_size-items_of : {X : Type 0} (f : X → Data) (xs : List X) (k : ℕ)
    → AllByRecursion (λ x. size (f x) ≤ k) xs → items_size (items_of (map f xs)) ≤ (k + 1) * length xs
items_size-items_of f [] k all = omega arith
items_size-items_of f (x ∷ xs) k all = omega (arith, all.0, items_size-items_of f xs k all.1)

-- an array of whole numbers
pub ArePlain-wholes : (ns : List ℕ) (n : ℕ) → AllByRecursion (λ m. m < 2 ^ 64) ns
    → ArePlain (items_of (map (λ m. number (unsigned m)) ns)) n
ArePlain-wholes ns n all = ArePlain-items_of (λ m. number (unsigned m)) ns n all

pub items_size-wholes : (ns : List ℕ)
    → items_size (items_of (map (λ m. number (unsigned m)) ns)) ≡ 21 * length ns
items_size-wholes [] = refl
items_size-wholes (m ∷ ns) = omega (arith, items_size-wholes ns)

-- each value of a list is read back
pub each-items_of : {X : Type 0} (says : Data → Option X) (f : X → Data) → ((x : X) → says (f x) ≡ Some x)
    → (xs : List X) → each says (items_of (map f xs)) ≡ Some xs
each-items_of says f back [] = refl
each-items_of says f back (x ∷ xs) = rw (back x, each-items_of says f back xs) refl

pub wholes-items_of : (ns : List ℕ) → each whole_of (items_of (map whole_number ns)) ≡ Some ns
wholes-items_of ns = each-items_of whole_of whole_number (λ n. refl) ns
