-- A line in written form in front of other bytes: where it ends, and what it stands for.
use Rattle.std.proofs.Common.{◌≡◌, ◌∙◌, ℕ, zero, suc, ◌<◌, ◌-◌, List, [], ◌∷◌, length, take}
use Rattle.std.proofs.Common.{get_or}
use Rattle.std.proofs.Common.{Some, true, refl, ap, sym, arith}
use Rattle.std.proofs.Math.Seq.{take-append_seam, get_or-append_right}
use Rattle.std.proofs.Math.ListN.{get_or-append}
use Rattle.std.proofs.lemmas.Bool.{false≢true, eqb-true}
use Rattle.std.proofs.lemmas.List.{length-append}
use Rattle.std.specs.Prelude.{◌==◌, slice_index}
use Rattle.memchr.specs.Find.{IsFirstByte, is_byte}
use Rattle.lines.specs.Texts.{Takes}
use Rattle.lines.proofs.JsonLemmas.{IsUnbroken}

-- no byte of an unbroken line is a line feed
unbroken-each : (bytes : List ℕ) (i : ℕ) → IsUnbroken bytes → i < length bytes
    → is_byte 10 (get_or bytes i 0) ≡ true → ⊥
unbroken-each [] i unbroken within is = absurd (omega (arith, within))
unbroken-each (b ∷ bytes) zero unbroken within is = false≢true (sym unbroken.0 ∙ is)
unbroken-each (b ∷ bytes) (suc i) unbroken within is =
    unbroken-each bytes i unbroken.1 (omega (arith, within)) is

-- how long the line is
pub front-length : (text line behind : List ℕ) → Takes text line behind
    → length text - length behind ≡ length line
front-length text line behind takes =
    let long = ap length takes.is ∙ length-append line behind in omega (arith, long)

pub front-line : (text line behind : List ℕ) → IsUnbroken line → Takes text line behind
    → 0 < length behind → slice_index behind 0 ≡ 10
    → IsFirstByte (is_byte 10) text (Some (length text - length behind))
front-line text line behind unbroken takes some feed =
    rw (front-length text line behind takes, takes.is) (
      record {
        low = omega arith;
        high = let long = length-append line behind in omega (arith, long, some);
        before = λ i low below passes.
            unbroken-each line i unbroken below
            (ap (is_byte 10) (sym (get_or-append line behind 0 i below)) ∙ passes);
      },
      ap (is_byte 10) (get_or-append_right line behind (length line) 0 (omega arith)
          ∙ ap (λ n. get_or behind n 0) (omega arith) ∙ feed),
    )

pub front-taken : (text line behind : List ℕ) → Takes text line behind
    → take (length text - length behind) text ≡ line
front-taken text line behind takes =
    rw (front-length text line behind takes)
    (ap (take (length line)) takes.is ∙ take-append_seam line behind)

-- a list of no bytes
pub nothing_behind : (bytes : List ℕ) → (length bytes == 0) ≡ true → bytes ≡ []
nothing_behind [] none = refl
nothing_behind (b ∷ bytes) none =
    absurd (let no = eqb-true (suc (length bytes)) 0 none in omega (arith, no))
