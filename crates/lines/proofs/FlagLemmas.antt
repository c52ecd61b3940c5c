-- Flags that were written by their names are read back.
use Rattle.std.proofs.Common.{◌≡◌, ℕ, zero, suc, ◌*◌, ◌<◌, ◌^◌, Bool, true, false, cond, List, [], ◌∷◌, map}
use Rattle.std.proofs.Common.{Some, arith, refl, sym, ap, ◌∙◌, eqb-true, eq-eqb, true≢false}
use Rattle.std.specs.List.{AllByRecursion}
use Rattle.std.specs.Int.{bit_at}
use Rattle.std.specs.Int.RustNames.{bit_and, bit_or}
use Rattle.std.proofs.lemmas.Nat.{and_le_r}
use Rattle.std.proofs.lemmas.Nat.Bits.{and_pow, bit_at-lt, bit_at_and, bit_at_or, bit_at-zero, same_from_bits}
use Rattle.bitflags.specs.Sets.{Row, find_row, find_name, known_from}
use Rattle.serde_json.specs.Data.{string}
use Rattle.serde_json.specs.View.{items_of}
use Rattle.ompt_events.specs.Flags as table
use Rattle.ompt_events.specs.Flags.{has_flag}
use Rattle.ompt_events.specs.Traces.{AreNamed}
use Rattle.lines.specs.Members.{flags_from}
use Rattle.lines.specs.Texts.{flag_names}

and_or : (n a b : ℕ) → bit_and n (bit_or a b) ≡ bit_or (bit_and n a) (bit_and n b)
and_or n a b =
    same_from_bits _ _
    (λ i.
    omega (
      arith,
      bit_at_and n (bit_or a b) i,
      bit_at_or a b i,
      bit_at_or (bit_and n a) (bit_and n b) i,
      bit_at_and n a i,
      bit_at_and n b i,
    ))

or_none : (n : ℕ) → bit_or n 0 ≡ n
or_none n = same_from_bits _ _ (λ i. omega (arith, bit_at_or n 0 i, bit_at-zero i))

-- a single bit is there, or nothing of it
and_none : (n k : ℕ) → (bit_and n (2 ^ k) ≡ 2 ^ k → ⊥) → bit_and n (2 ^ k) ≡ 0
and_none n k other = by_bit (bit_at n k) (bit_at-lt n k) (and_pow n k)
  where
    by_bit : (b : ℕ) → b < 2 → bit_and n (2 ^ k) ≡ b * 2 ^ k → bit_and n (2 ^ k) ≡ 0
    by_bit zero low is = is ∙ omega arith
    by_bit (suc zero) low is = absurd (other (is ∙ omega arith))
    by_bit (suc (suc b)) low is = absurd (omega arith)

-- the row has a single bit, and its name is read as that bit
abbrev pub IsReadAs : List Row → Row → Type 0
IsReadAs flags row = (k : ℕ) × (row.1 ≡ 2 ^ k) × (find_name flags row.0 ≡ Some row.1)

flags_from-rows : (flags rows : List Row) (bits found known : ℕ) → AllByRecursion (IsReadAs flags) rows
    → found ≡ bit_and bits known
    → flags_from flags found (items_of (map string (flag_names rows bits)))
    ≡ Some (bit_and bits (known_from known rows))
unfolding known_from flag_names
flags_from-rows flags [] bits found known each is = ap Some is
flags_from-rows flags (row ∷ rows) bits found known each is =
    by_flag (has_flag bits row.1) refl
    (λ found' is'. flags_from-rows flags rows bits found' (bit_or known row.1) each.1 is')
  where
    both : bit_and bits (bit_or known row.1) ≡ bit_or found (bit_and bits row.1)
    both = and_or bits known row.1 ∙ ap (λ n. bit_or n (bit_and bits row.1)) (sym is)

    by_flag : (b : Bool) → has_flag bits row.1 ≡ b
        → ((found' : ℕ) → found' ≡ bit_and bits (bit_or known row.1)
        → flags_from flags found' (items_of (map string (flag_names rows bits)))
        ≡ Some (bit_and bits (known_from (bit_or known row.1) rows)))
        → flags_from flags found
        (items_of (map string (cond b (row.0 ∷ flag_names rows bits) (flag_names rows bits))))
        ≡ Some (bit_and bits (known_from (bit_or known row.1) rows))
    by_flag true has later =
        rw (each.0.2) (later (bit_or found row.1) (sym (both ∙ ap (bit_or found) (eqb-true _ _ has))))
    by_flag false lacks later =
        let none : bit_and bits row.1 ≡ 0 =
        ap (bit_and bits) each.0.1
        ∙ and_none bits each.0.0
        (λ same.
        true≢false
        (sym (eq-eqb _ _ (ap (bit_and bits) each.0.1 ∙ same ∙ sym each.0.1)) ∙ lacks)) in
        later found (sym (both ∙ ap (bit_or found) none ∙ or_none found))

flags_from-flag_names : (rows : List Row) (bits : ℕ) → AllByRecursion (IsReadAs rows) rows
    → AreNamed rows bits → flags_from rows 0 (items_of (map string (flag_names rows bits))) ≡ Some bits
flags_from-flag_names rows bits each named =
    flags_from-rows rows rows bits 0 0 each (omega (arith, and_le_r bits 0)) ∙ ap Some named

task_rows : AllByRecursion (IsReadAs table.task_flags) table.task_flags
unfolding find_row
task_rows = (
  (0, refl, refl),
  (
    (1, refl, refl),
    (
      (2, refl, refl),
      (
        (3, refl, refl),
        (
          (4, refl, refl),
          (
            (27, refl, refl),
            ((28, refl, refl), ((29, refl, refl), ((30, refl, refl), ((31, refl, refl), tt)))),
          ),
        ),
      ),
    ),
  ),
)

cancel_rows : AllByRecursion (IsReadAs table.cancel_flags) table.cancel_flags
unfolding find_row
cancel_rows = (
  (0, refl, refl),
  (
    (1, refl, refl),
    (
      (2, refl, refl),
      ((3, refl, refl), ((4, refl, refl), ((5, refl, refl), ((6, refl, refl), tt)))),
    ),
  ),
)

-- the flags whose names were written
pub task_flags-read : (bits : ℕ) → AreNamed table.task_flags bits
    → flags_from table.task_flags 0 (items_of (map string (flag_names table.task_flags bits))) ≡ Some bits
task_flags-read bits named = flags_from-flag_names table.task_flags bits task_rows named

pub cancel_flags-read : (bits : ℕ) → AreNamed table.cancel_flags bits
    → flags_from table.cancel_flags 0 (items_of (map string (flag_names table.cancel_flags bits))) ≡ Some bits
cancel_flags-read bits named = flags_from-flag_names table.cancel_flags bits cancel_rows named
