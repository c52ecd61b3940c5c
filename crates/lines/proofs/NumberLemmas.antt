-- The text of a number, as it is read.
use Rattle.std.proofs.Common.{◌≡◌, ℕ, ◌<◌, ◌^◌, ◌&&◌, ◌==◌, Bool, true, false, List, [], ◌++◌, length, drop}
use Rattle.std.proofs.Common.{Option, Some, None, cond, decimal, refl, sym, ap, ◌∙◌, append-nil, subst}
use Rattle.std.specs.Prelude.{IfSome, SomeIff, nat_lt, nat_le, not, slice_index}
use Rattle.std.specs.Float.{binary64, float_is_finite}
use Rattle.std.proofs.lemmas.Bool.{and_parts, lt-ltb, ltb-true, eqb-true, eq-eqb}
use Rattle.fast_float.specs.Text.{minus, Parts, scan, digits_of, nearest, with_sign, IsInteger}
use Rattle.serde_json.specs.Data.{Num, unsigned, negative}
use Rattle.serde_json.specs.Find.{as_u64}
use Rattle.serde_json.specs.Read.{number_of, number_from, float_of, is_integer}
use Rattle.serde_json.proofs.Numbers.{number_of-decimal}
use Rattle.lines.specs.Meanings.{number_or_odd}
use Rattle.lines.specs.Texts.{Takes}

pub number_of-taken : (text : List ℕ) (n : ℕ) (behind : List ℕ) → Takes text (decimal n) behind → behind ≡ []
    → n < 2 ^ 64 → number_of text ≡ Some (unsigned n)
number_of-taken text n behind takes none fits =
    let is : text ≡ decimal n =
    takes.is ∙ ap (λ (s : List ℕ). decimal n ++ s) none ∙ append-nil (decimal n) in
    ap number_of is ∙ number_of-decimal n fits

pub number_of-alone : (text : List ℕ) (n : ℕ) (behind : List ℕ) (r : Option ℕ) → Takes text (decimal n) behind
    → IfSome r (λ (m : ℕ). (m ≡ n) × (m < 2 ^ 64) × (behind ≡ []))
    → IfSome r (λ (m : ℕ). number_of text ≡ Some (unsigned m))
number_of-alone text n behind None takes h = tt
number_of-alone text n behind (Some m) takes h =
    number_of-taken text m behind (subst (λ (k : ℕ). Takes text (decimal k) behind) (sym h.0) takes) h.2 h.1

abbrev id_of : Option Num → Option ℕ
id_of o = as_u64 (number_or_odd o)

either : (b : Bool) (x y : Option Num) → id_of x ≡ None → id_of y ≡ None → id_of (cond b x y) ≡ None
either true x y p q = p
either false x y p q = q

float_no_id : (sign : Bool) (p : Parts) → id_of (float_of sign p) ≡ None
float_no_id sign p = either (float_is_finite (nearest binary64 sign p)) _ None refl refl

negative_no_id : (p : Parts) → id_of (number_from true p) ≡ None
negative_no_id p =
    either (is_integer p && nat_lt 0 (digits_of p) && nat_le (digits_of p) (2 ^ 63))
    (Some (negative (with_sign true (digits_of p)))) (float_of true p) refl (float_no_id true p)

pub number_of-negative : (s : List ℕ) → (slice_index s 0 == minus) ≡ true → None ≡ id_of (number_of s)
unfolding number_of
number_of-negative s h = rw h (sym (negative_no_id (scan (drop 1 s))))

is_integer-true : (p : Parts) → is_integer p ≡ true → IsInteger p
is_integer-true p h =
    let some = and_parts (nat_lt 0 (length p.whole) && not p.point) (length p.exponent == 0) h in
    let whole = and_parts (nat_lt 0 (length p.whole)) (not p.point) some.0 in
    (ltb-true 0 (length p.whole) whole.0, no_point p.point whole.1, eqb-true (length p.exponent) 0 some.1)
  where
    no_point : (b : Bool) → not b ≡ true → b ≡ false
    no_point true h = absurd (let no : false ≡ true = h in cc)
    no_point false h = refl

is_integer-IsInteger : (p : Parts) → IsInteger p → is_integer p ≡ true
is_integer-IsInteger p h = rw (lt-ltb 0 (length p.whole) h.0, h.1, eq-eqb (length p.exponent) 0 h.2) refl

by_test : (p : Parts) (b : Bool) (r : Option ℕ) → (is_integer p && nat_lt (digits_of p) (2 ^ 64)) ≡ b
    → SomeIff r (IsInteger p × (digits_of p < 2 ^ 64)) (digits_of p)
    → r ≡ id_of (cond b (Some (unsigned (digits_of p))) (float_of false p))
by_test p true None is none =
    let both = and_parts (is_integer p) (nat_lt (digits_of p) (2 ^ 64)) is in
    absurd (none (is_integer-true p both.0, ltb-true (digits_of p) (2 ^ 64) both.1))
by_test p true (Some x) is h = ap Some h.1
by_test p false None is none = sym (float_no_id false p)
by_test p false (Some x) is h =
    let yes : (is_integer p && nat_lt (digits_of p) (2 ^ 64)) ≡ true =
    rw (is_integer-IsInteger p h.0.0, lt-ltb (digits_of p) (2 ^ 64) h.0.1) refl in
    absurd (let no : true ≡ false = sym yes ∙ is in cc)

pub number_of-unsigned : (s : List ℕ) (r : Option ℕ) → (slice_index s 0 == minus) ≡ false
    → SomeIff r (IsInteger (scan s) × (digits_of (scan s) < 2 ^ 64)) (digits_of (scan s))
    → r ≡ id_of (number_of s)
unfolding number_of
number_of-unsigned s r h found =
    rw h (by_test (scan s) (is_integer (scan s) && nat_lt (digits_of (scan s)) (2 ^ 64)) r refl found)
