-- Plain JSON, such as the lines of a trace: its text reads back as the same value, in a bounded number of
-- bytes of ASCII without a line feed.
use Rattle.std.proofs.Common.{◌≡◌, ℕ, zero, suc, ◌+◌, ◌≤◌, ◌<◌, Bool, true, false, ◌==◌, List, [], ◌∷◌, ◌++◌}
use Rattle.std.proofs.Common.{length, get_or, Some, option_map, option_and_then, decimal, arith, refl, sym}
use Rattle.std.proofs.Common.{ap, ◌∙◌, append-nil, length-append}
use Rattle.std.specs.List.{AllByRecursion}
use Rattle.std.specs.Str.{is_utf8}
use Rattle.std.proofs.lemmas.Bool.{and_parts, lt-ltb}
use Rattle.std.proofs.lemmas.Str.{is_utf8-from_IsUtf8}
use Rattle.std.proofs.lemmas.Str.Parse.{digit_at}
use Rattle.std.proofs.lemmas.Fmt.{decimal_is_IsNumeral, length-decimal-le}
use Rattle.json.specs.Json as json
use Rattle.json.specs.Tree as tree
use Rattle.json.specs.Print.{escape, quoted}
use Rattle.json.proofs.Printed.Tokens.{tokens-print}
use Rattle.json.proofs.Printed.Decimals.{IsNumber-decimal}
use Rattle.json.proofs.Printed.Trees.{value-json_tokens, ArePrintable-json_tokens}
use Rattle.json.proofs.Printed.Utf8.{are_ascii, IsUtf8-are_ascii}
use Rattle.json.proofs.Printed.Strings.{escape_byte_plain}
use Rattle.serde_json.specs.Data.{unsigned, negative, float, Data, null, boolean, number, string, array}
use Rattle.serde_json.specs.Data.{object, Items, no_items, item, Members, no_members, member, put}
use Rattle.serde_json.specs.Read.{read, max_depth, of_json, of_items, of_members}
use Rattle.serde_json.specs.Written.{outline, items_outline, members_outline, compact_text, items_text}
use Rattle.serde_json.specs.Written.{members_text, comma_if}
use Rattle.serde_json.proofs.Texts.{print-outline}
use Rattle.serde_json.proofs.Numbers.{number_of-decimal}
use Rattle.lines.specs.RecordLines.{value_of}
pub use Rattle.lines.specs.Texts.{is_plain_byte, is_plain_text}
pub use Rattle.lines.specs.PlainData.{puts, IsWhole, IsPlain, ArePlain, MembersArePlain}

-- ---- the value is read back

mutual
  of_json-outline : (d : Data) (n : ℕ) → IsPlain d n → of_json (outline d) ≡ Some d
  of_json-outline null n h = refl
  of_json-outline (boolean b) n h = refl
  of_json-outline (number (unsigned m)) n h = ap (option_map number) (number_of-decimal m h)
  of_json-outline (number (negative z)) n h = absurd h
  of_json-outline (number (float x)) n h = absurd h
  of_json-outline (string s) n h = refl
  of_json-outline (array ds) zero h = absurd h
  of_json-outline (array ds) (suc n) h = ap (option_map array) (of_items-outline ds n h)
  of_json-outline (object ms) zero h = absurd h
  of_json-outline (object ms) (suc n) h =
      ap (option_map object) (of_members-outline ms no_members n h.1 ∙ ap Some h.0)

  of_items-outline : (ds : Items) (n : ℕ) → ArePlain ds n → of_items (items_outline ds) ≡ Some ds
  of_items-outline no_items n h = refl
  of_items-outline (item d ds) n h = rw (of_json-outline d n h.0, of_items-outline ds n h.1) refl

  of_members-outline : (ms found : Members) (n : ℕ) → MembersArePlain ms n
      → of_members (members_outline ms) found ≡ Some (puts ms found)
  of_members-outline no_members found n h = refl
  of_members-outline (member k d ms) found n h =
      ap (option_and_then (λ e. of_members (members_outline ms) (put k e found))) (of_json-outline d n h.1)
      ∙ of_members-outline ms (put k d found) n h.2

-- plain JSON may nest deeper
mutual
  pub IsPlain-deeper : (d : Data) (n : ℕ) → IsPlain d n → IsPlain d (suc n)
  IsPlain-deeper null n h = tt
  IsPlain-deeper (boolean b) n h = tt
  IsPlain-deeper (number m) n h = h
  IsPlain-deeper (string s) n h = h
  IsPlain-deeper (array ds) zero h = absurd h
  IsPlain-deeper (array ds) (suc n) h = ArePlain-deeper ds n h
  IsPlain-deeper (object ms) zero h = absurd h
  IsPlain-deeper (object ms) (suc n) h = (h.0, MembersArePlain-deeper ms n h.1)

  ArePlain-deeper : (ds : Items) (n : ℕ) → ArePlain ds n → ArePlain ds (suc n)
  ArePlain-deeper no_items n h = tt
  ArePlain-deeper (item d ds) n h = (IsPlain-deeper d n h.0, ArePlain-deeper ds n h.1)

  MembersArePlain-deeper : (ms : Members) (n : ℕ) → MembersArePlain ms n → MembersArePlain ms (suc n)
  MembersArePlain-deeper no_members n h = tt
  MembersArePlain-deeper (member k d ms) n h =
      (h.0, IsPlain-deeper d n h.1, MembersArePlain-deeper ms n h.2)

mutual
  shallow : (d : Data) (n : ℕ) → IsPlain d n → tree.depth (outline d) ≤ n
  shallow null n h = omega arith
  shallow (boolean b) n h = omega arith
  shallow (number m) n h = omega arith
  shallow (string s) n h = omega arith
  shallow (array ds) zero h = absurd h
  shallow (array ds) (suc n) h = omega (arith, items_shallow ds n h)
  shallow (object ms) zero h = absurd h
  shallow (object ms) (suc n) h = omega (arith, members_shallow ms n h.1)

  items_shallow : (ds : Items) (n : ℕ) → ArePlain ds n → tree.items_depth (items_outline ds) ≤ n
  items_shallow no_items n h = omega arith
  items_shallow (item d ds) n h = omega (arith, shallow d n h.0, items_shallow ds n h.1)

  members_shallow : (ms : Members) (n : ℕ) → MembersArePlain ms n
      → tree.members_depth (members_outline ms) ≤ n
  members_shallow no_members n h = omega arith
  members_shallow (member k d ms) n h = omega (arith, shallow d n h.1, members_shallow ms n h.2)

mutual
  has_numbers : (d : Data) (n : ℕ) → IsPlain d n → tree.HasNumbers (outline d)
  has_numbers null n h = tt
  has_numbers (boolean b) n h = tt
  has_numbers (number (unsigned m)) n h = IsNumber-decimal m h
  has_numbers (number (negative z)) n h = absurd h
  has_numbers (number (float x)) n h = absurd h
  has_numbers (string s) n h = tt
  has_numbers (array ds) zero h = absurd h
  has_numbers (array ds) (suc n) h = items_have_numbers ds n h
  has_numbers (object ms) zero h = absurd h
  has_numbers (object ms) (suc n) h = members_have_numbers ms n h.1

  items_have_numbers : (ds : Items) (n : ℕ) → ArePlain ds n → tree.ItemsHaveNumbers (items_outline ds)
  items_have_numbers no_items n h = tt
  items_have_numbers (item d ds) n h = (has_numbers d n h.0, items_have_numbers ds n h.1)

  members_have_numbers : (ms : Members) (n : ℕ) → MembersArePlain ms n
      → tree.MembersHaveNumbers (members_outline ms)
  members_have_numbers no_members n h = tt
  members_have_numbers (member k d ms) n h = (has_numbers d n h.1, members_have_numbers ms n h.2)

pub read-compact_text : (d : Data) (n : ℕ) → IsPlain d n → n ≤ max_depth → read (compact_text d) ≡ Some d
read-compact_text d n h low =
    let o = outline d in
    ap (λ text. read text) (sym (print-outline d))
    ∙ ap
    (λ ts.
    option_and_then of_json (option_and_then (λ p. json.if_last p.0 p.1) (json.value max_depth ts)))
    (tokens-print (tree.json_tokens o) (ArePrintable-json_tokens o (has_numbers d n h))
    ∙ sym (append-nil (tree.json_tokens o)))
    ∙ ap (λ r. option_and_then of_json (option_and_then (λ p. json.if_last p.0 p.1) r))
    (value-json_tokens o max_depth [] (omega (arith, shallow d n h)))
    ∙ of_json-outline d n h

-- an object whose members stand in any order
read-members : (ms : Members) (n : ℕ) → MembersArePlain ms n → n < max_depth
    → read (compact_text (object ms)) ≡ Some (object (puts ms no_members))
read-members ms n h low =
    let o = outline (object ms) in
    ap (λ text. read text) (sym (print-outline (object ms)))
    ∙ ap
    (λ ts.
    option_and_then of_json (option_and_then (λ p. json.if_last p.0 p.1) (json.value max_depth ts)))
    (tokens-print (tree.json_tokens o) (ArePrintable-json_tokens o (members_have_numbers ms n h))
    ∙ sym (append-nil (tree.json_tokens o)))
    ∙ ap (λ r. option_and_then of_json (option_and_then (λ p. json.if_last p.0 p.1) r))
    (value-json_tokens o max_depth [] (omega (arith, members_shallow ms n h)))
    ∙ ap (option_map object) (of_members-outline ms no_members n h)

-- ---- its bytes

-- no byte is a control character or beyond ASCII
abbrev pub ArePrinted : List ℕ → Type 0
ArePrinted bytes = AllByRecursion (λ b. (32 ≤ b) × (b < 127)) bytes

printed-append : (xs ys : List ℕ) → ArePrinted xs → ArePrinted ys → ArePrinted (xs ++ ys)
printed-append [] ys h k = k
printed-append (x ∷ xs) ys h k = (h.0, printed-append xs ys h.1 k)

printed-from : (xs : List ℕ) → ((i : ℕ) → i < length xs → (48 ≤ get_or xs i 0) × (get_or xs i 0 ≤ 57))
    → ArePrinted xs
printed-from [] each = tt
printed-from (x ∷ xs) each =
    let first = each 0 (omega arith) in
    ((omega arith, omega arith), printed-from xs (λ i h. each (suc i) (omega arith)))

plain_byte : (b : ℕ) → is_plain_byte b ≡ true → (32 ≤ b) × (b < 127) × (b ≡ 34 → ⊥) × (b ≡ 92 → ⊥)
plain_byte b h = grind arith

pub escape-plain : (s : List ℕ) → is_plain_text s ≡ true → escape s ≡ s
escape-plain [] h = refl
escape-plain (b ∷ s) h =
    let both = and_parts _ _ h in
    let byte = plain_byte b both.0 in
    rw (escape_byte_plain b byte.2 byte.3 byte.0, escape-plain s both.1) refl

printed-plain : (s : List ℕ) → is_plain_text s ≡ true → ArePrinted s
printed-plain [] h = tt
printed-plain (b ∷ s) h =
    let both = and_parts _ _ h in let byte = plain_byte b both.0 in ((byte.0, byte.1), printed-plain s both.1)

printed-quoted : (s : List ℕ) → is_plain_text s ≡ true → ArePrinted (quoted s)
printed-quoted s h =
    rw (escape-plain s h) (
      (omega arith, omega arith),
      printed-append s (34 ∷ []) (printed-plain s h) ((omega arith, omega arith), tt),
    )

printed-comma : (later : Bool) → ArePrinted (comma_if later)
printed-comma true = ((omega arith, omega arith), tt)
printed-comma false = tt

mutual
  pub printed-compact_text : (d : Data) (n : ℕ) → IsPlain d n → ArePrinted (compact_text d)
  printed-compact_text null n h = printed-plain (compact_text null) refl
  printed-compact_text (boolean true) n h = printed-plain (compact_text (boolean true)) refl
  printed-compact_text (boolean false) n h = printed-plain (compact_text (boolean false)) refl
  printed-compact_text (number (unsigned m)) n h =
      printed-from (decimal m) (λ i l. digit_at (decimal m) i (decimal_is_IsNumeral m h).0.1 l)
  printed-compact_text (number (negative z)) n h = absurd h
  printed-compact_text (number (float x)) n h = absurd h
  printed-compact_text (string s) n h = printed-quoted s h
  printed-compact_text (array ds) zero h = absurd h
  printed-compact_text (array ds) (suc n) h = ((omega arith, omega arith), printed-items_text false ds n h)
  printed-compact_text (object ms) zero h = absurd h
  printed-compact_text (object ms) (suc n) h =
      ((omega arith, omega arith), printed-members_text false ms n h.1)

  printed-items_text : (later : Bool) (ds : Items) (n : ℕ) → ArePlain ds n → ArePrinted (items_text later ds)
  printed-items_text later no_items n h = ((omega arith, omega arith), tt)
  printed-items_text later (item d ds) n h =
      printed-append (comma_if later) _ (printed-comma later)
      (printed-append (compact_text d) _ (printed-compact_text d n h.0)
      (printed-items_text true ds n h.1))

  printed-members_text : (later : Bool) (ms : Members) (n : ℕ) → MembersArePlain ms n
      → ArePrinted (members_text later ms)
  printed-members_text later no_members n h = ((omega arith, omega arith), tt)
  printed-members_text later (member k d ms) n h =
      printed-append (comma_if later) _ (printed-comma later)
      (printed-append (quoted k) _ (printed-quoted k h.0) (
        (omega arith, omega arith),
        printed-append (compact_text d) _ (printed-compact_text d n h.1)
            (printed-members_text true ms n h.2),
      ))

ascii-printed : (bytes : List ℕ) → ArePrinted bytes → are_ascii bytes ≡ true
ascii-printed [] h = refl
ascii-printed (b ∷ bytes) h =
    let low : b < 128 = omega (arith, h.0.1) in rw (lt-ltb b 128 low) (ascii-printed bytes h.1)

-- no line feed
abbrev pub IsUnbroken : List ℕ → Type 0
IsUnbroken bytes = AllByRecursion (λ b. (b == 10) ≡ false) bytes

unbroken-printed : (bytes : List ℕ) → ArePrinted bytes → IsUnbroken bytes
unbroken-printed [] h = tt
unbroken-printed (b ∷ bytes) h = (other b h.0.0, unbroken-printed bytes h.1)
  where
    other : (b : ℕ) → 32 ≤ b → (b == 10) ≡ false
    other b high = grind arith

pub is_utf8-compact_text : (d : Data) (n : ℕ) → IsPlain d n → is_utf8 (compact_text d) ≡ true
is_utf8-compact_text d n h =
    is_utf8-from_IsUtf8 _ (IsUtf8-are_ascii _ (ascii-printed _ (printed-compact_text d n h)))

pub unbroken-compact_text : (d : Data) (n : ℕ) → IsPlain d n → IsUnbroken (compact_text d)
unbroken-compact_text d n h = unbroken-printed _ (printed-compact_text d n h)

pub unbroken-members : (ms : Members) (n : ℕ) → MembersArePlain ms n
    → IsUnbroken (compact_text (object ms))
unbroken-members ms n h =
    let printed : ArePrinted (compact_text (object ms)) =
    ((omega arith, omega arith), printed-members_text false ms n h) in
    unbroken-printed (compact_text (object ms)) printed

-- the value of the line
pub value_of-compact_text : (d : Data) (n : ℕ) → IsPlain d n → n ≤ max_depth
    → value_of (compact_text d) ≡ Some d
value_of-compact_text d n h low = rw (is_utf8-compact_text d n h) (read-compact_text d n h low)

pub value_of-members : (ms : Members) (n : ℕ) → MembersArePlain ms n → n < max_depth
    → value_of (compact_text (object ms)) ≡ Some (object (puts ms no_members))
value_of-members ms n h low =
    let printed : ArePrinted (compact_text (object ms)) =
    ((omega arith, omega arith), printed-members_text false ms n h) in
    let utf8 : is_utf8 (compact_text (object ms)) ≡ true =
    is_utf8-from_IsUtf8 _
    (IsUtf8-are_ascii (compact_text (object ms))
    (ascii-printed (compact_text (object ms)) printed)) in
    rw utf8 (read-members ms n h low)

-- ---- how many bytes there are

-- enough for the text, with a comma after each value
abbrev mutual
  pub size : Data → ℕ
  size null = 4
  size (boolean b) = 5
  size (number m) = 20
  size (string s) = length s + 2
  size (array ds) = items_size ds + 2
  size (object ms) = members_size ms + 2

  pub items_size : Items → ℕ
  items_size no_items = 0
  items_size (item d ds) = size d + 1 + items_size ds

  pub members_size : Members → ℕ
  members_size no_members = 0
  members_size (member k d ms) = length k + 4 + size d + members_size ms

length-quoted : (s : List ℕ) → is_plain_text s ≡ true → length (quoted s) ≡ length s + 2
length-quoted s h = rw (escape-plain s h) (omega (arith, length-append s (34 ∷ [])))

length-comma : (later : Bool) → length (comma_if later) ≤ 1
length-comma true = omega arith
length-comma false = omega arith

mutual
  pub length-compact_text : (d : Data) (n : ℕ) → IsPlain d n → length (compact_text d) ≤ size d
  length-compact_text null n h = omega arith
  length-compact_text (boolean true) n h = omega arith
  length-compact_text (boolean false) n h = omega arith
  length-compact_text (number (unsigned m)) n h = length-decimal-le 20 m (omega arith) (omega arith) h
  length-compact_text (number (negative z)) n h = absurd h
  length-compact_text (number (float x)) n h = absurd h
  length-compact_text (string s) n h = omega (arith, length-quoted s h)
  length-compact_text (array ds) zero h = absurd h
  length-compact_text (array ds) (suc n) h = omega (arith, length-items_text false ds n h)
  length-compact_text (object ms) zero h = absurd h
  length-compact_text (object ms) (suc n) h = omega (arith, length-members_text false ms n h.1)

  length-items_text : (later : Bool) (ds : Items) (n : ℕ) → ArePlain ds n
      → length (items_text later ds) ≤ items_size ds + 1
  length-items_text later no_items n h = omega arith
  length-items_text later (item d ds) n h =
      omega (
        arith,
        length-append (comma_if later) (compact_text d ++ items_text true ds),
        length-comma later,
        length-append (compact_text d) (items_text true ds),
        length-compact_text d n h.0,
        length-items_text true ds n h.1,
      )

  length-members_text : (later : Bool) (ms : Members) (n : ℕ) → MembersArePlain ms n
      → length (members_text later ms) ≤ members_size ms + 1
  length-members_text later no_members n h = omega arith
  length-members_text later (member k d ms) n h =
      let rest = compact_text d ++ members_text true ms in
      omega (
        arith,
        length-append (comma_if later) (quoted k ++ 58 ∷ rest),
        length-comma later,
        length-append (quoted k) (58 ∷ rest),
        length-quoted k h.0,
        length-append (compact_text d) (members_text true ms),
        length-compact_text d n h.1,
        length-members_text true ms n h.2,
      )
