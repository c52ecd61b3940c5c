-- The parts of a line, taken one after another.
use Rattle.std.proofs.Common.{◌≡◌, ℕ, ◌+◌, ◌-◌, ◌*◌, ◌/◌, ◌%◌, ◌^◌, ◌<◌, ◌≤◌, Bool, true, false, cond, List}
use Rattle.std.proofs.Common.{[], ◌∷◌, ◌++◌, length, map, take, drop, get_or, decimal, arith, sym, ap, ◌∙◌}
use Rattle.std.proofs.Common.{append_assoc, append-nil, zero, suc, length-take, length-drop, refl}
use Rattle.std.specs.Int.{from_le_bytes, w32, w64}
use Rattle.std.proofs.lemmas.Nat.{le_bytes_4, le_bytes_8}
use Rattle.std.proofs.Math.Nat.{pow-succ', pow-le-pow_right}
use Rattle.std.proofs.Math.Seq.{take-add}
use Rattle.std.proofs.lemmas.Fmt.{decimal_step, decimal_digit}
use Rattle.std.proofs.lemmas.List.{take_more, take-append-drop, take_rest, take_all}
use Rattle.bitflags.proofs.Tables.{row-at}
use Rattle.bitflags.specs.Sets.{Row}
use Rattle.json.specs.Print.{quoted}
use Rattle.serde_json.specs.Data.{Data, string}
use Rattle.serde_json.specs.View.{items_of}
use Rattle.serde_json.specs.Written.{compact_text, items_text, comma_if}
use Rattle.ompt_events.specs.Flags.{has_flag}
use Rattle.lines.specs.Texts.{Takes, flag_names}
use Rattle.lines.proofs.ItemLemmas.{item-more, names-left}

-- part after part
pub Takes-both : (rest mid behind a b : List ℕ) → Takes rest a mid → Takes mid b behind
    → Takes rest (a ++ b) behind
Takes-both rest mid behind a b first next = record {
  is = first.is ∙ ap (λ bytes. a ++ bytes) next.is ∙ sym (append_assoc a b behind);
}

pub Takes-same : (rest behind a b : List ℕ) → b ≡ a → Takes rest a behind → Takes rest b behind
Takes-same rest behind a b same takes = record { is = takes.is ∙ ap (λ bytes. bytes ++ behind) (sym same) }

-- the whole
pub Takes-whole : (line a b : List ℕ) → b ≡ a → Takes line a [] → line ≡ b
Takes-whole line a b same takes = takes.is ∙ append-nil a ∙ sym same

-- ---- a text in front, compared eight bytes at a time

low-take : (n : ℕ) (xs : List ℕ) → ((i : ℕ) → get_or xs i 0 < 256) → (i : ℕ) → get_or (take n xs) i 0 < 256
low-take zero xs low i = omega arith
low-take (suc n) [] low i = omega arith
low-take (suc n) (x ∷ xs) low zero = low 0
low-take (suc n) (x ∷ xs) low (suc i) = low-take n xs (λ k. low (suc k)) i

low-drop : (n : ℕ) (xs : List ℕ) → ((i : ℕ) → get_or xs i 0 < 256) → (i : ℕ) → get_or (drop n xs) i 0 < 256
low-drop zero xs low i = low i
low-drop (suc n) [] low i = low i
low-drop (suc n) (x ∷ xs) low i = low-drop n xs (λ k. low (suc k)) i

-- the next k bytes are the same too
same-more : (rest text : List ℕ) (at k : ℕ) → take k (drop at rest) ≡ take k (drop at text)
    → take at rest ≡ take at text → take (at + k) rest ≡ take (at + k) text
same-more rest text at k bytes same =
    take-add at k rest ∙ ap (λ front. front ++ take k (drop at rest)) same
    ∙ ap (λ bytes. take at text ++ bytes) bytes ∙ sym (take-add at k text)

same_word : (xs ys : List ℕ) → length xs ≡ 8 → length ys ≡ 8 → ((i : ℕ) → get_or xs i 0 < 256)
    → ((i : ℕ) → get_or ys i 0 < 256) → from_le_bytes w64 xs ≡ from_le_bytes w64 ys → xs ≡ ys
same_word xs ys eight_x eight_y low_x low_y same =
    sym (le_bytes_8 xs (from_le_bytes w64 xs) eight_x low_x refl)
    ∙ le_bytes_8 ys (from_le_bytes w64 xs) eight_y low_y same

pub same-word : (rest text : List ℕ) (at : ℕ) → at + 8 ≤ length rest → at + 8 ≤ length text
    → ((i : ℕ) → get_or rest i 0 < 256) → ((i : ℕ) → get_or text i 0 < 256)
    → from_le_bytes w64 (take 8 (drop at rest)) ≡ from_le_bytes w64 (take 8 (drop at text))
    → take at rest ≡ take at text → take (at + 8) rest ≡ take (at + 8) text
same-word rest text at within_rest within_text low_rest low_text word same =
    same-more rest text at 8
    (same_word (take 8 (drop at rest)) (take 8 (drop at text))
    (omega (arith, length-take 8 (drop at rest), length-drop at rest))
    (omega (arith, length-take 8 (drop at text), length-drop at text))
    (low-take 8 (drop at rest) (low-drop at rest low_rest))
    (low-take 8 (drop at text) (low-drop at text low_text)) word)
    same

same_half : (xs ys : List ℕ) → length xs ≡ 4 → length ys ≡ 4 → ((i : ℕ) → get_or xs i 0 < 256)
    → ((i : ℕ) → get_or ys i 0 < 256) → from_le_bytes w32 xs ≡ from_le_bytes w32 ys → xs ≡ ys
same_half xs ys four_x four_y low_x low_y same =
    sym (le_bytes_4 xs (from_le_bytes w32 xs) four_x low_x refl)
    ∙ le_bytes_4 ys (from_le_bytes w32 xs) four_y low_y same

pub same-half : (rest text : List ℕ) (at : ℕ) → at + 4 ≤ length rest → at + 4 ≤ length text
    → ((i : ℕ) → get_or rest i 0 < 256) → ((i : ℕ) → get_or text i 0 < 256)
    → from_le_bytes w32 (take 4 (drop at rest)) ≡ from_le_bytes w32 (take 4 (drop at text))
    → take at rest ≡ take at text → take (at + 4) rest ≡ take (at + 4) text
same-half rest text at within_rest within_text low_rest low_text half same =
    same-more rest text at 4
    (same_half (take 4 (drop at rest)) (take 4 (drop at text))
    (omega (arith, length-take 4 (drop at rest), length-drop at rest))
    (omega (arith, length-take 4 (drop at text), length-drop at text))
    (low-take 4 (drop at rest) (low-drop at rest low_rest))
    (low-take 4 (drop at text) (low-drop at text low_text)) half)
    same

pub Takes-front : (rest text : List ℕ) (at : ℕ) → length text ≤ at → take at rest ≡ take at text
    → Takes rest text (take (length rest - at) (drop at rest))
Takes-front rest text at past same =
    rw take_rest (record {
      is =
          sym (take-append-drop at rest)
          ∙ ap (λ front. front ++ drop at rest) (same ∙ take_all at text past);
    })

-- ---- digits

pub decimal-more : (n d : ℕ) → 0 < n → 10 * n + d < 2 ^ 64 → d ≤ 9
    → decimal (10 * n + d) ≡ decimal n ++ ((48 + d) ∷ [])
decimal-more n d some few low =
    let tens : (10 * n + d) / 10 ≡ n = omega arith in
    let ones : (10 * n + d) % 10 ≡ d = omega arith in
    decimal_step (10 * n + d) (omega arith) (omega arith)
    ∙ ap (λ m. decimal m ++ ((48 + (10 * n + d) % 10) ∷ [])) tens
    ∙ ap (λ m. decimal n ++ ((48 + m) ∷ [])) ones

-- the first digits, and one more
pub digits-more : (rest : List ℕ) (len n d : ℕ) → len < length rest → get_or rest len 0 ≡ 48 + d → 0 < n
    → 10 * n + d < 2 ^ 64 → d ≤ 9 → take len rest ≡ decimal n → take (len + 1) rest ≡ decimal (10 * n + d)
digits-more rest len n d within here some few low taken =
    take_more rest len 0 within ∙ ap (λ b. take len rest ++ (b ∷ [])) here
    ∙ ap (λ front. front ++ ((48 + d) ∷ [])) taken ∙ sym (decimal-more n d some few low)

pub digits-first : (rest : List ℕ) (d : ℕ) → 0 < length rest → get_or rest 0 0 ≡ 48 + d → d ≤ 9
    → take 1 rest ≡ decimal d
digits-first [] d within here low = absurd (omega arith)
digits-first (b ∷ rest) d within here low = ap (λ x. x ∷ []) here ∙ sym (decimal_digit d (omega arith))

-- a number of at most nineteen digits, with one digit more, has few digits too
pub digits-few : (n d len : ℕ) → n < 10 ^ len → len < 19 → d ≤ 9
    → (10 * n + d < 10 ^ (len + 1)) × (10 * n + d < 2 ^ 64)
digits-few n d len few short low =
    let tens : 10 ^ (len + 1) ≡ 10 * 10 ^ len = ap (λ k. 10 ^ k) (omega arith) ∙ pow-succ' 10 len in
    let more : 10 * n + d < 10 * 10 ^ len = omega arith in
    let most : 10 ^ len ≤ 10 ^ 18 =
    pow-le-pow_right {n = 10} (omega arith) {i = len} {j = 18} (omega arith) in
    (rw tens more, omega (arith, more, most))

pub Takes-taken : (rest text : List ℕ) (len : ℕ) → take len rest ≡ text
    → Takes rest text (take (length rest - len) (drop len rest))
Takes-taken rest text len taken =
    rw take_rest (record {
      is = sym (take-append-drop len rest) ∙ ap (λ front. front ++ drop len rest) taken;
    })

-- ---- items that are read one after another

-- what was taken are these items, whatever comes after them
pub record AreItemsTaken {X : Type 0} (f : X → Data) (xs : List X) (later : Bool) (start rest text : List ℕ) :
    Type
    0 where
  pub done : List ℕ
  pub takes : Takes start done rest
  pub whole : (tail : List X)
      → done ++ items_text later (items_of (map f tail))
      ≡ text ++ (91 ∷ items_text false (items_of (map f (xs ++ tail))))

pub AreItemsTaken-none : {X : Type 0} (f : X → Data) (start rest text : List ℕ)
    → Takes start (text ++ (91 ∷ [])) rest → AreItemsTaken f [] false start rest text
AreItemsTaken-none f start rest text takes = record {
  done = text ++ (91 ∷ []);
  takes = takes;
  whole = λ tail. append_assoc text (91 ∷ []) (items_text false (items_of (map f tail)));
}

pub AreItemsTaken-more : {X : Type 0} (f : X → Data) (xs : List X) (x : X) (later : Bool)
    (start rest behind text : List ℕ)
    → AreItemsTaken f xs later start rest text → Takes rest (comma_if later ++ compact_text (f x)) behind
    → AreItemsTaken f (xs ++ x ∷ []) true start behind text
AreItemsTaken-more f xs x later start rest behind text before takes = record {
  done = before.done ++ (comma_if later ++ compact_text (f x));
  takes = Takes-both start rest behind before.done (comma_if later ++ compact_text (f x)) before.takes takes;
  whole =
      λ tail.
      item-more f x tail later before.done _ (before.whole (x ∷ tail))
      ∙ ap (λ ys. text ++ (91 ∷ items_text false (items_of (map f ys))))
      (sym (append_assoc xs (x ∷ []) tail));
}

pub Takes-items : {X : Type 0} (f : X → Data) (xs : List X) (later : Bool) (start rest behind text : List ℕ)
    → AreItemsTaken f xs later start rest text → Takes rest (93 ∷ []) behind
    → Takes start (text ++ (91 ∷ items_text false (items_of (map f xs)))) behind
Takes-items f xs later start rest behind text all takes =
    Takes-same start behind (all.done ++ (93 ∷ [])) _
    (sym
    (all.whole [] ∙ ap (λ ys. text ++ (91 ∷ items_text false (items_of (map f ys)))) (append-nil xs)))
    (Takes-both start rest behind all.done (93 ∷ []) all.takes takes)

-- ---- names of flags that are read in the order of their table

-- what was taken and what is left are the whole
pub record IsRead (names : List (List ℕ)) (later : Bool) (start rest whole : List ℕ) : Type 0 where
  pub done : List ℕ
  pub takes : Takes start done rest
  pub left : done ++ items_text later (items_of (map string names)) ≡ whole

pub IsRead-none : (names : List (List ℕ)) (start rest text : List ℕ) → Takes start (text ++ (91 ∷ [])) rest
    → IsRead names false start rest (text ++ (91 ∷ items_text false (items_of (map string names))))
IsRead-none names start rest text takes = record {
  done = text ++ (91 ∷ []);
  takes = takes;
  left = append_assoc text (91 ∷ []) (items_text false (items_of (map string names)));
}

-- the next flag is among the bits
pub IsRead-with : {X : Type 0} (row : X → Row) (flags : List X) (table : List Row) (bits i : ℕ) (x : X)
    (later : Bool) (start rest behind whole : List ℕ)
    → map row flags ≡ table → i < length flags → x ≡ get_or flags i x
    → IsRead (flag_names (drop i table) bits) later start rest whole → has_flag bits (row x).1 ≡ true
    → Takes rest (comma_if later ++ quoted (row x).0) behind
    → IsRead (flag_names (drop (i + 1) table) bits) true start behind whole
IsRead-with row flags table bits i x later start rest behind whole same within here before has takes =
    let at = row-at row flags table i x same within here in
    let left : flag_names (drop i table) bits ≡ (row x).0 ∷ flag_names (drop (i + 1) table) bits =
    names-left table bits i (row x) at.0 at.1
    ∙ ap
    (λ b.
    cond b ((row x).0 ∷ flag_names (drop (i + 1) table) bits)
    (flag_names (drop (i + 1) table) bits))
    has in
    let all : IsRead ((row x).0 ∷ flag_names (drop (i + 1) table) bits) later start rest whole =
    (rw left at before) in
    record {
      done = all.done ++ (comma_if later ++ quoted (row x).0);
      takes = Takes-both start rest behind all.done (comma_if later ++ quoted (row x).0) all.takes takes;
      left = item-more string (row x).0 (flag_names (drop (i + 1) table) bits) later all.done whole all.left;
    }

-- the next flag is not
pub IsRead-without : {X : Type 0} (row : X → Row) (flags : List X) (table : List Row) (bits i : ℕ) (x : X)
    (later : Bool) (start rest whole : List ℕ)
    → map row flags ≡ table → i < length flags → x ≡ get_or flags i x
    → IsRead (flag_names (drop i table) bits) later start rest whole → has_flag bits (row x).1 ≡ false
    → IsRead (flag_names (drop (i + 1) table) bits) later start rest whole
IsRead-without row flags table bits i x later start rest whole same within here before lacks =
    let at = row-at row flags table i x same within here in
    let left : flag_names (drop i table) bits ≡ flag_names (drop (i + 1) table) bits =
    names-left table bits i (row x) at.0 at.1
    ∙ ap
    (λ b.
    cond b ((row x).0 ∷ flag_names (drop (i + 1) table) bits)
    (flag_names (drop (i + 1) table) bits))
    lacks in
    (rw left at before)

pub Takes-names : (left : List (List ℕ)) (later : Bool) (start rest behind whole : List ℕ) → left ≡ []
    → IsRead left later start rest whole → Takes rest (93 ∷ []) behind → Takes start whole behind
Takes-names left later start rest behind whole none before takes =
    let all : IsRead [] later start rest whole = (rw none at before) in
    Takes-same start behind (all.done ++ (93 ∷ [])) whole (sym all.left)
    (Takes-both start rest behind all.done (93 ∷ []) all.takes takes)
