-- The bytes that wait in a window, while it is searched, read and filled.
use Rattle.std.proofs.Common.{◌≡◌, ℕ, ◌+◌, ◌-◌, ◌<◌, ◌≤◌, List, ◌++◌, length, take, drop, get_or, Option}
use Rattle.std.proofs.Common.{None, Some, arith, refl, sym, ap, ◌∙◌, eqb-true, eq-eqb, inl, inr, length-take}
use Rattle.std.proofs.Common.{length-drop, append_assoc}
use Rattle.std.specs.Io.KnownBytes.{Consumes, Keeps, prepend_known}
use Rattle.memchr.specs.Find.{IsFirstByte, is_byte}
use Rattle.std.specs.Prelude.{slice_range}
use Rattle.std.proofs.Math.Seq.{take-add}
use Rattle.std.proofs.lemmas.Bool.{cases_lt}
use Rattle.std.proofs.lemmas.List.{get_or-drop, get_or-take, drop-take, drop-drop}
use Rattle.certificate.specs.Windows.{IsWindow}

pub length-slice_range : (xs : List ℕ) (s e : ℕ) → e ≤ length xs → length (slice_range xs s e) ≡ e - s
length-slice_range xs s e h = omega (arith, length-take (e - s) (drop s xs), length-drop s xs)

-- the first bytes gone
pub slice_range-skip : (xs : List ℕ) (s e n : ℕ) → s + n ≤ e
    → slice_range xs (s + n) e ≡ drop n (slice_range xs s e)
slice_range-skip xs s e n le =
    let whole : e - s ≡ n + (e - (s + n)) = omega arith in
    sym
    (ap (λ k. drop n (take k (drop s xs))) whole ∙ drop-take n (e - (s + n)) (drop s xs)
    ∙ ap (take (e - (s + n))) (drop-drop n s xs))

-- the bytes from s on, of the front up to e
pub slice_range-front : (xs : List ℕ) (s e : ℕ) → s ≤ e → slice_range xs s e ≡ drop s (take e xs)
slice_range-front xs s e le =
    let whole : e ≡ s + (e - s) = omega arith in
    sym (ap (λ k. drop s (take k xs)) whole ∙ drop-take s (e - s) xs)

-- more bytes at the end
pub slice_range-more : (xs : List ℕ) (s e n : ℕ) → s ≤ e
    → slice_range xs s (e + n) ≡ slice_range xs s e ++ take n (drop e xs)
slice_range-more xs s e n le =
    let whole : (e + n) - s ≡ (e - s) + n = omega arith in
    let rest : s + (e - s) ≡ e = omega arith in
    ap (λ k. take k (drop s xs)) whole ∙ take-add (e - s) n (drop s xs)
    ∙ ap (λ ys. slice_range xs s e ++ take n ys) (drop-drop (e - s) s xs ∙ ap (λ k. drop k xs) rest)

-- the bytes from the first one on, in two parts
pub slice_range-parts : (xs : List ℕ) (n e : ℕ) → n ≤ e
    → slice_range xs 0 e ≡ slice_range xs 0 n ++ slice_range xs n e
slice_range-parts xs n e le =
    let whole : n + (e - n) ≡ e = omega arith in
    ap (slice_range xs 0) (sym whole) ∙ slice_range-more xs 0 n (e - n) (omega arith)

-- after the same front
pub slice_range-same_front : (xs ys : List ℕ) (s e : ℕ) → s ≤ e → take e ys ≡ take e xs
    → slice_range ys s e ≡ slice_range xs s e
slice_range-same_front xs ys s e le same =
    slice_range-front ys s e le ∙ ap (drop s) same ∙ sym (slice_range-front xs s e le)

pub get_or-slice_range : (xs : List ℕ) (s e k : ℕ) → k < e - s
    → get_or (slice_range xs s e) k 0 ≡ get_or xs (s + k) 0
get_or-slice_range xs s e k within = get_or-take (e - s) (drop s xs) k 0 within ∙ get_or-drop s xs k 0

-- where a search of the rest finds none
pub IsWindow-searched : (xs : List ℕ) (s m e : ℕ) → IsWindow xs s m e
    → IsFirstByte (is_byte 10) (slice_range xs m e) None → IsWindow xs s e e
IsWindow-searched xs s m e window none = record {
  low = omega arith;
  middle = omega arith;
  high = window.high;
  size = window.size;
  no_line_feed = λ k low high is. elim (cases_lt k m) [
    | inl before ↦ window.no_line_feed k low before is
    | inr from ↦
        let at : k - m < e - m = omega arith in
        let place : m + (k - m) ≡ k = omega arith in
        none (k - m) (omega arith) (rw (length-slice_range xs m e window.high) at)
        (eq-eqb _ _ (get_or-slice_range xs m e (k - m) at ∙ ap (λ j. get_or xs j 0) place ∙ is))
  ];
}

-- a stretch that was searched in vain has no line feed
pub IsFirstByte-none : (xs : List ℕ) (s e : ℕ) → IsWindow xs s e e
    → IsFirstByte (is_byte 10) (slice_range xs s e) None
IsFirstByte-none xs s e window k low high passes =
    let within : k < e - s = rw (length-slice_range xs s e window.high) at high in
    window.no_line_feed (s + k) (omega arith) (omega arith)
    (sym (get_or-slice_range xs s e k within) ∙ eqb-true _ _ passes)

-- the first line feed after a stretch that has none
pub IsFirstByte-behind : (xs : List ℕ) (s m e at : ℕ) → IsWindow xs s m e
    → IsFirstByte (is_byte 10) (slice_range xs m e) (Some at)
    → IsFirstByte (is_byte 10) (slice_range xs s e) (Some (m - s + at))
IsFirstByte-behind xs s m e at window found =
    let low : s ≤ m = window.low in
    let len : length (slice_range xs m e) ≡ e - m = length-slice_range xs m e window.high in
    let whole : length (slice_range xs s e) ≡ e - s = length-slice_range xs s e window.high in
    let within : at < e - m = omega (arith, found.0.high) in
    let there : s + (m - s + at) ≡ m + at = omega arith in
    let line_feed : get_or xs (m + at) 0 ≡ 10 =
    sym (get_or-slice_range xs m e at within) ∙ eqb-true _ _ found.1 in (
      record {
        low = omega arith;
        high = omega arith;
        before = λ k from before passes.
            let inside : k < e - s = omega arith in
            let is : get_or xs (s + k) 0 ≡ 10 =
            sym (get_or-slice_range xs s e k inside) ∙ eqb-true _ _ passes in
            elim (cases_lt (s + k) m) [
              | inl searched ↦ window.no_line_feed (s + k) (omega arith) searched is
              | inr later ↦
                  let place : m + (s + k - m) ≡ s + k = omega arith in
                  found.0.before (s + k - m) (omega arith) (omega arith)
                  (eq-eqb _ _
                  (get_or-slice_range xs m e (s + k - m) (omega arith) ∙ ap (λ j. get_or xs j 0) place
                  ∙ is))
            ];
      },
      eq-eqb _ _
          (get_or-slice_range xs s e (m - s + at) (omega arith) ∙ ap (λ k. get_or xs k 0) there ∙ line_feed),
    )

fills_known : (w given xs ys : List ℕ) → xs ≡ given ++ ys → (w ++ given) ++ ys ≡ w ++ xs
fills_known w given xs ys e = append_assoc w given ys ∙ ap (λ l. w ++ l) (sym e)

-- what a source gave goes to the end of what waits
pub Keeps-given : (known known' : Option (List ℕ)) (w given : List ℕ) → Consumes known known' given
    → Keeps (prepend_known w known) (prepend_known (w ++ given) known')
Keeps-given None known' w given h = tt
Keeps-given (Some xs) None w given h = absurd h
Keeps-given (Some xs) (Some ys) w given h = fills_known w given xs ys h

-- as a window is filled
pub Keeps-filled : (known known' : Option (List ℕ)) (now old new : List ℕ) (s e n : ℕ) → s ≤ e
    → take e new ≡ take e old → slice_range old s e ≡ now → Consumes known known' (take n (drop e new))
    → Keeps (prepend_known now known) (prepend_known (slice_range new s (e + n)) known')
Keeps-filled known known' now old new s e n le front is given =
    rw (slice_range-more new s e n le, slice_range-same_front old new s e le front, is)
    (Keeps-given known known' now (take n (drop e new)) given)

-- with no byte more it is the same window
pub slice_range-filled_none : (now old new : List ℕ) (s e n : ℕ) → s ≤ e → take e new ≡ take e old
    → slice_range old s e ≡ now → n ≡ 0 → slice_range new s (e + n) ≡ now
slice_range-filled_none now old new s e n le front is none =
    let same : e + n ≡ e = omega arith in
    ap (slice_range new s) same ∙ slice_range-same_front old new s e le front ∙ is

-- known bytes that are kept twice are kept
pub Keeps-both : (a b c : Option (List ℕ)) → Keeps a b → Keeps b c → Keeps a c
Keeps-both None b c ab bc = tt
Keeps-both (Some xs) None c ab bc = absurd ab
Keeps-both (Some xs) (Some ys) None ab bc = absurd bc
Keeps-both (Some xs) (Some ys) (Some zs) ab bc = bc ∙ ab

pub Keeps-itself : (a : Option (List ℕ)) → Keeps a a
Keeps-itself None = tt
Keeps-itself (Some xs) = refl

-- known bytes that are kept, and then lose their first ones
pub Keeps-consumes : (a b c : Option (List ℕ)) (bs : List ℕ) → Keeps a b → Consumes b c bs → Consumes a c bs
Keeps-consumes None b c bs kept given = tt
Keeps-consumes (Some xs) None c bs kept given = absurd kept
Keeps-consumes (Some xs) (Some ys) None bs kept given = absurd given
Keeps-consumes (Some xs) (Some ys) (Some zs) bs kept given = sym kept ∙ given
